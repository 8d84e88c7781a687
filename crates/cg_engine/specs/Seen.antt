-- A replica in memory, in whichever state it is, as the replica of the definitions.
use Rattle.cg_client.specs.declared.parts.DraftParts.{DraftParts}
use Rattle.cg_client.specs.Drafts.{turn_with}
use Rattle.cg_client.specs.Replica.{Replica, RegPrim, TransPrim, ExchangeStates, ExchangeActions, Construct, No, Un, NonPrim, Left}
use Rattle.cg_client.specs.Turn.{Turn}
use Rattle.cg_client.specs.Whitening.{with_white}
use Rattle.cg_engine.specs.declared.prim.InPrim.{InPrim}
use Rattle.cg_engine.specs.declared.prim.InPrim.TheVariants.{Reg as RegMember, Trans as TransMember}
use Rattle.cg_engine.specs.declared.out_of_prim.OutOfPrim.{OutOfPrim}
use Rattle.cg_engine.specs.declared.out_of_prim.OutOfPrim.TheVariants.{Non as NonMember, States as StatesMember, Actions as ActionsMember}
use Rattle.cg_engine.specs.declared.attempt.InAttempt.{InAttempt}
use Rattle.cg_engine.specs.declared.attempt.InAttempt.TheVariants.{Construct as ConstructMember, No as NoMember, Un as UnMember}
use Rattle.cg_engine.specs.declared.member_state.MemberState.{MemberState}
use Rattle.cg_engine.specs.declared.member_state.MemberState.TheVariants.{Prim as PrimMember, Outside as OutsideMember, Attempt as AttemptMember, Left as LeftMember}

abbrev pub prim_seen : InPrim → Replica
prim_seen (RegMember s) = record { held = s; state = RegPrim }
prim_seen (TransMember s) = record { held = s; state = TransPrim }

abbrev pub outside_seen : OutOfPrim → Replica
outside_seen (NonMember s) = record { held = s.held; state = NonPrim s.regular }
outside_seen (StatesMember s) = record { held = s.held; state = ExchangeStates s.conf s.set s.heard }
outside_seen (ActionsMember s) = record { held = s.held; state = ExchangeActions s.conf s.summaries s.accepted }

abbrev pub attempt_seen : InAttempt → Replica
attempt_seen (ConstructMember s) = record { held = s.held; state = Construct s.conf s.heard }
attempt_seen (NoMember s) = record { held = s.held; state = No s.conf s.heard }
attempt_seen (UnMember s) = record { held = s; state = Un }

abbrev pub seen : MemberState → Replica
seen (PrimMember s) = prim_seen s
seen (OutsideMember s) = outside_seen s
seen (AttemptMember s) = attempt_seen s
seen (LeftMember core) = record { held = core; state = Left }

-- a replica with an event under way at it
abbrev pub turn_of : Replica → DraftParts → Turn
turn_of r d = turn_with r.held r.state d

-- its white count has risen
abbrev pub white_in : Replica → Replica
white_in r = record r { held = with_white r.held }
