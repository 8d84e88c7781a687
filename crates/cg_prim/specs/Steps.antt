-- What the step of a state in the primary component has come to.
use Rattle.std.specs.Prelude.{ℕ, Bool, true, false, List}
use Rattle.cg_group.specs.declared.delivery.Delivery.{Delivery}
use Rattle.cg_group.specs.declared.delivery.Delivery.TheVariants.{Message, Transitional as TransitionalIn, Regular as RegularIn}
use Rattle.cg_client.specs.declared.parts.DraftParts.{DraftParts}
use Rattle.cg_client.specs.Drafts.{turn_with}
use Rattle.cg_client.specs.Replica.{RegPrim, TransPrim}
use Rattle.cg_client.specs.Summary.{enter_exchange}
use Rattle.cg_client.specs.Turn.{Turn}
use Rattle.cg_prim.specs.declared.step.PrimStep.{PrimStep}
use Rattle.cg_prim.specs.declared.step.PrimStep.TheVariants.{Reg, Trans, Exchange}

-- the turn that a step leaves; an exchange is still to be entered
abbrev pub turn_after : PrimStep → DraftParts → Turn
turn_after (Reg s) d = turn_with s RegPrim d
turn_after (Trans s) d = turn_with s TransPrim d
turn_after (Exchange core conf set) d = enter_exchange (turn_with core TransPrim d) conf set

-- the delivery is a transitional configuration
abbrev pub is_transitional : Delivery (List ℕ) → Bool
is_transitional (Message place from bytes) = false
is_transitional (TransitionalIn conf set) = true
is_transitional (RegularIn conf set) = false
