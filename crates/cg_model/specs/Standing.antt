-- What the crates above cite: that the facts stand beside every world to which admitted events lead, that an event undoes nothing, and that
-- what replicas hold and what comes to them stands in one book of actions.
use Rattle.std.specs.Prelude.{◌≡◌, ℕ, true, List, [], ◌∷◌, None, IfSome}
use Rattle.cg_base.specs.declared.action_id.ActionId.{ActionId}
use Rattle.cg_base.specs.Sets.{IsSet}
use Rattle.cg_action.specs.declared.action.Action.{Action}
use Rattle.cg_action.specs.declared.action.Kind.{Kind}
use Rattle.cg_wire.specs.declared.message.Msg.{Msg}
use Rattle.cg_group.specs.declared.delivery.Handed.{Handed}
use Rattle.cg_group.specs.Events.{HandedOut, deliver, split, merge}
use Rattle.cg_schedule.specs.declared.event.Event.{Event}
use Rattle.cg_states.specs.ReplicaStep.{Deliveries, Asks}
use Rattle.cg_model.specs.Recorded.{AreBooked}
use Rattle.cg_disk_records.specs.Holds.{run_on}
use Rattle.cg_model.specs.World.{World, no_world, replica_of}
use Rattle.cg_model.specs.Admission.{first_refusal}
use Rattle.cg_model.specs.Show.{StepInProgress}
use Rattle.cg_model.specs.Step.{quietly, hand_over, world_step}
use Rattle.cg_model.specs.Run.{MayStand}
use Rattle.cg_model.specs.Chronicle.{Chronicle, no_chronicle}
use Rattle.cg_model.specs.Noting.{chronicle_step}
use Rattle.cg_model.specs.Fronts.{IsSomeWith}
use Rattle.cg_model.specs.Looks.{attempt_of}
use Rattle.cg_model.specs.Levels.{is_dead}
use Rattle.cg_model.specs.FactsNet.{ReceiptsFixed}
use Rattle.cg_model.specs.FactsBooks.{MadeFits, OrderFits}
use Rattle.cg_model.specs.Played.{StandsBeside}

-- ---- worlds that events lead to

-- these events may stand one behind the other and are admitted, and lead from the one chronicle and world to the other
abbrev pub LeadTo : Chronicle → World → List Event → Chronicle → World → Type 0
LeadTo c w [] d v = (c ≡ d) × (w ≡ v)
LeadTo c w (e ∷ events) d v = MayStand w e × (first_refusal w e ≡ None)
    × LeadTo (chronicle_step c w e) (world_step w e).world events d v

-- some events lead there from before the start
pub record IsReached (c : Chronicle) (w : World) : Type 0 where
  pub events : List Event
  pub lead : LeadTo no_chronicle no_world events c w

-- it holds before the start, each event that may stand and is admitted keeps it, and the facts stand beside such a world, with those on
-- what its disks have still to show
pub record AlwaysStands : Type 0 where
  pub first : IsReached no_chronicle no_world
  pub step : (c : Chronicle) (w : World) (e : Event) → IsReached c w → MayStand w e → first_refusal w e ≡ None →
      IsReached (chronicle_step c w e) (world_step w e).world
  pub beside : (c : Chronicle) (w : World) → IsReached c w → StandsBeside c w
  pub carried : (c : Chronicle) (w : World) → IsReached c w → MadeFits w × OrderFits c w

-- in each of these worlds every name of the order is the next of its creator: so none stands there twice
abbrev pub OrdersRunOn : Type 0
OrdersRunOn = (c : Chronicle) (w : World) → IsReached c w → run_on [] w.order ≡ true

-- ---- what never comes back

-- from before an event to behind it: who is out of a configuration with messages stays out, and what it has received there stays as it is;
-- and an attempt that is over is there still, and is over
pub record UndoesNothing (c d : Chronicle) : Type 0 where
  pub receipts_fixed : ReceiptsFixed c d
  pub over : (conf : ℕ) → IfSome (attempt_of c conf) (λ a. is_dead c a ≡ true →
      IsSomeWith (attempt_of d conf) (λ b. is_dead d b ≡ true))

-- no event that may stand and is admitted undoes any of it, in no world to which events lead
abbrev pub EventsUndoNothing : Type 0
EventsUndoNothing =
    (c : Chronicle) (w : World) (e : Event) → IsReached c w → MayStand w e → first_refusal w e ≡ None →
    UndoesNothing c (chronicle_step c w e)

-- ---- one book

-- what a replica that is up holds, and what is handed to it, stand in this book
abbrev pub IsHandedBooked : (ActionId → Action) → World → Handed Msg → Type 0
IsHandedBooked book w h = IfSome (replica_of w h.to) (λ r. AreBooked book r.held (Deliveries h.list))

-- of each in its turn, behind the turns of those before it
abbrev pub AreBookedInTurn : (ActionId → Action) → StepInProgress → List (Handed Msg) → Type 0
AreBookedInTurn book g [] = Unit {0}
AreBookedInTurn book g (h ∷ list) = IsHandedBooked book g.world h × AreBookedInTurn book (hand_over g h) list

abbrev pub IsHandedOutBooked : (ActionId → Action) → World → HandedOut Msg → Type 0
IsHandedOutBooked book w o = AreBookedInTurn book (quietly (record w { group = o.group })) o.handed

-- whatever a delivery, a split, a merge and a request bring to replicas
pub record IsBookOf (w : World) (book : ActionId → Action) : Type 0 where
  pub delivered : (p count : ℕ) → IsHandedOutBooked book w (deliver w.group p count)
  pub parted : (set : List ℕ) → IsSet set → IsHandedOutBooked book w (split w.group set)
  pub joined : (set : List ℕ) → IsSet set → IsHandedOutBooked book w (merge w.group set)
  pub asked : (p : ℕ) (kind : Kind) → IfSome (replica_of w p) (λ r. AreBooked book r.held (Asks kind))

pub record IsBooked (w : World) : Type 0 where
  pub book : ActionId → Action
  pub is : IsBookOf w book

-- wherever the facts hold no two actions that are held or come have one name
abbrev pub AlwaysBooked : Type 0
AlwaysBooked = (c : Chronicle) (w : World) → StandsBeside c w → IsBooked w
