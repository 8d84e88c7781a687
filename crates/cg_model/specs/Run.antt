-- Runs: the steps of a list of events, one after another.
use Rattle.std.specs.Prelude.{◌≡◌, ℕ, ◌<◌, List, [], ◌∷◌, None, length}
use Rattle.cg_base.specs.Sets.{IsSet}
use Rattle.cg_base.specs.Weights.{IsWeightSet}
use Rattle.cg_action.specs.declared.action.Kind.TheVariants.{Join as JoinKind, Leave as LeaveKind}
use Rattle.cg_action.specs.Limits.{IsUpdate, IsQuery, IsKind}
use Rattle.cg_group.specs.declared.reason.Reason.{Reason}
use Rattle.cg_report.specs.declared.entry.Entry.{Entry}
use Rattle.cg_schedule.specs.declared.event.Event.{Event}
use Rattle.cg_schedule.specs.declared.event.Event.TheVariants.{Start, Split, Merge, Request, Weak, Dirty, End, Rounds, Join, Leave}
use Rattle.cg_model.specs.World.{World, no_world}
use Rattle.cg_model.specs.Admission.{first_refusal}
use Rattle.cg_model.specs.Step.{world_step}

-- a step of a run: its event, what it showed, and the world after it
pub record Step : Type 0 where
  pub event : Event
  pub entry : Entry
  pub world : World

-- an event that wasn't admitted, and the reason
pub record Refusal : Type 0 where
  pub event : Event
  pub reason : Reason

-- the world after steps from a world on
abbrev pub world_after : World → List Step → World
world_after w [] = w
world_after w (s ∷ steps) = world_after s.world steps

-- what is asked for is within the limits of an action or a query
abbrev pub MayAsk : Event → Type 0
MayAsk (Request p cmds query) = IsUpdate cmds query
MayAsk (Weak p query) = IsQuery query
MayAsk (Dirty p query) = IsQuery query
MayAsk (Join p joiner weight) = IsKind (JoinKind joiner weight)
MayAsk (Leave p server) = IsKind (LeaveKind server)
MayAsk other = Unit {0}

-- the first event is a start, and no later one is; the replicas that an event names are a set; rounds and the end are no steps
abbrev pub MayStand : World → Event → Type 0
MayStand w (Start set) = (w ≡ no_world) × IsWeightSet set
MayStand w (Rounds count) = ⊥
MayStand w End = ⊥
MayStand w (Split set) = (0 < length w.nodes) × IsSet set
MayStand w (Merge set) = (0 < length w.nodes) × IsSet set
MayStand w other = (0 < length w.nodes) × MayAsk other

-- so many steps may be made
abbrev pub step_limit : ℕ
step_limit = 2000000

-- Each step is the step of an event in the world before it that may stand there and is admitted.
abbrev pub IsRunFrom : World → List Step → Type 0
IsRunFrom w [] = Unit {0}
IsRunFrom w (s ∷ steps) =
    MayStand w s.event × (first_refusal w s.event ≡ None)
    × (record { entry = s.entry; world = s.world } ≡ world_step w s.event) × IsRunFrom s.world steps
