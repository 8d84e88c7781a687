-- The run of a schedule.
use Rattle.std.specs.Prelude.{ℕ, zero, suc, List, [], ◌∷◌, ◌++◌, Option, Some, None, fold}
use Rattle.cg_group.specs.declared.reason.Reason.{Reason}
use Rattle.cg_group.specs.Ready.{ready}
use Rattle.cg_schedule.specs.declared.event.Event.{Event}
use Rattle.cg_schedule.specs.declared.event.Event.TheVariants.{Gather, End, Deliver, Rounds}
use Rattle.cg_model.specs.World.{World, no_world, up_replicas}
use Rattle.cg_model.specs.Admission.{first_refusal}
use Rattle.cg_model.specs.Show.{Moved}
use Rattle.cg_model.specs.Step.{world_step}
use Rattle.cg_model.specs.Run.{Step, Refusal}

-- how far a schedule has come: the world, the steps, and the refusal at which it stopped, if it did
pub record Run : Type 0 where
  pub world : World
  pub steps : List Step
  pub refused : Option Refusal

-- a run that hasn't begun
abbrev pub no_run : Run
no_run = record { world = no_world; steps = []; refused = None }

-- a run with one step more
abbrev pub with_step : Run → Event → Moved → Run
with_step run e m =
    record {
      world = m.world;
      steps = run.steps ++ record { event = e; entry = m.entry; world = m.world } ∷ [];
      refused = None;
    }

-- an event is a step where it is admitted, and else the run stops
abbrev pub step_unless : Option Reason → Run → Event → Run
step_unless None run e = with_step run e (world_step run.world e)
step_unless (Some reason) run e = record run { refused = Some record { event = e; reason = reason } }

-- behind the event at which it stopped nothing happens
abbrev pub step_on : Option Refusal → Run → Event → Run
step_on None run e = step_unless (first_refusal run.world e) run e
step_on (Some refusal) run e = run

abbrev pub step : Run → Event → Run
step run e = step_on run.refused run e

-- what is ready is handed to a replica, where something is
abbrev pub deliver_some : ℕ → Run → ℕ → Run
deliver_some zero run p = run
deliver_some (suc n) run p = step run (Deliver p (suc n))

abbrev pub deliver_ready : Run → ℕ → Run
deliver_ready run p = deliver_some (ready run.world.group p) run p

-- one pass: all messages are ordered and received, and then each replica that is up is handed what is ready when its turn comes
abbrev pub pass : Run → Run
pass run = fold deliver_ready (step run Gather) (up_replicas run.world)

-- so many passes
abbrev pub passes : ℕ → Run → Run
passes zero run = run
passes (suc n) run = passes n (pass run)

-- one event: rounds are passes, the end is no step, and any other event is one
abbrev pub play : Run → Event → Run
play run (Rounds n) = passes n run
play run End = run
play run other = step run other

-- the run of a list of events
abbrev pub run_of : List Event → Run
run_of events = fold play no_run events
