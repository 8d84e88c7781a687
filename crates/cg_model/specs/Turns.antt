-- The turns that replicas take in a step.
use Rattle.std.specs.Prelude.{ℕ, Bool, true, false, List, [], ◌∷◌, Option, Some, None, flat_map}
use Rattle.std.specs.Option.{option_map_or}
use Rattle.cg_action.specs.declared.action.Kind.TheVariants.{Update, Join as JoinKind, Leave as LeaveKind}
use Rattle.cg_wire.specs.declared.message.Msg.{Msg}
use Rattle.cg_group.specs.Events.{HandedOut, deliver, split, merge}
use Rattle.cg_client.specs.Replica.{Replica}
use Rattle.cg_client.specs.Turn.{Turn}
use Rattle.cg_states.specs.ReplicaStep.{Input, Deliveries, Asks, replica_step}
use Rattle.cg_disk_records.specs.Crash.{Strike, Disk, EventEnd, Runs, Crashes, is_committed, end_event}
use Rattle.cg_schedule.specs.declared.event.Event.{Event}
use Rattle.cg_schedule.specs.declared.event.Event.TheVariants.{Split, Merge, Request, Deliver, Join, Leave}
use Rattle.cg_model.specs.World.{NodeState, Up, Down, World, node_of}

-- a replica has taken its turn: what it was before, with its disk, the turn, and how it ended
pub record Taken : Type 0 where
  pub id : ℕ
  pub before : Replica
  pub disk : Disk
  pub turn : Turn
  pub ended : EventEnd

-- a replica takes its turn, where it is up
abbrev pub taken_by : ℕ → Replica → Disk → Turn → Taken
taken_by p r disk t = record { id = p; before = r; disk = disk; turn = t; ended = end_event disk r.held t }

abbrev pub taken_as : ℕ → Input → NodeState → List Taken
taken_as p input (Up r disk) = taken_by p r disk (replica_step r input) ∷ []
taken_as p input (Down disk green) = []

-- a replica that has begun takes its turn, where it is up
abbrev pub taken : World → ℕ → Input → List Taken
taken w p input = option_map_or (λ s. taken_as p input s.life) (node_of w p) []

-- the turns of those to whom the group hands something
abbrev pub turns_in : World → HandedOut Msg → List Taken
turns_in w o = flat_map (λ h. taken w h.to (Deliveries h.list)) o.handed

-- the turns that replicas take with an event
unfoldable pub turns_of : World → Event → List Taken
turns_of w (Split set) = turns_in w (split w.group set)
turns_of w (Merge set) = turns_in w (merge w.group set)
turns_of w (Deliver p count) = turns_in w (deliver w.group p count)
turns_of w (Request p cmds query) = taken w p (Asks (Update cmds query))
turns_of w (Join p joiner weight) = taken w p (Asks (JoinKind joiner weight))
turns_of w (Leave p server) = taken w p (Asks (LeaveKind server))
turns_of w other = []

-- what a crash in the event leaves has the event
abbrev pub is_kept : Option Strike → Bool
is_kept None = false
is_kept (Some strike) = is_committed strike

-- the event stands: the replica runs on, or its disk has the event
abbrev pub stands_as : Option Strike → EventEnd → Bool
stands_as armed (Runs r disk) = true
stands_as armed (Crashes disk green) = is_kept armed

abbrev pub stands : Taken → Bool
stands t = stands_as t.disk.armed t.ended
