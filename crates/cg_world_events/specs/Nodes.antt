-- What a call gives back of a replica's node: it with what came of it, or as it was.
use Rattle.std.specs.Prelude.{ℕ, Bool, false, List, Option, Some, None, IfSome}
use Rattle.std.specs.Option.{option_map_or}
use Rattle.cg_base.specs.declared.action_id.ActionId.{ActionId}
use Rattle.cg_action.specs.declared.action.Action.{Action}
use Rattle.cg_wire.specs.declared.message.Msg.{Msg}
use Rattle.cg_client.specs.Replica.{Replica}
use Rattle.cg_disk_records.specs.Crash.{Disk, Strike, new_disk}
use Rattle.cg_older.specs.Older.{has_weights}
use Rattle.cg_states.specs.ReplicaStep.{Input}
use Rattle.cg_model.specs.Recorded.{AreBooked}
use Rattle.cg_model.specs.World.{NodeState, Up, Down, Node, running}
use Rattle.cg_model.specs.Show.{EventEffects}
use Rattle.cg_model.specs.Step.{risen, stays_down}

abbrev pub node : ℕ → NodeState → Node
node p life = record { id = p; life = life }

-- a replica is up with a new disk
abbrev pub new_node : ℕ → Replica → Node
new_node p r = node p (Up r (new_disk r.held))

abbrev pub changed : Node → Option NodeState → Node
changed s life = option_map_or (node s.id) life s

-- what a replica has to say: what is to be shown of it, and its messages
abbrev pub NodeOutput : Type 0
NodeOutput = EventEffects × List Msg

-- with what the replica has to say
abbrev pub turned : Node → Option (NodeState × Option NodeOutput) → Node × Option NodeOutput
turned s turn = option_map_or (λ x. (node s.id x.0, x.1)) turn (s, None)

-- with what is to be shown of it where it came up
abbrev pub raised : Node → Option (Replica × Disk × EventEffects) → Node × Option EventEffects
raised s up = option_map_or (λ x. (node s.id (Up x.0 x.1), Some x.2)) up (s, None)

-- the same where a stop is armed
abbrev pub raised_under : List ActionId → Strike → Node → Node × Option EventEffects
raised_under made strike s =
    option_map_or (λ life. (node s.id life, None)) (stays_down strike s.life) (raised s (risen made s.life))

-- no two actions that the replica waits with or that come have one name
abbrev pub IsBookedFor : NodeState → Input → Type 0
IsBookedFor life input = (book : ActionId → Action) × IfSome (running life) (λ r. AreBooked book r.held input)

-- it is down, and a weight above 1 stands on its disk
abbrev pub weighs : NodeState → Bool
weighs (Up r disk) = false
weighs (Down disk green) = has_weights disk.content
