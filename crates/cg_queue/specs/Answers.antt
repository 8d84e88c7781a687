-- What the calls of a queue answer.
use Rattle.std.specs.Prelude.{◌≡◌, ℕ, nat_le, true, List, [], ◌∷◌, Result, Ok, Err, if◌then◌else◌}
use Rattle.cg_base.specs.declared.action_id.ActionId.{ActionId}
use Rattle.cg_base.specs.Ids.{has_name}
use Rattle.cg_action.specs.declared.action.Action.{Action}
use Rattle.cg_queue.specs.declared.mark.Mark.{Mark}
use Rattle.cg_queue.specs.declared.mark.Mark.TheVariants.{Placed, Known}
use Rattle.cg_queue.specs.declared.mark.QueueFault.{QueueFault}
use Rattle.cg_queue.specs.declared.mark.QueueFault.TheVariants.{Gap, NoMemory}
use Rattle.cg_queue.specs.Queue.{QueueView, names_of, green_count, placed_green, Marking, Marks, Gaps}

-- an action is marked green at a place; the places up to the count are known
abbrev pub marked_green : QueueView → ℕ → Action → Marking
marked_green q at a = if nat_le at (green_count q) then Marks Known q else Marks Placed (placed_green q a)

-- what a call answers of a marking, and what it leaves: at a fault nothing is changed, and a gap is one
abbrev pub Answers : Marking → QueueView → QueueView → Result Mark QueueFault → Type 0
Answers marking old new (Ok mark) = marking ≡ Marks mark new
Answers marking old new (Err (Gap cut)) = (marking ≡ Gaps cut) × (new ≡ old)
Answers marking old new (Err NoMemory) = new ≡ old

-- each name is one of a red action
abbrev pub AreReds : QueueView → List ActionId → Type 0
AreReds q [] = Unit {0}
AreReds q (id ∷ ids) = (has_name (names_of q.reds) id ≡ true) × AreReds q ids
