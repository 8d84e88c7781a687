-- The lists of actions that a checkpoint keeps, and how one is written action after action.
use Rattle.std.specs.Prelude.{ℕ, List, [], Option, Some, None}
use Rattle.cg_action.specs.declared.action.Action.{Action}
use Rattle.cg_action.specs.Bytes.{spelled_action}
use Rattle.cg_disk_records.specs.declared.kept.KeptList.{KeptList}
use Rattle.cg_disk_records.specs.declared.kept.KeptList.TheVariants.{Greens, Reds, Own}
use Rattle.cg_disk_records.specs.Stored.{Stored}

abbrev pub list_in : Stored → KeptList → List Action
list_in s Greens = s.queue.greens
list_in s Reds = s.queue.reds
list_in s Own = s.own

-- the next action, if there is one
abbrev pub spelled_next : Option Action → List ℕ
spelled_next None = []
spelled_next (Some a) = spelled_action a
