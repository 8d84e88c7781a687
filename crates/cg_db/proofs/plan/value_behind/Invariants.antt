use Rattle.std.proofs.Common.{◌≡◌, take}
use Rattle.std.specs.Option.{option_copied}
use Rattle.cg_db.specs.Map.{value_of}
use Rattle.cg_db.specs.Plan.{with_changes}
use Rattle.cg_db.proofs.plan.value_behind.Given as goal

abbrev pub invariant-loop-change : goal.invariant-loop-change
invariant-loop-change l = option_copied l.value ≡ value_of (with_changes l.db (take l.change-index l.changes)) l.key
