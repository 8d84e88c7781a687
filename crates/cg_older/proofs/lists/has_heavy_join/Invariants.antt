use Rattle.std.proofs.Common.{◌≡◌, drop}
use Rattle.std.specs.List.{list_any}
use Rattle.cg_older.specs.Weights.{is_heavy_join}
use Rattle.cg_older.proofs.lists.has_heavy_join.Given as goal

abbrev pub invariant-loop-action : goal.invariant-loop-action
invariant-loop-action l = list_any is_heavy_join (drop l.action-index l.actions) ≡ list_any is_heavy_join l.actions
