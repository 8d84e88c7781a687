use Rattle.std.proofs.Common.{◌≡◌, drop}
use Rattle.std.specs.List.{list_any}
use Rattle.cg_older.specs.Weights.{is_heavy_join}
use Rattle.cg_older.proofs.weights.has_heavy_own.Given as goal

abbrev pub invariant-loop-i : goal.invariant-loop-i
invariant-loop-i l = list_any is_heavy_join (drop l.i l.core.own) ≡ list_any is_heavy_join l.core.own
