use Rattle.std.proofs.Common.{◌≡◌}
use Rattle.std.specs.List.{list_any}
use Rattle.cg_base.specs.Iterators.{weights_left}
use Rattle.cg_older.specs.Weights.{is_heavy_member}
use Rattle.cg_older.proofs.weights.has_heavy_member.Given as goal

abbrev pub invariant-loop-member : goal.invariant-loop-member
invariant-loop-member l = list_any is_heavy_member (weights_left l.member-iterator) ≡ list_any is_heavy_member l.set
