use Rattle.std.proofs.Common.{◌≡◌, ◌++◌, map}
use Rattle.std.specs.Vec.Iter.{into_iter_items}
use Rattle.cg_items.specs.declared.companion.FurtherLine.TheVariants.{Session}
use Rattle.cg_run.proofs.further.session_lines.Given as goal

-- with those that are left they are all
abbrev pub invariant-loop-line : goal.invariant-loop-line
invariant-loop-line l = l.row ++ map Session (into_iter_items l.line-iterator) ≡ map Session l.fn.lines
