use Rattle.std.proofs.Common.{◌≡◌, eqb}
use Rattle.std.specs.Prelude.{sum_by}
use Rattle.cg_base.specs.Iterators.{tops_left}
use Rattle.cg_disk_records.proofs.agreement.counts.Given as goal

-- what is left of the count is told of the indexes that are left
abbrev pub invariant-loop-top : goal.invariant-loop-top
invariant-loop-top l = eqb (sum_by (λ top. top.index) (tops_left l.top-iterator)) l.left ≡ eqb (sum_by (λ top. top.index) l.cut) l.count
