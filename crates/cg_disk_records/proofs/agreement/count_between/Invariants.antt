use Rattle.std.proofs.Common.{◌≡◌, drop}
use Rattle.std.specs.Prelude.{nat_eq}
use Rattle.std.specs.Cmp.Lexicographic.{pointwise}
use Rattle.cg_base.specs.Lists.{above_up_to}
use Rattle.cg_disk_records.specs.Agreeing.{indexes_of}
use Rattle.cg_disk_records.proofs.agreement.count_between.Given as goal

-- the actions that are left count on from here, where all of them count from the first number
abbrev pub invariant-loop-a : goal.invariant-loop-a
invariant-loop-a l =
    pointwise nat_eq (indexes_of (drop l.a-index l.actions) l.id) (above_up_to l.at l.high) ≡ pointwise nat_eq (indexes_of l.actions l.id) (above_up_to l.low l.high)
