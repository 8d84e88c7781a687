use Rattle.std.proofs.Common.{◌≡◌, ◌++◌}
use Rattle.std.specs.List.{flat_map}
use Rattle.std.specs.Fmt.{HasWritten, IsPlainFormatter}
use Rattle.cg_base.specs.Iterators.{members_left}
use Rattle.cg_schedule.specs.Print.{id_behind}
use Rattle.cg_schedule.proofs.print.BehindDisplay.fmt.Given as goal

abbrev pub invariant-loop-p : goal.invariant-loop-p
invariant-loop-p g l =
    (l.yielded ++ members_left l.p-iterator ≡ members_left l.initial.p-iterator)
    × (IsPlainFormatter l.initial.f → HasWritten g.W.Write.write_str_gives l.initial.f (flat_map id_behind l.yielded) l.f)
