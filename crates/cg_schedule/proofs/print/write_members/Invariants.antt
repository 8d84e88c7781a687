use Rattle.std.proofs.Common.{◌≡◌, ◌++◌}
use Rattle.std.specs.List.{flat_map}
use Rattle.std.specs.Fmt.{HasWritten, IsPlainFormatter}
use Rattle.cg_base.specs.Iterators.{weights_left}
use Rattle.cg_schedule.specs.Print.{member_behind}
use Rattle.cg_schedule.proofs.print.write_members.Given as goal

abbrev pub invariant-loop-m : goal.invariant-loop-m
invariant-loop-m g l =
    (l.yielded ++ weights_left l.m-iterator ≡ weights_left l.initial.m-iterator)
    × (IsPlainFormatter l.initial.f → HasWritten g.W.Write.write_str_gives l.initial.f (flat_map member_behind l.yielded) l.f)
