use Rattle.std.proofs.Common.{◌≡◌, fold, take}
use Rattle.cg_model.specs.Show.{with_printed}
use Rattle.cg_world_events.proofs.lines.Lines.print_all.Given as goal

abbrev pub invariant-loop-line : goal.invariant-loop-line
invariant-loop-line l = l.self ≡ fold with_printed l.fn.self (take l.line-index l.printed)
