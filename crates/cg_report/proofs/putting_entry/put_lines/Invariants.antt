use Rattle.std.proofs.Common.{◌≡◌, ◌++◌, take}
use Rattle.std.specs.List.{flat_map}
use Rattle.cg_report.specs.EntryText.{ended_line}
use Rattle.cg_report.proofs.putting_entry.put_lines.Given as goal

abbrev pub invariant-loop-one : goal.invariant-loop-one
invariant-loop-one g l = l.out ≡ l.initial.out ++ flat_map ended_line (take l.one-index l.lines)
