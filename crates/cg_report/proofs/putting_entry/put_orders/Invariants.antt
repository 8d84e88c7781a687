use Rattle.std.proofs.Common.{◌≡◌, ◌++◌, take}
use Rattle.std.specs.List.{flat_map}
use Rattle.cg_report.specs.EntryText.{order_line}
use Rattle.cg_report.proofs.putting_entry.put_orders.Given as goal

abbrev pub invariant-loop-one : goal.invariant-loop-one
invariant-loop-one g l = l.out ≡ l.initial.out ++ flat_map order_line (take l.one-index l.orders)
