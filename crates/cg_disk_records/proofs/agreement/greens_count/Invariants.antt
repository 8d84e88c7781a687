use Rattle.std.proofs.Common.{◌≡◌, ◌+◌, ◌-◌}
use Rattle.std.specs.List.{list_all}
use Rattle.cg_base.specs.Lists.{count_up}
use Rattle.cg_base.specs.Replicas.{every_replica}
use Rattle.cg_disk_records.specs.Parts.{greens_count}
use Rattle.cg_disk_records.proofs.agreement.greens_count.Given as goal

abbrev pub invariant-loop-slot : goal.invariant-loop-slot
invariant-loop-slot l = list_all (greens_count l.greens l.cut) (count_up (l.slot + 1) (32 - l.slot)) ≡ list_all (greens_count l.greens l.cut) every_replica
