use Rattle.std.proofs.Common.{◌≡◌, ◌+◌, ◌-◌, leb}
use Rattle.std.specs.List.{list_all}
use Rattle.cg_base.specs.Cuts.{index_in}
use Rattle.cg_base.specs.Lists.{count_up}
use Rattle.cg_base.specs.Replicas.{every_replica}
use Rattle.cg_disk_records.proofs.agreement.reaches.Given as goal

abbrev pub invariant-loop-slot : goal.invariant-loop-slot
invariant-loop-slot l =
    list_all (λ p. leb (index_in l.to p) (index_in l.at p)) (count_up (l.slot + 1) (32 - l.slot)) ≡ list_all (λ p. leb (index_in l.to p) (index_in l.at p)) every_replica
