use Rattle.std.proofs.Common.{◌≡◌, drop}
use Rattle.std.specs.List.{list_all}
use Rattle.cg_base.specs.Replicas.{every_replica}
use Rattle.cg_disk_records.specs.Parts.{reds_count}
use Rattle.cg_disk_records.proofs.agreement.reds_count.Given as goal

-- the reds that are left count on from here, where all of them count from the first cut
abbrev pub invariant-loop-a : goal.invariant-loop-a
invariant-loop-a l = list_all (reds_count (drop l.a-index l.reds) l.at l.to) every_replica ≡ list_all (reds_count l.reds l.fn.from l.to) every_replica
