use Rattle.std.proofs.Common.{◌≡◌, drop}
use Rattle.std.specs.List.{list_all}
use Rattle.cg_disk_records.specs.Parts.{is_between}
use Rattle.cg_disk_records.proofs.agreement.are_between.Given as goal

abbrev pub invariant-loop-id : goal.invariant-loop-id
invariant-loop-id l = list_all (is_between l.low l.high) (drop l.id-index l.ids) ≡ list_all (is_between l.low l.high) l.ids
