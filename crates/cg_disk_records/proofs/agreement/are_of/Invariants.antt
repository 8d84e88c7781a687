use Rattle.std.proofs.Common.{◌≡◌, drop, eqb}
use Rattle.std.specs.List.{list_all}
use Rattle.cg_disk_records.proofs.agreement.are_of.Given as goal

abbrev pub invariant-loop-a : goal.invariant-loop-a
invariant-loop-a l = list_all (λ a. eqb a.id.creator l.id) (drop l.a-index l.actions) ≡ list_all (λ a. eqb a.id.creator l.id) l.actions
