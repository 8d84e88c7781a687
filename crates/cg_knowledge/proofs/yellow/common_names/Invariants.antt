use Rattle.std.proofs.Common.{◌≡◌, take}
use Rattle.std.specs.List.{filter, fold}
use Rattle.cg_base.specs.Ids.{has_name}
use Rattle.cg_knowledge.specs.Primary.{knows_prim}
use Rattle.cg_knowledge.proofs.yellow.common_names.Given as goal

abbrev pub invariant-loop-s : goal.invariant-loop-s
invariant-loop-s l = l.names.items ≡ fold (λ ids s. filter (has_name s.yellow.list) ids) l.initial.names.items (filter (λ s. s.yellow.valid) (filter (knows_prim l.newest) (take l.s-index l.summaries)))
