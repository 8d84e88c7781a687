use Rattle.std.proofs.Common.{◌≡◌, map, take}
use Rattle.cg_base.specs.Lists.{greatest}
use Rattle.cg_knowledge.proofs.primary.newest_index.Given as goal

abbrev pub invariant-loop-s : goal.invariant-loop-s
invariant-loop-s l = l.newest ≡ greatest (map (λ s. s.prim.index) (take l.s-index l.summaries))
