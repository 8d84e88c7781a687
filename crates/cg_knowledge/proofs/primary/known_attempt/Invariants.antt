use Rattle.std.proofs.Common.{◌≡◌, map, take}
use Rattle.std.specs.List.{filter}
use Rattle.cg_base.specs.Lists.{greatest}
use Rattle.cg_knowledge.specs.Primary.{knows_prim}
use Rattle.cg_knowledge.proofs.primary.known_attempt.Given as goal

abbrev pub invariant-loop-s : goal.invariant-loop-s
invariant-loop-s l = l.attempt ≡ greatest (map (λ s. s.attempt_index) (filter (knows_prim l.index) (take l.s-index l.summaries)))
