use Rattle.std.proofs.Common.{◌≡◌, map, take}
use Rattle.cg_knowledge.specs.Vulnerable.{decided}
use Rattle.cg_knowledge.proofs.vulnerable.records_of.Given as goal

abbrev pub invariant-loop-s : goal.invariant-loop-s
invariant-loop-s l = l.records ≡ map (λ s. decided l.summaries s.vulnerable) (take l.s-index l.summaries)
