use Rattle.std.proofs.Common.{◌≡◌, None, take}
use Rattle.std.specs.List.{filter, fold}
use Rattle.std.specs.Option.{option_copied}
use Rattle.cg_knowledge.specs.Summaries.{lower}
use Rattle.cg_knowledge.specs.Primary.{knows_prim}
use Rattle.cg_knowledge.proofs.yellow.lowest_of_group.Given as goal

abbrev pub invariant-loop-s : goal.invariant-loop-s
invariant-loop-s l = option_copied l.low ≡ fold lower None (filter (λ s. s.yellow.valid) (filter (knows_prim l.index) (take l.s-index l.summaries)))
