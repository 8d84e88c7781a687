use Rattle.std.proofs.Common.{◌≡◌, [], take}
use Rattle.std.specs.List.{fold}
use Rattle.cg_knowledge.specs.Vulnerable.{with_bits}
use Rattle.cg_knowledge.proofs.vulnerable.all_bits.Given as goal

abbrev pub invariant-loop-s : goal.invariant-loop-s
invariant-loop-s l = l.bits ≡ fold (with_bits l.attempt) [] (take l.s-index l.summaries)
