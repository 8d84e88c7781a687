use Rattle.std.proofs.Common.{◌≡◌, [], take}
use Rattle.std.specs.List.{fold}
use Rattle.cg_base.specs.Sets.{with_member}
use Rattle.cg_knowledge.proofs.members.senders.Given as goal

abbrev pub invariant-loop-s : goal.invariant-loop-s
invariant-loop-s l = l.set ≡ fold (λ set s. with_member set s.id) [] (take l.s-index l.summaries)
