use Rattle.std.proofs.Common.{◌≡◌, None, take}
use Rattle.std.specs.List.{fold}
use Rattle.std.specs.Option.{option_copied}
use Rattle.cg_knowledge.specs.Summaries.{leader}
use Rattle.cg_knowledge.proofs.members.most_updated.Given as goal

abbrev pub invariant-loop-s : goal.invariant-loop-s
invariant-loop-s l = option_copied l.best ≡ fold leader None (take l.s-index l.summaries)
