use Rattle.std.proofs.Common.{◌≡◌, None, take}
use Rattle.std.specs.List.{fold}
use Rattle.std.specs.Option.{option_copied}
use Rattle.cg_plan.specs.Plan.{farther}
use Rattle.cg_plan.proofs.making.farthest.Given as goal

abbrev pub invariant-loop-s : goal.invariant-loop-s
invariant-loop-s l = option_copied l.best ≡ fold (farther l.creator) None (take l.s-index l.summaries)
