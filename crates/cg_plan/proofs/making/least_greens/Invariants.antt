use Rattle.std.proofs.Common.{◌≡◌, None, map, take}
use Rattle.std.specs.List.{filter, fold}
use Rattle.cg_base.specs.Sets.{has}
use Rattle.cg_base.specs.Lists.{lesser}
use Rattle.cg_plan.proofs.making.least_greens.Given as goal

abbrev pub invariant-loop-s : goal.invariant-loop-s
invariant-loop-s l = l.least ≡ fold lesser None (map (λ s. s.green_count) (filter (λ s. has l.members s.id) (take l.s-index l.summaries)))
