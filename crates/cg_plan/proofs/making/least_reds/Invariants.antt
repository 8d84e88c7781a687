use Rattle.std.proofs.Common.{◌≡◌, None, map, take}
use Rattle.std.specs.List.{filter, fold}
use Rattle.cg_base.specs.Sets.{has}
use Rattle.cg_base.specs.Cuts.{index_in}
use Rattle.cg_base.specs.Lists.{lesser}
use Rattle.cg_plan.proofs.making.least_reds.Given as goal

abbrev pub invariant-loop-s : goal.invariant-loop-s
invariant-loop-s l = l.least ≡ fold lesser None (map (λ s. index_in s.red_cut l.creator) (filter (λ s. has l.present s.id) (take l.s-index l.summaries)))
