use Rattle.std.proofs.Common.{◌≡◌, [], take}
use Rattle.std.specs.List.{fold}
use Rattle.cg_base.specs.Sets.{union}
use Rattle.cg_base.specs.Cuts.{creators_in}
use Rattle.cg_plan.proofs.making.creators.Given as goal

abbrev pub invariant-loop-s : goal.invariant-loop-s
invariant-loop-s l = l.set ≡ fold (λ set s. union set (creators_in s.red_cut)) [] (take l.s-index l.summaries)
