use Rattle.std.proofs.Common.{◌≡◌, ◌++◌}
use Rattle.std.specs.List.{flat_map}
use Rattle.cg_base.specs.Iterators.{members_left}
use Rattle.cg_plan.specs.Plan.{reds_of}
use Rattle.cg_plan.proofs.making.turns_of.Given as goal

abbrev pub invariant-loop-creator : goal.invariant-loop-creator
invariant-loop-creator l = l.turns.items ++ flat_map (reds_of l.summaries) (members_left l.creator-iterator) ≡ l.initial.turns.items ++ flat_map (reds_of l.summaries) (members_left l.initial.creator-iterator)
