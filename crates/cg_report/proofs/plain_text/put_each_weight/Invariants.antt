use Rattle.std.proofs.Common.{◌≡◌, ◌++◌, ◌∷◌}
use Rattle.std.specs.List.{flat_map}
use Rattle.cg_base.specs.Iterators.{weights_left}
use Rattle.cg_base.specs.Text.{weighted_text}
use Rattle.cg_report.proofs.plain_text.put_each_weight.Given as goal

abbrev pub invariant-loop-m : goal.invariant-loop-m
invariant-loop-m g l =
    (l.yielded ++ weights_left l.m-iterator ≡ weights_left l.initial.m-iterator)
    × (l.out ≡ l.initial.out ++ flat_map (λ m. 44 ∷ weighted_text m.id m.weight) l.yielded)
