use Rattle.std.proofs.Common.{◌≡◌, ◌++◌, ◌∷◌, decimal}
use Rattle.std.specs.List.{flat_map}
use Rattle.cg_base.specs.Iterators.{members_left}
use Rattle.cg_report.proofs.plain_text.put_members.Given as goal

abbrev pub invariant-loop-id : goal.invariant-loop-id
invariant-loop-id g l =
    (l.yielded ++ members_left l.id-iterator ≡ members_left l.initial.id-iterator)
    × (l.out ≡ l.initial.out ++ flat_map (λ y. 44 ∷ decimal y) l.yielded)
