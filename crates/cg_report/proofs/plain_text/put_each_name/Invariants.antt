use Rattle.std.proofs.Common.{◌≡◌, ◌++◌, ◌∷◌, take}
use Rattle.std.specs.List.{flat_map}
use Rattle.cg_base.specs.Text.{id_text}
use Rattle.cg_report.proofs.plain_text.put_each_name.Given as goal

abbrev pub invariant-loop-id : goal.invariant-loop-id
invariant-loop-id g l = l.out ≡ l.initial.out ++ flat_map (λ y. 44 ∷ id_text y) (take l.id-index l.others)
