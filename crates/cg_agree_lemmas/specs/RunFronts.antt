-- A front of names of which each is the next of its creator.
use Rattle.std.proofs.Common.{◌≡◌, suc, true, List, [], ◌∷◌, refl, ap, ◌∙◌}
use Rattle.std.specs.Prelude.{◌==◌}
use Rattle.std.proofs.lemmas.Bool.{and_parts, and_from}
use Rattle.cg_base.specs.declared.action_id.ActionId.{ActionId}
use Rattle.cg_base.specs.Cuts.{index_in, raise}
use Rattle.cg_disk_records.specs.Holds.{run_on}
use Rattle.cg_model.specs.Fronts.{Front}

-- it is one too
pub run_on-front : (cut xs ys : List ActionId) → Front xs ys → run_on cut ys ≡ true → run_on cut xs ≡ true
run_on-front cut [] ys f run = refl
run_on-front cut (x ∷ xs) [] f run = absurd f
run_on-front cut (x ∷ xs) (y ∷ ys) f run =
    let parts = and_parts (y.index == suc (index_in cut y.creator)) (run_on (raise cut y) ys) run in
    and_from (x.index == suc (index_in cut x.creator)) (run_on (raise cut x) xs)
    (ap (λ (id : ActionId). id.index == suc (index_in cut id.creator)) f.0 ∙ parts.0)
    (run_on-front (raise cut x) xs ys f.1 (ap (λ (id : ActionId). run_on (raise cut id) ys) f.0 ∙ parts.1))
