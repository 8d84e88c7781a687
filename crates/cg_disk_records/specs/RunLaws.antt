-- Names of which each is the next of its creator.
use Rattle.std.proofs.Common.{◌≡◌, suc, Bool, true, false, ◌&&◌, List, [], ◌∷◌, ◌++◌, refl, ap, ◌∙◌, eq-eqb}
use Rattle.std.specs.Prelude.{◌==◌}
use Rattle.std.proofs.lemmas.Bool.{and_from}
use Rattle.cg_base.specs.declared.action_id.ActionId.{ActionId}
use Rattle.cg_base.specs.Cuts.{index_in, raise}
use Rattle.cg_disk_records.specs.Holds.{run_on, cut_behind}

pub and-assoc : (a b c : Bool) → (a && (b && c)) ≡ ((a && b) && c)
and-assoc true b c = refl
and-assoc false b c = refl

pub cut_behind-append : (cut xs ys : List ActionId) → cut_behind cut (xs ++ ys) ≡ cut_behind (cut_behind cut xs) ys
cut_behind-append cut [] ys = refl
cut_behind-append cut (x ∷ xs) ys = cut_behind-append (raise cut x) xs ys

pub run_on-append : (cut xs ys : List ActionId) →
    run_on cut (xs ++ ys) ≡ (run_on cut xs && run_on (cut_behind cut xs) ys)
run_on-append cut [] ys = refl
run_on-append cut (x ∷ xs) ys =
    ap (λ b. (x.index == suc (index_in cut x.creator)) && b) (run_on-append (raise cut x) xs ys)
    ∙ and-assoc (x.index == suc (index_in cut x.creator)) (run_on (raise cut x) xs)
    (run_on (cut_behind (raise cut x) xs) ys)

-- one more that is the next of its creator
pub run_on-next : (cut xs : List ActionId) (id : ActionId) → run_on cut xs ≡ true →
    id.index ≡ suc (index_in (cut_behind cut xs) id.creator) →
    run_on cut (xs ++ id ∷ []) ≡ true
run_on-next cut xs id run next =
    run_on-append cut xs (id ∷ [])
    ∙ and_from (run_on cut xs) (run_on (cut_behind cut xs) (id ∷ [])) run
    (and_from (id.index == suc (index_in (cut_behind cut xs) id.creator)) true (eq-eqb id.index _ next) refl)
