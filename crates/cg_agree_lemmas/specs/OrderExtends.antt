-- What a replica's step adds to the printed order: behind it the order is as it was, or the replica's greens, whichever is longer.
use Rattle.std.proofs.Common.{◌⊎◌, ◌≡◌, ℕ, zero, suc, ◌+◌, ◌-◌, ◌≤◌, List, [], ◌∷◌, ◌++◌, length, drop, sym, ap, ◌∙◌, subst, inl, inr, arith, append-nil, length-append}
use Rattle.std.proofs.lemmas.Bool.{cases_lt}
use Rattle.std.proofs.lemmas.List.{drop_all}
use Rattle.cg_base.specs.declared.action_id.ActionId.{ActionId}
use Rattle.cg_model.specs.Fronts.{Front}
use Rattle.cg_model.specs.Show.{beyond}
use Rattle.cg_agree_lemmas.specs.FrontFacts.{Front-refl, Front-of_both, split_by_Front}

drop-past : (xs ys : List ActionId) (n : ℕ) → length xs ≤ n → drop n (xs ++ ys) ≡ drop (n - length xs) ys
drop-past [] ys n le = ap (λ m. drop m ys) (let same : n ≡ n - 0 = omega arith in same)
drop-past (x ∷ xs) ys zero le = absurd (omega arith)
drop-past (x ∷ xs) ys (suc n) le = drop-past xs ys n (omega arith) ∙ ap (λ m. drop m ys) (let same : n - length xs ≡ suc n - suc (length xs) = omega arith in same)

-- the order behind the step: it is still a front of the line, and has the greens and what it had
pub record IsExtended (line order greens new : List ActionId) : Type 0 where
  pub either : (new ≡ order) ⊎ (new ≡ greens)
  pub on_line : Front new line
  pub has : Front greens new
  pub on : Front order new

pub order-extends : (line order shown green : List ActionId) (count : ℕ) → count ≡ length shown + length green → Front order line → Front (shown ++ green) line → length shown ≤ length order →
    IsExtended line order (shown ++ green) (order ++ beyond order green count)
order-extends line order shown green count is of_order of_greens low =
    let greens = shown ++ green in
    let long : length greens ≡ length shown + length green = length-append shown green in
    elim (cases_lt (length order) (length greens)) [
      | inl less ↦
          let front = Front-of_both order greens line of_order of_greens (omega arith) in
          let same : length order - length shown ≡ length order + length green - count = omega arith in
          let rest : drop (length order) greens ≡ beyond order green count = drop-past shown green (length order) low ∙ ap (λ n. drop n green) same in
          let new : order ++ beyond order green count ≡ greens = sym (split_by_Front order greens front ∙ ap (λ xs. order ++ xs) rest) in
          record {
            either = inr new;
            on_line = subst (λ (xs : List ActionId). Front xs line) (sym new) of_greens;
            has = subst (Front greens) (sym new) (Front-refl greens);
            on = subst (Front order) (sym new) front;
          }
      | inr far ↦
          let nothing : beyond order green count ≡ [] = drop_all (length order + length green - count) green (omega arith) in
          let new : order ++ beyond order green count ≡ order = ap (λ xs. order ++ xs) nothing ∙ append-nil order in
          record {
            either = inl new;
            on_line = subst (λ (xs : List ActionId). Front xs line) (sym new) of_order;
            has = subst (Front greens) (sym new) (Front-of_both greens order line of_greens of_order (omega arith));
            on = subst (Front order) (sym new) (Front-refl order);
          }
    ]
