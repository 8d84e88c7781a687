-- A reply comes into its place among those that ascend.
use Rattle.std.proofs.Common.{◌≡◌, ℕ, zero, suc, ◌+◌, ◌≤◌, ◌<◌, nat_lt, List, [], ◌∷◌, length, get_or, refl, ap, ◌∙◌, inl, inr, arith}
use Rattle.std.specs.List.{insert}
use Rattle.std.proofs.lemmas.Bool.{cond-true, cond-false, cases_Bool, ltb-true, ltb-false, lt-ltb, le-ltb}
use Rattle.cg_model.specs.Show.{Answered, with_answered}
use Rattle.cg_world_events.specs.Showing.{StartsFrom, Ascend}

next-ascends : (xs : List Answered) → Ascend xs → (k : ℕ) (d : Answered) → suc k < length xs → (get_or xs k d).place ≤ (get_or xs (suc k) d).place
next-ascends [] ascends k d less = absurd (omega (arith, less))
next-ascends (r ∷ []) ascends k d less = absurd (omega (arith, less))
next-ascends (r ∷ s ∷ xs) ascends zero d less = ascends.0
next-ascends (r ∷ s ∷ xs) ascends (suc k) d less = next-ascends (s ∷ xs) ascends.1 k d (omega (arith, less))

pub neighbours-ascend : (xs : List Answered) → Ascend xs → (k : ℕ) (d : Answered) → k + 1 < length xs → (get_or xs k d).place ≤ (get_or xs (k + 1) d).place
neighbours-ascend xs ascends k d less =
    let next : k + 1 ≡ suc k = omega arith in
    rw next (next-ascends xs ascends k d (omega (arith, less)))

-- behind those of places up to its own, and before those of later ones
pub with-at : (xs : List Answered) (at : ℕ) (new : Answered) → at ≤ length xs → ((k : ℕ) → k < at → (get_or xs k new).place ≤ new.place) →
    ((k : ℕ) → at ≤ k → k < length xs → new.place < (get_or xs k new).place) → with_answered xs new ≡ insert xs at new
with-at [] zero new within up above = refl
with-at [] (suc at) new within up above = refl
with-at (r ∷ xs) zero new within up above =
    let first : new.place < r.place = above 0 (omega arith) (omega arith) in
    cond-true (nat_lt new.place r.place) (new ∷ r ∷ xs) (r ∷ with_answered xs new) (lt-ltb new.place r.place first)
with-at (r ∷ xs) (suc at) new within up above =
    let first : r.place ≤ new.place = up 0 (omega arith) in
    cond-false (nat_lt new.place r.place) (new ∷ r ∷ xs) (r ∷ with_answered xs new) (le-ltb new.place r.place first)
    ∙ ap (λ ys. r ∷ ys)
    (with-at xs at new (omega (arith, within)) (λ k less. up (suc k) (omega (arith, less))) (λ k le less. above (suc k) (omega (arith, le)) (omega (arith, less))))

starts-with : (place : ℕ) (xs : List Answered) (new : Answered) → StartsFrom place xs → place ≤ new.place → StartsFrom place (with_answered xs new)
starts-with place [] new starts le = le
starts-with place (r ∷ xs) new starts le = elim (cases_Bool (nat_lt new.place r.place)) [
  | inl before ↦ (rw before le)
  | inr behind ↦ (rw behind starts)
]

pub ascend-with : (xs : List Answered) (new : Answered) → Ascend xs → Ascend (with_answered xs new)
ascend-with [] new ascends = (tt, tt)
ascend-with (r ∷ xs) new ascends = elim (cases_Bool (nat_lt new.place r.place)) [
  | inl before ↦ (rw before (let lt = ltb-true new.place r.place before in omega (arith, lt), ascends))
  | inr behind ↦ (rw behind (starts-with r.place xs new ascends.0 (ltb-false new.place r.place behind), ascend-with xs new ascends.1))
]
