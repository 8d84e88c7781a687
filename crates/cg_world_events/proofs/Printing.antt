-- The last printed lines with a new one, by where its replica's stands among them.
use Rattle.std.proofs.Common.{◌≡◌, ℕ, ◌<◌, ◌≤◌, suc, true, false, List, [], ◌∷◌, ◌++◌, Some, None, length, cond, refl, sym, ap, ◌∙◌, subst, inl, inr, arith}
use Rattle.std.specs.Prelude.{◌==◌, nat_lt}
use Rattle.std.specs.List.{position, slice_set, position_or_len}
use Rattle.std.proofs.lemmas.Bool.{cases_Bool, cases_lt, cond-true, cond-false, lt-ltb, le-ltb}
use Rattle.cg_report.specs.declared.line.Line.{Line}
use Rattle.cg_model.specs.Show.{with_printed}

index_of : ℕ → List Line → ℕ
index_of p xs = position_or_len (λ l. l.id == p) xs

one-more : (x : Line) (xs : List Line) (p : ℕ) → (x.id == p) ≡ false → index_of p (x ∷ xs) ≡ suc (index_of p xs)
unfolding index_of
one-more x xs p other = rw other (omega arith)

first : (x : Line) (xs : List Line) (new : Line) → (x.id == new.id) ≡ true → slice_set (x ∷ xs) (index_of new.id (x ∷ xs)) new ≡ with_printed (x ∷ xs) new
unfolding index_of
first x xs new here = rw here refl

printed-at : (xs : List Line) (new : Line) → index_of new.id xs < length xs → slice_set xs (index_of new.id xs) new ≡ with_printed xs new
printed-at [] new less = absurd (omega (arith, less))
printed-at (x ∷ xs) new less = elim (cases_Bool (x.id == new.id)) [
  | inl here ↦ first x xs new here
  | inr other ↦ (
      let more = one-more x xs new.id other in
      let within : index_of new.id xs < length xs = (let suc_less = rw more at less in omega (arith, suc_less)) in
      subst (λ k. slice_set (x ∷ xs) k new ≡ with_printed (x ∷ xs) new) (sym more)
      (ap (λ ys. x ∷ ys) (printed-at xs new within) ∙ sym (cond-false (x.id == new.id) (new ∷ xs) (x ∷ with_printed xs new) other)))
]

printed-behind : (xs : List Line) (new : Line) → length xs ≤ index_of new.id xs → xs ++ new ∷ [] ≡ with_printed xs new
unfolding index_of
printed-behind [] new past = refl
printed-behind (x ∷ xs) new past = elim (cases_Bool (x.id == new.id)) [
  | inl here ↦ absurd (let none = rw here at past in omega (arith, none))
  | inr other ↦ (
      let beyond : length xs ≤ index_of new.id xs = (let more = rw other at past in omega (arith, more)) in
      rw other (ap (λ ys. x ∷ ys) (printed-behind xs new beyond)))
]

pub there : (k n i : ℕ) → cond (nat_lt k n) (Some k) None ≡ Some i → (k < n) × (k ≡ i)
there k n i e = elim (cases_lt k n) [
  | inl less ↦ (let same : Some k ≡ Some i = sym (cond-true (nat_lt k n) (Some k) None (lt-ltb k n less)) ∙ e in (less, cc))
  | inr past ↦ absurd (let clash : None ≡ Some i = sym (cond-false (nat_lt k n) (Some k) None (le-ltb k n past)) ∙ e in cc)
]

pub nowhere : (k n : ℕ) → cond (nat_lt k n) (Some k) None ≡ None → n ≤ k
nowhere k n e = elim (cases_lt k n) [
  | inl less ↦ absurd (let clash : Some k ≡ None = sym (cond-true (nat_lt k n) (Some k) None (lt-ltb k n less)) ∙ e in cc)
  | inr past ↦ past
]

pub printed-there : (xs : List Line) (new : Line) (index : ℕ) → position (λ l. l.id == new.id) xs ≡ Some index → slice_set xs index new ≡ with_printed xs new
unfolding index_of
printed-there xs new index at =
    let is = there (index_of new.id xs) (length xs) index at in
    subst (λ k. slice_set xs k new ≡ with_printed xs new) is.1 (printed-at xs new is.0)

pub printed-nowhere : (xs : List Line) (new : Line) → position (λ l. l.id == new.id) xs ≡ None → xs ++ new ∷ [] ≡ with_printed xs new
unfolding index_of
printed-nowhere xs new away = printed-behind xs new (nowhere (index_of new.id xs) (length xs) away)
