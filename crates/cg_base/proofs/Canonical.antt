-- An ascending list is what slots with its own values hold. So two ascending lists with the same values are one.
use Rattle.std.proofs.Common.{◌≡◌, ℕ, zero, suc, ◌+◌, ◌<◌, ◌≤◌, ◌≢◌, List, [], ◌∷◌, map, refl, sym, ap, ◌∙◌, arith, inl, inr}
use Rattle.std.proofs.lemmas.Bool.{cases_eq, eq-eqb, ne_eqb}
use Rattle.cg_base.specs.Sets.{Ascends}
use Rattle.cg_base.specs.Slots.{held_from, held}
use Rattle.cg_base.specs.SlotLaws.{value_in, held_from-empty, held_from-filled}

-- slots with the same numbers hold the same
pub held_from-same : {X : Type 0} (make : ℕ → ℕ → X) (f g : ℕ → ℕ) (count first : ℕ) → ((p : ℕ) → first ≤ p → p < first + count → f p ≡ g p)
    → held_from make f count first ≡ held_from make g count first
unfolding held_from
held_from-same make f g zero first same = refl
held_from-same make f g (suc count) first same =
    let here : f first ≡ g first = same first (omega arith) (omega arith) in
    let rest : held_from make f count (suc first) ≡ held_from make g count (suc first) = held_from-same make f g count (suc first) (λ p le lt. same p (omega arith) (omega arith)) in
    rw (here, rest)

pub held-same : {X : Type 0} (make : ℕ → ℕ → X) (f g : ℕ → ℕ) → ((p : ℕ) → 1 ≤ p → p ≤ 32 → f p ≡ g p) → held make f ≡ held make g
unfolding held
held-same make f g same = held_from-same make f g 32 1 (λ p le lt. same p le (omega arith))

-- each element is made of its key and its value, which isn't 0
abbrev pub EachMade : {X : Type 0} → (ℕ → ℕ → X) → (X → ℕ) → (X → ℕ) → List X → Type 0
EachMade make key value [] = Unit {0}
EachMade make key value (x ∷ xs) = (make (key x) (value x) ≡ x) × (1 ≤ value x) × EachMade make key value xs

module _ {X : Type 0} (make : ℕ → ℕ → X) (key value : X → ℕ) where
  -- below an ascending list's first key it has no values
  pub value_in-before : (xs : List X) (low p : ℕ) → Ascends low (map key xs) → p < low → value_in key value xs p ≡ 0
  value_in-before [] low p ascends lt = refl
  value_in-before (x ∷ xs) low p ascends lt =
      let above : low ≤ key x = ascends.0 in
      let apart : key x ≢ p = λ e. omega arith in
      rw (ne_eqb (key x) p apart) (value_in-before xs (suc (key x)) p ascends.2 (omega arith))

  pub held_from-own : (xs : List X) (count first : ℕ) → first + count ≡ 33 → Ascends first (map key xs) → EachMade make key value xs
      → held_from make (value_in key value xs) count first ≡ xs
  unfolding held_from
  held_from-own [] zero first all ascends made = refl
  held_from-own (x ∷ xs) zero first all ascends made =
      let low : first ≤ key x = ascends.0 in
      let high : key x ≤ 32 = ascends.1 in
      absurd (omega arith)
  held_from-own [] (suc count) first all ascends made =
      held_from-empty make (value_in key value []) count first refl ∙ held_from-own [] count (suc first) (omega arith) tt tt
  held_from-own (x ∷ xs) (suc count) first all ascends made =
      let low : first ≤ key x = ascends.0 in
      let high : key x ≤ 32 = ascends.1 in
      let later : Ascends (suc (key x)) (map key xs) = ascends.2 in
      let whole : x ≡ make (key x) (value x) = sym made.0 in
      let filled : 1 ≤ value x = made.1 in
      elim (cases_eq (key x) first) [
        | inl same ↦
            let here : value_in key value (x ∷ xs) first ≡ value x = rw (eq-eqb (key x) first same) in
            let others : (p : ℕ) → suc first ≤ p → p < suc first + count → value_in key value (x ∷ xs) p ≡ value_in key value xs p =
            λ p le lt. rw (ne_eqb (key x) p (λ e. omega arith)) in
            let rest : held_from make (value_in key value (x ∷ xs)) count (suc first) ≡ xs =
            held_from-same make (value_in key value (x ∷ xs)) (value_in key value xs) count (suc first) others
            ∙ held_from-own xs count (suc first) (omega arith) (let along : suc (key x) ≡ suc first = omega arith in rw along at later) made.2 in
            held_from-filled make (value_in key value (x ∷ xs)) count first (λ e. omega (arith, e, here))
            ∙ ap (λ n. make first n ∷ held_from make (value_in key value (x ∷ xs)) count (suc first)) here
            ∙ ap (λ ys. make first (value x) ∷ ys) rest
            ∙ ap (λ p. make p (value x) ∷ xs) (sym same)
            ∙ ap (λ y. y ∷ xs) made.0
        | inr apart ↦
            let none : value_in key value (x ∷ xs) first ≡ 0 = value_in-before (x ∷ xs) (suc first) first (omega arith, high, later) (omega arith) in
            held_from-empty make (value_in key value (x ∷ xs)) count first none
            ∙ held_from-own (x ∷ xs) count (suc first) (omega arith) (omega arith, high, later) made
      ]

  -- slots that have the values of an ascending list hold that list
  pub held-is : (slot : ℕ → ℕ) (xs : List X) → Ascends 1 (map key xs) → EachMade make key value xs → ((p : ℕ) → 1 ≤ p → p ≤ 32 → slot p ≡ value_in key value xs p)
      → held make slot ≡ xs
  unfolding held
  held-is slot xs ascends made same = held-same make slot (value_in key value xs) same ∙ held_from-own xs 32 1 refl ascends made
