-- The best of the members, by a number of each and then by the lower identifier: it is the same whichever of two members is looked at first.
use Rattle.std.proofs.Common.{◌≡◌, ℕ, ◌<◌, Bool, true, false, not, cond, ◌&&◌, ◌||◌, eqb, ltb, Option, Some, None, ◌⊎◌, inl, inr, refl, sym, ap, ◌∙◌, arith}
use Rattle.std.proofs.lemmas.Bool.{cases_order, eq-eqb, lt-ltb, ltb-true, eqb-true, or_cases, or_left, or_right, and_parts, and_from, false_from_ne_true}
use Rattle.cg_knowledge.specs.declared.summary.Summary.{Summary}
use Rattle.cg_laws.proofs.Near.{Apart, Commutes}

-- ---- an order by two numbers

-- the first number is greater, or it is the same one and the second is lower
abbrev before : ℕ → ℕ → ℕ → ℕ → Bool
before a i b j = ltb b a || (eqb a b && ltb i j)

Before : ℕ → ℕ → ℕ → ℕ → Type 0
Before a i b j = (b < a) ⊎ ((a ≡ b) × (i < j))

before_tells : (a i b j : ℕ) → before a i b j ≡ true → Before a i b j
unfolding Before
before_tells a i b j is = elim (or_cases (ltb b a) (eqb a b && ltb i j) is) [
  | inl more ↦ inl (ltb-true b a more)
  | inr both ↦ let parts = and_parts (eqb a b) (ltb i j) both in inr (eqb-true a b parts.0, ltb-true i j parts.1)
]

before_from : (a i b j : ℕ) → Before a i b j → before a i b j ≡ true
unfolding Before
before_from a i b j (inl more) = or_left (ltb b a) (eqb a b && ltb i j) (lt-ltb b a more)
before_from a i b j (inr (same, lower)) = or_right (ltb b a) (eqb a b && ltb i j) (and_from (eqb a b) (ltb i j) (eq-eqb a b same) (lt-ltb i j lower))

before_not : (a i b j : ℕ) → (Before a i b j → ⊥) → before a i b j ≡ false
before_not a i b j none = false_from_ne_true (before a i b j) (λ is. none (before_tells a i b j is))

before_through : (a i b j c k : ℕ) → before a i b j ≡ true → before b j c k ≡ true → before a i c k ≡ true
unfolding Before
before_through a i b j c k first second = before_from a i c k (joined (before_tells a i b j first) (before_tells b j c k second))
  where
    joined : (b < a) ⊎ ((a ≡ b) × (i < j)) → (c < b) ⊎ ((b ≡ c) × (j < k)) → (c < a) ⊎ ((a ≡ c) × (i < k))
    joined (inl x) (inl y) = inl (omega arith)
    joined (inl x) (inr (e, y)) = inl (omega arith)
    joined (inr (d, x)) (inl y) = inl (omega arith)
    joined (inr (d, x)) (inr (e, y)) = inr (d ∙ e, omega arith)

-- of two with different second numbers one is before the other
before_either : (a i b j : ℕ) → (i ≡ j → ⊥) → before b j a i ≡ not (before a i b j)
unfolding Before
before_either a i b j apart = elim (cases_order a b) [
  | inl same ↦ elim (cases_order i j) [
    | inl alike ↦ absurd (apart alike)
    | inr other ↦ elim other [
      | inl lower ↦ one_way (inr (same, lower)) (λ back. elim back [ inl x ↦ omega arith | inr x ↦ (let y : j < i = x.1 in omega arith) ])
      | inr higher ↦ other_way (inr (sym same, higher)) (λ back. elim back [ inl x ↦ omega arith | inr x ↦ (let y : i < j = x.1 in omega arith) ])
    ]
  ]
  | inr other ↦ elim other [
    | inl fewer ↦ other_way (inl fewer) (λ back. elim back [ inl x ↦ omega arith | inr x ↦ (let y : a ≡ b = x.0 in omega arith) ])
    | inr more ↦ one_way (inl more) (λ back. elim back [ inl x ↦ omega arith | inr x ↦ (let y : b ≡ a = x.0 in omega arith) ])
  ]
]
  where
    one_way : (b < a) ⊎ ((a ≡ b) × (i < j)) → ((a < b) ⊎ ((b ≡ a) × (j < i)) → ⊥) → before b j a i ≡ not (before a i b j)
    one_way is none = before_not b j a i none ∙ sym (ap not (before_from a i b j is))

    other_way : (a < b) ⊎ ((b ≡ a) × (j < i)) → ((b < a) ⊎ ((a ≡ b) × (i < j)) → ⊥) → before b j a i ≡ not (before a i b j)
    other_way is none = before_from b j a i is ∙ sym (ap not (before_not a i b j none))

-- ---- the best by such an order

-- the better of the two, by a number of each
abbrev pub better : (Summary → ℕ) → Option Summary → Summary → Option Summary
better of None s = Some s
better of (Some best) s = cond (before (of s) s.id (of best) best.id) (Some s) (Some best)

module _ (of : Summary → ℕ) where
  at_first : (s t : Summary) (x : Bool) → before (of s) s.id (of t) t.id ≡ x → before (of t) t.id (of s) s.id ≡ not x
      → better of (Some s) t ≡ better of (Some t) s
  at_first s t true e f = rw (e, f) refl
  at_first s t false e f = rw (e, f) refl

  behind_best : (s t best : Summary) → Apart s t → (x y : Bool)
      → before (of s) s.id (of best) best.id ≡ x → before (of t) t.id (of best) best.id ≡ y
      → better of (cond x (Some s) (Some best)) t ≡ better of (cond y (Some t) (Some best)) s
  behind_best s t best apart true true e f = at_first s t _ refl (before_either (of s) s.id (of t) t.id apart)
  behind_best s t best apart true false e f =
      let trails : before (of t) t.id (of s) s.id ≡ false =
      false_from_ne_true _ (λ is. (let clash = before_through (of t) t.id (of s) s.id (of best) best.id is e in cc)) in
      rw (trails, e) refl
  behind_best s t best apart false true e f =
      let trails : before (of s) s.id (of t) t.id ≡ false =
      false_from_ne_true _ (λ is. (let clash = before_through (of s) s.id (of t) t.id (of best) best.id is f in cc)) in
      rw (trails, f) refl
  behind_best s t best apart false false e f = rw (e, f) refl

  pub better-commutes : Commutes (better of)
  better-commutes s t apart None = at_first s t _ refl (before_either (of s) s.id (of t) t.id apart)
  better-commutes s t apart (Some best) = behind_best s t best apart _ _ refl refl
