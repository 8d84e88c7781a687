-- A set with weights that has one more member: what each weighs in it, and where it stands.
use Rattle.std.proofs.Common.{◌≡◌, ℕ, ◌<◌, ◌≤◌, ◌||◌, List, [], ◌∷◌, ◌++◌, cond, true, eqb, refl, sym, ap, ◌∙◌, arith, inl, inr}
use Rattle.std.proofs.lemmas.Bool.{cases_eq, cases_order, eq-eqb, ne_eqb, lt-ltb, le-ltb, or_right}
use Rattle.cg_base.specs.declared.weighted.Weighted.{Weighted}
use Rattle.cg_base.specs.Sets.{IsId, has, with_member}
use Rattle.cg_base.specs.Weights.{IsWeightSet, Weigh, ids, with_weight, each_once}
use Rattle.cg_base.specs.Calls.{weight_in}
use Rattle.cg_base.specs.SetLaws.{Ascends-with_member}
use Rattle.cg_base.specs.BoolLaws.{or_assoc}

pub weight_in-with_weight : (set : List Weighted) (n : Weighted) (p : ℕ) →
    weight_in (with_weight set n) p ≡ cond (eqb n.id p) n.weight (weight_in set p)
weight_in-with_weight [] n p = refl
weight_in-with_weight (m ∷ set) n p = elim (cases_order n.id m.id) [
  | inl same ↦ rw (eq-eqb n.id m.id same) (elim (cases_eq n.id p) [
    | inl here ↦ rw (eq-eqb n.id p here)
    | inr other ↦ rw (ne_eqb n.id p other, ne_eqb m.id p (λ e. other (same ∙ e)))
  ])
  | inr apart ↦ elim apart [
    | inl front ↦ rw (ne_eqb n.id m.id (λ e. omega arith), lt-ltb n.id m.id front)
    | inr later ↦ rw (ne_eqb n.id m.id (λ e. omega arith), le-ltb n.id m.id (omega arith)) (elim (cases_eq m.id p) [
      | inl here ↦ rw (eq-eqb m.id p here, ne_eqb n.id p (λ e. omega arith))
      | inr other ↦ rw (ne_eqb m.id p other) (weight_in-with_weight set n p)
    ])
  ]
]

pub ids-with_weight : (set : List Weighted) (n : Weighted) → ids (with_weight set n) ≡ with_member (ids set) n.id
ids-with_weight [] n = refl
ids-with_weight (m ∷ set) n = elim (cases_order n.id m.id) [
  | inl same ↦ rw (eq-eqb n.id m.id same) (ap (λ p. p ∷ ids set) same)
  | inr apart ↦ elim apart [
    | inl front ↦ rw (ne_eqb n.id m.id (λ e. omega arith), lt-ltb n.id m.id front)
    | inr later ↦ rw (
      ne_eqb n.id m.id (λ e. omega arith),
      le-ltb n.id m.id (omega arith),
    ) (ap (λ s. m.id ∷ s) (ids-with_weight set n))
  ]
]

Weigh-with_weight : (set : List Weighted) (n : Weighted) → 1 ≤ n.weight → n.weight ≤ 255 → Weigh set →
    Weigh (with_weight set n)
Weigh-with_weight [] n some most weigh = (some, most, tt)
Weigh-with_weight (m ∷ set) n some most weigh = elim (cases_order n.id m.id) [
  | inl same ↦ rw (eq-eqb n.id m.id same) (some, most, weigh.2)
  | inr apart ↦ elim apart [
    | inl front ↦ rw (ne_eqb n.id m.id (λ e. omega arith), lt-ltb n.id m.id front) (some, most, weigh)
    | inr later ↦ rw (ne_eqb n.id m.id (λ e. omega arith), le-ltb n.id m.id (omega arith)) (
      weigh.0,
      weigh.1,
      Weigh-with_weight set n some most weigh.2,
    )
  ]
]

pub IsWeightSet-with_weight : (set : List Weighted) (n : Weighted) → IsId n.id → 1 ≤ n.weight → n.weight ≤ 255 →
    IsWeightSet set → IsWeightSet (with_weight set n)
IsWeightSet-with_weight set n is_id some most is_set = record {
  ascends = rw (ids-with_weight set n) (Ascends-with_member (ids set) 1 n.id is_id.0 is_id.1 is_set.ascends);
  weigh = Weigh-with_weight set n some most is_set.weigh;
}

-- a member above all others stands last
pub with_weight-last : (set : List Weighted) (n : Weighted) →
    (has_below : (m : ℕ) → has (ids set) m ≡ true → m < n.id) → with_weight set n ≡ set ++ n ∷ []
with_weight-last [] n below = refl
with_weight-last (m ∷ set) n below =
    let later : m.id < n.id = below m.id (rw (eq-eqb m.id m.id refl)) in
    rw (ne_eqb n.id m.id (λ e. omega arith), le-ltb n.id m.id (omega arith))
    (ap (λ s. m ∷ s) (with_weight-last set n (λ k h. below k (or_right (eqb m.id k) (has (ids set) k) h))))

pub ids-append : (xs ys : List Weighted) (k : ℕ) → has (ids (xs ++ ys)) k ≡ (has (ids xs) k || has (ids ys) k)
ids-append [] ys k = refl
ids-append (m ∷ xs) ys k = ap (λ b. eqb m.id k || b) (ids-append xs ys k)
    ∙ sym (or_assoc (eqb m.id k) (has (ids xs) k) (has (ids ys) k))

pub ids-each_once : (set : List ℕ) → ids (each_once set) ≡ set
ids-each_once [] = refl
ids-each_once (p ∷ set) = ap (λ xs. p ∷ xs) (ids-each_once set)
