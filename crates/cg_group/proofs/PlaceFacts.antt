-- Where a replica stands among those that are up: their identifiers ascend from 1, so its place is below its number, and
-- behind it stand only greater ones.
use Rattle.std.proofs.Common.{◌≡◌, ℕ, zero, suc, ◌<◌, ◌≤◌, ◌+◌, List, [], ◌∷◌, length, Some, None, refl, sym, subst, ap, ◌∙◌, arith, cond, get_or, position, inl, inr, nat_lt}
use Rattle.std.specs.Prelude.{◌==◌}
use Rattle.std.specs.List.{position_or_len}
use Rattle.std.proofs.lemmas.List.{get_or_read_under}
use Rattle.std.proofs.lemmas.List.Sums.{position_or_len_is}
use Rattle.std.proofs.lemmas.Bool.{cases_order, cond-true, cond-false, eq-eqb, ne_eqb, lt-ltb, le-ltb}
use Rattle.cg_base.specs.Sets.{Ascends}
use Rattle.cg_group.specs.State.{Standing}
use Rattle.cg_group.specs.Rosters.{ids_of, IsRoster}
use Rattle.cg_group.proofs.RosterFacts.{id_within}

module _ {M : Type 0} where
  -- the replicas from a place on have greater identifiers
  abbrev pub AreAbove : List (Standing M) → ℕ → ℕ → Type 0
  AreAbove replicas p from = (k : ℕ) (d : Standing M) → from ≤ k → k < length replicas → p < (get_or replicas k d).id

  -- an identifier is as far from the least one as its place from the first, or further
  id_ahead : (replicas : List (Standing M)) (low i : ℕ) (d : Standing M) → Ascends low (ids_of replicas) → i < length replicas →
      low + i ≤ (get_or replicas i d).id
  id_ahead [] low i d ascends lt = absurd (omega arith)
  id_ahead (s ∷ replicas) low zero d ascends lt = let above : low ≤ s.id = ascends.0 in omega arith
  id_ahead (s ∷ replicas) low (suc i) d ascends lt =
      let above : low ≤ s.id = ascends.0 in
      let later : suc s.id + i ≤ (get_or replicas i d).id = id_ahead replicas (suc s.id) i d ascends.2 (omega arith) in omega arith

  id_rises : (replicas : List (Standing M)) (low i j : ℕ) (d : Standing M) → Ascends low (ids_of replicas) → i < j → j < length replicas →
      (get_or replicas i d).id < (get_or replicas j d).id
  id_rises [] low i j d ascends less lt = absurd (omega arith)
  id_rises (s ∷ replicas) low i zero d ascends less lt = absurd (omega arith)
  id_rises (s ∷ replicas) low zero (suc j) d ascends less lt =
      let later : suc s.id ≤ (get_or replicas j d).id = id_within replicas (suc s.id) j d ascends.2 (omega arith) in omega arith
  id_rises (s ∷ replicas) low (suc i) (suc j) d ascends less lt =
      id_rises replicas (suc s.id) i j d ascends.2 (omega arith) (omega arith)

  -- behind the place of the number all are above it
  pub above-first : (replicas : List (Standing M)) (p left : ℕ) → IsRoster replicas → (left < length replicas → p ≤ left) → AreAbove replicas p left
  above-first replicas p left roster most k d le lt =
      let far : p ≤ left = most (omega arith) in
      let ahead : 1 + k ≤ (get_or replicas k d).id = id_ahead replicas 1 k d roster.ascends lt in omega arith

  -- the one with the identifier
  pub placed-there : (replicas : List (Standing M)) (p i : ℕ) (s : Standing M) → IsRoster replicas → s ≡ get_or replicas i s → i < length replicas →
      s.id ≡ p → position (λ s. s.id == p) replicas ≡ Some i
  placed-there replicas p i s roster is within same =
      let here : (get_or replicas i s).id ≡ p = ap (λ (x : Standing M). x.id) (sym is) ∙ same in
      let place : position_or_len (λ s. s.id == p) replicas ≡ i =
      position_or_len_is (λ (s : Standing M). s.id == p) replicas i s (omega arith)
      (λ k less. let rises : (get_or replicas k s).id < (get_or replicas i s).id = id_rises replicas 1 k i s roster.ascends less within in
      ne_eqb (get_or replicas k s).id p (λ e. omega arith))
      (λ lt. eq-eqb (get_or replicas i s).id p here) in
      ap (λ k. cond (nat_lt k (length replicas)) (Some k) None) place ∙ cond-true (nat_lt i (length replicas)) (Some i) None (lt-ltb i (length replicas) within)

  -- none has the identifier
  placed-none : (replicas : List (Standing M)) (p : ℕ) → ((k : ℕ) (d : Standing M) → k < length replicas → (get_or replicas k d).id ≡ p → ⊥) →
      position (λ s. s.id == p) replicas ≡ None
  placed-none [] p differ = refl
  placed-none (s ∷ replicas) p differ =
      let all : List (Standing M) = s ∷ replicas in
      let place : position_or_len (λ s. s.id == p) all ≡ length all =
      position_or_len_is (λ (s : Standing M). s.id == p) all (length all) s (omega arith)
      (λ k less. ne_eqb (get_or all k s).id p (differ k s less)) (λ lt. absurd (omega arith)) in
      ap (λ k. cond (nat_lt k (length all)) (Some k) None) place
      ∙ cond-false (nat_lt (length all) (length all)) (Some (length all)) None (le-ltb (length all) (length all) (omega arith))

  -- none where all are above it
  pub placed-above : (replicas : List (Standing M)) (p : ℕ) → AreAbove replicas p 0 → position (λ s. s.id == p) replicas ≡ None
  placed-above replicas p above = placed-none replicas p (λ k d lt e. let more : p < (get_or replicas k d).id = above k d (omega arith) lt in omega arith)

  -- nor where the last one that isn't above it is below it
  pub placed-between : (replicas : List (Standing M)) (p i : ℕ) (s : Standing M) → IsRoster replicas → s ≡ get_or replicas i s → i < length replicas →
      s.id < p → AreAbove replicas p (i + 1) → position (λ s. s.id == p) replicas ≡ None
  placed-between replicas p i s roster is within below above = placed-none replicas p (λ k d lt e.
      let here : s ≡ get_or replicas i d = get_or_read_under replicas i (length replicas) s d is within refl in
      let less : (get_or replicas i d).id < p = subst (λ (x : Standing M). x.id < p) here below in
      apart k d lt e less)
    where
      apart : (k : ℕ) (d : Standing M) → k < length replicas → (get_or replicas k d).id ≡ p → (get_or replicas i d).id < p → ⊥
      apart k d lt e less = elim (cases_order k i) [
        | inl same ↦ let at : (get_or replicas k d).id ≡ (get_or replicas i d).id = ap (λ n. (get_or replicas n d).id) same in omega arith
        | inr other ↦ elim other [
          | inl front ↦ let rises : (get_or replicas k d).id < (get_or replicas i d).id = id_rises replicas 1 k i d roster.ascends front within in omega arith
          | inr behind ↦ let more : p < (get_or replicas k d).id = above k d (omega arith) lt in omega arith
        ]
      ]
