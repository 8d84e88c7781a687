-- Two quorums of one set share a member of it: else those in the one and those in the other would weigh no more than all.
use Rattle.std.proofs.Common.{◌≡◌, ℕ, ◌+◌, ◌*◌, ◌<◌, ◌≤◌, true, false, cond, ◌&&◌, List, [], ◌∷◌, refl, arith, ◌⊎◌, inl, inr, eqb}
use Rattle.std.specs.List.{filter, sum_by}
use Rattle.std.proofs.lemmas.Bool.{ltb-true, eqb-true, eq-eqb, or_cases, or_left, or_right, and_parts, cases_Bool}
use Rattle.std.proofs.lemmas.List.Sums.{sum_by-cons}
use Rattle.cg_base.specs.declared.weighted.Weighted.{Weighted}
use Rattle.cg_base.specs.Sets.{has}
use Rattle.cg_base.specs.Weights.{ids, total, total_of}
use Rattle.cg_vote.specs.Quorum.{has_more_than_half, has_half, has_least, is_quorum}
use Rattle.cg_vote.specs.Sharing.{ShareMember}

-- what a member weighs among those present
abbrev weight_here : Weighted → List ℕ → ℕ
weight_here m here = cond (has here m.id) m.weight 0

weight_here-le : (m : Weighted) (here : List ℕ) → weight_here m here ≤ m.weight
weight_here-le m here =
    elim (has here m.id) as (λ b. cond b m.weight 0 ≤ m.weight) [ true ↦ omega arith | false ↦ omega arith ]

weight_here-absent : (m : Weighted) (here : List ℕ) → has here m.id ≡ false → weight_here m here ≡ 0
weight_here-absent m here absent = rw absent refl

total-cons : (m : Weighted) (set : List Weighted) → total (m ∷ set) ≡ m.weight + total set
total-cons m set = sum_by-cons (λ n. n.weight) m set

total_of-cons : (m : Weighted) (set : List Weighted) (here : List ℕ) →
    total_of (m ∷ set) here ≡ weight_here m here + total_of set here
total_of-cons m set here =
    let rest : List Weighted = filter (λ n. has here n.id) set in
    elim (has here m.id) as (λ b. sum_by (λ n. n.weight) (cond b (m ∷ rest) rest) ≡
    cond b m.weight 0 + sum_by (λ n. n.weight) rest) [
      | true ↦ sum_by-cons (λ n. n.weight) m rest
      | false ↦ omega arith
    ]

-- a member that is in at most one of the two adds to the sum of both at most what it adds to all
apart-cons : (m : Weighted) (set : List Weighted) (one other : List ℕ) →
    weight_here m one + weight_here m other ≤ m.weight
    → total_of set one + total_of set other ≤ total set →
    total_of (m ∷ set) one + total_of (m ∷ set) other ≤ total (m ∷ set)
apart-cons m set one other light rest =
    omega (arith, total-cons m set, total_of-cons m set one, total_of-cons m set other)

has-first : (m : Weighted) (set : List Weighted) → has (ids (m ∷ set)) m.id ≡ true
has-first m set = or_left (eqb m.id m.id) (has (ids set) m.id) (eq-eqb m.id m.id refl)

share-first : (m : Weighted) (set : List Weighted) (one other : List ℕ) → has one m.id ≡ true → has other m.id ≡ true →
    ShareMember (m ∷ set) one other
share-first m set one other in_one in_other =
    record { member = m.id; is_member = has-first m set; is_in_one = in_one; is_in_other = in_other }

share-more : (m : Weighted) (set : List Weighted) (one other : List ℕ) → ShareMember set one other →
    ShareMember (m ∷ set) one other
share-more m set one other s =
    record {
      member = s.member;
      is_member = or_right (eqb m.id s.member) (has (ids set) s.member) s.is_member;
      is_in_one = s.is_in_one;
      is_in_other = s.is_in_other;
    }

-- some member is in both, or those in the one and those in the other weigh at most as much as all together
share_or_apart : (set : List Weighted) (one other : List ℕ) →
    ShareMember set one other ⊎ (total_of set one + total_of set other ≤ total set)
share_or_apart [] one other = inr (omega arith)
share_or_apart (m ∷ set) one other =
    let below : (weight_here m one + weight_here m other ≤ m.weight) →
    ShareMember (m ∷ set) one other ⊎ (total_of (m ∷ set) one + total_of (m ∷ set) other ≤ total (m ∷ set)) =
    λ light. elim (share_or_apart set one other) [
      | inl s ↦ inl (share-more m set one other s)
      | inr rest ↦ inr (apart-cons m set one other light rest)
    ] in
    elim (cases_Bool (has one m.id)) [
      | inl in_one ↦ elim (cases_Bool (has other m.id)) [
        | inl in_other ↦ inl (share-first m set one other in_one in_other)
        | inr absent ↦ below (omega (arith, weight_here-absent m other absent, weight_here-le m one))
      ]
      | inr absent ↦ below (omega (arith, weight_here-absent m one absent, weight_here-le m other))
    ]

-- the least member is in both
share-least : (set : List Weighted) (one other : List ℕ) → has_least set one ≡ true → has_least set other ≡ true →
    ShareMember set one other
share-least [] one other in_one in_other = absurd (cc)
share-least (m ∷ set) one other in_one in_other = share-first m set one other in_one in_other

-- what a quorum has
quorum_is : (last : List Weighted) (here : List ℕ) → is_quorum last here ≡ true
    → (total last < 2 * total_of last here) ⊎ ((2 * total_of last here ≡ total last) × (has_least last here ≡ true))
unfolding is_quorum
quorum_is last here q = elim (or_cases (has_more_than_half last here) (has_half last here && has_least last here) q) [
  | inl more ↦ inl (ltb-true _ _ more)
  | inr both ↦ let parts = and_parts (has_half last here) (has_least last here) both in
      inr (eqb-true _ _ parts.0, parts.1)
]

pub meet : (last : List Weighted) (one other : List ℕ) → is_quorum last one ≡ true → is_quorum last other ≡ true →
    ShareMember last one other
meet last one other h k = elim (share_or_apart last one other) [
  | inl s ↦ s
  | inr apart ↦ elim (quorum_is last one h) [
    | inl more ↦ elim (quorum_is last other k) [
      | inl much ↦ absurd (omega arith)
      | inr half ↦
          absurd (let e : 2 * total_of last other ≡ total last = half.0 in omega arith)
    ]
    | inr half ↦ elim (quorum_is last other k) [
      | inl much ↦ absurd (let e : 2 * total_of last one ≡ total last = half.0 in omega arith)
      | inr least ↦ share-least last one other half.1 least.1
    ]
  ]
]
