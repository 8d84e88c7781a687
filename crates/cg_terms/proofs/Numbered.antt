-- Where each creator's actions stand in a list as numbers that follow one another, no name stands in it twice.
use Rattle.std.proofs.Common.{◌≡◌, ℕ, zero, suc, ◌≤◌, Bool, true, false, List, [], ◌∷◌, map, filter, length, Contains, refl, sym, ap, subst, inl, inr, arith, eq-eqb}
use Rattle.std.specs.Prelude.{◌==◌, if◌then◌else◌}
use Rattle.std.proofs.lemmas.Bool.{cases_Bool, cond-true, cond-false}
use Rattle.cg_base.specs.declared.action_id.ActionId.{ActionId}
use Rattle.cg_base.specs.Lists.{count_up}
use Rattle.cg_terms.specs.Linearizable.{AllDiffer}
use Rattle.cg_terms.proofs.Places.{contains-map}
use Rattle.cg_base.specs.ElementLaws.{contains-none, contains-here, contains-later, contains-cases}

abbrev is_of : ℕ → ActionId → Bool
is_of p id = id.creator == p

abbrev own : ℕ → List ActionId → List ActionId
own p ids = filter (is_of p) ids

abbrev Follow : ℕ → List ActionId → Type 0
Follow from ids = map (λ id. id.index) ids ≡ count_up from (length ids)

within : (from n k : ℕ) → Contains (count_up from n) k → from ≤ k
within from zero k there = absurd (contains-none k there)
within from (suc n) k there = elim (contains-cases from (count_up (suc from) n) k there) [
  | inl here ↦ omega (arith, here)
  | inr later ↦ let more = within (suc from) n k later in omega (arith, more)
]

own-there : (p : ℕ) (ids : List ActionId) (id : ActionId) → is_of p id ≡ true → Contains ids id → Contains (own p ids) id
own-there p [] id mine there = absurd (contains-none id there)
own-there p (x ∷ ids) id mine there = elim (contains-cases x ids id there) [
  | inl here ↦
      let first : is_of p x ≡ true = subst (λ (z : ActionId). is_of p z ≡ true) (sym here) mine in
      let is : own p (x ∷ ids) ≡ x ∷ own p ids = cond-true (is_of p x) (x ∷ own p ids) (own p ids) first in
      subst (λ (list : List ActionId). Contains list id) (sym is) (subst (Contains (x ∷ own p ids)) here (contains-here x (own p ids)))
  | inr later ↦
      let rest = own-there p ids id mine later in
      elim (cases_Bool (is_of p x)) [
        | inl first ↦ subst (λ (list : List ActionId). Contains list id) (sym (cond-true (is_of p x) (x ∷ own p ids) (own p ids) first)) (contains-later x (own p ids) id rest)
        | inr other ↦ subst (λ (list : List ActionId). Contains list id) (sym (cond-false (is_of p x) (x ∷ own p ids) (own p ids) other)) rest
      ]
]

-- a list that begins with one of the creator's follows as the rest does
own-first : (p : ℕ) (x : ActionId) (ids : List ActionId) → is_of p x ≡ true → own p (x ∷ ids) ≡ x ∷ own p ids
own-first p x ids mine = cond-true (is_of p x) (x ∷ own p ids) (own p ids) mine

own-other : (p : ℕ) (x : ActionId) (ids : List ActionId) → is_of p x ≡ false → own p (x ∷ ids) ≡ own p ids
own-other p x ids other = cond-false (is_of p x) (x ∷ own p ids) (own p ids) other

head-of : List ℕ → ℕ
head-of [] = 0
head-of (n ∷ ns) = n

tail-of : List ℕ → List ℕ
tail-of [] = []
tail-of (n ∷ ns) = ns

first-is : (from : ℕ) (x : ActionId) (ids : List ActionId) → Follow from (x ∷ ids) → x.index ≡ from
unfolding head-of
first-is from x ids follow = ap head-of follow

rest-follows : (from : ℕ) (x : ActionId) (ids : List ActionId) → Follow from (x ∷ ids) → Follow (suc from) ids
unfolding tail-of
rest-follows from x ids follow = ap tail-of follow

pub differ-numbered : (at : ℕ → ℕ) (ids : List ActionId) → ((p : ℕ) → Follow (at p) (own p ids)) → AllDiffer ids
differ-numbered at [] follow = tt
differ-numbered at (x ∷ ids) follow =
    let mine : is_of x.creator x ≡ true = eq-eqb x.creator x.creator refl in
    let here : Follow (at x.creator) (x ∷ own x.creator ids) = subst (Follow (at x.creator)) (own-first x.creator x ids mine) (follow x.creator) in (
      (λ again.
          let there : Contains (own x.creator ids) x = own-there x.creator ids x mine again in
          let index : Contains (map (λ (id : ActionId). id.index) (own x.creator ids)) x.index = contains-map (λ (id : ActionId). id.index) (own x.creator ids) x there in
          let rest : Follow (suc (at x.creator)) (own x.creator ids) = rest-follows (at x.creator) x (own x.creator ids) here in
          let more : suc (at x.creator) ≤ x.index =
          within (suc (at x.creator)) (length (own x.creator ids)) x.index (subst (λ (ns : List ℕ). Contains ns x.index) rest index) in
          let is : x.index ≡ at x.creator = first-is (at x.creator) x (own x.creator ids) here in
          omega (arith, more, is)),
      differ-numbered (λ p. if is_of p x then suc (at p) else at p) ids (λ p. elim (cases_Bool (is_of p x)) [
        | inl first ↦
            subst (λ (n : ℕ). Follow n (own p ids)) (sym (cond-true (is_of p x) (suc (at p)) (at p) first))
            (rest-follows (at p) x (own p ids) (subst (Follow (at p)) (own-first p x ids first) (follow p)))
        | inr other ↦
            subst (λ (n : ℕ). Follow n (own p ids)) (sym (cond-false (is_of p x) (suc (at p)) (at p) other)) (subst (Follow (at p)) (own-other p x ids other) (follow p))
      ]),
    )
