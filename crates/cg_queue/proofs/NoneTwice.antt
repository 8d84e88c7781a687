-- Lists of names in which none stands twice, gone through from the front.
use Rattle.std.proofs.Common.{◌≡◌, ℕ, zero, suc, length, take, drop, slice_index_or, ◌<◌, ◌≤◌, List, [], ◌∷◌, ◌++◌, cond, max, true, false, not, refl, sym, ap, ◌∙◌, subst, arith, inl, inr}
use Rattle.std.proofs.lemmas.Bool.{cases_eq, cases_Bool, eq-eqb, ne_eqb, or_from, and_right}
use Rattle.cg_base.specs.declared.action_id.ActionId.{ActionId}
use Rattle.cg_base.specs.Ids.{same_id, has_name}
use Rattle.cg_base.specs.IdLaws.{same_id-is, same_id-back}
use Rattle.cg_base.specs.Cuts.{index_in, raise}
use Rattle.cg_base.specs.CutLimits.{IsCut}
use Rattle.cg_base.specs.CutLaws.{index_in-raise}
use Rattle.cg_queue.specs.Distinct.{is_distinct}

-- no name is beyond its creator's in the cut
abbrev pub AreBehind : List ActionId → List ActionId → Type 0
AreBehind cut [] = Unit {0}
AreBehind cut (id ∷ ids) = (id.index ≤ index_in cut id.creator) × AreBehind cut ids

index-rises : (cut : List ActionId) (id : ActionId) (p : ℕ) → IsCut cut → index_in cut p ≤ index_in (raise cut id) p
index-rises cut id p is_cut = elim (cases_eq id.creator p) [
  | inl here ↦
      let top : index_in (raise cut id) p ≡ max (index_in cut p) id.index = index_in-raise cut id p is_cut ∙ ap (λ b. cond b (max (index_in cut p) id.index) (index_in cut p)) (eq-eqb id.creator p here) in
      omega arith
  | inr other ↦
      let same : index_in (raise cut id) p ≡ index_in cut p = index_in-raise cut id p is_cut ∙ ap (λ b. cond b (max (index_in cut p) id.index) (index_in cut p)) (ne_eqb id.creator p other) in
      omega arith
]

index-reached : (cut : List ActionId) (id : ActionId) → IsCut cut → id.index ≤ index_in (raise cut id) id.creator
index-reached cut id is_cut =
    let top : index_in (raise cut id) id.creator ≡ max (index_in cut id.creator) id.index =
    index_in-raise cut id id.creator is_cut ∙ ap (λ b. cond b (max (index_in cut id.creator) id.index) (index_in cut id.creator)) (eq-eqb id.creator id.creator refl) in
    omega arith

-- the cut that is raised to a name covers it and those before it
pub behind-next : (cut ids : List ActionId) (id : ActionId) → IsCut cut → AreBehind cut ids → AreBehind (raise cut id) (ids ++ id ∷ [])
behind-next cut [] id is_cut behind = (index-reached cut id is_cut, tt)
behind-next cut (x ∷ ids) id is_cut behind =
    let low : x.index ≤ index_in cut x.creator = behind.0 in
    let more : index_in cut x.creator ≤ index_in (raise cut id) x.creator = index-rises cut id x.creator is_cut in
    (omega arith, behind-next cut ids id is_cut behind.1)

-- a name beyond the cut isn't one of those behind it
pub new-beyond : (cut ids : List ActionId) (id : ActionId) → AreBehind cut ids → index_in cut id.creator < id.index → has_name ids id ≡ false
new-beyond cut [] id behind beyond = refl
new-beyond cut (x ∷ ids) id behind beyond = or_from (same_id id x) (has_name ids id) (elim (cases_Bool (same_id id x)) [
  | inl same ↦ absurd (
      let is : id ≡ x = same_id-is id x same in
      let low : id.index ≤ index_in cut id.creator = subst (λ (y : ActionId). y.index ≤ index_in cut y.creator) (sym is) behind.0 in
      omega arith)
  | inr apart ↦ apart
]) (new-beyond cut ids id behind.1 beyond)

stands-in : (ids rest : List ActionId) (id x : ActionId) → same_id x id ≡ true → has_name (ids ++ id ∷ rest) x ≡ true
stands-in [] rest id x same = rw same refl
stands-in (y ∷ ids) rest id x same = elim (cases_Bool (same_id x y)) [
  | inl here ↦ rw here refl
  | inr other ↦ rw other (stands-in ids rest id x same)
]

-- a name that stands before itself stands twice
pub not_distinct : (ids rest : List ActionId) (id : ActionId) → has_name ids id ≡ true → is_distinct (ids ++ id ∷ rest) ≡ false
not_distinct [] rest id known = absurd (let clash : false ≡ true = known in cc)
not_distinct (x ∷ ids) rest id known = elim (cases_Bool (same_id id x)) [
  | inl here ↦ rw (stands-in ids rest id x (same_id-back id x here)) refl
  | inr other ↦ and_right (not (has_name (ids ++ id ∷ rest) x)) (is_distinct (ids ++ id ∷ rest)) (not_distinct ids rest id (rw other at known))
]

-- the list around the name at an index
pub placed : (i : ℕ) (ids : List ActionId) (id : ActionId) → i < length ids → id ≡ slice_index_or ids i id → take i ids ++ id ∷ drop (suc i) ids ≡ ids
placed i [] id within is = absurd (omega arith)
placed zero (x ∷ ids) id within is = ap (λ y. y ∷ ids) is
placed (suc i) (x ∷ ids) id within is = ap (λ rest. x ∷ rest) (placed i ids id (omega arith) is)

pub taken-next : (i : ℕ) (ids : List ActionId) (id : ActionId) → i < length ids → id ≡ slice_index_or ids i id → take i ids ++ id ∷ [] ≡ take (suc i) ids
taken-next i [] id within is = absurd (omega arith)
taken-next zero (x ∷ ids) id within is = ap (λ y. y ∷ []) is
taken-next (suc i) (x ∷ ids) id within is = ap (λ rest. x ∷ rest) (taken-next i ids id (omega arith) is)
