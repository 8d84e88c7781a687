-- A name that stands once in a list has the place at which it is found.
use Rattle.std.proofs.Common.{◌≡◌, ℕ, zero, suc, ◌≤◌, ◌<◌, true, List, [], ◌∷◌, length, slice_index_or, sym, ap, ◌∙◌, subst, arith, inl, inr}
use Rattle.std.proofs.lemmas.Bool.{cases_Bool, cond-true, cond-false}
use Rattle.cg_base.specs.declared.action_id.ActionId.{ActionId}
use Rattle.cg_base.specs.Ids.{same_id}
use Rattle.cg_base.specs.IdLaws.{same_id-is, same_id-self}
use Rattle.cg_disk_records.specs.Holds.{run_on}
use Rattle.cg_model.specs.Places.{place_of}
use Rattle.cg_agree_lemmas.specs.NamesTimes.{times-once, in-times}
use Rattle.cg_agree_lemmas.specs.RepliesPlaced.{IsIn, times}

-- the element at an index
at-index : (ids : List ActionId) (k : ℕ) (id : ActionId) → k < length ids → slice_index_or ids k id ≡ id → IsIn ids id
at-index [] k id less is = absurd (omega arith)
at-index (y ∷ ids) zero id less is = inl is
at-index (y ∷ ids) (suc k) id less is = inr (at-index ids k id (omega arith) is)

-- a name that stands once in a list has the place at which it is found
pub place-is : (ids : List ActionId) (k : ℕ) (id : ActionId) → times id ids ≤ 1 → k < length ids → slice_index_or ids k id ≡ id → place_of ids id ≡ suc k
place-is [] k id once less is = absurd (omega arith)
place-is (x ∷ ids) zero id once less is =
    cond-true (same_id x id) 1 (suc (place_of ids id)) (subst (λ y. same_id y id ≡ true) (sym is) (same_id-self id))
place-is (x ∷ ids) (suc k) id once less is = elim (cases_Bool (same_id x id)) [
  | inl here ↦
      let later = in-times id ids (at-index ids k id (omega arith) is) in
      let twice : times id (x ∷ ids) ≡ suc (times id ids) = cond-true (same_id x id) (suc (times id ids)) (times id ids) here in
      absurd (omega arith)
  | inr other ↦
      let fewer : times id (x ∷ ids) ≡ times id ids = cond-false (same_id x id) (suc (times id ids)) (times id ids) other in
      cond-false (same_id x id) 1 (suc (place_of ids id)) other ∙ ap suc (place-is ids k id (omega arith) (omega arith) is)
]

-- so it is among names each of which is the next of its creator
pub place-found : (ids : List ActionId) (k : ℕ) (got id : ActionId) → run_on [] ids ≡ true → k < length ids → got ≡ slice_index_or ids k got → same_id got id ≡ true → place_of ids id ≡ suc k
place-found ids k got id run less is same =
    let one = same_id-is got id same in
    subst (λ x. place_of ids x ≡ suc k) one (place-is ids k got (times-once [] ids got tt run) less (sym is))
