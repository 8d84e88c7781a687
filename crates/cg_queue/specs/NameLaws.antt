-- What is found by a name has that name.
use Rattle.std.proofs.Common.{◌≡◌, List, [], ◌∷◌, inl, inr, Bool, ap, cond, filter, length, refl, suc, ◌++◌, true, false}
use Rattle.std.specs.Prelude.{find, IfSome}
use Rattle.std.proofs.lemmas.Bool.{cases_Bool}
use Rattle.cg_base.specs.declared.action_id.ActionId.{ActionId}
use Rattle.cg_base.specs.Ids.{same_id}
use Rattle.cg_base.specs.IdLaws.{same_id-is}
use Rattle.cg_action.specs.declared.action.Action.{Action}
use Rattle.cg_queue.specs.Queue.{names_of}

pub found-named : (xs : List Action) (id : ActionId) → IfSome (find (λ a. same_id a.id id) xs) (λ a. a.id ≡ id)
found-named [] id = tt
found-named (x ∷ xs) id = elim (cases_Bool (same_id x.id id)) [
  | inl here ↦ rw here (same_id-is x.id id here)
  | inr other ↦ rw other (found-named xs id)
]

pub names-append : (xs ys : List Action) → names_of (xs ++ ys) ≡ names_of xs ++ names_of ys
names-append [] ys = refl
names-append (x ∷ xs) ys = ap (λ list. x.id ∷ list) (names-append xs ys)

pub names-count : (xs : List Action) → length (names_of xs) ≡ length xs
names-count [] = refl
names-count (x ∷ xs) = ap suc (names-count xs)

pub names-filter : (t : ActionId → Bool) (actions : List Action) → names_of (filter (λ a. t a.id) actions) ≡ filter t (names_of actions)
names-filter t [] = refl
names-filter t (a ∷ actions) = by (t a.id) (filter (λ a. t a.id) actions) (names-filter t actions) where
  by : (b : Bool) (xs : List Action) → names_of xs ≡ filter t (names_of actions) → names_of (cond b (a ∷ xs) xs) ≡ cond b (a.id ∷ filter t (names_of actions)) (filter t (names_of actions))
  by true xs e = ap (λ ids. a.id ∷ ids) e
  by false xs e = e
