-- Flags that say which red actions are yellow.
use Rattle.std.proofs.Common.{◌≡◌, ℕ, zero, suc, ◌+◌, ◌<◌, ◌≤◌, ◌≢◌, ◌⊎◌, ◌||◌, List, [], ◌∷◌, ◌++◌, length, drop, filter, true, false, sym, ap, ◌∙◌, arith, inl, inr}
use Rattle.std.proofs.lemmas.Bool.{cases_Bool}
use Rattle.cg_base.specs.declared.action_id.ActionId.{ActionId}
use Rattle.cg_base.specs.Ids.{has_name}
use Rattle.cg_base.specs.Cuts.{index_in}
use Rattle.cg_queue.specs.declared.red.Red.{Red}
use Rattle.cg_queue.specs.Lanes.{marked_at}
use Rattle.cg_queue.specs.Body.{Stretch, Flagged, is_above}
use Rattle.cg_queue.proofs.CutRises.{names-other, names-last, names-above}
use Rattle.cg_queue.specs.MarkLaws.{is_above-true}
use Rattle.cg_base.specs.IdLaws.{same_id-false}

-- the name is that of none of the actions
abbrev pub IsOutside : ActionId → ℕ → ℕ → ℕ → Type 0
IsOutside id c from count = (c ≢ id.creator) ⊎ ((id.index < from) ⊎ (from + count ≤ id.index))

outside-rest : (id : ActionId) (c from count : ℕ) → IsOutside id c from (suc count) → IsOutside id c (suc from) count
outside-rest id c from count (inl apart) = inl apart
outside-rest id c from count (inr (inl before)) = inr (inl (omega arith))
outside-rest id c from count (inr (inr behind)) = inr (inr (omega arith))

outside-first : (id x : ActionId) (c from count : ℕ) → IsOutside id c from (suc count) → x.creator ≡ c → x.index ≡ from → (x.creator ≢ id.creator) ⊎ (x.index ≢ id.index)
outside-first id x c from count (inl apart) creator index = inl (λ e. apart (sym creator ∙ e))
outside-first id x c from count (inr (inl before)) creator index = inr (λ e. omega arith)
outside-first id x c from count (inr (inr behind)) creator index = inr (λ e. omega arith)

-- ---- a name more

pub Flagged-others : (yellow : List ActionId) (id : ActionId) (c from : ℕ) (reds : List Red) → Stretch c from reds → IsOutside id c from (length reds) → Flagged yellow reds → Flagged (yellow ++ id ∷ []) reds
Flagged-others yellow id c from [] stretch outside flags = tt
Flagged-others yellow id c from (r ∷ reds) stretch outside flags = (
  flags.0 ∙ names-other yellow id r.action.id (outside-first id r.action.id c from (length reds) outside stretch.0 stretch.1),
  Flagged-others yellow id c (suc from) reds stretch.2 (outside-rest id c from (length reds) outside) flags.1,
)

pub Flagged-marked : (yellow : List ActionId) (id : ActionId) (c from : ℕ) (reds : List Red) (i : ℕ) → Stretch c from reds → i < length reds → id.creator ≡ c → id.index ≡ from + i → Flagged yellow reds
    → Flagged (yellow ++ id ∷ []) (marked_at reds i true)
Flagged-marked yellow id c from [] i stretch lt creator index flags = absurd (omega arith)
Flagged-marked yellow id c from (r ∷ reds) zero stretch lt creator index flags =
    let here : id.index ≡ from = omega arith in (
      names-last yellow id r.action.id (stretch.0 ∙ sym creator) (stretch.1 ∙ sym here),
      Flagged-others yellow id c (suc from) reds stretch.2 (inr (inl (omega arith))) flags.1,
    )
Flagged-marked yellow id c from (r ∷ reds) (suc i) stretch lt creator index flags = (
  flags.0 ∙ names-other yellow id r.action.id (inr (λ e. let own : r.action.id.index ≡ from = stretch.1 in omega arith)),
  Flagged-marked yellow id c (suc from) reds i stretch.2 (omega arith) creator (omega arith) flags.1,
)

-- ---- an action more or less

pub Flagged-append : (yellow : List ActionId) (reds : List Red) (r : Red) → Flagged yellow reds → r.is_yellow ≡ has_name yellow r.action.id → Flagged yellow (reds ++ r ∷ [])
Flagged-append yellow [] r flags own = (own, tt)
Flagged-append yellow (x ∷ reds) r flags own = (flags.0, Flagged-append yellow reds r flags.1 own)

pub Flagged-less : (yellow : List ActionId) (reds : List Red) → Flagged yellow reds → Flagged yellow (drop 1 reds)
Flagged-less yellow [] flags = tt
Flagged-less yellow (r ∷ reds) flags = flags.1

-- names that are no longer red may go
pub Flagged-above : (cut yellow : List ActionId) (c from : ℕ) (reds : List Red) → index_in cut c < from → Stretch c from reds → Flagged yellow reds → Flagged (filter (is_above cut) yellow) reds
Flagged-above cut yellow c from [] above stretch flags = tt
Flagged-above cut yellow c from (r ∷ reds) above stretch flags =
    let creator : r.action.id.creator ≡ c = stretch.0 in
    let index : r.action.id.index ≡ from = stretch.1 in
    let cut_there : index_in cut r.action.id.creator ≡ index_in cut c = ap (index_in cut) creator in
    let here : is_above cut r.action.id ≡ true = is_above-true cut r.action.id (omega arith) in
    (flags.0 ∙ sym (names-above cut yellow r.action.id here), Flagged-above cut yellow c (suc from) reds (omega arith) stretch.2 flags.1)

-- ---- flags that are taken off

-- each action with a flag is one of the list
abbrev pub OnlyFlagged : List ActionId → List Red → Type 0
OnlyFlagged yellow [] = Unit {0}
OnlyFlagged yellow (r ∷ reds) = (r.is_yellow ≡ true → has_name yellow r.action.id ≡ true) × OnlyFlagged yellow reds

pub OnlyFlagged-from : (yellow : List ActionId) (reds : List Red) → Flagged yellow reds → OnlyFlagged yellow reds
OnlyFlagged-from yellow [] flags = tt
OnlyFlagged-from yellow (r ∷ reds) flags = ((λ on. sym (flags.0) ∙ on), OnlyFlagged-from yellow reds flags.1)

rest_of : (yellow : List ActionId) (id x : ActionId) → (x.creator ≢ id.creator) ⊎ (x.index ≢ id.index) → has_name (id ∷ yellow) x ≡ true → has_name yellow x ≡ true
rest_of yellow id x apart there = let e : has_name (id ∷ yellow) x ≡ has_name yellow x = ap (λ b. b || has_name yellow x) (same_id-false x id apart) in sym e ∙ there

pub OnlyFlagged-others : (yellow : List ActionId) (id : ActionId) (c from : ℕ) (reds : List Red) → Stretch c from reds → IsOutside id c from (length reds) → OnlyFlagged (id ∷ yellow) reds → OnlyFlagged yellow reds
OnlyFlagged-others yellow id c from [] stretch outside only = tt
OnlyFlagged-others yellow id c from (r ∷ reds) stretch outside only = (
  (λ on. rest_of yellow id r.action.id (outside-first id r.action.id c from (length reds) outside stretch.0 stretch.1) (only.0 on)),
  OnlyFlagged-others yellow id c (suc from) reds stretch.2 (outside-rest id c from (length reds) outside) only.1,
)

never : false ≡ true → ⊥
never e = cc

pub OnlyFlagged-unmarked : (yellow : List ActionId) (id : ActionId) (c from : ℕ) (reds : List Red) (i : ℕ) → Stretch c from reds → id.index ≡ from + i → OnlyFlagged (id ∷ yellow) reds → OnlyFlagged yellow (marked_at reds i false)
OnlyFlagged-unmarked yellow id c from [] i stretch index only = tt
OnlyFlagged-unmarked yellow id c from (r ∷ reds) zero stretch index only = (
  (λ on. absurd (never on)),
  OnlyFlagged-others yellow id c (suc from) reds stretch.2 (inr (inl (omega arith))) only.1,
)
OnlyFlagged-unmarked yellow id c from (r ∷ reds) (suc i) stretch index only = (
  (λ on. rest_of yellow id r.action.id (inr (λ e. let own : r.action.id.index ≡ from = stretch.1 in omega arith)) (only.0 on)),
  OnlyFlagged-unmarked yellow id c (suc from) reds i stretch.2 (omega arith) only.1,
)

-- without a name no flag is left
pub Flagged-none : (reds : List Red) → OnlyFlagged [] reds → Flagged [] reds
Flagged-none [] only = tt
Flagged-none (r ∷ reds) only = (
  elim (cases_Bool r.is_yellow) [
    | inl on ↦ absurd (never (only.0 on))
    | inr off ↦ off
  ],
  Flagged-none reds only.1,
)
