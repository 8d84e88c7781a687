-- The names of the reds ascend.
use Rattle.std.proofs.Common.{◌≡◌, ℕ, zero, suc, ◌+◌, ◌<◌, ◌≤◌, List, [], ◌∷◌, ◌++◌, sym, subst, ◌∙◌, arith}
use Rattle.cg_base.specs.declared.action_id.ActionId.{ActionId}
use Rattle.cg_queue.specs.declared.red.Red.{Red}
use Rattle.cg_queue.specs.Queue.{names_of}
use Rattle.cg_queue.specs.Body.{Stretch, actions_in, reds_from}
use Rattle.cg_queue.specs.Shown.{IsAhead, NamesAscend}
use Rattle.cg_base.specs.IdLaws.{before-index, before-creator}
use Rattle.cg_queue.specs.NameLaws.{names-append}

-- the first of the names is of a later creator
abbrev BeginsAbove : ℕ → List ActionId → Type 0
BeginsAbove c [] = Unit {0}
BeginsAbove c (id ∷ ids) = c < id.creator

BeginsAbove-less : (c d : ℕ) (ids : List ActionId) → c ≤ d → BeginsAbove d ids → BeginsAbove c ids
BeginsAbove-less c d [] le above = tt
BeginsAbove-less c d (id ∷ ids) le above = omega (arith, le, above)

-- what stands behind a creator's action: its next one, or one of a later creator
ahead : (c from : ℕ) (id : ActionId) (reds : List Red) (rest : List ActionId) → id.creator ≡ c → id.index < from → Stretch c from reds → BeginsAbove c rest
    → IsAhead id (names_of (actions_in reds) ++ rest)
ahead c from id [] [] own less stretch above = tt
ahead c from id [] (next ∷ rest) own less stretch above = before-creator id next (let e = own in omega (arith, e, above))
ahead c from id (r ∷ reds) rest own less stretch above = before-index id r.action.id (own ∙ sym stretch.0) (let e = stretch.1 in omega (arith, e, less))

stretch-ascends : (c from : ℕ) (reds : List Red) (rest : List ActionId) → Stretch c from reds → BeginsAbove c rest → NamesAscend rest → NamesAscend (names_of (actions_in reds) ++ rest)
stretch-ascends c from [] rest stretch above ascend = ascend
stretch-ascends c from (r ∷ reds) rest stretch above ascend =
    (ahead c (suc from) r.action.id reds rest stretch.0 (let e = stretch.1 in omega (arith, e)) stretch.2 above, stretch-ascends c (suc from) reds rest stretch.2 above ascend)

begins : (first from : ℕ) (reds : List Red) (rest : List ActionId) → Stretch (suc first) from reds → BeginsAbove (suc first) rest → BeginsAbove first (names_of (actions_in reds) ++ rest)
begins first from [] rest stretch above = BeginsAbove-less first (suc first) rest (omega arith) above
begins first from (r ∷ reds) rest stretch above = let e = stretch.0 in omega (arith, e)

-- the rows one behind the other
module _ (lanes : ℕ → List Red) (low : ℕ → ℕ) (stretches : (slot : ℕ) → slot < 32 → Stretch (suc slot) (low slot) (lanes slot)) where
  pub rows-ascend : (count first : ℕ) → first + count ≤ 32 → NamesAscend (names_of (reds_from lanes count first)) × BeginsAbove first (names_of (reds_from lanes count first))
  unfolding reds_from
  rows-ascend zero first few = (tt, tt)
  rows-ascend (suc count) first few =
      let rest = rows-ascend count (suc first) (omega arith) in
      let stretch = stretches first (omega arith) in
      let names = names_of (reds_from lanes count (suc first)) in
      let split : names_of (actions_in (lanes first)) ++ names ≡ names_of (reds_from lanes (suc count) first) = sym (names-append (actions_in (lanes first)) (reds_from lanes count (suc first))) in (
        subst NamesAscend split (stretch-ascends (suc first) (low first) (lanes first) names stretch rest.1 rest.0),
        subst (BeginsAbove first) split (begins first (low first) (lanes first) names stretch rest.1),
      )
