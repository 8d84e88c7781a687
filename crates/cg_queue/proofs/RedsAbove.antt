-- The reds of a creator above an index are the end of its row.
use Rattle.std.proofs.Common.{◌≡◌, ℕ, zero, suc, ◌+◌, ◌-◌, ◌<◌, ◌≤◌, ◌≢◌, List, [], ◌∷◌, ◌++◌, drop, filter, Bool, refl, sym, ap, ◌∙◌, arith, inl, inr}
use Rattle.std.specs.Prelude.{◌==◌, ◌&&◌, nat_lt}
use Rattle.std.proofs.lemmas.Bool.{cases_eq, eq-eqb, ne_eqb, lt-ltb, le-ltb}
use Rattle.cg_base.specs.Sets.{IsId}
use Rattle.cg_base.specs.Cuts.{index_in}
use Rattle.cg_action.specs.declared.action.Action.{Action}
use Rattle.cg_queue.specs.declared.red.Red.{Red}
use Rattle.cg_queue.specs.Body.{Parts, Stretch, IsSound, actions_in, reds_from, all_reds}
use Rattle.cg_queue.proofs.RowLemmas.{append-nothing}
use Rattle.cg_queue.proofs.Soundness.{low_of, stretches_of}
use Rattle.std.proofs.lemmas.List.Elements.{filter-append}

abbrev pub is_behind : ℕ → ℕ → Action → Bool
is_behind creator index a = (a.id.creator == creator) && nat_lt index a.id.index

-- ---- one row

row-others : (creator index c from : ℕ) (reds : List Red) → Stretch c from reds → c ≢ creator → filter (is_behind creator index) (actions_in reds) ≡ []
row-others creator index c from [] stretch apart = refl
row-others creator index c from (r ∷ reds) stretch apart =
    rw (ne_eqb r.action.id.creator creator (λ e. apart (sym stretch.0 ∙ e))) (row-others creator index c (suc from) reds stretch.2 apart)

row-all : (creator index from : ℕ) (reds : List Red) → Stretch creator from reds → index < from → filter (is_behind creator index) (actions_in reds) ≡ actions_in reds
row-all creator index from [] stretch lt = refl
row-all creator index from (r ∷ reds) stretch lt =
    let own : r.action.id.index ≡ from = stretch.1 in
    rw (eq-eqb r.action.id.creator creator stretch.0, lt-ltb index r.action.id.index (omega arith))
    (ap (λ xs. r.action ∷ xs) (row-all creator index (suc from) reds stretch.2 (omega arith)))

row-own : (creator index from i : ℕ) (reds : List Red) → Stretch creator from reds → i ≡ suc index - from → filter (is_behind creator index) (actions_in reds) ≡ actions_in (drop i reds)
row-own creator index from zero reds stretch at = row-all creator index from reds stretch (omega arith)
row-own creator index from (suc i) [] stretch at = refl
row-own creator index from (suc i) (r ∷ reds) stretch at =
    let own : r.action.id.index ≡ from = stretch.1 in
    rw (eq-eqb r.action.id.creator creator stretch.0, le-ltb index r.action.id.index (omega arith)) (row-own creator index (suc from) i reds stretch.2 (omega arith))

-- ---- all rows

module _ (lanes : ℕ → List Red) (low : ℕ → ℕ) (stretches : (k : ℕ) → k < 32 → Stretch (suc k) (low k) (lanes k)) (creator index : ℕ) where
  rows-others : (count first : ℕ) → first + count ≤ 32 → creator ≤ first → filter (is_behind creator index) (reds_from lanes count first) ≡ []
  unfolding reds_from
  rows-others zero first within le = refl
  rows-others (suc count) first within le =
      filter-append (is_behind creator index) (actions_in (lanes first)) (reds_from lanes count (suc first))
      ∙ ap (λ xs. xs ++ filter (is_behind creator index) (reds_from lanes count (suc first))) (row-others creator index (suc first) (low first) (lanes first) (stretches first (omega arith)) (λ e. omega arith))
      ∙ rows-others count (suc first) (omega arith) (omega arith)

  rows-above : (count first slot i : ℕ) → first + count ≤ 32 → first ≤ slot → slot < first + count → suc slot ≡ creator → i ≡ suc index - low slot
      → filter (is_behind creator index) (reds_from lanes count first) ≡ actions_in (drop i (lanes slot))
  unfolding reds_from
  rows-above zero first slot i within le lt own at = absurd (omega arith)
  rows-above (suc count) first slot i within le lt own at =
      let test = is_behind creator index in
      let rest = reds_from lanes count (suc first) in
      filter-append test (actions_in (lanes first)) rest ∙ elim (cases_eq first slot) [
        | inl same ↦
            let stretch : Stretch creator (low slot) (lanes slot) = rw (← own) (stretches slot (omega arith)) in
            ap (λ k. filter test (actions_in (lanes k)) ++ filter test rest) same
            ∙ ap (λ xs. xs ++ filter test rest) (row-own creator index (low slot) i (lanes slot) stretch at)
            ∙ ap (λ xs. actions_in (drop i (lanes slot)) ++ xs) (rows-others count (suc first) (omega arith) (omega arith))
            ∙ append-nothing (actions_in (drop i (lanes slot)))
        | inr apart ↦
            ap (λ xs. xs ++ filter test rest) (row-others creator index (suc first) (low first) (lanes first) (stretches first (omega arith)) (λ e. apart (omega arith)))
            ∙ rows-above count (suc first) slot i (omega arith) (omega arith) (omega arith) own at
      ]

pub reds-above : (b : Parts) (creator index : ℕ) → IsSound b → IsId creator
    → filter (is_behind creator index) (all_reds b.reds) ≡ actions_in (drop (index - index_in b.green_cut creator) (b.reds (creator - 1)))
unfolding all_reds
reds-above b creator index sound is_id =
    let low : 1 ≤ creator = is_id.0 in
    let high : creator ≤ 32 = is_id.1 in
    let own : suc (creator - 1) ≡ creator = omega arith in
    let green : index_in b.green_cut (suc (creator - 1)) ≡ index_in b.green_cut creator = ap (index_in b.green_cut) own in
    rows-above b.reds (low_of b) (stretches_of b sound) creator index 32 0 (creator - 1) (index - index_in b.green_cut creator) (omega arith) (omega arith) (omega arith) own (omega arith)
