-- The names of a creator's reds lie between the cuts, and the flags say which of them are yellow.
use Rattle.std.proofs.Common.{◌≡◌, ℕ, zero, suc, ◌+◌, ◌-◌, ◌<◌, ◌≤◌, List, [], ◌∷◌, ◌++◌, length, drop, filter, map, Bool, not, true, false, refl, sym, ap, ◌∙◌, arith, append_assoc}
use Rattle.std.specs.Prelude.{slice_get}
use Rattle.std.proofs.lemmas.List.{map-append}
use Rattle.cg_base.specs.declared.action_id.ActionId.{ActionId}
use Rattle.cg_base.specs.Ids.{has_name}
use Rattle.cg_base.specs.IdLaws.{same_name}
use Rattle.cg_base.specs.Lists.{count_up}
use Rattle.cg_base.specs.Cuts.{index_in}
use Rattle.cg_base.specs.IdRuns.{names_above}
use Rattle.cg_action.specs.declared.action.Action.{Action}
use Rattle.cg_queue.specs.declared.red.Red.{Red}
use Rattle.cg_queue.specs.Queue.{names_of}
use Rattle.cg_queue.specs.Body.{Parts, seen, Stretch, Flagged, IsLane, actions_in, reds_from, flag_of, unless}
use Rattle.cg_queue.proofs.FlagLemmas.{Flagged-above}
use Rattle.cg_queue.proofs.Soundness.{drop-end, reds-step}
use Rattle.std.proofs.lemmas.List.Elements.{filter-append}

-- those of the names that aren't yellow
abbrev pub plain : List ActionId → List ActionId → List ActionId
plain yellow ids = filter (λ id. not (has_name yellow id)) ids

-- ---- no name is yellow

plain-all : (ids : List ActionId) → plain [] ids ≡ ids
plain-all [] = refl
plain-all (id ∷ ids) = ap (λ xs. id ∷ xs) (plain-all ids)

stretch-names : (creator from : ℕ) (reds : List Red) → Stretch creator from reds → names_of (actions_in reds) ≡ map (λ n. record { creator = creator; index = n }) (count_up from (length reds))
stretch-names creator from [] stretch = refl
stretch-names creator from (r ∷ reds) stretch =
    ap (λ id. id ∷ names_of (actions_in reds)) (same_name r.action.id (record { creator = creator; index = from }) stretch.0 stretch.1)
    ∙ ap (λ (ids : List ActionId). record { creator = creator; index = from } ∷ ids) (stretch-names creator (suc from) reds stretch.2)

-- they are those between the two cuts
pub lane-names : (b : Parts) (slot low high : ℕ) → IsLane b slot → low ≡ index_in b.green_cut (suc slot) → high ≡ index_in b.red_cut (suc slot) → b.yellow ≡ []
    → names_above low high (suc slot) ≡ plain (seen b).yellow (names_of (actions_in (b.reds slot)))
lane-names b slot low high lane is_low is_high none =
    let last = lane.last in
    let count : high - low ≡ length (b.reds slot) = omega arith in
    ap (λ n. map (λ k. record { creator = suc slot; index = k }) (count_up (suc low) n)) count
    ∙ ap (λ n. map (λ k. record { creator = suc slot; index = k }) (count_up (suc n) (length (b.reds slot)))) is_low
    ∙ sym (stretch-names (suc slot) (suc (index_in b.green_cut (suc slot))) (b.reds slot) lane.reds)
    ∙ sym (plain-all (names_of (actions_in (b.reds slot))))
    ∙ ap (λ yellow. plain (seen (record b { yellow = yellow })).yellow (names_of (actions_in (b.reds slot)))) (sym none)

-- ---- the slots behind the used ones

pub reds-none : (lanes : ℕ → List Red) (count slot : ℕ) → ((k : ℕ) → slot ≤ k → k < slot + count → lanes k ≡ []) → reds_from lanes count slot ≡ []
unfolding reds_from
reds-none lanes zero slot none = refl
reds-none lanes (suc count) slot none =
    ap (λ row. actions_in row ++ reds_from lanes count (suc slot)) (none slot (omega arith) (omega arith))
    ∙ reds-none lanes count (suc slot) (λ k le lt. none k (omega (arith, le)) (omega (arith, lt)))

-- ---- some are

plain-first : (yellow : List ActionId) (id : ActionId) (ids : List ActionId) (flag : Bool) → flag ≡ has_name yellow id → plain yellow (id ∷ ids) ≡ unless flag id ++ plain yellow ids
plain-first yellow id ids true is = rw (← is)
plain-first yellow id ids false is = rw (← is)

plain-next : (yellow : List ActionId) (creator from : ℕ) (reds : List Red) (i : ℕ) (id : ActionId) → Stretch creator from reds → Flagged yellow reds → i < length reds → id.creator ≡ creator → id.index ≡ from + i
    → plain yellow (names_of (actions_in (drop i reds))) ≡ unless (flag_of (slice_get reds i)) id ++ plain yellow (names_of (actions_in (drop (suc i) reds)))
plain-next yellow creator from [] i id stretch flags lt c index = absurd (omega arith)
plain-next yellow creator from (r ∷ reds) zero id stretch flags lt c index =
    let own : id ≡ r.action.id = let e : id.index ≡ r.action.id.index = omega (arith, stretch.1) in λ k. record { creator = (c ∙ sym stretch.0) k; index = e k } in
    plain-first yellow r.action.id (names_of (actions_in reds)) r.is_yellow flags.0
    ∙ ap (λ x. unless r.is_yellow x ++ plain yellow (names_of (actions_in reds))) (sym own)
plain-next yellow creator from (r ∷ reds) (suc i) id stretch flags lt c index = plain-next yellow creator (suc from) reds i id stretch.2 flags.1 (omega arith) c (omega arith)

module _ (b : Parts) (slot low high : ℕ) (lane : IsLane b slot) (is_low : low ≡ index_in b.green_cut (suc slot)) (is_high : high ≡ index_in b.red_cut (suc slot)) where
  flags-seen : Flagged (seen b).yellow (b.reds slot)
  flags-seen = Flagged-above b.green_cut b.yellow (suc slot) (suc (index_in b.green_cut (suc slot))) (b.reds slot) (omega arith) lane.reds lane.flags

  -- one name more is listed, or passed over
  pub plain-listed : (index i : ℕ) (id : ActionId) (before now : List ActionId) → low ≤ index → index < high → i ≡ index - low → id.creator ≡ suc slot → id.index ≡ index + 1
      → now ≡ before ++ unless (flag_of (slice_get (b.reds slot) i)) id
      → now ++ plain (seen b).yellow (names_of (actions_in (drop (index + 1 - low) (b.reds slot)))) ≡ before ++ plain (seen b).yellow (names_of (actions_in (drop (index - low) (b.reds slot))))
  plain-listed index i id before now le lt at creator is_index put =
      let last = lane.last in
      let yellow = (seen b).yellow in
      let within : i < length (b.reds slot) = omega arith in
      let number : id.index ≡ suc (index_in b.green_cut (suc slot)) + i = omega arith in
      let next : index + 1 - low ≡ suc i = omega arith in
      let rest = plain yellow (names_of (actions_in (drop (suc i) (b.reds slot)))) in
      ap (λ n. now ++ plain yellow (names_of (actions_in (drop n (b.reds slot))))) next
      ∙ ap (λ ids. ids ++ rest) put
      ∙ append_assoc before (unless (flag_of (slice_get (b.reds slot) i)) id) rest
      ∙ ap (λ ids. before ++ ids) (sym (plain-next yellow (suc slot) (suc (index_in b.green_cut (suc slot))) (b.reds slot) i id lane.reds flags-seen within creator number))
      ∙ ap (λ n. before ++ plain yellow (names_of (actions_in (drop n (b.reds slot))))) at

  pub plain-begins : plain (seen b).yellow (names_of (actions_in (drop (low - low) (b.reds slot)))) ≡ plain (seen b).yellow (names_of (actions_in (b.reds slot)))
  plain-begins = let none : low - low ≡ 0 = omega arith in ap (λ n. plain (seen b).yellow (names_of (actions_in (drop n (b.reds slot))))) none

  pub plain-ends : (index : ℕ) → high ≤ index → plain (seen b).yellow (names_of (actions_in (drop (index - low) (b.reds slot)))) ≡ []
  plain-ends index le =
      let last = lane.last in
      let behind : length (b.reds slot) ≤ index - low = omega arith in
      ap (λ (reds : List Red). plain (seen b).yellow (names_of (actions_in reds))) (drop-end (b.reds slot) (index - low) behind)

-- ---- all rows

pub plain-step : (yellow : List ActionId) (lanes : ℕ → List Red) (slot : ℕ) → slot < 32
    → plain yellow (names_of (reds_from lanes (32 - slot) slot)) ≡ plain yellow (names_of (actions_in (lanes slot))) ++ plain yellow (names_of (reds_from lanes (32 - suc slot) (suc slot)))
plain-step yellow lanes slot lt =
    let name : Action → ActionId = λ a. a.id in
    let rest = reds_from lanes (32 - suc slot) (suc slot) in
    ap (λ xs. plain yellow (names_of xs)) (reds-step lanes slot lt)
    ∙ ap (plain yellow) (map-append name (actions_in (lanes slot)) rest)
    ∙ filter-append (λ id. not (has_name yellow id)) (names_of (actions_in (lanes slot))) (names_of rest)
