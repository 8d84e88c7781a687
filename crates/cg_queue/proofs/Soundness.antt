-- What is always so of a body stays so, and what is seen of it after each step.
use Rattle.std.proofs.Common.{◌≡◌, ℕ, zero, suc, ◌+◌, ◌-◌, ◌^◌, ◌<◌, ◌≤◌, ◌≢◌, List, [], ◌∷◌, ◌++◌, length, drop, filter, max, Bool, not, true, false, Some, None, refl, sym, ap, subst, ◌∙◌, arith, inl, inr}
use Rattle.std.specs.Prelude.{slice_get, Result, Ok, Err, OnOk}
use Rattle.std.proofs.lemmas.Bool.{cases_eq, eq-eqb, ne_eqb}
use Rattle.cg_base.specs.declared.action_id.ActionId.{ActionId}
use Rattle.cg_base.specs.Ids.{same_id, has_name}
use Rattle.cg_base.specs.Sets.{IsId}
use Rattle.cg_base.specs.Cuts.{index_in, raise}
use Rattle.cg_base.specs.CutLimits.{IsCut}
use Rattle.cg_base.specs.CutLaws.{IsCut-raise}
use Rattle.cg_action.specs.declared.action.Action.{Action}
use Rattle.cg_queue.specs.declared.red.Red.{Red}
use Rattle.cg_queue.specs.Lanes.{with_lane, marked_at}
use Rattle.cg_queue.specs.Queue.{with_yellow, placed_red, placed_green, with_red, without_action, discarded, resumed}
use Rattle.cg_queue.specs.Body.{Parts, seen, all_reds, reds_from, no_parts, BeginsWell, actions_in, is_above, flag_of, Stretch, Follows, positions_of, Flagged, IsLane, IsSound, lane_of, added_red, with_name, flagged, added_green, cleared, dropped, dropped_from}
use Rattle.cg_queue.specs.DistinctLaws.{distinct-behind, distinct-kept}
use Rattle.cg_queue.specs.MarkLaws.{yellow-added, is_above-true}
use Rattle.cg_queue.proofs.RowLemmas.{with_lane-same, with_lane-other, same_lanes, filter-more, filter-twice}
use Rattle.cg_queue.proofs.CutRises.{raise-same, raise-other, raise-rises, AreKnown-rise, AreKnown-more, AreKnown-filter, names-unknown, names-above, above-raised}
use Rattle.cg_queue.proofs.StretchLemmas.{Stretch-more, Stretch-less, Stretch-marked, length-marked, actions_in-marked, marked-last, length-less, Follows-more, Follows-others, positions_of-more, positions_of-others}
use Rattle.cg_queue.proofs.FlagLemmas.{Flagged-others, Flagged-marked, Flagged-append, Flagged-less, Flagged-above}
use Rattle.cg_queue.proofs.RedLemmas.{all_reds-added, all_reds-dropped, all_reds-same}
use Rattle.cg_base.specs.ListLaws.{length-more}

-- the index at which a row of reds begins
abbrev pub low_of : Parts → ℕ → ℕ
low_of b k = suc (index_in b.green_cut (suc k))

pub stretches_of : (b : Parts) → IsSound b → (k : ℕ) → k < 32 → Stretch (suc k) (low_of b k) (b.reds k)
stretches_of b sound k lt = (sound.lanes k lt).reds

-- a creator's row
pub record HasLane (id : ActionId) : Type 0 where
  pub within : lane_of id < 32
  pub creator : suc (lane_of id) ≡ id.creator

pub has_lane : (id : ActionId) → IsId id.creator → HasLane id
has_lane id is_id =
    let low : 1 ≤ id.creator = is_id.0 in
    let high : id.creator ≤ 32 = is_id.1 in
    record { within = omega arith; creator = omega arith }

-- ---- an action becomes red

module _ (b : Parts) (a : Action) (sound : IsSound b) (is_id : IsId a.id.creator) (small : a.id.index < 2 ^ 64) (next : a.id.index ≡ suc (index_in b.red_cut a.id.creator)) where
  red-lane : (k : ℕ) → k < 32 → IsLane (added_red b a false) k
  red-lane k lt =
      let lane = sound.lanes k lt in
      let own = has_lane a.id is_id in
      let slot = lane_of a.id in
      let row = b.reds slot ++ record { action = a; is_yellow = false } ∷ [] in
      elim (cases_eq k slot) [
        | inl same ↦
            let is_creator : suc k ≡ a.id.creator = ap suc same ∙ own.creator in
            let there : with_lane b.reds slot row k ≡ b.reds k ++ record { action = a; is_yellow = false } ∷ [] =
            with_lane-same b.reds slot row k same ∙ ap (λ j. b.reds j ++ record { action = a; is_yellow = false } ∷ []) (sym same) in
            let last = lane.last in
            let index : a.id.index ≡ suc (index_in b.red_cut (suc k)) = next ∙ ap (λ c. suc (index_in b.red_cut c)) (sym is_creator) in
            let top : index_in (raise b.red_cut a.id) (suc k) ≡ max (index_in b.red_cut (suc k)) a.id.index = raise-same b.red_cut a.id sound.red (suc k) (sym is_creator) in
            let long = length-more (b.reds k) (record { action = a; is_yellow = false }) in
            let unknown : has_name b.yellow a.id ≡ false = names-unknown b.red_cut b.yellow a.id sound.yellow (omega arith) in
            record {
              first = lane.first;
              greens = lane.greens;
              positions = lane.positions;
              reds = rw there (Stretch-more (suc k) (low_of b k) (b.reds k) (record { action = a; is_yellow = false }) lane.reds (sym is_creator) (omega arith));
              last = rw (there, long, top) (omega arith);
              flags = rw there (Flagged-append b.yellow (b.reds k) (record { action = a; is_yellow = false }) lane.flags (sym unknown));
            }
        | inr apart ↦
            let there : with_lane b.reds slot row k ≡ b.reds k = with_lane-other b.reds slot row k apart in
            let top : index_in (raise b.red_cut a.id) (suc k) ≡ index_in b.red_cut (suc k) = raise-other b.red_cut a.id sound.red (suc k) (λ e. apart (omega (arith, own.creator, e))) in
            record {
              first = lane.first;
              greens = lane.greens;
              positions = lane.positions;
              reds = rw there lane.reds;
              last = rw (there, top) lane.last;
              flags = rw there lane.flags;
            }
      ]

  pub red-sound : IsSound (added_red b a false)
  red-sound = record {
    green = sound.green;
    red = IsCut-raise b.red_cut a.id is_id small sound.red;
    count = sound.count;
    lanes = red-lane;
    yellow = AreKnown-rise b.red_cut (raise b.red_cut a.id) b.yellow (raise-rises b.red_cut a.id sound.red) sound.yellow;
    distinct = sound.distinct;
  }

  -- the row's next index
  red-index : a.id.index ≡ low_of b (lane_of a.id) + length (b.reds (lane_of a.id))
  red-index =
      let own = has_lane a.id is_id in
      let lane = sound.lanes (lane_of a.id) own.within in
      let last = lane.last in
      let index : a.id.index ≡ suc (index_in b.red_cut (suc (lane_of a.id))) = next ∙ ap (λ c. suc (index_in b.red_cut c)) (sym own.creator) in
      omega arith

  pub red-seen : (flag : Bool) → all_reds ((added_red b a flag).reds) ≡ with_red (all_reds b.reds) a
  red-seen flag =
      let own = has_lane a.id is_id in
      all_reds-added b.reds (low_of b) (stretches_of b sound) (lane_of a.id) (record { action = a; is_yellow = flag }) own.within (sym own.creator) red-index

  pub red-view : seen (added_red b a false) ≡ placed_red (seen b) a
  red-view = rw (red-seen false)

-- ---- a red action becomes yellow

module _ (b : Parts) (id : ActionId) (sound : IsSound b) (slot i : ℕ) (within : slot < 32) (creator : id.creator ≡ suc slot) (index : id.index ≡ low_of b slot + i) (there : i < length (b.reds slot)) where
  yellow-lane : (k : ℕ) → k < 32 → IsLane (flagged (with_name b id) slot i) k
  yellow-lane k lt =
      let lane = sound.lanes k lt in
      elim (cases_eq k slot) [
        | inl same ↦
            let row : with_lane b.reds slot (marked_at (b.reds slot) i true) k ≡ marked_at (b.reds k) i true =
            with_lane-same b.reds slot (marked_at (b.reds slot) i true) k same ∙ ap (λ j. marked_at (b.reds j) i true) (sym same) in
            let last = lane.last in
            let long = length-marked (b.reds k) i true in
            let inside : i < length (b.reds k) = rw (← same) at there in
            let at_row : id.index ≡ low_of b k + i = rw (← same) at index in
            record {
              first = lane.first;
              greens = lane.greens;
              positions = lane.positions;
              reds = rw row (Stretch-marked (suc k) (low_of b k) (b.reds k) i true lane.reds);
              last = rw (row, long) last;
              flags = rw row (Flagged-marked b.yellow id (suc k) (low_of b k) (b.reds k) i lane.reds inside (creator ∙ ap suc (sym same)) at_row lane.flags);
            }
        | inr apart ↦
            let row : with_lane b.reds slot (marked_at (b.reds slot) i true) k ≡ b.reds k = with_lane-other b.reds slot (marked_at (b.reds slot) i true) k apart in
            record {
              first = lane.first;
              greens = lane.greens;
              positions = lane.positions;
              reds = rw row lane.reds;
              last = rw row lane.last;
              flags = rw row (Flagged-others b.yellow id (suc k) (low_of b k) (b.reds k) lane.reds (inl (λ e. apart (omega (arith, creator, e)))) lane.flags);
            }
      ]

  pub yellow-sound : has_name b.yellow id ≡ false → IsSound (flagged (with_name b id) slot i)
  yellow-sound new =
      let lane = sound.lanes slot within in
      let last = lane.last in
      let red : index_in b.red_cut id.creator ≡ index_in b.red_cut (suc slot) = ap (index_in b.red_cut) creator in
      record {
        green = sound.green;
        red = sound.red;
        count = sound.count;
        lanes = yellow-lane;
        yellow = AreKnown-more b.red_cut b.yellow id sound.yellow (omega arith) (omega arith, omega arith);
        distinct = distinct-behind b.yellow id sound.distinct new;
      }

  pub yellow-reds : all_reds ((flagged (with_name b id) slot i).reds) ≡ all_reds b.reds
  yellow-reds = all_reds-same b.reds (with_lane b.reds slot (marked_at (b.reds slot) i true)) (λ k lt. elim (cases_eq k slot) [
    | inl same ↦ ap actions_in (with_lane-same b.reds slot (marked_at (b.reds slot) i true) k same) ∙ actions_in-marked (b.reds slot) i true ∙ ap (λ j. actions_in (b.reds j)) (sym same)
    | inr apart ↦ ap actions_in (with_lane-other b.reds slot (marked_at (b.reds slot) i true) k apart)
  ])

  pub yellow-above : is_above b.green_cut id ≡ true
  yellow-above =
      let green : index_in b.green_cut id.creator ≡ index_in b.green_cut (suc slot) = ap (index_in b.green_cut) creator in
      is_above-true b.green_cut id (omega arith)

  pub yellow-names : filter (is_above b.green_cut) (b.yellow ++ id ∷ []) ≡ filter (is_above b.green_cut) b.yellow ++ id ∷ []
  yellow-names = filter-more (is_above b.green_cut) b.yellow id yellow-above

-- the flag of an action that has the name
flag-named : (yellow : List ActionId) (id : ActionId) (c from : ℕ) (reds : List Red) (i : ℕ) → Stretch c from reds → Flagged yellow reds → id.creator ≡ c → id.index ≡ from + i → i < length reds
    → flag_of (slice_get reds i) ≡ has_name yellow id
flag-named yellow id c from [] i stretch flags creator index lt = absurd (omega arith)
flag-named yellow id c from (r ∷ reds) zero stretch flags creator index lt =
    let creators : r.action.id.creator ≡ id.creator = stretch.0 ∙ sym creator in
    let indexes : r.action.id.index ≡ id.index = let own : r.action.id.index ≡ from = stretch.1 in omega arith in
    let same : r.action.id ≡ id = λ j. record { creator = creators j; index = indexes j } in
    flags.0 ∙ ap (has_name yellow) same
flag-named yellow id c from (r ∷ reds) (suc i) stretch flags creator index lt = flag-named yellow id c (suc from) reds i stretch.2 flags.1 creator (omega arith) (omega arith)

module _ (b : Parts) (id : ActionId) (sound : IsSound b) (is_id : IsId id.creator) (above : index_in b.green_cut id.creator < id.index) (known : id.index ≤ index_in b.red_cut id.creator) where
  -- where a red action stands in its row
  abbrev pub red_place : ℕ
  red_place = id.index - index_in b.green_cut id.creator - 1

  pub red-at : id.index ≡ low_of b (lane_of id) + red_place
  red-at =
      let green : index_in b.green_cut (suc (lane_of id)) ≡ index_in b.green_cut id.creator = ap (index_in b.green_cut) (has_lane id is_id).creator in
      omega arith

  pub red-inside : red_place < length (b.reds (lane_of id))
  red-inside =
      let own = has_lane id is_id in
      let last = (sound.lanes (lane_of id) own.within).last in
      let green : index_in b.green_cut (suc (lane_of id)) ≡ index_in b.green_cut id.creator = ap (index_in b.green_cut) own.creator in
      let red : index_in b.red_cut (suc (lane_of id)) ≡ index_in b.red_cut id.creator = ap (index_in b.red_cut) own.creator in
      omega arith

  pub red-flag : flag_of (slice_get (b.reds (lane_of id)) red_place) ≡ has_name (filter (is_above b.green_cut) b.yellow) id
  red-flag =
      let own = has_lane id is_id in
      let lane = sound.lanes (lane_of id) own.within in
      flag-named b.yellow id (suc (lane_of id)) (low_of b (lane_of id)) (b.reds (lane_of id)) red_place lane.reds lane.flags (sym own.creator) red-at red-inside
      ∙ sym (names-above b.green_cut b.yellow id (is_above-true b.green_cut id above))

  pub red-named-sound : has_name (filter (is_above b.green_cut) b.yellow) id ≡ false → IsSound (flagged (with_name b id) (lane_of id) red_place)
  red-named-sound new =
      let own = has_lane id is_id in
      yellow-sound b id sound (lane_of id) red_place own.within (sym own.creator) red-at red-inside (sym (names-above b.green_cut b.yellow id (is_above-true b.green_cut id above)) ∙ new)

  pub red-named-seen : seen (flagged (with_name b id) (lane_of id) red_place) ≡ record (seen b) { yellow = filter (is_above b.green_cut) b.yellow ++ id ∷ [] }
  red-named-seen =
      let own = has_lane id is_id in
      rw (yellow-reds b id sound (lane_of id) red_place own.within (sym own.creator) red-at red-inside, yellow-names b id sound (lane_of id) red_place own.within (sym own.creator) red-at red-inside)

-- an action that wasn't known is red and yellow at once
module _ (b : Parts) (a : Action) (sound : IsSound b) (is_id : IsId a.id.creator) (small : a.id.index < 2 ^ 64) (next : a.id.index ≡ suc (index_in b.red_cut a.id.creator)) where
  abbrev both-row : ℕ
  both-row = length (b.reds (lane_of a.id))

  both-same : flagged (with_name (added_red b a false) a.id) (lane_of a.id) both-row ≡ added_red (with_name b a.id) a true
  both-same =
      let slot = lane_of a.id in
      let row = b.reds slot ++ record { action = a; is_yellow = false } ∷ [] in
      let both = b.reds slot ++ record { action = a; is_yellow = true } ∷ [] in
      let marked : marked_at (with_lane b.reds slot row slot) both-row true ≡ both = ap (λ xs. marked_at xs both-row true) (with_lane-same b.reds slot row slot refl) ∙ marked-last (b.reds slot) a false true in
      let lanes : with_lane (with_lane b.reds slot row) slot (marked_at (with_lane b.reds slot row slot) both-row true) ≡ with_lane b.reds slot both =
      same_lanes _ _ (λ k. elim (cases_eq k slot) [
        | inl same ↦ with_lane-same (with_lane b.reds slot row) slot (marked_at (with_lane b.reds slot row slot) both-row true) k same ∙ marked ∙ sym (with_lane-same b.reds slot both k same)
        | inr apart ↦ with_lane-other (with_lane b.reds slot row) slot (marked_at (with_lane b.reds slot row slot) both-row true) k apart ∙ with_lane-other b.reds slot row k apart ∙ sym (with_lane-other b.reds slot both k apart)
      ]) in
      λ i. record { white = b.white; greens = b.greens; green_cut = b.green_cut; red_cut = raise b.red_cut a.id; reds = lanes i; positions = b.positions; yellow = b.yellow ++ a.id ∷ [] }

  both-inside : both-row < length ((added_red b a false).reds (lane_of a.id))
  both-inside =
      let slot = lane_of a.id in
      let row = b.reds slot ++ record { action = a; is_yellow = false } ∷ [] in
      let long : length (with_lane b.reds slot row slot) ≡ suc both-row = ap length (with_lane-same b.reds slot row slot refl) ∙ length-more (b.reds slot) (record { action = a; is_yellow = false }) in
      omega arith

  pub both-sound : IsSound (added_red (with_name b a.id) a true)
  both-sound =
      let own = has_lane a.id is_id in
      subst IsSound both-same (yellow-sound (added_red b a false) a.id (red-sound b a sound is_id small next) (lane_of a.id) both-row own.within (sym own.creator) (red-index b a sound is_id small next) both-inside
      (names-unknown b.red_cut b.yellow a.id sound.yellow (omega arith)))

  pub both-seen : seen (added_red (with_name b a.id) a true) ≡ record (placed_red (seen b) a) { yellow = filter (is_above b.green_cut) b.yellow ++ a.id ∷ [] }
  both-seen =
      let own = has_lane a.id is_id in
      rw (red-seen b a sound is_id small next true, yellow-names (added_red b a false) a.id (red-sound b a sound is_id small next) (lane_of a.id) both-row own.within (sym own.creator) (red-index b a sound is_id small next) both-inside)

  -- its name is a new one
  pub both-unknown : has_name (filter (is_above b.green_cut) b.yellow) a.id ≡ false
  both-unknown = names-unknown b.red_cut (filter (is_above b.green_cut) b.yellow) a.id (AreKnown-filter b.red_cut (is_above b.green_cut) b.yellow sound.yellow) (omega arith)

  pub both-above : index_in b.green_cut a.id.creator < a.id.index
  both-above =
      let own = has_lane a.id is_id in
      let last = (sound.lanes (lane_of a.id) own.within).last in
      let green : index_in b.green_cut (suc (lane_of a.id)) ≡ index_in b.green_cut a.id.creator = ap (index_in b.green_cut) own.creator in
      let red : index_in b.red_cut (suc (lane_of a.id)) ≡ index_in b.red_cut a.id.creator = ap (index_in b.red_cut) own.creator in
      omega arith

  pub both-view : seen (added_red (with_name b a.id) a true) ≡ with_yellow (placed_red (seen b) a) a.id
  both-view = both-seen ∙ sym (yellow-added (placed_red (seen b) a) a.id both-above both-unknown)

-- ---- an action becomes green

module _ (b : Parts) (a : Action) (sound : IsSound b) (is_id : IsId a.id.creator) (small : a.id.index < 2 ^ 64) (next : a.id.index ≡ suc (index_in b.green_cut a.id.creator)) (few : b.white + length b.greens < 2 ^ 62) where
  green-lane : (k : ℕ) → k < 32 → IsLane (added_green b a) k
  green-lane k lt =
      let lane = sound.lanes k lt in
      let own = has_lane a.id is_id in
      let slot = lane_of a.id in
      let last = lane.last in
      elim (cases_eq k slot) [
        | inl same ↦
            let is_creator : suc k ≡ a.id.creator = ap suc same ∙ own.creator in
            let row : with_lane b.reds slot (drop 1 (b.reds slot)) k ≡ drop 1 (b.reds k) =
            with_lane-same b.reds slot (drop 1 (b.reds slot)) k same ∙ ap (λ j. drop 1 (b.reds j)) (sym same) in
            let spots = b.positions slot ++ suc (b.white + length b.greens) ∷ [] in
            let where_kept : with_lane b.positions slot spots k ≡ b.positions k ++ suc (b.white + length b.greens) ∷ [] =
            with_lane-same b.positions slot spots k same ∙ ap (λ j. b.positions j ++ suc (b.white + length b.greens) ∷ []) (sym same) in
            let index : a.id.index ≡ suc (index_in b.green_cut (suc k)) = next ∙ ap (λ c. suc (index_in b.green_cut c)) (sym is_creator) in
            let green_max : index_in (raise b.green_cut a.id) (suc k) ≡ max (index_in b.green_cut (suc k)) a.id.index = raise-same b.green_cut a.id sound.green (suc k) (sym is_creator) in
            let green : index_in (raise b.green_cut a.id) (suc k) ≡ suc (index_in b.green_cut (suc k)) = omega arith in
            let red : index_in (raise b.red_cut a.id) (suc k) ≡ max (index_in b.red_cut (suc k)) a.id.index = raise-same b.red_cut a.id sound.red (suc k) (sym is_creator) in
            let long = length-less (b.reds k) in
            let spot : suc b.white + length b.greens ≡ suc (b.white + length b.greens) = omega arith in
            record {
              first = lane.first;
              greens = rw green (Follows-more (suc k) lane.first (index_in b.green_cut (suc k)) b.greens a lane.greens (sym is_creator) index);
              positions = where_kept ∙ ap (λ xs. xs ++ suc (b.white + length b.greens) ∷ []) lane.positions
                  ∙ ap (λ n. positions_of (suc k) (suc b.white) b.greens ++ n ∷ []) (sym spot) ∙ sym (positions_of-more (suc k) (suc b.white) b.greens a (sym is_creator));
              reds = rw (row, green) (Stretch-less (suc k) (low_of b k) (b.reds k) lane.reds);
              last = rw (row, green, red, long) (omega arith);
              flags = rw row (Flagged-less b.yellow (b.reds k) lane.flags);
            }
        | inr apart ↦
            let others : a.id.creator ≢ suc k = λ e. apart (omega (arith, own.creator, e)) in
            let row : with_lane b.reds slot (drop 1 (b.reds slot)) k ≡ b.reds k = with_lane-other b.reds slot (drop 1 (b.reds slot)) k apart in
            let spots = b.positions slot ++ suc (b.white + length b.greens) ∷ [] in
            let where_kept : with_lane b.positions slot spots k ≡ b.positions k = with_lane-other b.positions slot spots k apart in
            let green : index_in (raise b.green_cut a.id) (suc k) ≡ index_in b.green_cut (suc k) = raise-other b.green_cut a.id sound.green (suc k) others in
            let red : index_in (raise b.red_cut a.id) (suc k) ≡ index_in b.red_cut (suc k) = raise-other b.red_cut a.id sound.red (suc k) others in
            record {
              first = lane.first;
              greens = rw green (Follows-others (suc k) lane.first (index_in b.green_cut (suc k)) b.greens a lane.greens others);
              positions = where_kept ∙ lane.positions ∙ sym (positions_of-others (suc k) (suc b.white) b.greens a others);
              reds = rw (row, green) lane.reds;
              last = rw (row, green, red) last;
              flags = rw row lane.flags;
            }
      ]

  pub green-sound : IsSound (added_green b a)
  green-sound =
      let long = length-more b.greens a in
      record {
        green = IsCut-raise b.green_cut a.id is_id small sound.green;
        red = IsCut-raise b.red_cut a.id is_id small sound.red;
        count = rw long (omega arith);
        lanes = green-lane;
        yellow = AreKnown-rise b.red_cut (raise b.red_cut a.id) b.yellow (raise-rises b.red_cut a.id sound.red) sound.yellow;
        distinct = sound.distinct;
      }

  pub green-reds : all_reds ((added_green b a).reds) ≡ without_action (all_reds b.reds) a.id
  green-reds =
      let own = has_lane a.id is_id in
      all_reds-dropped b.reds (low_of b) (stretches_of b sound) (lane_of a.id) a.id (sym own.creator) (next ∙ ap (λ c. suc (index_in b.green_cut c)) (sym own.creator))

  pub green-yellow : filter (is_above (raise b.green_cut a.id)) b.yellow ≡ filter (λ y. not (same_id y a.id)) (filter (is_above b.green_cut) b.yellow)
  green-yellow = above-raised b.green_cut b.yellow a.id sound.green next

  pub green-seen : seen (added_green b a) ≡ placed_green (seen b) a
  green-seen = rw (green-reds, green-yellow)

-- ---- green names leave the yellow list

pub cleared-sound : (b : Parts) → IsSound b → IsSound (cleared b)
cleared-sound b sound = record {
  green = sound.green;
  red = sound.red;
  count = sound.count;
  lanes = λ k lt. (let lane = sound.lanes k lt in record {
    first = lane.first;
    greens = lane.greens;
    positions = lane.positions;
    reds = lane.reds;
    last = lane.last;
    flags = Flagged-above b.green_cut b.yellow (suc k) (low_of b k) (b.reds k) (omega arith) lane.reds lane.flags;
  });
  yellow = AreKnown-filter b.red_cut (is_above b.green_cut) b.yellow sound.yellow;
  distinct = distinct-kept (is_above b.green_cut) b.yellow sound.distinct;
}

pub cleared-seen : (b : Parts) → seen (cleared b) ≡ seen b
cleared-seen b = rw (filter-twice (is_above b.green_cut) b.yellow)

-- ---- the first green is discarded

first-positions : (c position : ℕ) (a : Action) (rest : List Action) → a.id.creator ≡ c → positions_of c position (a ∷ rest) ≡ position ∷ positions_of c (suc position) rest
first-positions c position a rest same = rw (eq-eqb a.id.creator c same)

module _ (b : Parts) (sound : IsSound b) (a : Action) (rest : List Action) (whole : b.greens ≡ a ∷ rest) (is_id : IsId a.id.creator) where
  dropped-lane : (k : ℕ) → k < 32 → IsLane (dropped_from b (a ∷ rest)) k
  dropped-lane k lt =
      let lane = sound.lanes k lt in
      let own = has_lane a.id is_id in
      let slot = lane_of a.id in
      let greens : Follows (suc k) lane.first (index_in b.green_cut (suc k)) (a ∷ rest) = subst (λ gs. Follows (suc k) lane.first (index_in b.green_cut (suc k)) gs) whole lane.greens in
      let spots : b.positions k ≡ positions_of (suc k) (suc b.white) (a ∷ rest) = lane.positions ∙ ap (positions_of (suc k) (suc b.white)) whole in
      elim (cases_eq k slot) [
        | inl same ↦
            let is_creator : a.id.creator ≡ suc k = sym own.creator ∙ ap suc (sym same) in
            let row : with_lane b.positions slot (drop 1 (b.positions slot)) k ≡ drop 1 (b.positions k) =
            with_lane-same b.positions slot (drop 1 (b.positions slot)) k same ∙ ap (λ j. drop 1 (b.positions j)) (sym same) in
            let here = rw (eq-eqb a.id.creator (suc k) is_creator) at greens in
            record {
              first = suc lane.first;
              greens = here.1;
              positions = row ∙ ap (drop 1) (spots ∙ first-positions (suc k) (suc b.white) a rest is_creator);
              reds = lane.reds;
              last = lane.last;
              flags = lane.flags;
            }
        | inr apart ↦
            let others : a.id.creator ≢ suc k = λ e. apart (omega (arith, own.creator, e)) in
            let row : with_lane b.positions slot (drop 1 (b.positions slot)) k ≡ b.positions k = with_lane-other b.positions slot (drop 1 (b.positions slot)) k apart in
            let here = rw (ne_eqb a.id.creator (suc k) others) at greens in
            let left = rw (ne_eqb a.id.creator (suc k) others) at spots in
            record {
              first = lane.first;
              greens = here;
              positions = row ∙ left;
              reds = lane.reds;
              last = lane.last;
              flags = lane.flags;
            }
      ]

  dropped-first : IsSound (dropped_from b (a ∷ rest))
  dropped-first =
      let count = sound.count in
      let long : length b.greens ≡ suc (length rest) = ap length whole in
      record {
        green = sound.green;
        red = sound.red;
        count = omega arith;
        lanes = dropped-lane;
        yellow = sound.yellow;
        distinct = sound.distinct;
      }

dropped-from : (b : Parts) (greens : List Action) → b.greens ≡ greens → BeginsWell greens → IsSound b → IsSound (dropped_from b greens)
dropped-from b [] whole well sound = sound
dropped-from b (a ∷ rest) whole well sound = dropped-first b sound a rest whole well

pub dropped-sound : (b : Parts) → BeginsWell b.greens → IsSound b → IsSound (dropped b)
dropped-sound b well sound = dropped-from b b.greens refl well sound

pub dropped-seen : (b : Parts) → 0 < length b.greens → seen (dropped b) ≡ discarded (seen b) (suc b.white)
dropped-seen b some = from_greens b.greens refl some
  where
    from_greens : (greens : List Action) → b.greens ≡ greens → 0 < length greens → seen (dropped_from b greens) ≡ discarded (seen b) (suc b.white)
    from_greens [] whole none = absurd (omega arith)
    from_greens (a ∷ rest) whole there =
        let one : suc b.white - b.white ≡ 1 = omega arith in
        rw (one, whole)

-- ---- nothing is known

no_reds : (count first : ℕ) → reds_from (λ slot. []) count first ≡ []
unfolding reds_from
no_reds zero first = refl
no_reds (suc count) first = no_reds count (suc first)

pub no_parts-seen : (white : ℕ) (cut : List ActionId) → seen (no_parts white cut) ≡ resumed white cut
unfolding all_reds
no_parts-seen white cut = rw (no_reds 32 0)

pub no_parts-sound : (white : ℕ) (cut : List ActionId) → IsCut cut → white ≤ 2 ^ 62 → IsSound (no_parts white cut)
no_parts-sound white cut is_cut few = record {
  green = is_cut;
  red = is_cut;
  count = omega arith;
  lanes = λ k lt. record {
    first = suc (index_in cut (suc k));
    greens = refl;
    positions = refl;
    reds = tt;
    last = omega arith;
    flags = tt;
  };
  yellow = tt;
  distinct = refl;
}

-- ---- one more of a list that is copied

pub drop-more : {X : Type 0} (xs : List X) (i : ℕ) (x : X) → Some x ≡ slice_get xs i → drop i xs ≡ x ∷ drop (suc i) xs
drop-more [] i x there = absurd (nothing x there)
  where
    nothing : {X : Type 0} (x : X) → Some x ≡ None → ⊥
    nothing x e = cc
drop-more (y ∷ xs) zero x there = ap (λ z. z ∷ xs) (same x y there)
  where
    same : {X : Type 0} (x y : X) → Some x ≡ Some y → y ≡ x
    same x y e = cc
drop-more (y ∷ xs) (suc i) x there = drop-more xs i x there

pub drop-none : {X : Type 0} (xs : List X) (i : ℕ) → None ≡ slice_get xs i → length xs ≤ i
drop-none [] i none = omega arith
drop-none (y ∷ xs) zero none = absurd (something y none)
  where
    something : {X : Type 0} (y : X) → None ≡ Some y → ⊥
    something y e = cc
drop-none (y ∷ xs) (suc i) none = let rest = drop-none xs i none in omega arith

pub drop-end : {X : Type 0} (xs : List X) (i : ℕ) → length xs ≤ i → drop i xs ≡ []
drop-end [] zero le = refl
drop-end [] (suc i) le = refl
drop-end (x ∷ xs) zero le = absurd (omega arith)
drop-end (x ∷ xs) (suc i) le = drop-end xs i (omega arith)

pub reds-step : (lanes : ℕ → List Red) (slot : ℕ) → slot < 32 → reds_from lanes (32 - slot) slot ≡ actions_in (lanes slot) ++ reds_from lanes (32 - suc slot) (suc slot)
unfolding reds_from
reds-step lanes slot lt = let one : 32 - slot ≡ suc (32 - suc slot) = omega arith in ap (λ n. reds_from lanes n slot) one

pub reds-end : (lanes : ℕ → List Red) (slot : ℕ) → 32 ≤ slot → reds_from lanes (32 - slot) slot ≡ []
unfolding reds_from
reds-end lanes slot le = let none : 32 - slot ≡ 0 = omega arith in ap (λ n. reds_from lanes n slot) none

pub reds-all : (lanes : ℕ → List Red) → reds_from lanes 32 0 ≡ all_reds lanes
unfolding all_reds
reds-all lanes = refl

pub OnOk_with : {T E : Type 0} {P Q : Type 0} (r : Result T E) → OnOk r P → (P → Q) → OnOk r Q
OnOk_with (Ok x) p step = step p
OnOk_with (Err e) p step = tt
