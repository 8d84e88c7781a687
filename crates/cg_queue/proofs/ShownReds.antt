-- What is seen of a sound body is what a queue shows at every time.
use Rattle.std.proofs.Common.{◌≡◌, suc, ◌+◌, ◌-◌, ◌<◌, ◌≤◌, Bool, true, false, cond, List, [], ◌∷◌, length, filter, refl, sym, ap, subst, arith, inl, inr}
use Rattle.std.specs.Prelude.{◌==◌}
use Rattle.std.proofs.lemmas.Bool.{or_cases, and_parts, eqb-true, ltb-true}
use Rattle.cg_base.specs.declared.action_id.ActionId.{ActionId}
use Rattle.cg_base.specs.Ids.{same_id, has_name}
use Rattle.cg_base.specs.Sets.{IsId}
use Rattle.cg_base.specs.Cuts.{index_in}
use Rattle.cg_queue.specs.Queue.{names_of}
use Rattle.cg_queue.specs.Body.{Parts, seen, all_reds, is_above, AreKnown, IsSound, lane_of}
use Rattle.cg_queue.specs.DistinctLaws.{distinct-kept}
use Rattle.cg_queue.specs.Shown.{IsBetween, LeadUp, IsShown}
use Rattle.cg_queue.proofs.RedLemmas.{is_named, names-all}
use Rattle.cg_queue.proofs.AscendingReds.{rows-ascend}
use Rattle.cg_queue.proofs.Soundness.{low_of, stretches_of, has_lane}

module _ (b : Parts) (sound : IsSound b) (id : ActionId) where
  between_from_red : has_name (names_of (all_reds b.reds)) id ≡ true → IsBetween b.green_cut b.red_cut id
  between_from_red there =
      let found = is_named b.reds (low_of b) (stretches_of b sound) id there in
      let within : found.slot < 32 = found.within in
      let creator : id.creator ≡ suc found.slot = found.creator in
      let low : index_in b.green_cut id.creator ≡ index_in b.green_cut (suc found.slot) = ap (index_in b.green_cut) creator in
      let high : index_in b.red_cut id.creator ≡ index_in b.red_cut (suc found.slot) = ap (index_in b.red_cut) creator in
      let above : suc (index_in b.green_cut (suc found.slot)) ≤ id.index = found.above in
      let below : id.index < suc (index_in b.green_cut (suc found.slot)) + length (b.reds found.slot) = found.below in
      let last : index_in b.green_cut (suc found.slot) + length (b.reds found.slot) ≡ index_in b.red_cut (suc found.slot) = (sound.lanes found.slot within).last in
      ((omega arith, omega arith), omega arith, omega arith)

  red_from_between : IsBetween b.green_cut b.red_cut id → has_name (names_of (all_reds b.reds)) id ≡ true
  red_from_between (is_id, above, below) =
      let own = has_lane id is_id in
      let low : index_in b.green_cut (suc (lane_of id)) ≡ index_in b.green_cut id.creator = ap (index_in b.green_cut) own.creator in
      let high : index_in b.red_cut (suc (lane_of id)) ≡ index_in b.red_cut id.creator = ap (index_in b.red_cut) own.creator in
      let last : index_in b.green_cut (suc (lane_of id)) + length (b.reds (lane_of id)) ≡ index_in b.red_cut (suc (lane_of id)) = (sound.lanes (lane_of id) own.within).last in
      names-all b.reds (low_of b) (stretches_of b sound) (lane_of id) (id.index - suc (index_in b.green_cut id.creator)) id own.within (sym own.creator) (omega arith) (omega arith)

-- ---- a yellow name that isn't green

yellow_first : (low high : List ActionId) (x id : ActionId) (ids : List ActionId) → (has_name (filter (is_above low) ids) id ≡ true → IsBetween low high id)
    → x.index ≤ index_in high x.creator → IsId x.creator → (flag : Bool) → is_above low x ≡ flag
    → has_name (cond flag (x ∷ filter (is_above low) ids) (filter (is_above low) ids)) id ≡ true → IsBetween low high id
yellow_first low high x id ids rest known is_id true above there = elim (or_cases (same_id id x) (has_name (filter (is_above low) ids) id) there) [
  | inl same ↦
      let parts = and_parts (id.creator == x.creator) (id.index == x.index) same in
      let creator : id.creator ≡ x.creator = eqb-true id.creator x.creator parts.0 in
      let index : id.index ≡ x.index = eqb-true id.index x.index parts.1 in
      let over : index_in low x.creator < x.index = ltb-true (index_in low x.creator) x.index above in
      let lower : index_in low id.creator ≡ index_in low x.creator = ap (index_in low) creator in
      let higher : index_in high id.creator ≡ index_in high x.creator = ap (index_in high) creator in
      (subst IsId (sym creator) is_id, omega arith, omega arith)
  | inr later ↦ rest later
]
yellow_first low high x id ids rest known is_id false above there = rest there

yellow_between : (low high ids : List ActionId) (id : ActionId) → AreKnown high ids → has_name (filter (is_above low) ids) id ≡ true → IsBetween low high id
yellow_between low high [] id are there = absurd cc
yellow_between low high (x ∷ ids) id are there =
    yellow_first low high x id ids (yellow_between low high ids id are.2) are.0 are.1 (is_above low x) refl there

pub shown_of : (b : Parts) → IsSound b → IsShown (seen b)
unfolding all_reds
shown_of b sound = record {
  green = sound.green;
  red = sound.red;
  greens = λ p is_id.
      let slot : suc (p - 1) ≡ p = omega (arith, is_id.0) in
      let lane = sound.lanes (p - 1) (omega (arith, is_id.0, is_id.1)) in
      subst (λ q. LeadUp (seen b) q) slot (record { first = lane.first; follows = lane.greens });
  cuts = λ p is_id.
      let slot : suc (p - 1) ≡ p = omega (arith, is_id.0) in
      let last : index_in b.green_cut (suc (p - 1)) + length (b.reds (p - 1)) ≡ index_in b.red_cut (suc (p - 1)) = (sound.lanes (p - 1) (omega (arith, is_id.0, is_id.1))).last in
      subst (λ q. index_in b.green_cut q ≤ index_in b.red_cut q) slot (omega arith);
  ascend = (rows-ascend b.reds (low_of b) (stretches_of b sound) 32 0 (omega arith)).0;
  reds = λ id. (between_from_red b sound id, red_from_between b sound id);
  yellow = λ id there. red_from_between b sound id (yellow_between b.green_cut b.red_cut b.yellow id sound.yellow there);
  distinct = distinct-kept (is_above b.green_cut) b.yellow sound.distinct;
}
