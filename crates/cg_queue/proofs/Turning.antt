-- A creator's first red action becomes green.
use Rattle.std.proofs.Common.{◌≡◌, ℕ, suc, ◌+◌, ◌^◌, ◌<◌, List, [], ◌∷◌, length, Option, Some, None, refl, sym, ap, subst, ◌∙◌, ◌-◌, arith}
use Rattle.std.specs.Prelude.{slice_get, MatchOption}
use Rattle.std.specs.Option.{option_map}
use Rattle.cg_base.specs.declared.action_id.ActionId.{ActionId}
use Rattle.cg_base.specs.Sets.{IsId}
use Rattle.cg_base.specs.Cuts.{index_in}
use Rattle.cg_queue.specs.declared.red.Red.{Red}
use Rattle.cg_queue.specs.Queue.{action_of, placed_green}
use Rattle.cg_queue.specs.Body.{Parts, seen, Stretch, IsSound, lane_of, added_green}
use Rattle.cg_queue.proofs.FindLemmas.{found-red}
use Rattle.cg_queue.proofs.Soundness.{has_lane, stretches_of, low_of, green-sound, green-seen}

first-named : (creator from : ℕ) (reds : List Red) (r : Red) → Stretch creator from reds → Some r ≡ slice_get reds 0 → (r.action.id.creator ≡ creator) × (r.action.id.index ≡ from)
first-named creator from [] r stretch there = absurd (let clash : Some r ≡ None = there in cc)
first-named creator from (x ∷ reds) r stretch there =
    let same : x ≡ r = (let e : Some x ≡ Some r = sym there in cc) in
    subst (λ y. (y.action.id.creator ≡ creator) × (y.action.id.index ≡ from)) same (stretch.0, stretch.1)

-- what becomes of a body where its first red action of a creator becomes green, if there is one
abbrev pub Turned : Parts → Parts → ℕ → Option Red → Type 0
Turned b after lane first = MatchOption first (after ≡ b) (λ r. (r.action.id.index < 2 ^ 64) × (lane_of r.action.id ≡ lane → after ≡ added_green b r.action))

module _ (b after : Parts) (id : ActionId) (sound : IsSound b) (is_id : IsId id.creator) (next : id.index ≡ suc (index_in b.green_cut id.creator)) (few : b.white + length b.greens < 2 ^ 62) where
  record IsNext (r : Red) : Type 0 where
    pub lane : lane_of r.action.id ≡ lane_of id
    pub creator_is : IsId r.action.id.creator
    pub index_is : r.action.id.index ≡ suc (index_in b.green_cut r.action.id.creator)

  is-next : (r : Red) → Some r ≡ slice_get (b.reds (lane_of id)) 0 → IsNext r
  is-next r there =
      let own = has_lane id is_id in
      let named = first-named (suc (lane_of id)) (low_of b (lane_of id)) (b.reds (lane_of id)) r (stretches_of b sound (lane_of id) own.within) there in
      let creator : r.action.id.creator ≡ id.creator = named.0 ∙ own.creator in
      record {
        lane = ap (λ n. n - 1) creator;
        creator_is = subst IsId (sym creator) is_id;
        index_is = named.1 ∙ ap (λ n. suc (index_in b.green_cut n)) (sym named.0);
      }

  turned-sound-by : (first : Option Red) → first ≡ slice_get (b.reds (lane_of id)) 0 → Turned b after (lane_of id) first → IsSound after
  turned-sound-by None there turned = subst IsSound (sym turned) sound
  turned-sound-by (Some r) there turned =
      let is = is-next r there in
      subst IsSound (sym (turned.1 is.lane)) (green-sound b r.action sound is.creator_is turned.0 is.index_is few)

  pub turned-sound : Turned b after (lane_of id) (slice_get (b.reds (lane_of id)) 0) → IsSound after
  turned-sound = turned-sound-by (slice_get (b.reds (lane_of id)) 0) refl

  turned-seen-by : (first : Option Red) → first ≡ slice_get (b.reds (lane_of id)) 0 → Turned b after (lane_of id) first
      → MatchOption (option_map (λ r. r.action) first) (seen after ≡ seen b) (λ a. seen after ≡ placed_green (seen b) a)
  turned-seen-by None there turned = ap seen turned
  turned-seen-by (Some r) there turned =
      let is = is-next r there in
      ap seen (turned.1 is.lane) ∙ green-seen b r.action sound is.creator_is turned.0 is.index_is few

  pub turned-seen : Turned b after (lane_of id) (slice_get (b.reds (lane_of id)) 0) → MatchOption (action_of (seen b) id) (seen after ≡ seen b) (λ a. seen after ≡ placed_green (seen b) a)
  turned-seen turned =
      subst (λ found. MatchOption found (seen after ≡ seen b) (λ a. seen after ≡ placed_green (seen b) a))
      (sym (found-red b id sound is_id 0 (omega arith)))
      (turned-seen-by (slice_get (b.reds (lane_of id)) 0) refl turned)
