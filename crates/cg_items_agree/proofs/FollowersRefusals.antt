-- An event of followers is refused for the reason that the items tell.
use Rattle.std.proofs.Common.{◌≡◌, ℕ, false, not, List, [], ◌∷◌, length, Option, Some, None, sym, ap, ap₂, ◌∙◌, arith, le-ltb, is_none, option_map, option_and_then, nat_lt}
use Rattle.std.specs.Option.{option_map_or}
use Rattle.cg_base.specs.Lists.{first_some}
use Rattle.cg_group.specs.declared.reason.Reason.{Reason}
use Rattle.cg_group.specs.declared.reason.Reason.TheVariants.{Discarded, WouldGoBack, UnknownFollower, FollowerDown, FollowerUp}
use Rattle.cg_group.specs.Refusals.{refuse}
use Rattle.cg_queue.specs.Queue.{QueueView, green_count}
use Rattle.cg_client.specs.Replica.{Replica}
use Rattle.cg_model.specs.World.{World}
use Rattle.cg_model.specs.Admission.{takes_part}
use Rattle.cg_model.specs.Shown.{white_of}
use Rattle.cg_follow.specs.Followed.{Followed}
use Rattle.cg_follow.specs.declared.event.FollowEvent.{FollowEvent}
use Rattle.cg_follow.specs.declared.event.FollowEvent.TheVariants.{Follower as Make, Feed, Stop, Recover, Weak}
use Rattle.cg_follower_list.specs.Life.{Life, Up, Fallen, Follower}
use Rattle.cg_follower_list.specs.Followers.{follower_at, life_at, is_up as is_up_life, unknown_follower, follower_down, follower_up, goes_back, lacks}
use Rattle.cg_items.specs.Followers.{follow_refusal, would_go_back, discarded}
use Rattle.cg_items.specs.Items.{Item, steps_of}
use Rattle.cg_items.specs.AfterItems.{world_behind, order_behind, position_behind}
use Rattle.cg_items.specs.FollowersAgree.{cursor_shown, at_cursor, unmade, is_down, is_up, told_follow_refusal}
use Rattle.cg_items_agree.proofs.FollowersTold.{Told, told_of}
use Rattle.cg_items_agree.proofs.LifeTold.{LifeAs, KeptAs}
use Rattle.cg_items_agree.proofs.FollowersEvents.{StandsSo, Keeps, same-first, up-there, stands-up}

module _ (at : ℕ → Followed) (len : ℕ) (t : Told) where
  life-up : (life : Life) → LifeAs at len t life → t.up ≡ Some (is_up_life life)
  life-up (Up now armed) told = told.up
  life-up (Fallen left) told = told.up

  -- it was shown as up where it is
  kept-up : (o : Option Follower) → KeptAs at len t o → t.up ≡ option_map (λ x. is_up_life x.life) o
  kept-up None kept = kept.1
  kept-up (Some x) kept = life-up x.life kept.1

  same-unmade : (o : Option Follower) → KeptAs at len t o → is_none t.up ≡ is_none o
  same-unmade None kept = ap is_none (kept-up None kept)
  same-unmade (Some x) kept = ap is_none (kept-up (Some x) kept)

  same-down : (o : Option Follower) → KeptAs at len t o → option_map_or (λ up. not up) t.up false ≡ option_map_or
      (λ life. not (is_up_life life)) (option_map (λ x. x.life) o) false
  same-down None kept = ap (λ u. option_map_or (λ up. not up) u false) (kept-up None kept)
  same-down (Some x) kept = ap (λ u. option_map_or (λ up. not up) u false) (kept-up (Some x) kept)

  same-up : (o : Option Follower) → KeptAs at len t o → option_map_or (λ up. up) t.up false ≡ option_map_or is_up_life
      (option_map (λ x. x.life) o) false
  same-up None kept = ap (λ u. option_map_or (λ up. up) u false) (kept-up None kept)
  same-up (Some x) kept = ap (λ u. option_map_or (λ up. up) u false) (kept-up (Some x) kept)

  same-back : (q : QueueView) (n : ℕ) → n ≡ green_count q → (o : Option Follower) → KeptAs at len t o →
      refuse (nat_lt n t.cursor) (WouldGoBack t.cursor) ≡ option_and_then (goes_back q) o
  same-back q n is None kept = ap (λ b. refuse b (WouldGoBack t.cursor)) (le-ltb n t.cursor (let none = kept.0 in
      omega arith))
  same-back q n is (Some x) kept = ap₂ (λ (m c : ℕ). refuse (nat_lt m c) (WouldGoBack c)) is (sym kept.0)

module _ (earlier : List Item) (fs : List Follower) (stands : StandsSo (world_behind earlier) (steps_of earlier))
    (keeps : Keeps earlier fs) where
  abbrev w : World
  w = world_behind earlier

  abbrev at : ℕ → Followed
  at = at_cursor earlier

  abbrev len : ℕ
  len = length (order_behind earlier)

  unmade-same : (f : ℕ) → unmade earlier f ≡ unknown_follower fs f
  unmade-same f = ap (λ b. refuse b (UnknownFollower f)) (same-unmade at len (told_of f earlier) (follower_at fs f)
      (keeps f))

  down-same : (f : ℕ) → is_down earlier f ≡ follower_down fs f
  down-same f = ap (λ b. refuse b (FollowerDown f)) (same-down at len (told_of f earlier) (follower_at fs f) (keeps f))

  up-same : (f : ℕ) → is_up earlier f ≡ follower_up fs f
  up-same f = ap (λ b. refuse b (FollowerUp f)) (same-up at len (told_of f earlier) (follower_at fs f) (keeps f))

  back-same : (f p : ℕ) → takes_part w p ≡ None → refuse (nat_lt (position_behind p earlier) (cursor_shown f earlier))
      (WouldGoBack (cursor_shown f earlier)) ≡ would_go_back w fs f p
  back-same f p takes =
      let there = stands.there p takes in
      let r : Replica = there.replica in
      same-back at len (told_of f earlier) r.held.queue (position_behind p earlier) there.greens.position
      (follower_at fs f) (keeps f)
      ∙ sym (ap (λ (o : Option Replica). option_and_then (λ r. option_and_then (goes_back r.held.queue)
      (follower_at fs f)) o) there.is)

  white-same : (f p : ℕ) → takes_part w p ≡ None → unknown_follower fs f ≡ None → follower_down fs f ≡ None →
      refuse (nat_lt (cursor_shown f earlier) (white_of p (steps_of earlier)))
      (Discarded (white_of p (steps_of earlier))) ≡ discarded w fs f p
  white-same f p takes known up =
      let there = stands.there p takes in
      let r : Replica = there.replica in
      let is = stands-up earlier fs stands keeps f (up-there f (follower_at fs f) known up) in
      let life : life_at fs f ≡ Some (Up is.now is.armed) = ap (option_map (λ (x : Follower). x.life)) is.is in
      ap₂ (λ (c n : ℕ). refuse (nat_lt c n) (Discarded n)) (sym is.so.cursor) there.greens.white
      ∙ sym (ap (λ (o : Option Replica). option_and_then (λ r. option_and_then (lacks r.held.queue) (life_at fs f)) o)
      there.is ∙ ap (option_and_then (lacks r.held.queue)) life)

  pub refusal-told : (e : FollowEvent) → told_follow_refusal earlier e ≡ follow_refusal w fs e
  unfolding follow_refusal
  refusal-told (Make f p) =
      same-first (takes_part w p) (refuse (nat_lt (position_behind p earlier) (cursor_shown f earlier))
      (WouldGoBack (cursor_shown f earlier)) ∷ []) (would_go_back w fs f p ∷ [])
      (λ takes. ap (λ o. first_some (o ∷ [])) (back-same f p takes))
  refusal-told (Feed p f count) =
      let white : Option Reason = refuse (nat_lt (cursor_shown f earlier) (white_of p (steps_of earlier)))
      (Discarded (white_of p (steps_of earlier))) in
      same-first (takes_part w p) (unmade earlier f ∷ is_down earlier f ∷ white ∷ [])
      (unknown_follower fs f ∷ follower_down fs f ∷ discarded w fs f p ∷ [])
      (λ takes. ap₂ (λ (a b : Option Reason). first_some (a ∷ b ∷ white ∷ [])) (unmade-same f) (down-same f)
      ∙ same-first (unknown_follower fs f) (follower_down fs f ∷ white ∷ [])
      (follower_down fs f ∷ discarded w fs f p ∷ [])
      (λ known. same-first (follower_down fs f) (white ∷ []) (discarded w fs f p ∷ [])
      (λ up. ap (λ o. first_some (o ∷ [])) (white-same f p takes known up))))
  refusal-told (Stop f call fill) = ap₂ (λ (a b : Option Reason). first_some (a ∷ b ∷ [])) (unmade-same f) (down-same f)
  refusal-told (Recover f) = ap₂ (λ (a b : Option Reason). first_some (a ∷ b ∷ [])) (unmade-same f) (up-same f)
  refusal-told (Weak f query) = ap₂ (λ (a b : Option Reason). first_some (a ∷ b ∷ [])) (unmade-same f) (down-same f)
