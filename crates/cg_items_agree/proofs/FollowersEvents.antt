-- Each event of followers, where it is admitted, acts as it is due.
use Rattle.std.proofs.Common.{◌≡◌, ℕ, zero, suc, ◌+◌, ◌-◌, ◌≤◌, min, false, not, List, [], ◌∷◌, length, Option, Some, None, refl, sym, ap, ◌∙◌, subst, inl, inr, arith, eqb-true, ltb-false, is_none, option_map, option_and_then, nat_eq, nat_lt}
use Rattle.std.specs.Prelude.{◌==◌}
use Rattle.std.specs.Option.{option_map_or, option_eq}
use Rattle.std.proofs.lemmas.Bool.{cases_Bool, cond_both}
use Rattle.cg_base.specs.Lists.{first_some}
use Rattle.cg_base.specs.OptionLaws.{first_none}
use Rattle.cg_action.specs.declared.query.Query.{Query}
use Rattle.cg_action.specs.declared.answer.Answer.{Answer}
use Rattle.cg_group.specs.declared.reason.Reason.{Reason}
use Rattle.cg_group.specs.declared.reason.Reason.TheVariants.{Discarded, WouldGoBack, UnknownFollower, FollowerDown, FollowerUp}
use Rattle.cg_group.specs.Refusals.{refuse}
use Rattle.cg_queue.specs.Queue.{QueueView, green_count}
use Rattle.cg_disk_records.specs.Crash.{Strike}
use Rattle.cg_client.specs.Replica.{Replica}
use Rattle.cg_db.specs.Find.{answer}
use Rattle.cg_model.specs.World.{World, replica_of}
use Rattle.cg_model.specs.Admission.{takes_part}
use Rattle.cg_model.specs.Run.{Step}
use Rattle.cg_model.specs.Shown.{order_of}
use Rattle.cg_follow.specs.Followed.{Followed, fed}
use Rattle.cg_follow.specs.declared.event.FollowEvent.{FollowEvent}
use Rattle.cg_follow.specs.declared.event.FollowEvent.TheVariants.{Follower as Make, Feed, Stop, Recover, Weak}
use Rattle.cg_follower_list.specs.declared.follow_line.FollowLine.{FollowLine}
use Rattle.cg_follower_list.specs.declared.follow_line.FollowLine.TheVariants.{At, Down, Weak as Answers}
use Rattle.cg_follower_list.specs.Life.{Life, Up, Fallen, Follower}
use Rattle.cg_follower_list.specs.Followers.{FollowersNoted, follower_at, life_at, is_up, unknown_follower, follower_down, follower_up, goes_back, lacks, becomes, stays, changes_to, feeding, stopping, taken_by, next_greens, after_feed, answers, changed_line, cursor_in}
use Rattle.cg_items.specs.Followers.{follow_refusal, follow_acts, would_go_back, discarded, made_of}
use Rattle.cg_items.specs.Items.{Item, steps_of}
use Rattle.cg_items.specs.AfterItems.{world_behind, order_behind, position_behind}
use Rattle.cg_items.specs.FollowersAgree.{follow_due, left_by, at_cursor}
use Rattle.cg_items_agree.proofs.FollowerPlaces.{placed-there, others-there}
use Rattle.cg_model.specs.MadeLaws.{AreMade}
use Rattle.cg_items_agree.proofs.FollowersGreens.{HasGreens, made-is, next-count, next-feeds, reach-within}
use Rattle.cg_items_agree.proofs.FollowersTold.{Told, told_of, told_behind, told-other, follower_of_event, AreOf}
use Rattle.cg_items_agree.proofs.LifeTold.{come_due, feed_due, feed_left, anew, IsUpAs, IsFallenAs, KeptAs, Goes, IsDone, make-done, feed-done, stop-now, stop-later, recover-done, asked-goes}
use Rattle.cg_group.specs.RefusalLaws.{refuse_none}

-- ---- tests

-- the first reason, where the rest is the same once the first test gives none
pub same-first : (o : Option Reason) (xs ys : List (Option Reason)) → (o ≡ None → first_some xs ≡ first_some ys) →
    first_some (o ∷ xs) ≡ first_some (o ∷ ys)
same-first None xs ys same = same refl
same-first (Some r) xs ys same = refl

-- ---- one that is up, or down

pub record IsUpThere (o : Option Follower) : Type 0 where
  pub id : ℕ
  pub shown : ℕ
  pub now : Followed
  pub armed : Option Strike
  pub is : o ≡ Some (record { id = id; shown = shown; life = Up now armed })

pub record IsDownThere (o : Option Follower) : Type 0 where
  pub id : ℕ
  pub shown : ℕ
  pub left : Followed
  pub is : o ≡ Some (record { id = id; shown = shown; life = Fallen left })

pub up-there : (f : ℕ) (o : Option Follower) → refuse (is_none o) (UnknownFollower f) ≡ None →
    refuse (option_map_or (λ life. not (is_up life)) (option_map (λ x. x.life) o) false) (FollowerDown f) ≡ None →
    IsUpThere o
up-there f None known e = absurd (let clash : Some (UnknownFollower f) ≡ None = known in cc)
up-there f (Some x) known e = life x.id x.shown x.life e where
  life : (id shown : ℕ) (l : Life) → refuse (not (is_up l)) (FollowerDown f) ≡ None →
      IsUpThere (Some (record { id = id; shown = shown; life = l }))
  life id shown (Up now armed) e = record { id = id; shown = shown; now = now; armed = armed; is = refl }
  life id shown (Fallen left) e = absurd (let clash : Some (FollowerDown f) ≡ None = e in cc)

down-there : (f : ℕ) (o : Option Follower) → refuse (is_none o) (UnknownFollower f) ≡ None →
    refuse (option_map_or is_up (option_map (λ x. x.life) o) false) (FollowerUp f) ≡ None → IsDownThere o
down-there f None known e = absurd (let clash : Some (UnknownFollower f) ≡ None = known in cc)
down-there f (Some x) known e = life x.id x.shown x.life e where
  life : (id shown : ℕ) (l : Life) → refuse (is_up l) (FollowerUp f) ≡ None →
      IsDownThere (Some (record { id = id; shown = shown; life = l }))
  life id shown (Up now armed) e = absurd (let clash : Some (FollowerUp f) ≡ None = e in cc)
  life id shown (Fallen left) e = record { id = id; shown = shown; left = left; is = refl }

-- ---- the lines of one that changes

changed-of : (f : ℕ) (o : Option Life) (life : Life) → AreOf f (changed_line f o life)
changed-of f None (Up now armed) = (refl, tt)
changed-of f None (Fallen left) = (refl, tt)
changed-of f (Some old) (Up now armed) = cond_both (option_eq nat_eq (cursor_in old) (Some now.cursor)) []
    (At f now.cursor ∷ []) (AreOf f) (λ y. tt) (λ n. (refl, tt))
changed-of f (Some old) (Fallen left) = cond_both (option_eq nat_eq (cursor_in old) None) [] (Down f ∷ []) (AreOf f)
    (λ y. tt) (λ n. (refl, tt))

-- ---- events

-- a replica that takes part is up, and has the order's greens
pub record HasReplica (w : World) (steps : List Step) (p : ℕ) : Type 0 where
  pub replica : Replica
  pub is : replica_of w p ≡ Some replica
  pub greens : HasGreens steps p replica

pub record StandsSo (w : World) (steps : List Step) : Type 0 where
  pub made : AreMade steps (order_of steps)
  pub there : (p : ℕ) → takes_part w p ≡ None → HasReplica w steps p

-- the followers are kept as the items tell
abbrev pub Keeps : List Item → List Follower → Type 0
Keeps items fs = (f : ℕ) → KeptAs (at_cursor items) (length (order_behind items)) (told_of f items) (follower_at fs f)

module _ (earlier : List Item) (fs : List Follower) (stands : StandsSo (world_behind earlier) (steps_of earlier))
    (keeps : Keeps earlier fs) where
  abbrev w : World
  w = world_behind earlier

  abbrev at : ℕ → Followed
  at = at_cursor earlier

  abbrev len : ℕ
  len = length (order_behind earlier)

  abbrev told : ℕ → Told
  told f = told_of f earlier

  -- the lines are those that are due, and each follower goes on with what is told of it
  pub record Acts (e : FollowEvent) (noted : FollowersNoted) : Type 0 where
    pub lines : noted.lines ≡ follow_due earlier (Some e)
    pub goes : (g : ℕ) → Goes at len (told g) (told_behind g (told g) (Some e) noted.lines
        (left_by earlier g (Some e))) (follower_at noted.followers g)

  -- the others stay as they are
  other-goes : (f g : ℕ) (e : FollowEvent) (lines : List FollowLine) (o : Option Follower) → (f == g) ≡ false →
      follower_of_event e ≡ f → AreOf f lines → o ≡ follower_at fs g →
      Goes at len (told g) (told_behind g (told g) (Some e) lines (left_by earlier g (Some e))) o
  other-goes f g e lines o apart is are same =
      subst (λ (u : Told). Goes at len (told g) u o)
      (sym (told-other f g apart (told g) e lines (left_by earlier g (Some e)) is are))
      (record { kept = subst (KeptAs at len (told g)) (sym same) (keeps g); grows = omega arith })

  -- one changes
  becomes-acts : (e : FollowEvent) (f left : ℕ) (life : Life) (due : List FollowLine) → follower_of_event e ≡ f →
      left_by earlier f (Some e) ≡ left → follow_due earlier (Some e) ≡ due →
      IsDone at len f (told f) (Some e) left (follower_at fs f) due life → Acts e (becomes fs f life)
  becomes-acts e f left life due is so same done = record { lines = done.lines ∙ sym same; goes = goes } where
    goes : (g : ℕ) → Goes at len (told g) (told_behind g (told g) (Some e) (becomes fs f life).lines
        (left_by earlier g (Some e))) (follower_at (becomes fs f life).followers g)
    goes g = elim (cases_Bool (f == g)) [
      | inl here ↦
          subst (λ (n : ℕ). Goes at len (told n) (told_behind n (told n) (Some e) (becomes fs f life).lines
          (left_by earlier n (Some e))) (follower_at (becomes fs f life).followers n)) (eqb-true f g here)
          (subst (Goes at len (told f) (told_behind f (told f) (Some e) (becomes fs f life).lines
          (left_by earlier f (Some e)))) (sym (placed-there fs (anew f (follower_at fs f) life)))
          (subst (λ (n : ℕ). Goes at len (told f) (told_behind f (told f) (Some e) (becomes fs f life).lines n)
          (Some (anew f (follower_at fs f) life))) (sym so) done.goes))
      | inr apart ↦ other-goes f g e (becomes fs f life).lines (follower_at (becomes fs f life).followers g) apart is
          (changed-of f (life_at fs f) life) (others-there fs (anew f (follower_at fs f) life) g apart)
    ]

  -- a follower that is up as it is told
  pub record StandsUp (f : ℕ) : Type 0 where
    pub id : ℕ
    pub now : Followed
    pub armed : Option Strike
    pub is : follower_at fs f ≡ Some (record { id = id; shown = (told f).cursor; life = Up now armed })
    pub so : IsUpAs at len (told f) now armed

  pub stands-up : (f : ℕ) → IsUpThere (follower_at fs f) → StandsUp f
  stands-up f up =
      let kept = subst (KeptAs at len (told f)) up.is (keeps f) in
      record {
        id = up.id;
        now = up.now;
        armed = up.armed;
        is = up.is ∙ ap (λ (n : ℕ). Some (record { id = up.id; shown = n; life = Up up.now up.armed })) kept.0;
        so = kept.1;
      }

  record StandsDown (f : ℕ) : Type 0 where
    id : ℕ
    left : Followed
    is : follower_at fs f ≡ Some (record { id = id; shown = (told f).cursor; life = Fallen left })
    so : IsFallenAs at len (told f) left

  stands-down : (f : ℕ) → IsDownThere (follower_at fs f) → StandsDown f
  stands-down f down =
      let kept = subst (KeptAs at len (told f)) down.is (keeps f) in
      record {
        id = down.id;
        left = down.left;
        is = down.is ∙ ap (λ (n : ℕ). Some (record { id = down.id; shown = n; life = Fallen down.left })) kept.0;
        so = kept.1;
      }

  -- ---- follower f p

  not-back : (f : ℕ) (q : QueueView) (o : Option Follower) → KeptAs at len (told f) o →
      option_and_then (goes_back q) o ≡ None → (told f).cursor ≤ green_count q
  not-back f q None kept e = let none = kept.0 in omega arith
  not-back f q (Some x) kept e =
      let same = kept.0 in
      let test : nat_lt (green_count q) x.shown ≡ false = refuse_none (nat_lt (green_count q) x.shown)
      (WouldGoBack x.shown) e in
      let fewer : x.shown ≤ green_count q = ltb-false (green_count q) x.shown test in
      omega arith

  make-acts : (f p : ℕ) → first_some (takes_part w p ∷ would_go_back w fs f p ∷ []) ≡ None →
      Acts (Make f p) (option_map_or (λ r. becomes fs f (made_of r)) (replica_of w p) (stays fs))
  make-acts f p admitted =
      let first = first_none (takes_part w p) (would_go_back w fs f p ∷ []) admitted in
      let second = first_none (would_go_back w fs f p) [] first.1 in
      let there = stands.there p first.0 in
      let r : Replica = there.replica in
      let has : HasGreens (steps_of earlier) p r = there.greens in
      let made : Followed = record { cursor = green_count r.held.queue; db = r.held.db } in
      let tested : option_and_then (goes_back r.held.queue) (follower_at fs f) ≡ None =
      sym (ap (λ (o : Option Replica). option_and_then (λ r. option_and_then (goes_back r.held.queue)
      (follower_at fs f)) o) there.is) ∙ second.0 in
      let more = not-back f r.held.queue (follower_at fs f) (keeps f) tested in
      subst (λ (o : Option Replica). Acts (Make f p) (option_map_or (λ r. becomes fs f (made_of r)) o (stays fs)))
      (sym there.is)
      (becomes-acts (Make f p) f (left_by earlier f (Some (Make f p))) (made_of r) (come_due (told f) f made.cursor)
      refl refl
      (ap (come_due (told f) f) has.position)
      (make-done at len f p (left_by earlier f (Some (Make f p))) (told f) made
      (made-is (steps_of earlier) stands.made p r has) more has.within (follower_at fs f) (keeps f)))

  -- ---- feed p f k

  feed-acts : (p f count : ℕ) →
      first_some (takes_part w p ∷ unknown_follower fs f ∷ follower_down fs f ∷ discarded w fs f p ∷ []) ≡ None →
      Acts (Feed p f count) (option_map_or (λ r. changes_to fs f (feeding r.held.queue count)) (replica_of w p)
      (stays fs))
  feed-acts p f count admitted =
      let first = first_none (takes_part w p) (unknown_follower fs f ∷ follower_down fs f ∷ discarded w fs f p ∷ [])
      admitted in
      let second = first_none (unknown_follower fs f) (follower_down fs f ∷ discarded w fs f p ∷ []) first.1 in
      let third = first_none (follower_down fs f) (discarded w fs f p ∷ []) second.1 in
      let fourth = first_none (discarded w fs f p) [] third.1 in
      let there = stands.there p first.0 in
      let r : Replica = there.replica in
      let q : QueueView = r.held.queue in
      let has : HasGreens (steps_of earlier) p r = there.greens in
      let up = stands-up f (up-there f (follower_at fs f) second.0 third.0) in
      let now : Followed = up.now in
      let armed : Option Strike = up.armed in
      let so : IsUpAs at len (told f) now armed = up.so in
      let life : life_at fs f ≡ Some (Up now armed) = ap (option_map (λ (x : Follower). x.life)) up.is in
      let tested : refuse (nat_lt now.cursor q.white) (Discarded q.white) ≡ None =
      sym (ap (λ (o : Option Replica). option_and_then (λ r. option_and_then (lacks r.held.queue) (life_at fs f)) o)
      there.is ∙ ap (option_and_then (lacks q)) life) ∙ fourth.0 in
      let behind : q.white ≤ now.cursor = ltb-false now.cursor q.white
      (refuse_none (nat_lt now.cursor q.white) (Discarded q.white) tested) in
      let k : ℕ = min count (position_behind p earlier - (told f).cursor) in
      let next = next_greens q now.cursor count in
      let same : min count (green_count q - now.cursor) ≡ k = (let cursor = so.cursor in
      let position = has.position in omega arith) in
      let long : length next ≡ k = next-count (steps_of earlier) stands.made p r has now.cursor count behind ∙ same in
      let feeds : fed now next ≡ at ((told f).cursor + k) =
      ap (λ (x : Followed). fed x next) so.of_order
      ∙ next-feeds (steps_of earlier) stands.made p r has now.cursor count behind so.within
      ∙ ap at (let cursor = so.cursor in let both : now.cursor + min count (green_count q - now.cursor) ≡
      (told f).cursor + k = omega arith in both) in
      let inside : (told f).cursor + k ≤ len =
      (let cursor = so.cursor in let within = reach-within (steps_of earlier) stands.made p r has now.cursor count
      so.within in omega arith) in
      let e : FollowEvent = Feed p f count in
      subst (λ (o : Option Replica). Acts e (option_map_or (λ r. changes_to fs f (feeding r.held.queue count)) o
      (stays fs))) (sym there.is)
      (subst (λ (o : Option Life). Acts e (option_map_or (λ life. becomes fs f (feeding q count life)) o (stays fs)))
      (sym life)
      (becomes-acts e f (feed_left (told f) k) (after_feed next armed now) (feed_due (told f) f k) refl refl refl
      (subst (λ (o : Option Follower). IsDone at len f (told f) (Some e) (feed_left (told f) k) o
      (feed_due (told f) f k) (after_feed next armed now)) (sym up.is)
      (feed-done at len f p count k (told f) up.id now armed so next long feeds inside))))

  -- ---- fstop f n H, frecover f and fweak f

  stop-acts : (f call : ℕ) (fill : List ℕ) → first_some (unknown_follower fs f ∷ follower_down fs f ∷ []) ≡ None →
      Acts (Stop f call fill) (changes_to fs f (stopping call fill))
  stop-acts f call fill admitted =
      let first = first_none (unknown_follower fs f) (follower_down fs f ∷ []) admitted in
      let second = first_none (follower_down fs f) [] first.1 in
      let up = stands-up f (up-there f (follower_at fs f) first.0 second.0) in
      let life : life_at fs f ≡ Some (Up up.now up.armed) = ap (option_map (λ (x : Follower). x.life)) up.is in
      subst (λ (o : Option Life). Acts (Stop f call fill)
      (option_map_or (λ life. becomes fs f (stopping call fill life)) o (stays fs))) (sym life) (at-call call up)
    where
      at-call : (call : ℕ) (up : StandsUp f) →
          Acts (Stop f call fill) (becomes fs f (stopping call fill (Up up.now up.armed)))
      at-call zero up =
          becomes-acts (Stop f zero fill) f (told f).cursor (Fallen up.now) (Down f ∷ []) refl refl refl
          (subst (λ (o : Option Follower). IsDone at len f (told f) (Some (Stop f zero fill)) (told f).cursor o
          (Down f ∷ []) (Fallen up.now)) (sym up.is)
          (stop-now at len f (told f) up.id fill up.now up.armed up.so))
      at-call (suc n) up =
          let life : Life = stopping (suc n) fill (Up up.now up.armed) in
          becomes-acts (Stop f (suc n) fill) f (told f).cursor life [] refl refl refl
          (subst (λ (o : Option Follower). IsDone at len f (told f) (Some (Stop f (suc n) fill))
          (told f).cursor o [] life) (sym up.is)
          (stop-later at len f (told f) up.id n fill up.now up.armed up.so))

  recover-acts : (f : ℕ) → first_some (unknown_follower fs f ∷ follower_up fs f ∷ []) ≡ None →
      Acts (Recover f) (changes_to fs f (λ life. Up (taken_by life) None))
  recover-acts f admitted =
      let first = first_none (unknown_follower fs f) (follower_up fs f ∷ []) admitted in
      let second = first_none (follower_up fs f) [] first.1 in
      let down = stands-down f (down-there f (follower_at fs f) first.0 second.0) in
      let life : life_at fs f ≡ Some (Fallen down.left) = ap (option_map (λ (x : Follower). x.life)) down.is in
      subst (λ (o : Option Life). Acts (Recover f) (option_map_or (λ life. becomes fs f (Up (taken_by life) None)) o
      (stays fs))) (sym life)
      (becomes-acts (Recover f) f (told f).cursor (Up down.left None) (At f (told f).left ∷ []) refl refl refl
      (subst (λ (o : Option Follower). IsDone at len f (told f) (Some (Recover f)) (told f).cursor o
      (At f (told f).left ∷ []) (Up down.left None)) (sym down.is)
      (recover-done at len f (told f) down.id down.left down.so)))

  weak-acts : (f : ℕ) (query : Query) → first_some (unknown_follower fs f ∷ follower_down fs f ∷ []) ≡ None →
      Acts (Weak f query) (record { followers = fs; lines = answers fs f query })
  weak-acts f query admitted =
      let first = first_none (unknown_follower fs f) (follower_down fs f ∷ []) admitted in
      let second = first_none (follower_down fs f) [] first.1 in
      let up = stands-up f (up-there f (follower_at fs f) first.0 second.0) in
      let life : life_at fs f ≡ Some (Up up.now up.armed) = ap (option_map (λ (x : Follower). x.life)) up.is in
      let told_lines : answers fs f query ≡ Answers f (answer up.now.db query) ∷ [] =
      ap (λ (o : Option Life). option_map_or (λ life. Answers f (answer (taken_by life).db query) ∷ []) o []) life in
      let is : up.now ≡ at (told f).cursor = up.so.of_order ∙ ap at up.so.cursor in
      record {
        lines = told_lines ∙ ap (λ (x : Followed). Answers f (answer x.db query) ∷ []) is;
        goes = λ g. subst (λ (ls : List FollowLine). Goes at len (told g)
            (told_behind g (told g) (Some (Weak f query)) ls (left_by earlier g (Some (Weak f query))))
            (follower_at fs g)) (sym told_lines)
            (each g (answer up.now.db query) up);
      } where
        each : (g : ℕ) (a : Answer) → StandsUp f →
            Goes at len (told g) (told_behind g (told g) (Some (Weak f query)) (Answers f a ∷ [])
            (left_by earlier g (Some (Weak f query)))) (follower_at fs g)
        each g a up = elim (cases_Bool (f == g)) [
          | inl here ↦
              subst (λ (n : ℕ). Goes at len (told n) (told_behind n (told n) (Some (Weak f query)) (Answers f a ∷ [])
              (left_by earlier n (Some (Weak f query)))) (follower_at fs n)) (eqb-true f g here)
              (subst (Goes at len (told f) (told_behind f (told f) (Some (Weak f query)) (Answers f a ∷ [])
              (left_by earlier f (Some (Weak f query))))) (sym up.is)
              (asked-goes at len f (told f) query a (left_by earlier f (Some (Weak f query)))
              (record { id = up.id; shown = (told f).cursor; life = Up up.now up.armed }) (refl, up.so)))
          | inr apart ↦ other-goes f g (Weak f query) (Answers f a ∷ []) (follower_at fs g) apart refl (refl, tt) refl
        ]

  pub event-acts : (e : FollowEvent) → follow_refusal w fs e ≡ None → Acts e (follow_acts w fs e)
  unfolding follow_refusal follow_acts
  event-acts (Make f p) admitted = make-acts f p admitted
  event-acts (Feed p f count) admitted = feed-acts p f count admitted
  event-acts (Stop f call fill) admitted = stop-acts f call fill admitted
  event-acts (Recover f) admitted = recover-acts f admitted
  event-acts (Weak f query) admitted = weak-acts f query admitted
