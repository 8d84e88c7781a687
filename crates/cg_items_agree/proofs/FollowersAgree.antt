-- The followers of a run agree: what is kept of them goes on with what is told, from one item to the next.
use Rattle.std.proofs.Common.{◌≡◌, ℕ, ◌≤◌, true, false, List, [], ◌∷◌, ◌++◌, length, Option, Some, None, refl, sym, ap, ap₂, ◌∙◌, subst, inl, inr, arith, append_assoc, append-nil, option_and_then}
use Rattle.cg_group.specs.declared.reason.Reason.{Reason}
use Rattle.cg_model.specs.World.{World, no_world}
use Rattle.cg_model.specs.Run.{Step, IsRunFrom, world_after}
use Rattle.cg_model.specs.Shown.{order_of, ordered_actions}
use Rattle.cg_follow.specs.Followed.{Followed, follower_of}
use Rattle.cg_follow.specs.declared.event.FollowEvent.{FollowEvent}
use Rattle.cg_follower_list.specs.declared.follow_line.FollowLine.{FollowLine}
use Rattle.cg_follower_list.specs.Life.{Life, Up, Fallen, Follower}
use Rattle.cg_follower_list.specs.Followers.{follower_at}
use Rattle.cg_items.specs.declared.companion.Companion.{Companion}
use Rattle.cg_items.specs.declared.companion.Companion.TheVariants.{Alone, Followers, Relaxed, Sessions, Comparing, Imaging}
use Rattle.cg_items.specs.declared.companion.Further.TheVariants as further
use Rattle.cg_items.specs.Companion.{further_refusal}
use Rattle.cg_items.specs.Followers.{follow_refusal, follow_acts}
use Rattle.cg_items.specs.Items.{Item, steps_of}
use Rattle.cg_items.specs.Kept.{noted_by, kept_behind, AreNoted}
use Rattle.cg_items.specs.Refused.{Refused}
use Rattle.cg_items.specs.OfRun.{IsFirst, AreOfRun}
use Rattle.cg_items.specs.AfterItems.{ItemAfter, world_behind, order_behind}
use Rattle.cg_items.specs.FollowersAgree.{FollowersAgree, IsOfOrder, follow_event_of, follow_lines, follow_due, cursor_shown, followers_in, followers_behind, at_cursor, left_by, told_follow_refusal}
use Rattle.cg_items_agree.proofs.OrderActions.{ordered-more, order-longer}
use Rattle.cg_items_agree.proofs.ItemParts.{is_following, MayKeep, IsOther, IsOwn, kind-kept, is-followers, parts-of, kept-last, noted-there, lines-of}
use Rattle.cg_items_agree.proofs.FollowersTold.{Told, told_of, told_behind, told-last}
use Rattle.cg_items_agree.proofs.LifeTold.{LifeAs, KeptAs}
use Rattle.cg_items_agree.proofs.FollowersEvents.{StandsSo, Keeps, Acts, event-acts}
use Rattle.cg_items_agree.proofs.FollowersRefusals.{refusal-told}
use Rattle.cg_items.specs.ItemLaws.{steps-append}
use Rattle.cg_model.specs.RunLaws.{front-run}

-- ---- steps

-- ---- a longer order

module _ (at new : ℕ → Followed) (len more : ℕ) (longer : len ≤ more) (same : (n : ℕ) → n ≤ len → new n ≡ at n) where
  life-on : (t : Told) (life : Life) → LifeAs at len t life → LifeAs new more t life
  life-on t (Up now armed) told = record {
    up = told.up;
    of_order = told.of_order ∙ sym (same now.cursor told.within);
    cursor = told.cursor;
    stop = told.stop;
    within = (let inside = told.within in omega arith);
  }
  life-on t (Fallen left) told = record {
    up = told.up;
    of_order = told.of_order ∙ sym (same left.cursor told.within);
    cursor = told.cursor;
    further = told.further;
    within = (let inside = told.within in omega arith);
  }

  kept-on : (t : Told) (o : Option Follower) → KeptAs at len t o → KeptAs new more t o
  kept-on t None kept = kept
  kept-on t (Some x) kept = (kept.0, life-on t x.life kept.1)

-- ---- what is kept, read off

module _ (items : List Item) (f : ℕ) where
  life-of_order : (life : Life) → LifeAs (at_cursor items) (length (order_behind items)) (told_of f items) life →
      IsOfOrder items f life
  life-of_order (Up now armed) told = (told.of_order, told.cursor, told.stop)
  life-of_order (Fallen left) told = (told.of_order, told.cursor)

  life-within : (life : Life) → LifeAs (at_cursor items) (length (order_behind items)) (told_of f items) life →
      cursor_shown f items ≤ length (order_behind items)
  life-within (Up now armed) told = let same = told.cursor in let inside = told.within in omega arith
  life-within (Fallen left) told = let further = told.further in let inside = told.within in omega arith

  kept-within : (o : Option Follower) → KeptAs (at_cursor items) (length (order_behind items)) (told_of f items) o →
      cursor_shown f items ≤ length (order_behind items)
  kept-within None kept = let none = kept.0 in omega arith
  kept-within (Some x) kept = life-within x.life kept.1

-- ---- what a command keeps

first-followers : (c : Companion) → IsFirst c → is_following c ≡ true → c ≡ Followers []
first-followers Alone first e = absurd (let clash : false ≡ true = e in cc)
first-followers (Followers fs) first e = ap Followers first
first-followers (Relaxed rows) first e = absurd (let clash : false ≡ true = e in cc)
first-followers (Sessions sessions) first e = absurd (let clash : false ≡ true = e in cc)
first-followers Comparing first e = absurd (let clash : false ≡ true = e in cc)
first-followers (Imaging replica) first e = absurd (let clash : false ≡ true = e in cc)

kept-followers : (items : List Item) → kept_behind no_world (Followers []) items ≡ Followers (followers_behind items)
kept-followers items = is-followers (kept_behind no_world (Followers []) items)
    (kind-kept no_world (Followers []) items)

may-keep : (c : Companion) → IsFirst c → (items : List Item) →
    MayKeep (kept_behind no_world c items) (followers_behind items)
may-keep c first items follows =
    ap (λ (d : Companion). kept_behind no_world d items) (first-followers c first (sym (kind-kept no_world c items)
    ∙ follows)) ∙ kept-followers items

own-refusal : (w : World) (c : Companion) (fs : List Follower) (e : FollowEvent) (reason : Reason) → MayKeep c fs →
    further_refusal w c (further.Follow e) ≡ Some reason → follow_refusal w fs e ≡ Some reason
own-refusal w Alone fs e reason may is = absurd (let clash : None ≡ Some reason = is in cc)
own-refusal w (Followers gs) fs e reason may is = ap (λ (xs : List Follower). follow_refusal w xs e)
    (sym (ap followers_in (may refl))) ∙ is
own-refusal w (Relaxed rows) fs e reason may is = absurd (let clash : None ≡ Some reason = is in cc)
own-refusal w (Sessions sessions) fs e reason may is = absurd (let clash : None ≡ Some reason = is in cc)
own-refusal w Comparing fs e reason may is = absurd (let clash : None ≡ Some reason = is in cc)
own-refusal w (Imaging replica) fs e reason may is = absurd (let clash : None ≡ Some reason = is in cc)

next-followers : (earlier : List Item) (i : Item) →
    followers_behind (earlier ++ i ∷ []) ≡ followers_in
    (noted_by (world_behind earlier) (Followers (followers_behind earlier)) i.further i.step).companion
next-followers earlier i =
    ap followers_in (kept-last no_world (Followers []) earlier i
    ∙ ap (λ (c : Companion). (noted_by (world_behind earlier) c i.further i.step).companion) (kept-followers earlier))

-- ---- an item

module _ (earlier : List Item) (i : Item) (stands : StandsSo (world_behind earlier) (steps_of earlier))
    (keeps : Keeps earlier (followers_behind earlier)) where
  abbrev now : List Item
  now = earlier ++ i ∷ []

  abbrev fs : List Follower
  fs = followers_behind earlier

  pub record Advances : Type 0 where
    pub kept : Keeps now (followers_behind now)
    pub grows : (f : ℕ) → cursor_shown f earlier ≤ cursor_shown f now
    pub lines : follow_lines (i ∷ []) ≡ follow_due earlier (follow_event_of i)
    pub admitted : (e : FollowEvent) → follow_event_of i ≡ Some e → told_follow_refusal earlier e ≡ None

  moves-on : (t : Told) (o : Option Follower) → KeptAs (at_cursor earlier) (length (order_behind earlier)) t o →
      KeptAs (at_cursor now) (length (order_behind now)) t o
  moves-on t o kept =
      let steps = steps_of earlier in
      let more = steps_of (i ∷ []) in
      let all : steps_of now ≡ steps ++ more = steps-append earlier (i ∷ []) in
      let longer : length (order_of steps) ≤ length (order_of (steps ++ more)) = order-longer steps more in
      subst (λ (xs : List Step). KeptAs (λ n. follower_of (ordered_actions xs n)) (length (order_of xs)) t o) (sym all)
      (kept-on (at_cursor earlier) (λ n. follower_of (ordered_actions (steps ++ more) n)) (length (order_of steps))
      (length (order_of (steps ++ more))) longer
      (λ n within. ap follower_of (ordered-more steps stands.made more n within)) t o kept)

  -- what is told behind it, where its event and its lines are these
  told-now : (f : ℕ) (event : Option FollowEvent) (lines : List FollowLine) → follow_event_of i ≡ event →
      follow_lines (i ∷ []) ≡ lines →
      told_of f now ≡ told_behind f (told_of f earlier) event lines (left_by earlier f event)
  told-now f event lines is shows =
      told-last f earlier i
      ∙ ap₂ (λ (e : Option FollowEvent) (ls : List FollowLine). told_behind f (told_of f earlier) e ls
      (left_by earlier f e)) is shows

  other-advances : IsOther (world_behind earlier) fs i.further i.step i.lines → Advances
  other-advances other =
      let shows : follow_lines (i ∷ []) ≡ [] = lines-of i ∙ other.shows in
      let event : follow_event_of i ≡ None = other.is in
      let same : (f : ℕ) → told_of f now ≡ told_of f earlier = (λ f. told-now f None [] event shows) in
      let followers : followers_behind now ≡ fs = next-followers earlier i ∙ ap followers_in other.kept in
      record {
        kept = λ f. subst (λ (t : Told). KeptAs (at_cursor now) (length (order_behind now)) t
            (follower_at (followers_behind now) f)) (sym (same f))
            (subst (λ (xs : List Follower). KeptAs (at_cursor now) (length (order_behind now)) (told_of f earlier)
            (follower_at xs f)) (sym followers)
            (moves-on (told_of f earlier) (follower_at fs f) (keeps f)));
        grows = λ f. (let cursor : cursor_shown f now ≡ cursor_shown f earlier = ap (λ (t : Told). t.cursor)
            (same f) in omega arith);
        lines = shows ∙ sym (ap (follow_due earlier) event);
        admitted = λ e is. absurd (let clash : None ≡ Some e = sym event ∙ is in cc);
      }

  own-advances : IsOwn (world_behind earlier) fs i.further i.step i.lines → Advances
  own-advances own =
      let e : FollowEvent = own.event in
      let noted = follow_acts (world_behind earlier) fs e in
      let acts : Acts earlier fs stands keeps e noted = event-acts earlier fs stands keeps e own.admitted in
      let shows : follow_lines (i ∷ []) ≡ noted.lines = lines-of i ∙ own.shows in
      let event : follow_event_of i ≡ Some e = own.is in
      let told : (f : ℕ) → told_of f now ≡ told_behind f (told_of f earlier) (Some e) noted.lines
      (left_by earlier f (Some e)) = (λ f. told-now f (Some e) noted.lines event shows) in
      let followers : followers_behind now ≡ noted.followers = next-followers earlier i ∙ ap followers_in own.kept in
      record {
        kept = λ f. subst (λ (t : Told). KeptAs (at_cursor now) (length (order_behind now)) t
            (follower_at (followers_behind now) f)) (sym (told f))
            (subst (λ (xs : List Follower). KeptAs (at_cursor now) (length (order_behind now))
            (told_behind f (told_of f earlier) (Some e) noted.lines (left_by earlier f (Some e)))
            (follower_at xs f)) (sym followers)
            (moves-on (told_behind f (told_of f earlier) (Some e) noted.lines (left_by earlier f (Some e)))
            (follower_at noted.followers f) (acts.goes f).kept));
        grows = λ f. (let grown = (acts.goes f).grows in
            let cursor : cursor_shown f now ≡ (told_behind f (told_of f earlier) (Some e) noted.lines
            (left_by earlier f (Some e))).cursor = ap (λ (t : Told). t.cursor) (told f) in omega arith);
        lines = shows ∙ acts.lines ∙ sym (ap (follow_due earlier) event);
        admitted = λ d is. (let same : Some e ≡ Some d = sym event ∙ is in
            ap (λ (o : Option FollowEvent). option_and_then (told_follow_refusal earlier) o) (sym same)
            ∙ refusal-told earlier fs stands keeps e ∙ own.admitted);
      }

-- ---- a run

nothing-kept : Keeps [] (followers_behind [])
nothing-kept f = (refl, refl)

-- beside the world behind each run
abbrev pub AlwaysStandsSo : Type 0
AlwaysStandsSo = (steps : List Step) → IsRunFrom no_world steps → StandsSo (world_after no_world steps) steps

module _ (always : AlwaysStandsSo) (c : Companion) (items : List Item) (refused : Option Refused)
    (is : AreOfRun c items refused) where
  stands-at : (earlier later : List Item) → items ≡ earlier ++ later →
      StandsSo (world_behind earlier) (steps_of earlier)
  stands-at earlier later split =
      always (steps_of earlier) (front-run no_world (steps_of earlier) (steps_of later)
      (subst (IsRunFrom no_world) (ap (λ (xs : List Item). steps_of xs) split ∙ steps-append earlier later) is.run))

  advances : (earlier later : List Item) (i : Item) (split : items ≡ earlier ++ i ∷ later)
      (keeps : Keeps earlier (followers_behind earlier)) →
      Advances earlier i (stands-at earlier (i ∷ later) split) keeps
  advances earlier later i split keeps =
      let noted = noted-there no_world c 0 earlier i later (subst (AreNoted no_world c 0) split is.noted) in
      elim (parts-of (world_behind earlier) (kept_behind no_world c earlier) (followers_behind earlier)
      (may-keep c is.first earlier) i.lines i.further i.step noted.taken noted.lines) [
        | inl other ↦ other-advances earlier i (stands-at earlier (i ∷ later) split) keeps other
        | inr own ↦ own-advances earlier i (stands-at earlier (i ∷ later) split) keeps own
      ]

  keeps-along : (before between later : List Item) → items ≡ before ++ (between ++ later) →
      Keeps before (followers_behind before) → Keeps (before ++ between) (followers_behind (before ++ between))
  keeps-along before [] later split keeps = subst (λ (xs : List Item). Keeps xs (followers_behind xs))
      (sym (append-nil before)) keeps
  keeps-along before (i ∷ between) later split keeps =
      let one = advances before (between ++ later) i split keeps in
      subst (λ (xs : List Item). Keeps xs (followers_behind xs)) (append_assoc before (i ∷ []) between)
      (keeps-along (before ++ i ∷ []) between later (split ∙ sym (append_assoc before (i ∷ []) (between ++ later)))
      one.kept)

  keeps-at : (earlier later : List Item) → items ≡ earlier ++ later → Keeps earlier (followers_behind earlier)
  keeps-at earlier later split = keeps-along [] earlier later split nothing-kept

  goes-at : (earlier : List Item) (i : Item) (after : ItemAfter items earlier i) →
      Advances earlier i (stands-at earlier (i ∷ after.0) after.1) (keeps-at earlier (i ∷ after.0) after.1)
  goes-at earlier i after = advances earlier after.0 i after.1 (keeps-at earlier (i ∷ after.0) after.1)

  pub followers-agree : FollowersAgree items refused
  followers-agree = record {
    held = λ earlier i f x after there.
        let now : List Item = earlier ++ i ∷ [] in
        let kept = subst (KeptAs (at_cursor now) (length (order_behind now)) (told_of f now)) there
        ((goes-at earlier i after).kept f) in
        life-of_order now f x.life kept.1;
    never_falls = λ earlier i f after. (goes-at earlier i after).grows f;
    within = λ earlier i f after. kept-within (earlier ++ i ∷ []) f
        (follower_at (followers_behind (earlier ++ i ∷ [])) f) ((goes-at earlier i after).kept f);
    lines = λ earlier i after. (goes-at earlier i after).lines;
    admitted = λ earlier i e after event. (goes-at earlier i after).admitted e event;
    reason = λ e reason ended.
        let all : items ≡ items ++ [] = sym (append-nil items) in
        refusal-told items (followers_behind items) (stands-at items [] all) (keeps-at items [] all) e
        ∙ own-refusal (world_behind items) (kept_behind no_world c items) (followers_behind items) e reason
        (may-keep c is.first items) (is.told (further.Follow e) reason ended);
  }
