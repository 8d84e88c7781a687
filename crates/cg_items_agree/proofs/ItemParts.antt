-- What each item of a run does to the followers: nothing, or it is an event of theirs, which is admitted and acts.
use Rattle.std.proofs.Common.{◌≡◌, ◌⊎◌, ℕ, suc, Bool, true, false, List, [], ◌∷◌, ◌++◌, map, Option, Some, None, IfSome, refl, sym, ap, ◌∙◌, subst, inl, inr, append-nil, option_and_then}
use Rattle.cg_base.specs.Lists.{present}
use Rattle.cg_model.specs.World.{World}
use Rattle.cg_model.specs.Run.{Step, world_after}
use Rattle.cg_session.specs.declared.event.SessionEvent.{SessionEvent}
use Rattle.cg_made_rows.specs.declared.relaxed_event.RelaxedEvent.{RelaxedEvent}
use Rattle.cg_follow.specs.declared.event.FollowEvent.{FollowEvent}
use Rattle.cg_follower_list.specs.declared.follow_line.FollowLine.{FollowLine}
use Rattle.cg_follower_list.specs.Life.{Follower}
use Rattle.cg_items.specs.declared.companion.Companion.{Companion}
use Rattle.cg_items.specs.declared.companion.Companion.TheVariants.{Alone, Followers, Relaxed, Sessions, Comparing, Imaging}
use Rattle.cg_items.specs.declared.companion.Further.{Further}
use Rattle.cg_items.specs.declared.companion.Further.TheVariants as further
use Rattle.cg_items.specs.declared.companion.FurtherLine.{FurtherLine}
use Rattle.cg_items.specs.declared.companion.FurtherLine.TheVariants as line
use Rattle.cg_items.specs.Items.{Item, steps_of}
use Rattle.cg_items.specs.Companion.{session_event}
use Rattle.cg_items.specs.Relaxing.{relaxed_lines}
use Rattle.cg_items.specs.Sessions.{sessions_act, sessions_follow}
use Rattle.cg_items.specs.Followers.{follow_refusal, follow_acts}
use Rattle.cg_items.specs.Kept.{noted_by, next_world, kept_behind, IsTaken, AreNoted}
use Rattle.cg_items.specs.FollowersAgree.{follow_event, follow_line, follow_lines, followers_in}

-- ---- lines of one kind

abbrev pub followers_lines : List FurtherLine → List FollowLine
followers_lines lines = present (map follow_line lines)

lines-own : (lines : List FollowLine) → followers_lines (map line.Follow lines) ≡ lines
lines-own [] = refl
lines-own (l ∷ lines) = ap (λ ls. l ∷ ls) (lines-own lines)

module _ {X : Type 0} (kind : X → FurtherLine) (foreign : (x : X) → follow_line (kind x) ≡ None) where
  lines-foreign : (lines : List X) → followers_lines (map kind lines) ≡ []
  lines-foreign [] = refl
  lines-foreign (l ∷ lines) = ap (λ (o : Option FollowLine). present (o ∷ map follow_line (map kind lines)))
      (foreign l) ∙ lines-foreign lines

-- ---- what a command keeps is of its own kind

abbrev pub is_following : Companion → Bool
is_following (Followers followers) = true
is_following other = false

pub kind-stays : (w : World) (c : Companion) (asked : Option Further) (step : Option Step) →
    is_following (noted_by w c asked step).companion ≡ is_following c
kind-stays w Alone asked (Some s) = refl
kind-stays w (Followers fs) asked (Some s) = refl
kind-stays w (Relaxed rows) asked (Some s) = refl
kind-stays w (Sessions sessions) asked (Some s) = refl
kind-stays w Comparing asked (Some s) = refl
kind-stays w (Imaging replica) asked (Some s) = refl
kind-stays w c None None = refl
kind-stays w Alone (Some e) None = refl
kind-stays w (Followers fs) (Some (further.Follow e)) None = refl
kind-stays w (Followers fs) (Some (further.Relaxed e)) None = refl
kind-stays w (Followers fs) (Some (further.Session e)) None = refl
kind-stays w (Relaxed rows) (Some (further.Follow e)) None = refl
kind-stays w (Relaxed rows) (Some (further.Relaxed e)) None = refl
kind-stays w (Relaxed rows) (Some (further.Session e)) None = refl
kind-stays w (Sessions sessions) (Some (further.Follow e)) None = refl
kind-stays w (Sessions sessions) (Some (further.Relaxed e)) None = refl
kind-stays w (Sessions sessions) (Some (further.Session e)) None = refl
kind-stays w Comparing (Some e) None = refl
kind-stays w (Imaging replica) (Some e) None = refl

pub kind-kept : (w : World) (c : Companion) (items : List Item) → is_following (kept_behind w c items) ≡ is_following c
kind-kept w c [] = refl
kind-kept w c (i ∷ items) = kind-kept (next_world w i.step) (noted_by w c i.further i.step).companion items
    ∙ kind-stays w c i.further i.step

pub is-followers : (c : Companion) → is_following c ≡ true → c ≡ Followers (followers_in c)
is-followers Alone e = absurd (let clash : false ≡ true = e in cc)
is-followers (Followers fs) e = refl
is-followers (Relaxed rows) e = absurd (let clash : false ≡ true = e in cc)
is-followers (Sessions sessions) e = absurd (let clash : false ≡ true = e in cc)
is-followers Comparing e = absurd (let clash : false ≡ true = e in cc)
is-followers (Imaging replica) e = absurd (let clash : false ≡ true = e in cc)

-- ---- the parts of an item

-- it is no event of followers, and shows no line of them
pub record IsOther (w : World) (fs : List Follower) (asked : Option Further) (step : Option Step)
    (lines : List FurtherLine) : Type 0 where
  pub is : option_and_then follow_event asked ≡ None
  pub shows : followers_lines lines ≡ []
  pub kept : (noted_by w (Followers fs) asked step).companion ≡ Followers fs

-- it is one, and is admitted; its lines and the followers are those that come of it
pub record IsOwn (w : World) (fs : List Follower) (asked : Option Further) (step : Option Step)
    (lines : List FurtherLine) : Type 0 where
  pub event : FollowEvent
  pub is : option_and_then follow_event asked ≡ Some event
  pub admitted : follow_refusal w fs event ≡ None
  pub shows : followers_lines lines ≡ (follow_acts w fs event).lines
  pub kept : (noted_by w (Followers fs) asked step).companion ≡ Followers (follow_acts w fs event).followers

-- of a command that keeps no followers, or keeps these
abbrev pub MayKeep : Companion → List Follower → Type 0
MayKeep c fs = is_following c ≡ true → c ≡ Followers fs

-- lines that aren't of followers
abbrev pub AreForeign : World → Companion → Option Further → Option Step → Type 0
AreForeign w c asked step = followers_lines (noted_by w c asked step).lines ≡ []

step-foreign : (w : World) (c : Companion) (asked : Option Further) (s : Step) → AreForeign w c asked (Some s)
step-foreign w Alone asked s = refl
step-foreign w (Followers fs) asked s = refl
step-foreign w (Relaxed rows) asked s = refl
step-foreign w (Sessions sessions) asked s = lines-foreign line.Session (λ l. refl)
    (sessions_follow sessions (option_and_then session_event asked) s).lines
step-foreign w Comparing asked s = refl
step-foreign w (Imaging replica) asked s = refl

module _ (w : World) (c : Companion) (fs : List Follower) (may : MayKeep c fs) (lines : List FurtherLine) where
  abbrev Parts : Option Further → Option Step → Type 0
  Parts asked step = IsOther w fs asked step lines ⊎ IsOwn w fs asked step lines

  session-lines : (c : Companion) (e : SessionEvent) (step : Option Step) → IsTaken w c step (further.Session e) →
      AreForeign w c (Some (further.Session e)) step
  session-lines c e (Some s) taken = step-foreign w c (Some (further.Session e)) s
  session-lines (Sessions sessions) e None taken = lines-foreign line.Session (λ l. refl)
      (sessions_act w sessions e).lines
  session-lines Alone e None taken = absurd (let clash : false ≡ true = taken.0 in cc)
  session-lines (Followers gs) e None taken = absurd (let clash : false ≡ true = taken.0 in cc)
  session-lines (Relaxed rows) e None taken = absurd (let clash : false ≡ true = taken.0 in cc)
  session-lines Comparing e None taken = absurd (let clash : false ≡ true = taken.0 in cc)
  session-lines (Imaging replica) e None taken = absurd (let clash : false ≡ true = taken.0 in cc)

  relaxed-lines : (c : Companion) (e : RelaxedEvent) (step : Option Step) → IsTaken w c step (further.Relaxed e) →
      AreForeign w c (Some (further.Relaxed e)) step
  relaxed-lines c e (Some s) taken = step-foreign w c (Some (further.Relaxed e)) s
  relaxed-lines (Relaxed rows) e None taken = lines-foreign line.Relaxed (λ l. refl) (relaxed_lines w rows e)
  relaxed-lines Alone e None taken = absurd (let clash : false ≡ true = taken.0 in cc)
  relaxed-lines (Followers gs) e None taken = absurd (let clash : false ≡ true = taken.0 in cc)
  relaxed-lines (Sessions sessions) e None taken = absurd (let clash : false ≡ true = taken.0 in cc)
  relaxed-lines Comparing e None taken = absurd (let clash : false ≡ true = taken.0 in cc)
  relaxed-lines (Imaging replica) e None taken = absurd (let clash : false ≡ true = taken.0 in cc)

  -- an event of followers
  own : (gs : List Follower) → Followers gs ≡ Followers fs → (e : FollowEvent) (step : Option Step) →
      IsTaken w (Followers gs) step (further.Follow e) →
      lines ≡ (noted_by w (Followers gs) (Some (further.Follow e)) step).lines → Parts (Some (further.Follow e)) step
  own gs same e (Some s) taken is = absurd (let clash : Some s.event ≡ None = taken.2 in cc)
  own gs same e None taken is =
      let these : gs ≡ fs = ap followers_in same in
      inr (record {
        event = e;
        is = refl;
        admitted = ap (λ (xs : List Follower). follow_refusal w xs e) (sym these) ∙ taken.1;
        shows = ap followers_lines is ∙ lines-own (follow_acts w gs e).lines
            ∙ ap (λ (xs : List Follower). (follow_acts w xs e).lines) these;
        kept = refl;
      })

  followed : (c : Companion) → MayKeep c fs → (e : FollowEvent) (step : Option Step) →
      IsTaken w c step (further.Follow e) →
      lines ≡ (noted_by w c (Some (further.Follow e)) step).lines → Parts (Some (further.Follow e)) step
  followed (Followers gs) keeps e step taken is = own gs (keeps refl) e step taken is
  followed Alone keeps e step taken is = absurd (let clash : false ≡ true = taken.0 in cc)
  followed (Relaxed rows) keeps e step taken is = absurd (let clash : false ≡ true = taken.0 in cc)
  followed (Sessions sessions) keeps e step taken is = absurd (let clash : false ≡ true = taken.0 in cc)
  followed Comparing keeps e step taken is = absurd (let clash : false ≡ true = taken.0 in cc)
  followed (Imaging replica) keeps e step taken is = absurd (let clash : false ≡ true = taken.0 in cc)

  pub parts-of : (asked : Option Further) (step : Option Step) → IfSome asked (IsTaken w c step) →
      lines ≡ (noted_by w c asked step).lines → Parts asked step
  parts-of None None taken is = inl (record { is = refl; shows = ap followers_lines is; kept = refl })
  parts-of None (Some s) taken is =
      inl (record { is = refl; shows = ap followers_lines is ∙ step-foreign w c None s; kept = refl })
  parts-of (Some (further.Session e)) step taken is =
      inl (record { is = refl; shows = ap followers_lines is ∙ session-lines c e step taken; kept = stays step }) where
        stays : (step : Option Step) →
            (noted_by w (Followers fs) (Some (further.Session e)) step).companion ≡ Followers fs
        stays None = refl
        stays (Some s) = refl
  parts-of (Some (further.Relaxed e)) step taken is =
      inl (record { is = refl; shows = ap followers_lines is ∙ relaxed-lines c e step taken; kept = stays step }) where
        stays : (step : Option Step) →
            (noted_by w (Followers fs) (Some (further.Relaxed e)) step).companion ≡ Followers fs
        stays None = refl
        stays (Some s) = refl
  parts-of (Some (further.Follow e)) step taken is = followed c may e step taken is

-- ---- items one behind the other

world-step : (w : World) (o : Option Step) (rest : List (Option Step)) →
    world_after w (present (o ∷ rest)) ≡ world_after (next_world w o) (present rest)
world-step w None rest = refl
world-step w (Some s) rest = refl

pub world-item : (w : World) (i : Item) (items : List Item) →
    world_after w (steps_of (i ∷ items)) ≡ world_after (next_world w i.step) (steps_of items)
world-item w i items = world-step w i.step (map (λ (x : Item). x.step) items)

pub kept-last : (w : World) (c : Companion) (items : List Item) (i : Item) →
    kept_behind w c (items ++ i ∷ []) ≡ (noted_by (world_after w (steps_of items)) (kept_behind w c items) i.further
    i.step).companion
kept-last w c [] i = refl
kept-last w c (x ∷ items) i =
    kept-last (next_world w x.step) (noted_by w c x.further x.step).companion items i
    ∙ ap (λ (v : World). (noted_by v (kept_behind w c (x ∷ items)) i.further i.step).companion)
    (sym (world-item w x items))

-- what is noted of an item
pub record IsNoted (w : World) (c : Companion) (i : Item) : Type 0 where
  pub taken : IfSome i.further (IsTaken w c i.step)
  pub lines : i.lines ≡ (noted_by w c i.further i.step).lines

pub noted-there : (w : World) (c : Companion) (count : ℕ) (earlier : List Item) (i : Item) (later : List Item) →
    AreNoted w c count (earlier ++ i ∷ later) →
    IsNoted (world_after w (steps_of earlier)) (kept_behind w c earlier) i
noted-there w c count [] i later noted = record { taken = noted.2; lines = noted.3 }
noted-there w c count (x ∷ earlier) i later noted =
    subst (λ (v : World). IsNoted v (kept_behind w c (x ∷ earlier)) i) (sym (world-item w x earlier))
    (noted-there (next_world w x.step) (noted_by w c x.further x.step).companion (suc count) earlier i later noted.4)

pub lines-of : (i : Item) → follow_lines (i ∷ []) ≡ followers_lines i.lines
lines-of i = ap followers_lines (append-nil i.lines)
