-- The followers that a run keeps: their tests, and what their events do.
use Rattle.std.specs.Prelude.{ℕ, zero, suc, ◌-◌, ◌==◌, nat_eq, nat_lt, nat_le, Bool, true, false, not, List, [], ◌∷◌, Option, Some, None, is_none, find, take, drop, option_map, if◌then◌else◌}
use Rattle.std.specs.Option.{option_map_or, option_eq}
use Rattle.cg_action.specs.declared.action.Action.{Action}
use Rattle.cg_action.specs.declared.query.Query.{Query}
use Rattle.cg_db.specs.Find.{answer}
use Rattle.cg_queue.specs.Queue.{QueueView, green_count}
use Rattle.cg_group.specs.declared.reason.Reason.{Reason}
use Rattle.cg_group.specs.declared.reason.Reason.TheVariants.{Discarded, WouldGoBack, UnknownFollower, FollowerDown, FollowerUp}
use Rattle.cg_group.specs.Refusals.{refuse}
use Rattle.cg_disk_records.specs.Crash.{Strike, StopWith, is_committed}
use Rattle.cg_follow.specs.Followed.{Followed, fed}
use Rattle.cg_follower_list.specs.declared.follow_line.FollowLine.{FollowLine}
use Rattle.cg_follower_list.specs.declared.follow_line.FollowLine.TheVariants.{At, Down, Weak as Answers}
use Rattle.cg_follower_list.specs.Life.{Life, Up, Fallen, Follower}

-- the follower of a number, where it was made
abbrev pub follower_at : List Follower → ℕ → Option Follower
follower_at fs f = find (λ x. x.id == f) fs

abbrev pub life_at : List Follower → ℕ → Option Life
life_at fs f = option_map (λ x. x.life) (follower_at fs f)

-- the followers with one of them as given, ascending
abbrev pub with_follower : List Follower → Follower → List Follower
with_follower [] new = new ∷ []
with_follower (x ∷ fs) new =
    if x.id == new.id then new ∷ fs
    else if nat_lt new.id x.id then new ∷ x ∷ fs
    else x ∷ with_follower fs new

-- ---- tests

abbrev pub is_up : Life → Bool
is_up (Up now armed) = true
is_up (Fallen left) = false

-- what a follower has taken
abbrev pub taken_by : Life → Followed
taken_by (Up now armed) = now
taken_by (Fallen left) = left

-- the follower wasn't made
abbrev pub unknown_follower : List Follower → ℕ → Option Reason
unknown_follower fs f = refuse (is_none (follower_at fs f)) (UnknownFollower f)

abbrev pub follower_down : List Follower → ℕ → Option Reason
follower_down fs f = refuse (option_map_or (λ life. not (is_up life)) (life_at fs f) false) (FollowerDown f)

abbrev pub follower_up : List Follower → ℕ → Option Reason
follower_up fs f = refuse (option_map_or is_up (life_at fs f) false) (FollowerUp f)

-- the follower was shown further than the replica's greens reach
abbrev pub goes_back : QueueView → Follower → Option Reason
goes_back q x = refuse (nat_lt (green_count q) x.shown) (WouldGoBack x.shown)

-- the replica has discarded actions that the follower would have to take
abbrev pub lacks : QueueView → Life → Option Reason
lacks q life = refuse (nat_lt (taken_by life).cursor q.white) (Discarded q.white)

-- ---- what events do

-- what an event makes of the followers, and the lines that it shows
pub record FollowersNoted : Type 0 where
  pub followers : List Follower
  pub lines : List FollowLine

-- the cursor of a follower that is up
abbrev pub cursor_in : Life → Option ℕ
cursor_in (Up now armed) = Some now.cursor
cursor_in (Fallen left) = None

abbrev pub line_of : ℕ → Option ℕ → FollowLine
line_of f (Some cursor) = At f cursor
line_of f None = Down f

-- the line of a follower, where its cursor or its being up differs from before, or there was none before
abbrev pub changed_line : ℕ → Option Life → Life → List FollowLine
changed_line f None new = line_of f (cursor_in new) ∷ []
changed_line f (Some old) new = if option_eq nat_eq (cursor_in old) (cursor_in new) then [] else line_of f (cursor_in new) ∷ []

-- the cursor that was last shown of it
abbrev pub last_shown : Option Follower → Life → ℕ
last_shown old (Up now armed) = now.cursor
last_shown old (Fallen left) = option_map_or (λ x. x.shown) old 0

-- a follower stands so from now on
abbrev pub becomes : List Follower → ℕ → Life → FollowersNoted
becomes fs f life =
    record {
      followers = with_follower fs (record { id = f; shown = last_shown (follower_at fs f) life; life = life });
      lines = changed_line f (life_at fs f) life;
    }

abbrev pub stays : List Follower → FollowersNoted
stays fs = record { followers = fs; lines = [] }

-- the replica's next greens behind a cursor, so many or all that are left where these are fewer
abbrev pub next_greens : QueueView → ℕ → ℕ → List Action
next_greens q cursor count = take count (drop (cursor - q.white) q.greens)

-- the four device calls of a feed under a stop that is armed: it strikes in them, and then the gate's byte decides; or it is
-- still to come
abbrev pub after_calls : Option Strike → Followed → Followed → Life
after_calls None before after = Up after None
after_calls (Some s) before after =
    if nat_le s.call 4 then Fallen (if is_committed s then after else before)
    else Up after (Some (record s { call = s.call - 4 }))

-- a follower takes these actions; without any it makes no call
abbrev pub after_feed : List Action → Option Strike → Followed → Life
after_feed [] armed now = Up now armed
after_feed (a ∷ actions) armed now = after_calls armed now (fed now (a ∷ actions))

abbrev pub feeding : QueueView → ℕ → Life → Life
feeding q count (Up now armed) = after_feed (next_greens q now.cursor count) armed now
feeding q count (Fallen left) = Fallen left

-- a crash now, or inside the given device call from now on
abbrev pub stopping : ℕ → List ℕ → Life → Life
stopping zero fill life = Fallen (taken_by life)
stopping (suc n) fill life = Up (taken_by life) (Some (record { call = suc n; fault = StopWith fill }))

abbrev pub changes_to : List Follower → ℕ → (Life → Life) → FollowersNoted
changes_to fs f change = option_map_or (λ life. becomes fs f (change life)) (life_at fs f) (stays fs)

abbrev pub answers : List Follower → ℕ → Query → List FollowLine
answers fs f query = option_map_or (λ life. Answers f (answer (taken_by life).db query) ∷ []) (life_at fs f) []
