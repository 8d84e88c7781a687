-- What the followers of a run agree on: over the lines and events of its items, what the world's steps show, the world behind these as far
-- as tests ask it, and what is kept of the followers. Their cursors are read off lines, as far as lines tell it.
use Rattle.std.specs.Prelude.{◌≡◌, ℕ, zero, suc, ◌+◌, ◌-◌, ◌==◌, ◌≤◌, nat_lt, nat_le, min, Bool, true, false, not, ◌&&◌, List, [], ◌∷◌, ◌++◌, Option, Some, None, is_none, length, fold, map, option_map, option_and_then, if◌then◌else◌}
use Rattle.std.specs.List.{list_any, flat_map}
use Rattle.std.specs.Option.{option_map_or}
use Rattle.cg_base.specs.Lists.{first_some, present}
use Rattle.cg_group.specs.declared.reason.Reason.{Reason}
use Rattle.cg_group.specs.declared.reason.Reason.TheVariants.{Discarded, WouldGoBack, UnknownFollower, FollowerDown, FollowerUp}
use Rattle.cg_group.specs.Refusals.{refuse}
use Rattle.cg_disk_records.specs.Crash.{Strike, StopWith, is_committed}
use Rattle.cg_model.specs.World.{no_world}
use Rattle.cg_model.specs.Admission.{takes_part}
use Rattle.cg_model.specs.Shown.{ordered_actions, white_of}
use Rattle.cg_follow.specs.Followed.{Followed, follower_of}
use Rattle.cg_follow.specs.declared.event.FollowEvent.{FollowEvent}
use Rattle.cg_follow.specs.declared.event.FollowEvent.TheVariants.{Follower as Make, Feed, Stop, Recover, Weak}
use Rattle.cg_items.specs.declared.companion.Companion.{Companion}
use Rattle.cg_items.specs.declared.companion.Companion.TheVariants.{Followers}
use Rattle.cg_items.specs.declared.companion.Further.{Further}
use Rattle.cg_items.specs.declared.companion.Further.TheVariants as further
use Rattle.cg_items.specs.declared.companion.FurtherLine.{FurtherLine}
use Rattle.cg_items.specs.declared.companion.FurtherLine.TheVariants as line
use Rattle.cg_follower_list.specs.declared.follow_line.FollowLine.{FollowLine}
use Rattle.cg_follower_list.specs.declared.follow_line.FollowLine.TheVariants.{At, Down, Weak as Answers}
use Rattle.cg_follower_list.specs.Life.{Life, Up, Fallen, Follower}
use Rattle.cg_follower_list.specs.Followers.{follower_at}
use Rattle.cg_items.specs.Items.{Item, steps_of}
use Rattle.cg_items.specs.Kept.{kept_behind}
use Rattle.cg_items.specs.Refused.{Refused, OfFurther}
use Rattle.cg_items.specs.AfterItems.{ItemAfter, world_behind, order_behind, position_behind, prefix_answer}

-- ---- what was shown

abbrev pub follow_event : Further → Option FollowEvent
follow_event (further.Follow e) = Some e
follow_event other = None

-- the event of a follower that an item is, where it is one
abbrev pub follow_event_of : Item → Option FollowEvent
follow_event_of i = option_and_then follow_event i.further

abbrev pub follow_line : FurtherLine → Option FollowLine
follow_line (line.Follow l) = Some l
follow_line other = None

-- the lines of followers
abbrev pub follow_lines : List Item → List FollowLine
follow_lines items = present (map follow_line (flat_map (λ i. i.lines) items))

-- the cursor of a follower: the last one shown of it, 0 where none was
abbrev pub cursor_on : ℕ → ℕ → FollowLine → ℕ
cursor_on f last (At g cursor) = if g == f then cursor else last
cursor_on f last other = last

abbrev pub cursor_shown : ℕ → List Item → ℕ
cursor_shown f items = fold (cursor_on f) 0 (follow_lines items)

-- whether it was shown as up, or as down, last
abbrev pub up_on : ℕ → Option Bool → FollowLine → Option Bool
up_on f last (At g cursor) = if g == f then Some true else last
up_on f last (Down g) = if g == f then Some false else last
up_on f last other = last

abbrev pub up_shown : ℕ → List Item → Option Bool
up_shown f items = fold (up_on f) None (follow_lines items)

-- an item shows it down, or shows its cursor
abbrev pub is_down_line : ℕ → FollowLine → Bool
is_down_line f (Down g) = g == f
is_down_line f other = false

abbrev pub is_at_line : ℕ → FollowLine → Bool
is_at_line f (At g cursor) = g == f
is_at_line f other = false

abbrev pub shows_down : ℕ → Item → Bool
shows_down f i = list_any (is_down_line f) (follow_lines (i ∷ []))

abbrev pub shows_cursor : ℕ → Item → Bool
shows_cursor f i = list_any (is_at_line f) (follow_lines (i ∷ []))

-- ---- stops, and what they leave

-- the next strike, once four calls more were made
abbrev pub later_strike : Strike → Strike
later_strike s = record s { call = s.call - 4 }

-- an item's event of this follower leaves so the stop that is armed on its disk: a new disk has none, and so has one that was struck or
-- stopped; a feed that shows its cursor has made four calls
abbrev pub armed_behind : Option FollowEvent → ℕ → Bool → Option Strike → Option Strike
armed_behind (Some (Make g p)) f has_fed armed = if g == f then None else armed
armed_behind (Some (Stop g zero fill)) f has_fed armed = if g == f then None else armed
armed_behind (Some (Stop g (suc n) fill)) f has_fed armed = if g == f then Some (record { call = suc n; fault = StopWith fill }) else armed
armed_behind (Some (Feed p g count)) f has_fed armed = if (g == f) && has_fed then option_map later_strike armed else armed
armed_behind (Some (Recover g)) f has_fed armed = if g == f then None else armed
armed_behind other f has_fed armed = armed

-- the stop that is armed on a follower's disk
abbrev pub armed_on : ℕ → List Item → Option Strike
armed_on f items = fold (λ armed i. armed_behind (follow_event_of i) f (shows_cursor f i) armed) None items

-- it strikes in a feed's four calls
abbrev pub strikes : Option Strike → Bool
strikes None = false
strikes (Some s) = nat_le s.call 4

-- and leaves the feed on the disk
abbrev pub leaves_feed : Option Strike → Bool
leaves_feed None = false
leaves_feed (Some s) = is_committed s

-- how many actions a feed takes: as many as are asked for, or as the replica has past the cursor
abbrev pub taken : List Item → ℕ → ℕ → ℕ → ℕ
taken earlier p f count = min count (position_behind p earlier - cursor_shown f earlier)

abbrev pub reached : List Item → ℕ → ℕ → ℕ → ℕ
reached earlier p f count = cursor_shown f earlier + taken earlier p f count

-- the cursor of what stands on a follower's disk behind the event in which it went down
abbrev pub left_by : List Item → ℕ → Option FollowEvent → ℕ
left_by earlier f (Some (Feed p g count)) = if leaves_feed (armed_on f earlier) then reached earlier p f count else cursor_shown f earlier
left_by earlier f other = cursor_shown f earlier

-- of the last item in which it went down
abbrev pub left_from : ℕ → List Item → ℕ → List Item → ℕ
left_from f earlier left [] = left
left_from f earlier left (i ∷ items) =
    left_from f (earlier ++ i ∷ []) (if shows_down f i then left_by earlier f (follow_event_of i) else left) items

abbrev pub left_on_disk : ℕ → List Item → ℕ
left_on_disk f items = left_from f [] 0 items

-- ---- which lines are due

-- a follower comes to a cursor: a line tells so, unless it was up there before
abbrev pub come_to : List Item → ℕ → ℕ → List FollowLine
come_to earlier f n = if option_map_or (λ up. up) (up_shown f earlier) false && (n == cursor_shown f earlier) then [] else At f n ∷ []

-- a feed that takes something comes so far, or is struck
abbrev pub fed_due : List Item → ℕ → ℕ → ℕ → List FollowLine
fed_due earlier p f count =
    if taken earlier p f count == 0 then []
    else if strikes (armed_on f earlier) then Down f ∷ []
    else At f (reached earlier p f count) ∷ []

-- the lines of an event: a follower that is made has the replica's position; one that is asked answers from its prefix of the order
abbrev pub follow_due : List Item → Option FollowEvent → List FollowLine
follow_due earlier (Some (Make f p)) = come_to earlier f (position_behind p earlier)
follow_due earlier (Some (Feed p f count)) = fed_due earlier p f count
follow_due earlier (Some (Stop f zero fill)) = Down f ∷ []
follow_due earlier (Some (Stop f (suc n) fill)) = []
follow_due earlier (Some (Recover f)) = At f (left_on_disk f earlier) ∷ []
follow_due earlier (Some (Weak f query)) = Answers f (prefix_answer earlier (cursor_shown f earlier) query) ∷ []
follow_due earlier None = []

-- the first reason against an event of a follower, as the items tell
abbrev pub unmade : List Item → ℕ → Option Reason
unmade items f = refuse (is_none (up_shown f items)) (UnknownFollower f)

abbrev pub is_down : List Item → ℕ → Option Reason
is_down items f = refuse (option_map_or (λ up. not up) (up_shown f items) false) (FollowerDown f)

abbrev pub is_up : List Item → ℕ → Option Reason
is_up items f = refuse (option_map_or (λ up. up) (up_shown f items) false) (FollowerUp f)

abbrev pub told_follow_refusal : List Item → FollowEvent → Option Reason
told_follow_refusal items (Make f p) =
    let cursor = cursor_shown f items in
    first_some (takes_part (world_behind items) p ∷ refuse (nat_lt (position_behind p items) cursor) (WouldGoBack cursor) ∷ [])
told_follow_refusal items (Feed p f count) =
    let white = white_of p (steps_of items) in
    first_some (takes_part (world_behind items) p ∷ unmade items f ∷ is_down items f ∷ refuse (nat_lt (cursor_shown f items) white) (Discarded white) ∷ [])
told_follow_refusal items (Stop f call fill) = first_some (unmade items f ∷ is_down items f ∷ [])
told_follow_refusal items (Recover f) = first_some (unmade items f ∷ is_up items f ∷ [])
told_follow_refusal items (Weak f query) = first_some (unmade items f ∷ is_down items f ∷ [])

-- ---- what is kept

abbrev pub followers_in : Companion → List Follower
followers_in (Followers followers) = followers
followers_in other = []

-- the followers beside the world, behind items
abbrev pub followers_behind : List Item → List Follower
followers_behind items = followers_in (kept_behind no_world (Followers []) items)

-- the follower of the first so many actions of the order
abbrev pub at_cursor : List Item → ℕ → Followed
at_cursor items n = follower_of (ordered_actions (steps_of items) n)

-- a follower is that of its cursor, and its cursor is the one that was shown; what one that is down has on its disk is that of the
-- cursor that its fall has left there
abbrev pub IsOfOrder : List Item → ℕ → Life → Type 0
IsOfOrder items f (Up now armed) = (now ≡ at_cursor items now.cursor) × (now.cursor ≡ cursor_shown f items) × (armed ≡ armed_on f items)
IsOfOrder items f (Fallen left) = (left ≡ at_cursor items left.cursor) × (left.cursor ≡ left_on_disk f items)

-- ---- what they agree on

-- Each follower is a prefix of the one order, and its fold. The prefix never gets shorter, crashes included, and is never longer than the order. A follower
-- that is made has its replica's prefix, a feed goes on as far as was asked for or as its replica is, and an answer is that of the
-- prefix; a feed that is struck leaves the prefix before or behind it, as the stop decides. So the lines come exactly as they are
-- due; and events are refused exactly where a test gives a reason, with the first one.
pub record FollowersAgree (items : List Item) (refused : Option Refused) : Type 0 where
  pub held : (earlier : List Item) (i : Item) (f : ℕ) (x : Follower) → ItemAfter items earlier i → follower_at (followers_behind (earlier ++ i ∷ [])) f ≡ Some x →
      IsOfOrder (earlier ++ i ∷ []) f x.life
  pub never_falls : (earlier : List Item) (i : Item) (f : ℕ) → ItemAfter items earlier i → cursor_shown f earlier ≤ cursor_shown f (earlier ++ i ∷ [])
  pub within : (earlier : List Item) (i : Item) (f : ℕ) → ItemAfter items earlier i →
      (let now = earlier ++ i ∷ [] in cursor_shown f now ≤ length (order_behind now))
  pub lines : (earlier : List Item) (i : Item) → ItemAfter items earlier i → follow_lines (i ∷ []) ≡ follow_due earlier (follow_event_of i)
  pub admitted : (earlier : List Item) (i : Item) (e : FollowEvent) → ItemAfter items earlier i → follow_event_of i ≡ Some e → told_follow_refusal earlier e ≡ None
  pub reason : (e : FollowEvent) (reason : Reason) → refused ≡ Some (OfFurther (further.Follow e) reason) → told_follow_refusal items e ≡ Some reason
