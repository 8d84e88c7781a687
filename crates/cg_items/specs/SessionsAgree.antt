-- What the sessions of a run agree on: over the lines and events of its items, what the world's steps show, and the world behind these
-- as far as tests ask it. What a session has seen and wrote is read off lines, as far as lines tell it.
use Rattle.std.specs.Prelude.{◌≡◌, ◌≢◌, ℕ, ◌==◌, nat_lt, ◌≤◌, Bool, false, not, List, [], ◌∷◌, ◌++◌, Option, Some, None, Contains, length, fold, map, take, option_and_then, if◌then◌else◌}
use Rattle.std.specs.List.{list_any, flat_map}
use Rattle.cg_base.specs.declared.action_id.ActionId.{ActionId}
use Rattle.cg_base.specs.Ids.{has_name}
use Rattle.cg_base.specs.Lists.{first_some, present}
use Rattle.cg_action.specs.declared.action.Kind.TheVariants.{Update}
use Rattle.cg_action.specs.declared.command.Cmd.{Cmd}
use Rattle.cg_action.specs.declared.query.Query.{Query}
use Rattle.cg_action.specs.declared.answer.Answer.{Answer}
use Rattle.cg_group.specs.declared.reason.Reason.{Reason}
use Rattle.cg_group.specs.declared.reason.Reason.TheVariants.{UnknownSession, SessionUsed}
use Rattle.cg_group.specs.Refusals.{refuse}
use Rattle.cg_report.specs.declared.entry.Made.{Made}
use Rattle.cg_model.specs.World.{replica_of}
use Rattle.cg_model.specs.Admission.{takes_part}
use Rattle.cg_session.specs.declared.event.SessionEvent.{SessionEvent}
use Rattle.cg_session.specs.declared.event.SessionEvent.TheVariants.{Begin, Write, Weak}
use Rattle.cg_items.specs.declared.companion.Further.TheVariants as further
use Rattle.cg_items.specs.declared.companion.FurtherLine.{FurtherLine}
use Rattle.cg_items.specs.declared.companion.FurtherLine.TheVariants as line
use Rattle.cg_session_list.specs.declared.session_line.SessionLine.{SessionLine}
use Rattle.cg_session_list.specs.declared.session_line.SessionLine.TheVariants.{Wrote, At, Behind, Answered}
use Rattle.cg_items.specs.Companion.{session_event}
use Rattle.cg_items.specs.Items.{Item, entry_of}
use Rattle.cg_items.specs.AfterItems.{ItemAfter, world_behind, order_behind, position_behind, prefix_answer}
use Rattle.cg_items.specs.Refused.{Refused, OfFurther}
use Rattle.cg_items.specs.Sessions.{not_creating}
use Rattle.cg_model.specs.Places.{place_of}

-- ---- what was shown

-- the event of a session that an item is, where it is one
abbrev pub session_event_of : Item → Option SessionEvent
session_event_of i = option_and_then session_event i.further

abbrev pub session_line : FurtherLine → Option SessionLine
session_line (line.Session l) = Some l
session_line other = None

-- the lines of sessions
abbrev pub session_lines : List Item → List SessionLine
session_lines items = present (map session_line (flat_map (λ i. i.lines) items))

-- the number that stands behind `at` on a line of the session
abbrev pub at_number : ℕ → SessionLine → Option ℕ
at_number s (At t place) = if t == s then Some place else None
at_number s (Answered t a at) = if t == s then Some at else None
at_number s other = None

abbrev pub at_numbers : ℕ → List Item → List ℕ
at_numbers s items = present (map (at_number s) (session_lines items))

-- what the session has seen: the last of these numbers
abbrev pub seen : ℕ → List Item → ℕ
seen s items = fold (λ before n. n) 0 (at_numbers s items)

-- the action that a line tells that the session wrote
abbrev pub written_on : ℕ → SessionLine → Option ActionId
written_on s (Wrote t id) = if t == s then Some id else None
written_on s other = None

abbrev pub written : ℕ → List Item → List ActionId
written s items = present (map (written_on s) (session_lines items))

-- the actions to which a reply was given
abbrev pub replied_to : List Item → List ActionId
replied_to items = map (λ r. r.id) (flat_map (λ i. (entry_of i).replies) items)

-- the session was opened
abbrev pub opens : ℕ → Option SessionEvent → Bool
opens s (Some (Begin t)) = t == s
opens s other = false

abbrev pub was_opened : ℕ → List Item → Bool
was_opened s items = list_any (λ i. opens s (session_event_of i)) items

-- ---- which lines are due

-- a write tells of the action that its step shows as made
abbrev pub wrote_due : Option SessionEvent → List Made → List SessionLine
wrote_due (Some (Write s p cmds query)) made = map (λ m. Wrote s m.id) made
wrote_due other made = []

-- the session that a line tells to have written the action
abbrev pub writer_on : ActionId → SessionLine → Option ℕ
writer_on id (Wrote s written) = if has_name (written ∷ []) id then Some s else None
writer_on id other = None

abbrev pub writer_of : List SessionLine → ActionId → Option ℕ
writer_of lines id = first_some (map (writer_on id) lines)

-- a reply at this place is told where its action's writer hasn't seen so much
abbrev pub at_due : List Item → ℕ → Option ℕ → List SessionLine
at_due earlier place None = []
at_due earlier place (Some s) = if nat_lt (seen s earlier) place then At s place ∷ [] else []

-- a read is answered, unless the replica is behind what the session has seen
abbrev pub read_due : List Item → Option SessionEvent → List SessionLine
read_due earlier (Some (Weak s p query)) =
    let pos = position_behind p earlier in
    if nat_lt pos (seen s earlier) then Behind s pos (seen s earlier) ∷ [] else Answered s (prefix_answer earlier pos query) pos ∷ []
read_due earlier other = []

-- the lines of an item: what it wrote, then the replies in their order; or what was read
abbrev pub lines_due : List Item → Item → List SessionLine
lines_due earlier i =
    let new = wrote_due (session_event_of i) (entry_of i).made in
    let through = earlier ++ i ∷ [] in
    new ++ flat_map (λ r. at_due earlier (place_of (order_behind through) r.id) (writer_of (session_lines earlier ++ new) r.id)) (entry_of i).replies
    ++ read_due earlier (session_event_of i)

-- the first reason against an event of a session, as the items tell
abbrev pub told_refusal : List Item → SessionEvent → Option Reason
told_refusal items (Begin s) = refuse (was_opened s items) (SessionUsed s)
told_refusal items (Write s p cmds query) =
    let w = world_behind items in
    first_some (refuse (not (was_opened s items)) (UnknownSession s) ∷ takes_part w p ∷ not_creating w p ∷ [])
told_refusal items (Weak s p query) =
    let w = world_behind items in
    first_some (refuse (not (was_opened s items)) (UnknownSession s) ∷ takes_part w p ∷ [])

-- ---- what they agree on

-- Each session reads prefixes of the one order that never get shorter, and each holds all that it wrote and was told of; its lines
-- come exactly as they are due; and its events are refused exactly where a test gives a reason, with the first one.
pub record SessionsAgree (items : List Item) (refused : Option Refused) : Type 0 where
  pub prefix : (earlier : List Item) (i : Item) (s p : ℕ) (query : Query) (a : Answer) (n : ℕ) → ItemAfter items earlier i →
      session_event_of i ≡ Some (Weak s p query) → Contains (session_lines (i ∷ [])) (Answered s a n) →
      (n ≤ length (order_behind earlier)) × (a ≡ prefix_answer earlier n query)
  pub never_falls : (s : ℕ) (before between after : List ℕ) (n m : ℕ) → at_numbers s items ≡ before ++ n ∷ (between ++ m ∷ after) → n ≤ m
  pub own_writes : (earlier : List Item) (i : Item) (s : ℕ) (a : Answer) (n : ℕ) (id : ActionId) → ItemAfter items earlier i →
      Contains (session_lines (i ∷ [])) (Answered s a n) → Contains (written s earlier) id → Contains (replied_to earlier) id →
      Contains (take n (order_behind earlier)) id
  pub lines : (earlier : List Item) (i : Item) → ItemAfter items earlier i → session_lines (i ∷ []) ≡ lines_due earlier i
  pub made : (earlier : List Item) (i : Item) (s p : ℕ) (cmds : List Cmd) (query : Option Query) → ItemAfter items earlier i →
      session_event_of i ≡ Some (Write s p cmds query) → replica_of (world_behind (earlier ++ i ∷ [])) p ≢ None →
      (index : ℕ) × ((entry_of i).made ≡ record { id = record { creator = p; index = index }; kind = Update cmds query } ∷ [])
  pub struck : (earlier : List Item) (i : Item) (s p : ℕ) (cmds : List Cmd) (query : Option Query) → ItemAfter items earlier i →
      session_event_of i ≡ Some (Write s p cmds query) → replica_of (world_behind (earlier ++ i ∷ [])) p ≡ None → (entry_of i).made ≡ []
  pub admitted : (earlier : List Item) (i : Item) (e : SessionEvent) → ItemAfter items earlier i → session_event_of i ≡ Some e → told_refusal earlier e ≡ None
  pub reason : (e : SessionEvent) (reason : Reason) → refused ≡ Some (OfFurther (further.Session e) reason) → told_refusal items e ≡ Some reason
