-- What the sessions of a run agree on, field by field.
use Rattle.std.proofs.Common.{◌≡◌, ◌≢◌, ℕ, zero, suc, ◌<◌, ◌≤◌, nat_lt, is_some, is_none, not, IfSome, option_and_then, option_map, List, [], ◌∷◌, ◌++◌, map, flat_map, length, take, Option, Some, None, Contains, Bool, true, false, if◌then◌else◌, refl, sym, ap, subst, ◌∙◌, inl, inr, arith}
use Rattle.std.specs.Option.{option_map_or}
use Rattle.std.proofs.lemmas.Bool.{cases_lt, lt-ltb}
use Rattle.std.proofs.lemmas.List.Elements.{Contains-append_cases}
use Rattle.cg_base.specs.declared.action_id.ActionId.{ActionId}
use Rattle.cg_base.specs.Ids.{same_id}
use Rattle.cg_base.specs.IdLaws.{same_id-is, has_name-contained}
use Rattle.cg_base.specs.Lists.{first_some, present, Each}
use Rattle.cg_action.specs.declared.action.Kind.TheVariants.{Update}
use Rattle.cg_action.specs.declared.command.Cmd.{Cmd}
use Rattle.cg_action.specs.declared.query.Query.{Query}
use Rattle.cg_action.specs.declared.answer.Answer.{Answer}
use Rattle.cg_group.specs.declared.reason.Reason.{Reason}
use Rattle.cg_group.specs.declared.reason.Reason.TheVariants.{UnknownSession, SessionUsed}
use Rattle.cg_group.specs.Refusals.{refuse}
use Rattle.cg_report.specs.declared.entry.Made.{Made}
use Rattle.cg_report.specs.declared.entry.Reply.{Reply}
use Rattle.cg_report.specs.NoEntry.{no_entry}
use Rattle.cg_schedule.specs.declared.event.Event.TheVariants.{Request}
use Rattle.cg_model.specs.World.{World, no_world, replica_of}
use Rattle.cg_model.specs.Admission.{takes_part}
use Rattle.cg_model.specs.Places.{creates, place_of}
use Rattle.cg_model.specs.Run.{Step, IsRunFrom, world_after}
use Rattle.cg_session.specs.declared.event.SessionEvent.{SessionEvent}
use Rattle.cg_session.specs.declared.event.SessionEvent.TheVariants.{Begin, Write, Weak}
use Rattle.cg_session_list.specs.declared.session.Session.{Session}
use Rattle.cg_session_list.specs.declared.session_line.SessionLine.{SessionLine}
use Rattle.cg_session_list.specs.declared.session_line.SessionLine.TheVariants.{Wrote, At, Behind, Answered}
use Rattle.cg_session_list.specs.Sessions.{token_of, unknown_session}
use Rattle.cg_items.specs.declared.companion.Companion.{Companion}
use Rattle.cg_items.specs.declared.companion.Companion.TheVariants.{Alone, Followers, Relaxed, Sessions as OfSessions, Comparing, Imaging}
use Rattle.cg_items.specs.declared.companion.Further.{Further}
use Rattle.cg_items.specs.declared.companion.Further.TheVariants as further
use Rattle.cg_items.specs.AfterItems.{ItemAfter, world_behind, order_behind, position_behind, prefix_answer}
use Rattle.cg_items.specs.Companion.{further_refusal, session_event}
use Rattle.cg_items.specs.Items.{Item, entry_of, steps_of}
use Rattle.cg_items.specs.Kept.{kept_behind, next_world, IsTaken, AreNoted}
use Rattle.cg_items.specs.OfRun.{AreOfRun}
use Rattle.cg_items.specs.Refused.{Refused}
use Rattle.cg_items.specs.Sessions.{not_creating, sessions_refusal}
use Rattle.cg_items.specs.SessionsAgree.{session_lines, session_event_of, at_numbers, seen, written, was_opened, replied_to, wrote_due, writer_of, at_due, read_due, lines_due, told_refusal, SessionsAgree}
use Rattle.cg_agree_lemmas.specs.UnorderedKept.{first-none}
use Rattle.cg_items_agree.proofs.SessionsRising.{Rises, never-falls}
use Rattle.cg_items_agree.proofs.SessionsLooking.{stands-token}
use Rattle.cg_items_agree.proofs.SessionsBehind.{Laws}
use Rattle.cg_items_agree.proofs.SessionsWrites.{IsMade, MadeOne, MadeNone, one_made, write-made}
use Rattle.cg_items_agree.proofs.SessionsReading.{read-at}
use Rattle.cg_items_agree.proofs.SessionsItems.{world-next}
use Rattle.cg_items_agree.proofs.SessionsNoted.{Holds, can-write}
use Rattle.cg_items_agree.proofs.SessionsWalk.{ItemStands, item-stands, AllStand, all-stand}
use Rattle.cg_items_agree.proofs.OtherCommands.{others-agree}
use Rattle.cg_base.specs.ElementLaws.{each-contains}
use Rattle.cg_items.specs.ItemLaws.{steps-append}

-- ---- what the lines of an item tell of reads

-- the line doesn't answer a read
abbrev NoRead : SessionLine → Type 0
NoRead (Answered s a n) = ⊥
NoRead other = Unit {0}

wrote-no_read : (asked : Option SessionEvent) (made : List Made) → Each NoRead (wrote_due asked made)
wrote-no_read None made = tt
wrote-no_read (Some (Begin s)) made = tt
wrote-no_read (Some (Weak s p query)) made = tt
wrote-no_read (Some (Write s p cmds query)) made = all made where
  all : (made : List Made) → Each NoRead (map (λ m. Wrote s m.id) made)
  all [] = tt
  all (m ∷ made) = (tt, all made)

at-no_read : (earlier : List Item) (place : ℕ) (o : Option ℕ) → Each NoRead (at_due earlier place o)
at-no_read earlier place None = tt
at-no_read earlier place (Some s) = at (nat_lt (seen s earlier) place) where
  at : (b : Bool) → Each NoRead (if b then At s place ∷ [] else [])
  at true = (tt, tt)
  at false = tt

flat-no_read : (f : Reply → List SessionLine) → ((r : Reply) → Each NoRead (f r)) → (list : List Reply) → Each NoRead (flat_map f list)
flat-no_read f none [] = tt
flat-no_read f none (r ∷ list) = both (f r) (flat_map f list) (none r) (flat-no_read f none list) where
  both : (xs ys : List SessionLine) → Each NoRead xs → Each NoRead ys → Each NoRead (xs ++ ys)
  both [] ys a b = b
  both (x ∷ xs) ys a b = (a.0, both xs ys a.1 b)

read-only : (earlier : List Item) (i : Item) (s n : ℕ) (a : Answer) → Contains (lines_due earlier i) (Answered s a n) → Contains (read_due earlier (session_event_of i)) (Answered s a n)
read-only earlier i s n a there = elim (Contains-append_cases (new ++ replies) (read_due earlier asked) (Answered s a n) there) [
  | inr read ↦ read
  | inl front ↦ elim (Contains-append_cases new replies (Answered s a n) front) [
    | inl wrote ↦ absurd (each-contains NoRead new (Answered s a n) (wrote-no_read asked (entry_of i).made) wrote)
    | inr replied ↦ absurd (each-contains NoRead replies (Answered s a n) (flat-no_read due_line (λ r. at-no_read earlier (place r) (writer r)) (entry_of i).replies) replied)
  ]
] where
  asked : Option SessionEvent
  asked = session_event_of i

  new : List SessionLine
  new = wrote_due asked (entry_of i).made

  place : Reply → ℕ
  place r = place_of (order_behind (earlier ++ i ∷ [])) r.id

  writer : Reply → Option ℕ
  writer r = writer_of (session_lines earlier ++ new) r.id

  due_line : Reply → List SessionLine
  due_line r = at_due earlier (place r) (writer r)

  replies : List SessionLine
  replies = flat_map due_line (entry_of i).replies

-- a read that was answered: what it answers is that of its position, which is at or above what was seen
record ReadIs (earlier : List Item) (asked : Option SessionEvent) (s n : ℕ) (a : Answer) : Type 0 where
  replica : ℕ
  query : Query
  event : asked ≡ Some (Weak s replica query)
  position : n ≡ position_behind replica earlier
  answered : a ≡ prefix_answer earlier n query
  above : seen s earlier ≤ n

read-is : (earlier : List Item) (asked : Option SessionEvent) (s n : ℕ) (a : Answer) → Contains (read_due earlier asked) (Answered s a n) → ReadIs earlier asked s n a
read-is earlier None s n a there = absurd (let less = there.1 in omega arith)
read-is earlier (Some (Begin t)) s n a there = absurd (let less = there.1 in omega arith)
read-is earlier (Some (Write t p cmds query)) s n a there = absurd (let less = there.1 in omega arith)
read-is earlier (Some (Weak t p query)) s n a there = at (nat_lt pos (seen t earlier)) refl there where
  pos : ℕ
  pos = position_behind p earlier

  only : (x y : SessionLine) → Contains (x ∷ []) y → x ≡ y
  only x y (zero, less, is) = is
  only x y (suc k, less, is) = absurd (omega arith)

  session_in : SessionLine → ℕ
  session_in (Answered u b m) = u
  session_in other = s

  answer_in : SessionLine → Answer
  answer_in (Answered u b m) = b
  answer_in other = a

  number_in : SessionLine → ℕ
  number_in (Answered u b m) = m
  number_in other = n

  at : (b : Bool) → nat_lt pos (seen t earlier) ≡ b → Contains (if b then Behind t pos (seen t earlier) ∷ [] else Answered t (prefix_answer earlier pos query) pos ∷ []) (Answered s a n) →
      ReadIs earlier (Some (Weak t p query)) s n a
  at true e there = absurd (each-contains NoRead (Behind t pos (seen t earlier) ∷ []) (Answered s a n) (tt, tt) there)
  at false e there =
      let is = only (Answered t (prefix_answer earlier pos query) pos) (Answered s a n) there in
      let same : t ≡ s = ap session_in is in
      let number : pos ≡ n = ap number_in is in
      let low : seen t earlier ≤ pos = elim (cases_lt pos (seen t earlier)) [
        | inl lt ↦ absurd (let clash : true ≡ false = sym (lt-ltb pos (seen t earlier) lt) ∙ e in cc)
        | inr le ↦ le
      ] in
      record {
        replica = p;
        query = query;
        event = ap (λ u. Some (Weak u p query)) same;
        position = sym number;
        answered = sym (ap answer_in is) ∙ ap (λ m. prefix_answer earlier m query) number;
        above = subst (λ m. seen s earlier ≤ m) number (subst (λ u. seen u earlier ≤ pos) same low);
      }

-- a name with a place within so many stands among so many
placed-take : (order : List ActionId) (n : ℕ) (id : ActionId) → place_of order id ≤ n → n ≤ length order → Contains (take n order) id
placed-take [] n id low high = absurd (omega arith)
placed-take (x ∷ order) zero id low high = absurd (at (same_id x id) low) where
  at : (b : Bool) → (if b then 1 else suc (place_of order id)) ≤ 0 → ⊥
  at true le = omega arith
  at false le = omega arith
placed-take (x ∷ order) (suc n) id low high = at (same_id x id) refl low (λ le. placed-take order n id le (omega arith)) where
  at : (b : Bool) → same_id x id ≡ b → (if b then 1 else suc (place_of order id)) ≤ suc n → (place_of order id ≤ n → Contains (take n order) id) → Contains (x ∷ take n order) id
  at true is low rest = (zero, (let k = length (take n order) in let less : 0 < suc k = omega arith in less), same_id-is x id is)
  at false is low rest = (let there = rest (omega arith) in (suc there.0, (let less = there.1 in omega arith), there.2))

-- ---- refusals

-- what a test of what is held says is what the items tell
refusal-told : (earlier : List Item) (open_ : List Session) (e : SessionEvent) → Holds earlier open_ → sessions_refusal (world_behind earlier) open_ e ≡ told_refusal earlier e
refusal-told earlier open_ e h = at e where
  stands : (s : ℕ) → is_some (token_of open_ s) ≡ was_opened s earlier
  stands s = stands-token open_ s ∙ h.stands s

  at : (e : SessionEvent) → sessions_refusal (world_behind earlier) open_ e ≡ told_refusal earlier e
  at (Begin s) = ap (λ b. refuse b (SessionUsed s)) (stands s)
  at (Write s p cmds query) = ap (λ b. first_some (refuse (not b) (UnknownSession s) ∷ takes_part (world_behind earlier) p ∷ not_creating (world_behind earlier) p ∷ [])) (stands s)
  at (Weak s p query) = ap (λ b. first_some (refuse (not b) (UnknownSession s) ∷ takes_part (world_behind earlier) p ∷ [])) (stands s)

-- a further event of a session is the one that was taken
taken-is : (w : World) (c : Companion) (f : Option Further) (o : Option Step) (e : SessionEvent) → option_and_then session_event f ≡ Some e → IfSome f (IsTaken w c o) → IsTaken w c o (further.Session e)
taken-is w c None o e is taken = absurd (let clash : None ≡ Some e = is in cc)
taken-is w c (Some (further.Follow x)) o e is taken = absurd (let clash : None ≡ Some e = is in cc)
taken-is w c (Some (further.Relaxed x)) o e is taken = absurd (let clash : None ≡ Some e = is in cc)
taken-is w c (Some (further.Session x)) o e is taken = subst (λ y. IsTaken w c o (further.Session y)) (let some : Some x ≡ Some e = is in let same : x ≡ e = cc in same) taken

-- ---- the fields

module _ (laws : Laws) (items : List Item) (run : IsRunFrom no_world (steps_of items)) (noted : AreNoted no_world (OfSessions []) 0 items) where
  module _ (earlier : List Item) (i : Item) (there : ItemAfter items earlier i) where
    stand : ItemStands earlier i
    stand = item-stands laws items run noted earlier i there

    taken-event : (e : SessionEvent) → session_event_of i ≡ Some e → IsTaken (world_behind earlier) (OfSessions stand.open_) i.step (further.Session e)
    taken-event e is = taken-is (world_behind earlier) (OfSessions stand.open_) i.further i.step e is stand.taken

    pub admitted-told : (e : SessionEvent) → session_event_of i ≡ Some e → told_refusal earlier e ≡ None
    admitted-told e is = sym (refusal-told earlier stand.open_ e stand.holds) ∙ (taken-event e is).1

    module _ (s n : ℕ) (a : Answer) (line : Contains (session_lines (i ∷ [])) (Answered s a n)) where
      read : ReadIs earlier (session_event_of i) s n a
      read = read-is earlier (session_event_of i) s n a (read-only earlier i s n a (subst (λ ls. Contains ls (Answered s a n)) stand.lines line))

      pub read-within : n ≤ length (order_behind earlier)
      read-within =
          let p = read.replica in
          let w = world_behind earlier in
          let admitted = (taken-event (Weak s p read.query) read.event).1 in
          let first = first-none (unknown_session stand.open_ s) (takes_part w p ∷ []) (ap is_none admitted) in
          let second = first-none (takes_part w p) [] first.1 in
          let at = read-at laws (steps_of earlier) stand.before p second.0 in
          subst (λ k. k ≤ length (order_behind earlier)) (sym read.position) at.within

      pub read-prefix : (p : ℕ) (query : Query) → session_event_of i ≡ Some (Weak s p query) → a ≡ prefix_answer earlier n query
      read-prefix p query event =
          let both : Some (Weak s read.replica read.query) ≡ Some (Weak s p query) = sym read.event ∙ event in
          read.answered ∙ ap (prefix_answer earlier n) (ap query_in both) where
            query_in : Option SessionEvent → Query
            query_in (Some (Weak u q x)) = x
            query_in other = query

      pub read-own : (id : ActionId) → Contains (written s earlier) id → Contains (replied_to earlier) id → Contains (take n (order_behind earlier)) id
      read-own id wrote replied =
          let h = stand.holds in
          let own = h.told.owned s id ∙ has_name-contained (written s earlier) id wrote in
          let low = h.held s id own (has_name-contained (replied_to earlier) id replied) in
          let seen_there = h.told.position s in
          let up = read.above in
          placed-take (order_behind earlier) n id (omega arith) read-within

    -- ---- writes

    module _ (s p : ℕ) (cmds : List Cmd) (query : Option Query) (event : session_event_of i ≡ Some (Write s p cmds query)) where
      made-in : IsMade p (Update cmds query) (world_behind (earlier ++ i ∷ [])) (entry_of i).made
      made-in =
          let taken = taken-event (Write s p cmds query) event in
          subst (λ (w : World). IsMade p (Update cmds query) w (entry_of i).made) (sym (world-next earlier i))
          (at i.step taken.2 (subst (IsRunFrom no_world) (steps-append earlier (i ∷ [])) stand.upto) (can-write laws earlier stand.open_ stand.holds s p taken.1).creating) where
            at : (o : Option Step) → option_map (λ s. s.event) o ≡ Some (Request p cmds query) → IsRunFrom no_world (steps_of earlier ++ present (o ∷ [])) → creates (world_behind earlier) p ≡ true →
                IsMade p (Update cmds query) (next_world (world_behind earlier) o) (option_map_or (λ s. s.entry) o no_entry).made
            at None is run creating = absurd (let clash : None ≡ Some (Request p cmds query) = is in cc)
            at (Some x) is run creating =
                let some : Some x.event ≡ Some (Request p cmds query) = is in
                write-made laws (steps_of earlier) x run p cmds query (let same : x.event ≡ Request p cmds query = cc in same) creating

      pub made-one : replica_of (world_behind (earlier ++ i ∷ [])) p ≢ None → (index : ℕ) × ((entry_of i).made ≡ one_made p index (Update cmds query) ∷ [])
      made-one up = at made-in where
        at : IsMade p (Update cmds query) (world_behind (earlier ++ i ∷ [])) (entry_of i).made → (index : ℕ) × ((entry_of i).made ≡ one_made p index (Update cmds query) ∷ [])
        at (MadeOne replica runs index is) = (index, is)
        at (MadeNone down is) = absurd (up down)

      pub made-none : replica_of (world_behind (earlier ++ i ∷ [])) p ≡ None → (entry_of i).made ≡ []
      made-none down = at made-in where
        at : IsMade p (Update cmds query) (world_behind (earlier ++ i ∷ [])) (entry_of i).made → (entry_of i).made ≡ []
        at (MadeOne replica runs index is) = absurd (let clash : None ≡ Some replica = sym down ∙ runs in cc)
        at (MadeNone off is) = is

  all-here : AllStand items
  all-here = all-stand laws items run noted

  pub rises-here : (s : ℕ) (before between after : List ℕ) (n m : ℕ) → at_numbers s items ≡ before ++ n ∷ (between ++ m ∷ after) → n ≤ m
  rises-here s before between after n m is = never-falls 0 before between after n m (subst (Rises 0) is (all-here.holds.told.rises s))

  pub reason-told : (e : SessionEvent) (reason : Reason) → further_refusal (world_after no_world (steps_of items)) (kept_behind no_world (OfSessions []) items) (further.Session e) ≡ Some reason →
      told_refusal items e ≡ Some reason
  reason-told e reason is =
      sym (refusal-told items all-here.open_ e all-here.holds)
      ∙ sym (ap (λ (c : Companion). further_refusal (world_behind items) c (further.Session e)) all-here.kept) ∙ is

pub sessions-agree : Laws → (items : List Item) (refused : Option Refused) → AreOfRun (OfSessions []) items refused → SessionsAgree items refused
sessions-agree laws items refused of = record {
  prefix = λ earlier i s p query a n there event line.
      (read-within laws items of.run of.noted earlier i there s n a line, read-prefix laws items of.run of.noted earlier i there s n a line p query event);
  never_falls = rises-here laws items of.run of.noted;
  own_writes = λ earlier i s a n id there line wrote replied. read-own laws items of.run of.noted earlier i there s n a line id wrote replied;
  lines = λ earlier i there. (item-stands laws items of.run of.noted earlier i there).lines;
  made = λ earlier i s p cmds query there event up. made-one laws items of.run of.noted earlier i there s p cmds query event up;
  struck = λ earlier i s p cmds query there event down. made-none laws items of.run of.noted earlier i there s p cmds query event down;
  admitted = λ earlier i e there event. admitted-told laws items of.run of.noted earlier i there e event;
  reason = λ e reason is. reason-told laws items of.run of.noted e reason (of.told (further.Session e) reason is);
}

-- whatever the command is
pub every-run : Laws → (c : Companion) (items : List Item) (refused : Option Refused) → AreOfRun c items refused → SessionsAgree items refused
every-run laws (OfSessions sessions) items refused of =
    sessions-agree laws items refused (subst (λ (list : List Session). AreOfRun (OfSessions list) items refused) of.first of)
every-run laws Alone items refused of = others-agree Alone items refused tt of
every-run laws (Followers list) items refused of = others-agree (Followers list) items refused tt of
every-run laws (Relaxed rows) items refused of = others-agree (Relaxed rows) items refused tt of
every-run laws Comparing items refused of = others-agree Comparing items refused tt of
every-run laws (Imaging replica) items refused of = others-agree (Imaging replica) items refused tt of
