-- What an item of `sessions` comes to: its lines are those that are due, and what is held goes on.
use Rattle.std.proofs.Common.{◌≡◌, ℕ, ◌==◌, ◌≤◌, ◌||◌, is_some, is_none, IfSome, option_and_then, List, [], ◌∷◌, ◌++◌, map, fold, flat_map, length, Option, Some, None, Bool, true, false, refl, sym, ap, subst, ◌∙◌, append-nil}
use Rattle.std.specs.Option.{option_map_or}
use Rattle.cg_base.specs.declared.action_id.ActionId.{ActionId}
use Rattle.cg_base.specs.Ids.{has_name}
use Rattle.cg_base.specs.Lists.{first_some, present, Each}
use Rattle.cg_action.specs.declared.command.Cmd.{Cmd}
use Rattle.cg_action.specs.declared.query.Query.{Query}
use Rattle.cg_action.specs.declared.action.Kind.TheVariants.{Update}
use Rattle.cg_db.specs.Find.{answer}
use Rattle.cg_group.specs.declared.reason.Reason.TheVariants.{UnknownSession, SessionUsed, NotCreating}
use Rattle.cg_base.specs.EachLaws.{Each-weaker}
use Rattle.cg_queue.specs.Queue.{green_count}
use Rattle.cg_report.specs.declared.entry.Made.{Made}
use Rattle.cg_report.specs.declared.entry.Reply.{Reply}
use Rattle.cg_report.specs.NoEntry.{no_entry}
use Rattle.cg_client.specs.Queries.{weak_answer}
use Rattle.cg_client.specs.Replica.{Replica}
use Rattle.cg_schedule.specs.declared.event.Event.TheVariants.{Request}
use Rattle.cg_model.specs.World.{no_world}
use Rattle.cg_model.specs.Admission.{takes_part}
use Rattle.cg_model.specs.Agreement.{through}
use Rattle.cg_model.specs.Places.{creates, place_of}
use Rattle.cg_model.specs.Run.{Step, IsRunFrom}
use Rattle.cg_model.specs.Shown.{made_names}
use Rattle.cg_session.specs.declared.event.SessionEvent.{SessionEvent}
use Rattle.cg_session.specs.declared.event.SessionEvent.TheVariants.{Begin, Write, Weak}
use Rattle.cg_session.specs.Token.{Token, read}
use Rattle.cg_session_list.specs.declared.session.Session.{Session}
use Rattle.cg_session_list.specs.declared.session_line.SessionLine.{SessionLine}
use Rattle.cg_session_list.specs.declared.session_line.SessionLine.TheVariants.{Wrote}
use Rattle.cg_session_list.specs.Sessions.{SessionsNoted, sessions_unchanged, token_of, unknown_session, opened, read_as, with_reply}
use Rattle.cg_items.specs.declared.companion.Companion.TheVariants.{Sessions as OfSessions}
use Rattle.cg_items.specs.declared.companion.Further.{Further}
use Rattle.cg_items.specs.declared.companion.Further.TheVariants as further
use Rattle.cg_items.specs.AfterItems.{world_behind, order_behind, position_behind, prefix_answer}
use Rattle.cg_items.specs.Companion.{of_sessions, session_event}
use Rattle.cg_items.specs.Items.{Item, steps_of}
use Rattle.cg_items.specs.Kept.{noted_by, IsTaken}
use Rattle.cg_items.specs.Sessions.{not_creating, read_of, with_written}
use Rattle.cg_items.specs.SessionsAgree.{session_lines, seen, opens, was_opened, replied_to, wrote_due, writer_of, at_due, read_due}
use Rattle.cg_agree_lemmas.specs.UnorderedKept.{first-none, refused-not}
use Rattle.cg_items_agree.proofs.SessionsLooking.{stands_in, stands-token, stands-new}
use Rattle.cg_items_agree.proofs.SessionsTold.{position_in, due_from, goes-none, goes-opened, goes-read, read_line}
use Rattle.cg_items_agree.proofs.SessionsRising.{Ascends}
use Rattle.cg_items_agree.proofs.SessionsFollowing.{FreshOne, MayWrite, written_by, wrote_lines, follows-on}
use Rattle.cg_items_agree.proofs.SessionsHolding.{HoldsIn, holds-beside, holds-behind, names-each}
use Rattle.cg_items_agree.proofs.SessionsBehind.{Laws, order-through, order-now, replies-stand, ordered-made, made-through}
use Rattle.cg_items_agree.proofs.SessionsWrites.{IsMade, MadeOne, MadeNone, write-made, one-fresh}
use Rattle.cg_items_agree.proofs.SessionsReading.{read-at}
use Rattle.cg_items_agree.proofs.SessionsItems.{order_by, made_by, replied_by}
use Rattle.cg_group.specs.RefusalLaws.{refuse_none}
use Rattle.cg_base.specs.BoolLaws.{or_false}
use Rattle.cg_base.specs.IdLaws.{has_name-append}

-- what is held behind items
abbrev pub Holds : List Item → List Session → Type 0
Holds earlier open_ = HoldsIn (session_lines earlier) (λ s. was_opened s earlier) (made_names (steps_of earlier)) (order_behind earlier) (replied_to earlier) open_

-- the lines that are due of an item, by its parts
abbrev pub due_of : List Item → Option Further → Option Step → List ActionId → List SessionLine
due_of earlier f o order =
    let asked = option_and_then session_event f in
    let new = wrote_due asked (option_map_or (λ s. s.entry) o no_entry).made in
    new ++ flat_map (λ r. at_due earlier (place_of order r.id) (writer_of (session_lines earlier ++ new) r.id)) (option_map_or (λ s. s.entry) o no_entry).replies
    ++ read_due earlier asked

-- what an item has come to among the sessions
pub record Comes (earlier : List Item) (open_ : List Session) (f : Option Further) (o : Option Step) : Type 0 where
  pub noted : SessionsNoted
  pub same : noted_by (world_behind earlier) (OfSessions open_) f o ≡ of_sessions noted
  pub lines : noted.lines ≡ due_of earlier f o (order_by o (order_behind earlier))
  pub holds : HoldsIn (session_lines earlier ++ noted.lines) (λ s. was_opened s earlier || opens s (option_and_then session_event f))
      (made_by o (made_names (steps_of earlier))) (order_by o (order_behind earlier)) (replied_by o (replied_to earlier)) noted.sessions

at-due : (earlier : List Item) (place : ℕ) (o : Option ℕ) → due_from (λ s. seen s earlier) place o ≡ at_due earlier place o
at-due earlier place None = refl
at-due earlier place (Some s) = refl

flat-ids : (f : ActionId → List SessionLine) (g : Reply → List SessionLine) → ((r : Reply) → f r.id ≡ g r) → (list : List Reply) → flat_map f (map (λ r. r.id) list) ≡ flat_map g list
flat-ids f g same [] = refl
flat-ids f g same (r ∷ list) = λ i. same r i ++ flat-ids f g same list i

wrote-ids : (t : ℕ) (made : List Made) → map (λ id. Wrote t id) (map (λ m. m.id) made) ≡ map (λ m. Wrote t m.id) made
wrote-ids t [] = refl
wrote-ids t (m ∷ made) = ap (λ ls. Wrote t m.id ∷ ls) (wrote-ids t made)

module _ (laws : Laws) (earlier : List Item) (open_ : List Session) (h : Holds earlier open_) where
  abbrev before : List Step
  before = steps_of earlier

  -- ---- behind a step

  module _ (f : Option Further) (s : Step) (run : IsRunFrom no_world (through before s)) (w : Option ℕ) (mine : List ActionId) where
    abbrev more : List ActionId
    more = map (λ o. o.id) s.entry.orders

    abbrev asked : Option SessionEvent
    asked = option_and_then session_event f

    abbrev new : List ActionId
    new = map (λ (r : Reply). r.id) s.entry.replies

    abbrev noted_in : List ActionId → SessionsNoted
    noted_in order = fold (λ n id. with_reply n id (place_of order id)) (written_by w open_ mine) new

    here : s.world.order ≡ order_behind earlier ++ more
    here = order-now laws before s run ∙ order-through before s

    comes-behind : with_written asked s (sessions_unchanged open_) ≡ written_by w open_ mine → wrote_lines w mine ≡ wrote_due asked s.entry.made → read_due earlier asked ≡ [] →
        ((t : ℕ) → opens t asked ≡ false) → MayWrite open_ (session_lines earlier) mine w →
        ((id : ActionId) → has_name mine id ≡ true → has_name (made_names (through before s)) id ≡ true) → ((id : ActionId) → has_name mine id ≡ true → has_name (made_names before) id ≡ false) → Comes earlier open_ f (Some s)
    comes-behind written lines none opens_none may mine_made fresh =
        let order = order_behind earlier ++ more in
        let stand = replies-stand laws before s run in
        let followed = follows-on open_ (session_lines earlier) h.told (λ id. place_of order id) w mine new may (subst (λ (v : List ActionId). Ascends 0 (map (λ id. place_of v id) new)) here stand.ascend) in
        let within = subst (λ (v : List ActionId). Each (λ id. place_of v id ≤ length v) new) here stand.within in
        record {
          noted = noted_in order;
          same = ap (λ n. of_sessions (fold (λ n id. with_reply n id (place_of s.world.order id)) n new)) written ∙ ap (λ (v : List ActionId). of_sessions (noted_in v)) here;
          lines = followed.lines_are
              ∙ flat-lines order
              ∙ ap (λ ls. ls ++ flat_map (λ r. at_due earlier (place_of order r.id) (writer_of (session_lines earlier ++ ls) r.id)) s.entry.replies) lines
              ∙ sym (ap (λ ls. wrote_due asked s.entry.made ++ flat_map (λ r. at_due earlier (place_of order r.id) (writer_of (session_lines earlier ++ wrote_due asked s.entry.made) r.id)) s.entry.replies ++ ls) none
              ∙ append-nil (wrote_due asked s.entry.made ++ flat_map (λ r. at_due earlier (place_of order r.id) (writer_of (session_lines earlier ++ wrote_due asked s.entry.made) r.id)) s.entry.replies));
          holds = still (holds-behind (session_lines earlier) (λ s. was_opened s earlier) (made_names before) (order_behind earlier) (replied_to earlier) open_ h
              (made_names before ++ map (λ m. m.id) s.entry.made) more new w mine (noted_in order) followed
              (λ id there. first (made_names before) (map (λ m. m.id) s.entry.made) id there)
              (λ id there. sym (ap (λ ids. has_name ids id) (made-through before s)) ∙ mine_made id there) fresh within
              (each-made new stand.within));
        } where
          flat-lines : (order : List ActionId) →
              wrote_lines w mine ++ flat_map (λ id. due_from (λ s. seen s earlier) (place_of order id) (writer_of (session_lines earlier ++ wrote_lines w mine) id)) new
              ≡ wrote_lines w mine ++ flat_map (λ r. at_due earlier (place_of order r.id) (writer_of (session_lines earlier ++ wrote_lines w mine) r.id)) s.entry.replies
          flat-lines order = ap (λ ls. wrote_lines w mine ++ ls)
              (flat-ids (λ id. due_from (λ s. seen s earlier) (place_of order id) (writer_of (session_lines earlier ++ wrote_lines w mine) id))
              (λ r. at_due earlier (place_of order r.id) (writer_of (session_lines earlier ++ wrote_lines w mine) r.id))
              (λ r. at-due earlier (place_of order r.id) (writer_of (session_lines earlier ++ wrote_lines w mine) r.id)) s.entry.replies)

          first : (xs ys : List ActionId) (id : ActionId) → has_name xs id ≡ true → has_name (xs ++ ys) id ≡ true
          first xs ys id there = has_name-append xs ys id ∙ ap (λ b. b || has_name ys id) there

          each-made : (ids : List ActionId) → Each (λ id. place_of s.world.order id ≤ length s.world.order) ids → Each (λ id. has_name (made_names before ++ map (λ m. m.id) s.entry.made) id ≡ true) ids
          each-made ids within = Each-weaker (λ id. place_of s.world.order id ≤ length s.world.order) (λ id. has_name (made_names before ++ map (λ m. m.id) s.entry.made) id ≡ true)
              (λ id at. sym (ap (λ ids. has_name ids id) (made-through before s)) ∙ ordered-made laws before s run id at) ids within

          still : {lines : List SessionLine} {made order replied : List ActionId} {sessions : List Session} → HoldsIn lines (λ s. was_opened s earlier) made order replied sessions →
              HoldsIn lines (λ t. was_opened t earlier || opens t asked) made order replied sessions
          still is = record {
            told = is.told;
            stands = λ t. is.stands t ∙ sym (or_false (was_opened t earlier)) ∙ ap (λ b. was_opened t earlier || b) (sym (opens_none t));
            known = is.known;
            placed = is.placed;
            was_made = is.was_made;
            held = is.held;
          }

  -- no session asked for it
  comes-step : (s : Step) → IsRunFrom no_world (through before s) → Comes earlier open_ None (Some s)
  comes-step s run = comes-behind None s run None [] refl refl refl (λ t. refl) tt (λ id there. absurd (let clash : false ≡ true = there in cc)) (λ id there. absurd (let clash : false ≡ true = there in cc))

  -- ---- a write

  -- what no test of a write refuses
  pub record CanWrite (t p : ℕ) : Type 0 where
    pub stands : stands_in open_ t ≡ true
    pub creating : creates (world_behind earlier) p ≡ true

  pub can-write : (t p : ℕ) → (let w = world_behind earlier in first_some (unknown_session open_ t ∷ takes_part w p ∷ not_creating w p ∷ []) ≡ None) → CanWrite t p
  can-write t p none =
      let w = world_behind earlier in
      let first = first-none (unknown_session open_ t) (takes_part w p ∷ not_creating w p ∷ []) (ap is_none none) in
      let second = first-none (takes_part w p) (not_creating w p ∷ []) first.1 in
      let third = first-none (not_creating w p) [] second.1 in
      record {
        stands = sym (stands-token open_ t) ∙ refused-not (is_some (token_of open_ t)) (UnknownSession t) first.0;
        creating = refused-not (creates w p) (NotCreating p) third.0;
      }

  comes-write : (t p : ℕ) (cmds : List Cmd) (query : Option Query) (s : Step) → IsRunFrom no_world (through before s) → s.event ≡ Request p cmds query → CanWrite t p →
      Comes earlier open_ (Some (further.Session (Write t p cmds query))) (Some s)
  comes-write t p cmds query s run event may =
      comes-behind (Some (further.Session (Write t p cmds query))) s run (Some t) mine refl (wrote-ids t s.entry.made) refl (λ t. refl) (may.stands, fresh-one) within
      (λ id there. names-each (λ id. has_name (made_names before) id ≡ false) mine id each-fresh there) where
        mine : List ActionId
        mine = map (λ (m : Made). m.id) s.entry.made

        made : IsMade p (Update cmds query) s.world s.entry.made
        made = write-made laws before s run p cmds query event may.creating

        each-fresh : Each (λ id. has_name (made_names before) id ≡ false) (map (λ (m : Made). m.id) s.entry.made)
        each-fresh = at made where
          at : IsMade p (Update cmds query) s.world s.entry.made → Each (λ id. has_name (made_names before) id ≡ false) (map (λ (m : Made). m.id) s.entry.made)
          at (MadeOne replica up index is) =
              subst (λ (list : List Made). Each (λ id. has_name (made_names before) id ≡ false) (map (λ (m : Made). m.id) list)) (sym is) (one-fresh laws before s run _ is, tt)
          at (MadeNone down is) = subst (λ (list : List Made). Each (λ id. has_name (made_names before) id ≡ false) (map (λ (m : Made). m.id) list)) (sym is) tt

        fresh-one : FreshOne (session_lines earlier) (map (λ (m : Made). m.id) s.entry.made)
        fresh-one = at made where
          at : IsMade p (Update cmds query) s.world s.entry.made → FreshOne (session_lines earlier) (map (λ (m : Made). m.id) s.entry.made)
          at (MadeOne replica up index is) =
              subst (λ (list : List Made). FreshOne (session_lines earlier) (map (λ (m : Made). m.id) list)) (sym is) (h.known _ (one-fresh laws before s run _ is))
          at (MadeNone down is) = subst (λ (list : List Made). FreshOne (session_lines earlier) (map (λ (m : Made). m.id) list)) (sym is) tt

        within : (id : ActionId) → has_name (map (λ (m : Made). m.id) s.entry.made) id ≡ true → has_name (made_names (through before s)) id ≡ true
        within id there =
            let ids = map (λ (m : Made). m.id) s.entry.made in
            ap (λ ids. has_name ids id) (made-through before s) ∙ has_name-append (made_names before) ids id ∙ ap (λ b. has_name (made_names before) id || b) there ∙ or-true (has_name (made_names before) id) where
              or-true : (b : Bool) → (b || true) ≡ true
              or-true true = refl
              or-true false = refl

  -- ---- beside the world

  comes-none : Comes earlier open_ None None
  comes-none = record {
    noted = sessions_unchanged open_;
    same = refl;
    lines = refl;
    holds = holds-beside (session_lines earlier) [] (λ s. was_opened s earlier) (λ s. was_opened s earlier || false) (made_names before) (order_behind earlier) (replied_to earlier) open_ open_ h
        (goes-none open_ h.told.apart) (λ s. h.stands s ∙ sym (or_false (was_opened s earlier)));
  }

  comes-opened : (t : ℕ) → stands_in open_ t ≡ false → Comes earlier open_ (Some (further.Session (Begin t))) None
  comes-opened t none = record {
    noted = sessions_unchanged (opened open_ t);
    same = refl;
    lines = refl;
    holds = holds-beside (session_lines earlier) [] (λ s. was_opened s earlier) (λ s. was_opened s earlier || (t == s)) (made_names before) (order_behind earlier) (replied_to earlier) open_ (opened open_ t) h
        (goes-opened open_ t h.told.apart none) (λ s. stands-new open_ t s ∙ ap (λ b. b || (t == s)) (h.stands s));
  }

  comes-read : (t p : ℕ) (query : Query) → IsRunFrom no_world before → stands_in open_ t ≡ true → takes_part (world_behind earlier) p ≡ None → Comes earlier open_ (Some (further.Session (Weak t p query))) None
  comes-read t p query run stands takes = at (token_of open_ t) refl where
    token : (k : Token) → token_of open_ t ≡ Some k → Comes earlier open_ (Some (further.Session (Weak t p query))) None
    token k found =
        let r = read-at laws before run p takes in
        let pos = green_count r.replica.held.queue in
        let a = weak_answer r.replica.held query in
        let on = goes-read open_ h.told.apart t a pos k found in
        let low : position_in open_ t ≡ seen t earlier = h.told.position t in
        let at_pos : pos ≡ position_behind p earlier = sym r.position in
        let answered : a ≡ prefix_answer earlier (position_behind p earlier) query = ap (λ db. answer db query) r.db in
        record {
          noted = read_as open_ t a pos (read k pos);
          same = ap (λ (o : Option Replica). of_sessions (option_map_or (λ r. option_map_or (read_of open_ t query r) (token_of open_ t) (sessions_unchanged open_)) o (sessions_unchanged open_))) r.runs
              ∙ ap (λ (o : Option Token). of_sessions (option_map_or (read_of open_ t query r.replica) o (sessions_unchanged open_))) found;
          lines = on.lines ∙ (λ i. read_line t (answered i) (at_pos i) (low i));
          holds = holds-beside (session_lines earlier) (read_as open_ t a pos (read k pos)).lines (λ s. was_opened s earlier) (λ s. was_opened s earlier || false) (made_names before) (order_behind earlier)
              (replied_to earlier) open_ (read_as open_ t a pos (read k pos)).sessions h on.goes (λ s. on.stands s ∙ h.stands s ∙ sym (or_false (was_opened s earlier)));
        }

    at : (o : Option Token) → token_of open_ t ≡ o → Comes earlier open_ (Some (further.Session (Weak t p query))) None
    at None found = absurd (let clash : false ≡ true = sym (ap is_some found) ∙ stands-token open_ t ∙ stands in cc)
    at (Some k) found = token k found

  -- ---- each item

  pub comes : (f : Option Further) (o : Option Step) → IfSome f (IsTaken (world_behind earlier) (OfSessions open_) o) → IsRunFrom no_world (before ++ present (o ∷ [])) → Comes earlier open_ f o
  comes None None taken run = comes-none
  comes None (Some s) taken run = comes-step s run
  comes (Some (further.Follow e)) o taken run = absurd (let clash : false ≡ true = taken.0 in cc)
  comes (Some (further.Relaxed e)) o taken run = absurd (let clash : false ≡ true = taken.0 in cc)
  comes (Some (further.Session (Begin t))) None taken run =
      comes-opened t (sym (stands-token open_ t) ∙ refuse_none (is_some (token_of open_ t)) (SessionUsed t) taken.1)
  comes (Some (further.Session (Weak t p query))) None taken run =
      let w = world_behind earlier in
      let first = first-none (unknown_session open_ t) (takes_part w p ∷ []) (ap is_none taken.1) in
      let second = first-none (takes_part w p) [] first.1 in
      comes-read t p query (subst (IsRunFrom no_world) (append-nil before) run) (sym (stands-token open_ t) ∙ refused-not (is_some (token_of open_ t)) (UnknownSession t) first.0) second.0
  comes (Some (further.Session (Write t p cmds query))) None taken run = absurd (let clash : None ≡ Some (Request p cmds query) = taken.2 in cc)
  comes (Some (further.Session (Begin t))) (Some s) taken run = absurd (let clash : Some s.event ≡ None = taken.2 in cc)
  comes (Some (further.Session (Weak t p query))) (Some s) taken run = absurd (let clash : Some s.event ≡ None = taken.2 in cc)
  comes (Some (further.Session (Write t p cmds query))) (Some s) taken run =
      let all : Some s.event ≡ Some (Request p cmds query) = taken.2 in
      let event : s.event ≡ Request p cmds query = cc in
      comes-write t p cmds query s run event (can-write t p taken.1)
