-- Where the command isn't `sessions` no session speaks: no item is an event of one, and none has a line of one.
use Rattle.std.proofs.Common.{◌≡◌, ℕ, suc, IfSome, option_and_then, List, [], ◌∷◌, ◌++◌, map, flat_map, Option, Some, None, Contains, refl, sym, ap, subst, ◌∙◌, arith, append-nil}
use Rattle.cg_base.specs.declared.action_id.ActionId.{ActionId}
use Rattle.cg_base.specs.Lists.{present}
use Rattle.cg_report.specs.declared.entry.Reply.{Reply}
use Rattle.cg_model.specs.World.{World, no_world}
use Rattle.cg_model.specs.Places.{place_of}
use Rattle.cg_model.specs.Run.{Step, world_after}
use Rattle.cg_session.specs.declared.event.SessionEvent.{SessionEvent}
use Rattle.cg_session.specs.declared.event.SessionEvent.TheVariants.{Write, Weak}
use Rattle.cg_session_list.specs.declared.session_line.SessionLine.{SessionLine}
use Rattle.cg_session_list.specs.declared.session_line.SessionLine.TheVariants.{Answered}
use Rattle.cg_items.specs.declared.companion.Companion.{Companion}
use Rattle.cg_items.specs.declared.companion.Companion.TheVariants.{Alone, Followers, Relaxed, Sessions as OfSessions, Comparing, Imaging}
use Rattle.cg_items.specs.declared.companion.Further.{Further}
use Rattle.cg_items.specs.declared.companion.Further.TheVariants as further
use Rattle.cg_items.specs.declared.companion.FurtherLine.{FurtherLine}
use Rattle.cg_items.specs.declared.companion.FurtherLine.TheVariants as line
use Rattle.cg_items.specs.AfterItems.{ItemAfter, order_behind}
use Rattle.cg_items.specs.Companion.{further_refusal, session_event}
use Rattle.cg_items.specs.Followers.{follow_acts}
use Rattle.cg_items.specs.Items.{Item, entry_of, steps_of}
use Rattle.cg_items.specs.Kept.{noted_by, next_world, kept_behind, IsTaken, AreNoted}
use Rattle.cg_items.specs.OfRun.{AreOfRun}
use Rattle.cg_items.specs.Refused.{Refused}
use Rattle.cg_items.specs.Relaxing.{relaxed_lines}
use Rattle.cg_items.specs.SessionsAgree.{at_number, session_line, session_lines, session_event_of, wrote_due, writer_of, at_due, read_due, lines_due, SessionsAgree}
use Rattle.cg_items_agree.proofs.SessionsItems.{lines-append, lines-one}
use Rattle.cg_base.specs.BoolLaws.{impossible}

abbrev pub IsOther : Companion → Type 0
IsOther (OfSessions sessions) = ⊥
IsOther other = Unit {0}

-- what an item of another command comes to
record IsSilent (w : World) (c : Companion) (f : Option Further) (o : Option Step) : Type 0 where
  other : IsOther (noted_by w c f o).companion
  lines : present (map session_line (noted_by w c f o).lines) ≡ []
  event : option_and_then session_event f ≡ None

no-follow : {X : Type 0} (list : List X) (f : X → FurtherLine) → ((x : X) → session_line (f x) ≡ None) → present (map session_line (map f list)) ≡ []
no-follow [] f none = refl
no-follow (x ∷ list) f none = ap (λ o. present (o ∷ map session_line (map f list))) (none x) ∙ no-follow list f none

silent : (w : World) (c : Companion) (f : Option Further) (o : Option Step) → IsOther c → IfSome f (IsTaken w c o) → IsSilent w c f o
silent w (OfSessions sessions) f o other taken = absurd other
silent w Alone None None other taken = record { other = tt; lines = refl; event = refl }
silent w Alone None (Some s) other taken = record { other = tt; lines = refl; event = refl }
silent w Alone (Some (further.Session e)) o other taken = impossible taken.0
silent w Alone (Some (further.Follow e)) o other taken = impossible taken.0
silent w Alone (Some (further.Relaxed e)) o other taken = impossible taken.0
silent w Comparing None None other taken = record { other = tt; lines = refl; event = refl }
silent w (Imaging replica) None None other taken = record { other = tt; lines = refl; event = refl }
silent w Comparing None (Some s) other taken = record { other = tt; lines = refl; event = refl }
silent w (Imaging replica) None (Some s) other taken = record { other = tt; lines = refl; event = refl }
silent w Comparing (Some (further.Session e)) o other taken = impossible taken.0
silent w (Imaging replica) (Some (further.Session e)) o other taken = impossible taken.0
silent w Comparing (Some (further.Follow e)) o other taken = impossible taken.0
silent w (Imaging replica) (Some (further.Follow e)) o other taken = impossible taken.0
silent w Comparing (Some (further.Relaxed e)) o other taken = impossible taken.0
silent w (Imaging replica) (Some (further.Relaxed e)) o other taken = impossible taken.0
silent w (Followers list) None None other taken = record { other = tt; lines = refl; event = refl }
silent w (Followers list) None (Some s) other taken = record { other = tt; lines = refl; event = refl }
silent w (Followers list) (Some (further.Session e)) o other taken = impossible taken.0
silent w (Followers list) (Some (further.Relaxed e)) o other taken = impossible taken.0
silent w (Followers list) (Some (further.Follow e)) (Some s) other taken = record { other = tt; lines = refl; event = refl }
silent w (Followers list) (Some (further.Follow e)) None other taken = record { other = tt; lines = no-follow (follow_acts w list e).lines line.Follow (λ l. refl); event = refl }
silent w (Relaxed rows) None None other taken = record { other = tt; lines = refl; event = refl }
silent w (Relaxed rows) None (Some s) other taken = record { other = tt; lines = refl; event = refl }
silent w (Relaxed rows) (Some (further.Session e)) o other taken = impossible taken.0
silent w (Relaxed rows) (Some (further.Follow e)) o other taken = impossible taken.0
silent w (Relaxed rows) (Some (further.Relaxed e)) (Some s) other taken = record { other = tt; lines = refl; event = refl }
silent w (Relaxed rows) (Some (further.Relaxed e)) None other taken = record { other = tt; lines = no-follow (relaxed_lines w rows e) line.Relaxed (λ l. refl); event = refl }

-- no line and no event of a session, in all of them
pub are-silent : (items : List Item) (w : World) (c : Companion) (n : ℕ) → IsOther c → AreNoted w c n items → (session_lines items ≡ []) × ((earlier : List Item) (i : Item) → ItemAfter items earlier i →
    (session_event_of i ≡ None) × (session_lines (i ∷ []) ≡ []) × (session_lines earlier ≡ [])) × IsOther (kept_behind w c items)
are-silent [] w c n other noted = (refl, (λ earlier i there. none earlier i there), other) where
  none : (earlier : List Item) (i : Item) → ItemAfter [] earlier i → (session_event_of i ≡ None) × (session_lines (i ∷ []) ≡ []) × (session_lines earlier ≡ [])
  none [] i there = absurd (let clash : [] ≡ i ∷ there.0 = there.1 in cc)
  none (x ∷ earlier) i there = absurd (let clash : [] ≡ x ∷ (earlier ++ i ∷ there.0) = there.1 in cc)
are-silent (x ∷ items) w c n other noted =
    let first = silent w c x.further x.step other noted.2 in
    let rest = are-silent items (next_world w x.step) (noted_by w c x.further x.step).companion (suc n) first.other noted.4 in
    let here : session_lines (x ∷ []) ≡ [] = lines-one x ∙ ap (λ ls. present (map session_line ls)) noted.3 ∙ first.lines in
    (lines-append (x ∷ []) items ∙ ap (λ ls. ls ++ session_lines items) here ∙ rest.0, (λ earlier i there. at here first.event rest.1 earlier i there), rest.2) where
      head-of : List Item → Item
      head-of [] = x
      head-of (y ∷ ys) = y

      tail-of : List Item → List Item
      tail-of [] = []
      tail-of (y ∷ ys) = ys

      at : session_lines (x ∷ []) ≡ [] → session_event_of x ≡ None →
          ((earlier : List Item) (i : Item) → ItemAfter items earlier i → (session_event_of i ≡ None) × (session_lines (i ∷ []) ≡ []) × (session_lines earlier ≡ [])) →
          (earlier : List Item) (i : Item) → ItemAfter (x ∷ items) earlier i → (session_event_of i ≡ None) × (session_lines (i ∷ []) ≡ []) × (session_lines earlier ≡ [])
      at here event later [] i there =
          let same : x ≡ i = ap head-of there.1 in
          (subst (λ (y : Item). session_event_of y ≡ None) same event, subst (λ (y : Item). session_lines (y ∷ []) ≡ []) same here, refl)
      at here event later (y ∷ earlier) i there =
          let same : x ≡ y = ap head-of there.1 in
          let r = later earlier i (there.0, ap tail-of there.1) in
          (r.0, r.1, lines-append (y ∷ []) earlier ∙ ap (λ ls. ls ++ session_lines earlier) (subst (λ (z : Item). session_lines (z ∷ []) ≡ []) same here) ∙ r.2)

-- so all that sessions are to agree on is about nothing
flat-none : (list : List Reply) → flat_map (λ (r : Reply). (let none : List SessionLine = [] in none)) list ≡ []
flat-none [] = refl
flat-none (r ∷ list) = flat-none list

none-due : (earlier : List Item) (i : Item) → session_event_of i ≡ None → session_lines earlier ≡ [] → lines_due earlier i ≡ []
none-due earlier i event lines =
    (λ k. due (event k) (lines k)) ∙ append-nil (flat_map (λ r. at_due earlier (place_of order r.id) None) (entry_of i).replies) ∙ flat-none (entry_of i).replies where
      order : List ActionId
      order = order_behind (earlier ++ i ∷ [])

      due : Option SessionEvent → List SessionLine → List SessionLine
      due asked told =
          let new = wrote_due asked (entry_of i).made in
          new ++ flat_map (λ r. at_due earlier (place_of order r.id) (writer_of (told ++ new) r.id)) (entry_of i).replies ++ read_due earlier asked

never-there : {X : Type 0} (before after : List X) (x : X) → [] ≡ before ++ x ∷ after → ⊥
never-there [] after x e = cc
never-there (y ∷ before) after x e = cc

no-refusal : (w : World) (c : Companion) (e : SessionEvent) → IsOther c → further_refusal w c (further.Session e) ≡ None
no-refusal w (OfSessions sessions) e other = absurd other
no-refusal w Alone e other = refl
no-refusal w (Followers list) e other = refl
no-refusal w (Relaxed rows) e other = refl
no-refusal w Comparing e other = refl
no-refusal w (Imaging replica) e other = refl

no-event : {A : Type 0} (o : Option SessionEvent) (e : SessionEvent) → o ≡ None → o ≡ Some e → A
no-event o e none some = absurd (let clash : None ≡ Some e = sym none ∙ some in cc)

pub others-agree : (c : Companion) (items : List Item) (refused : Option Refused) → IsOther c → AreOfRun c items refused → SessionsAgree items refused
others-agree c items refused other of =
    let silent = are-silent items no_world c 0 other of.noted in
    record {
      prefix = λ earlier i s p query a n there event line. no-event (session_event_of i) (Weak s p query) (silent.1 earlier i there).0 event;
      never_falls = λ s before between after n m is.
          absurd (never-there before (between ++ m ∷ after) n (sym (ap (λ ls. present (map (at_number s) ls)) silent.0) ∙ is));
      own_writes = λ earlier i s a n id there line wrote replied.
          absurd (let none = (subst (λ ls. Contains ls (Answered s a n)) (silent.1 earlier i there).1 line).1 in omega arith);
      lines = λ earlier i there. (let none = silent.1 earlier i there in none.1 ∙ sym (none-due earlier i none.0 none.2));
      made = λ earlier i s p cmds query there event up. no-event (session_event_of i) (Write s p cmds query) (silent.1 earlier i there).0 event;
      struck = λ earlier i s p cmds query there event down. no-event (session_event_of i) (Write s p cmds query) (silent.1 earlier i there).0 event;
      admitted = λ earlier i e there event. no-event (session_event_of i) e (silent.1 earlier i there).0 event;
      reason = λ e reason is.
          absurd (let clash : None ≡ Some reason = sym (no-refusal (world_after no_world (steps_of items)) (kept_behind no_world c items) e silent.2) ∙ of.told (further.Session e) reason is in cc);
    }
