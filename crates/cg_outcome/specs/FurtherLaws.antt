-- What holds of an event of a command's own that was read: it is the command's own, it stands where a start was read, and
-- the event of the schedule for which it stands, where it stands for one, may stand in the world.
use Rattle.std.proofs.Common.{◌≡◌, ◌<◌, ℕ, List, length, IfSome, Option, Some, None, Bool, true, false, not, Result, Ok, Err, if◌then◌else◌, refl, subst}
use Rattle.std.proofs.lemmas.Bool.{and_parts}
use Rattle.cg_schedule.specs.declared.event.Event.TheVariants.{Request}
use Rattle.cg_schedule.specs.declared.fault.LineFault.{LineFault}
use Rattle.cg_schedule.specs.declared.fault.LineFault.TheVariants.{Syntax, NoMemory}
use Rattle.cg_schedule.specs.declared.reader_state.ReaderState.{ReaderState}
use Rattle.cg_schedule.specs.Fault.{misplaced}
use Rattle.cg_model.specs.World.{World}
use Rattle.cg_model.specs.Run.{MayStand}
use Rattle.cg_session.specs.declared.event.SessionEvent.{SessionEvent}
use Rattle.cg_session.specs.declared.event.SessionEvent.TheVariants.{Begin, Write, Weak}
use Rattle.cg_session.specs.Line.{session_reading}
use Rattle.cg_session.specs.Laws as sessions
use Rattle.cg_follow.specs.Line.{follow_reading}
use Rattle.cg_made_rows.specs.Line.{relaxed_reading}
use Rattle.cg_items.specs.declared.companion.Companion.{Companion}
use Rattle.cg_items.specs.declared.companion.Companion.TheVariants.{Followers, Relaxed as MadeRows, Sessions as OpenSessions}
use Rattle.cg_items.specs.declared.companion.Further.{Further}
use Rattle.cg_items.specs.declared.companion.Further.TheVariants as further
use Rattle.cg_items.specs.Companion.{as_further, further_reading, is_own, takes_further, in_place, event_of}
use Rattle.cg_outcome.specs.AskedLaws.{may_ask, ExactLines}

-- a further event stands for one that may stand in the world
abbrev pub StandsFor : World → Further → Type 0
StandsFor w e = IfSome (event_of e) (MayStand w)

-- both readers read exactly: that of a schedule, and that of sessions, whose writes stand for requests
pub record AreExact : Type 0 where
  pub lines : ExactLines
  pub sessions : sessions.ExactLines

-- an event that was read as one of a kind
pub read-as : {X : Type 0} (kind : X → Further) (r : Result (Option X) LineFault) (e : Further) →
    as_further kind r ≡ Ok (Some e) → (x : X) × (r ≡ Ok (Some x)) × (kind x ≡ e)
read-as kind (Ok None) e is = absurd cc
read-as kind (Ok (Some x)) e is = let same : kind x ≡ e = cc in (x, refl, same)
read-as kind (Err fault) e is = absurd cc

-- a further event that was read is one of the command's own
pub further-own : (c : Companion) (line : List ℕ) (e : Further) → further_reading c line ≡ Ok (Some e) →
    is_own c e ≡ true
further-own (OpenSessions opened) line e is =
    let read = read-as further.Session (session_reading line) e is in subst (λ e. is_own (OpenSessions opened) e ≡ true) read.2 refl
further-own (Followers followers) line e is =
    let read = read-as further.Follow (follow_reading line) e is in subst (λ e. is_own (Followers followers) e ≡ true) read.2 refl
further-own (MadeRows rows) line e is =
    let read = read-as further.Relaxed (relaxed_reading line) e is in subst (λ e. is_own (MadeRows rows) e ≡ true) read.2 refl
further-own other line e is = absurd cc

session-stands : (w : World) (e : SessionEvent) → 0 < length w.nodes → sessions.IsSessionEvent e →
    StandsFor w (further.Session e)
session-stands w (Begin s) some within = tt
session-stands w (Write s p cmds query) some within = (some, may_ask (Request p cmds query) (within.1, within.2))
session-stands w (Weak s p query) some within = tt

-- and stands for one that may stand in a world with replicas
pub further-stands : (w : World) (c : Companion) (line : List ℕ) (e : Further) → AreExact → 0 < length w.nodes →
    further_reading c line ≡ Ok (Some e) → StandsFor w e
further-stands w (OpenSessions opened) line e exact some is =
    let read = read-as further.Session (session_reading line) e is in
    subst (StandsFor w) read.2 (session-stands w read.0 some ((exact.sessions line read.0).0 read.1).within)
further-stands w (Followers followers) line e exact some is =
    let read = read-as further.Follow (follow_reading line) e is in subst (StandsFor w) read.2 tt
further-stands w (MadeRows rows) line e exact some is =
    let read = read-as further.Relaxed (relaxed_reading line) e is in subst (StandsFor w) read.2 tt
further-stands w other line e exact some is = absurd cc

-- a reading that gives a further event
abbrev gives : Further → Result (Option Further) LineFault
gives e = Ok (Some e)

-- a further event is placed where a start was read
pub placed_started : (state : ReaderState) (r : Result (Option Further) LineFault) (e : Further) →
    in_place state r ≡ Ok (Some e) → (state.started ≡ true) × (r ≡ Ok (Some e))
placed_started state (Ok None) e is = absurd cc
placed_started state (Ok (Some read)) e is = by_place (takes_further state) refl is where
  by_place : (b : Bool) → takes_further state ≡ b → (if b then gives read else Err misplaced) ≡ gives e →
      (state.started ≡ true) × (gives read ≡ gives e)
  by_place true stood same = ((and_parts state.started (not state.ended) stood).0, same)
  by_place false stood same = absurd cc
placed_started state (Err NoMemory) e is = absurd cc
placed_started state (Err (Syntax why)) e is = absurd cc
