-- What a command keeps beside the world, and its own events: by cases on the command.
use Rattle.std.specs.Prelude.{ℕ, Bool, true, false, not, ◌&&◌, List, [], Option, Some, None, Result, Ok, Err, option_map, option_and_then, map, if◌then◌else◌}
use Rattle.cg_group.specs.declared.reason.Reason.{Reason}
use Rattle.cg_schedule.specs.declared.event.Event.{Event}
use Rattle.cg_schedule.specs.declared.event.Event.TheVariants.{End}
use Rattle.cg_schedule.specs.declared.fault.LineFault.{LineFault}
use Rattle.cg_schedule.specs.declared.fault.LineFault.TheVariants.{Syntax, NoMemory}
use Rattle.cg_schedule.specs.declared.fault.SyntaxReason.{SyntaxReason}
use Rattle.cg_schedule.specs.declared.fault.SyntaxReason.TheVariants.{NotUtf8}
use Rattle.cg_schedule.specs.declared.reader_state.ReaderState.{ReaderState}
use Rattle.cg_schedule.specs.Fault.{not_utf8, misplaced}
use Rattle.cg_model.specs.World.{World}
use Rattle.cg_model.specs.Admission.{first_refusal, unknown}
use Rattle.cg_model.specs.Run.{Step}
use Rattle.cg_session.specs.declared.event.SessionEvent.{SessionEvent}
use Rattle.cg_session.specs.Line.{session_reading}
use Rattle.cg_follow.specs.Line.{follow_reading}
use Rattle.cg_items.specs.declared.companion.Companion.{Companion}
use Rattle.cg_items.specs.declared.companion.Companion.TheVariants.{Followers, Relaxed, Sessions, Imaging}
use Rattle.cg_items.specs.declared.companion.Further.{Further}
use Rattle.cg_items.specs.declared.companion.Further.TheVariants as further
use Rattle.cg_items.specs.declared.companion.FurtherLine.{FurtherLine}
use Rattle.cg_items.specs.declared.companion.FurtherLine.TheVariants as line
use Rattle.cg_follower_list.specs.Followers.{FollowersNoted}
use Rattle.cg_items.specs.Followers.{follow_refusal, follow_acts}
use Rattle.cg_made_rows.specs.Line.{relaxed_reading}
use Rattle.cg_items.specs.Relaxing.{relaxed_refusal, relaxed_lines, with_step}
use Rattle.cg_session_list.specs.Sessions.{SessionsNoted}
use Rattle.cg_items.specs.Sessions.{sessions_refusal, request_of, sessions_act, sessions_follow}

-- what an event has come to beside the world: what is kept from there on, and the further lines
pub record Noted : Type 0 where
  pub companion : Companion
  pub lines : List FurtherLine

abbrev pub nothing_noted : Companion → Noted
nothing_noted c = record { companion = c; lines = [] }

abbrev pub of_sessions : SessionsNoted → Noted
of_sessions n = record { companion = Sessions n.sessions; lines = map line.Session n.lines }

abbrev pub of_followers : FollowersNoted → Noted
of_followers n = record { companion = Followers n.followers; lines = map line.Follow n.lines }

-- ---- how a line reads

-- an event of one kind, where one was read, as one of the command's own
abbrev pub as_further : {X : Type 0} → (X → Further) → Result (Option X) LineFault → Result (Option Further) LineFault
as_further kind (Ok e) = Ok (option_map kind e)
as_further kind (Err fault) = Err fault

-- a line as one of the command's own events, or as none of them
abbrev pub further_reading : Companion → List ℕ → Result (Option Further) LineFault
further_reading (Sessions sessions) line = as_further further.Session (session_reading line)
further_reading (Followers followers) line = as_further further.Follow (follow_reading line)
further_reading (Relaxed rows) line = as_further further.Relaxed (relaxed_reading line)
further_reading other line = Ok None

-- whether an event is one of the command's own
abbrev pub is_own : Companion → Further → Bool
is_own (Sessions sessions) (further.Session e) = true
is_own (Followers followers) (further.Follow e) = true
is_own (Relaxed rows) (further.Relaxed e) = true
is_own other e = false

-- a further event stands behind the start and before the end
abbrev pub takes_further : ReaderState → Bool
takes_further state = state.started && not state.ended

-- whether it does is tested before its parts, and behind the test whether the line is a text
abbrev pub placed_fault : ReaderState → SyntaxReason → LineFault
placed_fault state NotUtf8 = not_utf8
placed_fault state reason = if takes_further state then Syntax reason else misplaced

abbrev pub in_place : ReaderState → Result (Option Further) LineFault → Result (Option Further) LineFault
in_place state (Ok None) = Ok None
in_place state (Ok (Some e)) = if takes_further state then Ok (Some e) else Err misplaced
in_place state (Err (Syntax reason)) = Err (placed_fault state reason)
in_place state (Err NoMemory) = Err NoMemory

-- ---- which further events are admitted

-- the reason by which one isn't, if there is one
abbrev pub further_refusal : World → Companion → Further → Option Reason
further_refusal w (Sessions sessions) (further.Session e) = sessions_refusal w sessions e
further_refusal w (Followers followers) (further.Follow e) = follow_refusal w followers e
further_refusal w (Relaxed rows) (further.Relaxed e) = relaxed_refusal w e
further_refusal w other e = None

-- ---- which events of the schedule are admitted

-- the end isn't where the disk of a replica is wanted that hasn't begun
abbrev pub end_refusal : Companion → World → Option Reason
end_refusal (Imaging p) w = unknown w p
end_refusal other w = None

abbrev pub refusal_for : Companion → World → Event → Option Reason
refusal_for c w End = end_refusal c w
refusal_for c w e = first_refusal w e

-- ---- what a further event does

-- the event of the schedule for which it stands, where it stands for one
abbrev pub event_of : Further → Option Event
event_of (further.Session e) = request_of e
event_of other = None

-- what it does, where it stands for none
abbrev pub acts : World → Companion → Further → Noted
acts w (Sessions sessions) (further.Session e) = of_sessions (sessions_act w sessions e)
acts w (Followers followers) (further.Follow e) = of_followers (follow_acts w followers e)
acts w (Relaxed rows) (further.Relaxed e) = record { companion = Relaxed rows; lines = map line.Relaxed (relaxed_lines w rows e) }
acts w other e = nothing_noted other

-- ---- what follows a step of the world

abbrev pub session_event : Further → Option SessionEvent
session_event (further.Session e) = Some e
session_event other = None

-- behind a step, which a further event may have asked for
abbrev pub follows : Companion → Option Further → Step → Noted
follows (Sessions sessions) asked s = of_sessions (sessions_follow sessions (option_and_then session_event asked) s)
follows (Relaxed rows) asked s = nothing_noted (Relaxed (with_step rows s))
follows other asked s = nothing_noted other
