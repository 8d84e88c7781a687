-- Which lines read as an event.
use Rattle.std.specs.Prelude.{◌≡◌, ℕ, true, false, List, Some, Ok}
use Rattle.std.specs.Str.{is_utf8}
use Rattle.cg_text.specs.Tokens.{tokens, is_passed_over}
use Rattle.cg_schedule.specs.declared.event.Event.{Event}
use Rattle.cg_schedule.specs.declared.reader_state.ReaderState.{ReaderState}
use Rattle.cg_schedule.specs.Limits.{IsEvent}
use Rattle.cg_schedule.specs.Line.{event_word, fits, reading}
use Rattle.cg_schedule.specs.Print.{line_of}

-- the event may stand in the state
abbrev pub MayStand : ReaderState → Event → Type 0
MayStand state event = fits state (event_word event) ≡ true

-- A line reads as an event where it is a text that isn't passed over, the event is one within the limits that may stand there, and the line's tokens are those of the event's printed line.
pub record ReadsAs (state : ReaderState) (line : List ℕ) (event : Event) : Type 0 where
  pub stands : is_passed_over line ≡ false
  pub is_text : is_utf8 line ≡ true
  pub may_stand : MayStand state event
  pub within : IsEvent event
  pub same_tokens : tokens line ≡ tokens (line_of event)

-- the reading gives the event
abbrev pub Reads : ReaderState → List ℕ → Event → Type 0
Reads state line event = reading state line ≡ Ok (Some event)
