-- The lines of sessions: which event such a line reads as, or why it is refused.
use Rattle.std.specs.Prelude.{ℕ, List, Option, Some, None, Result, codes, option_map, if◌then◌else◌}
use Rattle.cg_text.specs.Order.{same_text}
use Rattle.cg_schedule.specs.declared.fault.LineFault.{LineFault}
use Rattle.cg_schedule.specs.Reading.{Reading, ◌>>=◌, done}
use Rattle.cg_schedule.specs.Part.{id_part}
use Rattle.cg_schedule.specs.Command.{query_reading, update_reading}
use Rattle.cg_schedule.specs.Own.{own_reading}
use Rattle.cg_session.specs.declared.event.SessionEvent.{SessionEvent}
use Rattle.cg_session.specs.declared.event.SessionEvent.TheVariants.{Begin, Write, Weak}
use Rattle.cg_session.specs.declared.word.SessionWord.{SessionWord}
use Rattle.cg_session.specs.declared.word.SessionWord.TheVariants.{Session, Swrite, Sweak}

-- the word of sessions that the text is
unfoldable pub word_of : List ℕ → Option SessionWord
word_of text =
    if same_text text (codes "session") then Some Session
    else if same_text text (codes "swrite") then Some Swrite
    else if same_text text (codes "sweak") then Some Sweak
    else None

-- a session has a number from 1 to 32, as a replica has
unfoldable pub begin_reading : Reading SessionEvent
begin_reading = id_part >>= λ s. done (Begin s)

unfoldable pub write_reading : Reading SessionEvent
write_reading = do
  s ← id_part
  p ← id_part
  update ← update_reading
  done (Write s p update.0 update.1)

unfoldable pub weak_reading : Reading SessionEvent
weak_reading = do
  s ← id_part
  p ← id_part
  query ← query_reading
  done (Weak s p query)

-- what stands behind the word
unfoldable pub event_reading : SessionWord → Reading SessionEvent
event_reading Session = begin_reading
event_reading Swrite = write_reading
event_reading Sweak = weak_reading

-- how a line reads: as none of sessions, or as one of their events; else why it is refused
unfoldable pub session_reading : List ℕ → Result (Option SessionEvent) LineFault
session_reading line = own_reading (λ word. option_map event_reading (word_of word)) line
