-- The lines that ask for the relaxed database: which event such a line reads as, or why it is refused.
use Rattle.std.specs.Prelude.{ℕ, List, Option, Some, None, Result, codes, option_map, if◌then◌else◌}
use Rattle.cg_text.specs.Order.{same_text}
use Rattle.cg_schedule.specs.declared.fault.LineFault.{LineFault}
use Rattle.cg_schedule.specs.Reading.{Reading, ◌>>=◌, done}
use Rattle.cg_schedule.specs.Part.{id_part}
use Rattle.cg_schedule.specs.Command.{key_part}
use Rattle.cg_schedule.specs.Own.{own_reading}
use Rattle.cg_made_rows.specs.declared.relaxed_event.RelaxedEvent.{RelaxedEvent}
use Rattle.cg_made_rows.specs.declared.relaxed_event.RelaxedEvent.TheVariants.{One, Both}
use Rattle.cg_made_rows.specs.declared.word.RelaxedWord.{RelaxedWord}
use Rattle.cg_made_rows.specs.declared.word.RelaxedWord.TheVariants.{Relaxed, Joined}

-- the word that the text is
unfoldable pub word_of : List ℕ → Option RelaxedWord
word_of text =
    if same_text text (codes "relaxed") then Some Relaxed
    else if same_text text (codes "joined") then Some Joined
    else None

unfoldable pub one_reading : Reading RelaxedEvent
one_reading = do
  p ← id_part
  key ← key_part
  done (One p key)

unfoldable pub both_reading : Reading RelaxedEvent
both_reading = do
  p ← id_part
  q ← id_part
  key ← key_part
  done (Both p q key)

-- what stands behind the word
unfoldable pub event_reading : RelaxedWord → Reading RelaxedEvent
event_reading Relaxed = one_reading
event_reading Joined = both_reading

-- how a line reads: as none of these, or as one of these events; else why it is refused
unfoldable pub relaxed_reading : List ℕ → Result (Option RelaxedEvent) LineFault
relaxed_reading line = own_reading (λ word. option_map event_reading (word_of word)) line
