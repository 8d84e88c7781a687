-- Which lines read as an event that asks for the relaxed database.
use Rattle.std.specs.Prelude.{◌≡◌, ◌↔◌, ℕ, true, false, List, Some, Ok}
use Rattle.std.specs.Str.{is_utf8}
use Rattle.cg_base.specs.Sets.{IsId}
use Rattle.cg_text.specs.Tokens.{tokens, is_passed_over}
use Rattle.cg_schedule.specs.Limits.{IsPrintable}
use Rattle.cg_made_rows.specs.declared.relaxed_event.RelaxedEvent.{RelaxedEvent}
use Rattle.cg_made_rows.specs.declared.relaxed_event.RelaxedEvent.TheVariants.{One, Both}
use Rattle.cg_made_rows.specs.Line.{relaxed_reading}
use Rattle.cg_made_rows.specs.Print.{line_of}

-- what such an event may be
abbrev pub IsRelaxedEvent : RelaxedEvent → Type 0
IsRelaxedEvent (One p key) = IsId p × IsPrintable 1 64 key
IsRelaxedEvent (Both p q key) = IsId p × (IsId q × IsPrintable 1 64 key)

-- A line reads as such an event where it is a text that isn't passed over, the event is within the limits, and the
-- line's tokens are those of the event's line.
pub record ReadsAs (line : List ℕ) (event : RelaxedEvent) : Type 0 where
  pub stands : is_passed_over line ≡ false
  pub is_text : is_utf8 line ≡ true
  pub within : IsRelaxedEvent event
  pub same_tokens : tokens line ≡ tokens (line_of event)

abbrev pub ExactLines : Type 0
ExactLines = (line : List ℕ) (e : RelaxedEvent) → (relaxed_reading line ≡ Ok (Some e)) ↔ (ReadsAs line e)
