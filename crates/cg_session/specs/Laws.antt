-- Which lines read as an event of a session, and what a session's token promises.
use Rattle.std.specs.Prelude.{◌≡◌, ◌≤◌, ◌↔◌, ℕ, true, false, List, Some, Ok}
use Rattle.std.specs.Str.{is_utf8}
use Rattle.cg_base.specs.declared.action_id.ActionId.{ActionId}
use Rattle.cg_base.specs.Ids.{has_name}
use Rattle.cg_base.specs.Sets.{IsId}
use Rattle.cg_text.specs.Tokens.{tokens, is_passed_over}
use Rattle.cg_schedule.specs.Limits.{IsQuery, IsUpdate}
use Rattle.cg_session.specs.declared.event.SessionEvent.{SessionEvent}
use Rattle.cg_session.specs.declared.event.SessionEvent.TheVariants.{Begin, Write, Weak}
use Rattle.cg_session.specs.Line.{session_reading}
use Rattle.cg_session.specs.Print.{line_of}
use Rattle.cg_session.specs.Token.{Token, read, wrote, replied}

-- what an event of a session may be: sessions have the numbers of replicas
abbrev pub IsSessionEvent : SessionEvent → Type 0
IsSessionEvent (Begin s) = IsId s
IsSessionEvent (Write s p cmds query) = IsId s × IsId p × IsUpdate cmds query
IsSessionEvent (Weak s p query) = IsId s × IsId p × IsQuery query

-- A line reads as an event of a session where it is a text that isn't passed over, the event is within the limits, and
-- the line's tokens are those of the event's line.
pub record ReadsAs (line : List ℕ) (event : SessionEvent) : Type 0 where
  pub stands : is_passed_over line ≡ false
  pub is_text : is_utf8 line ≡ true
  pub within : IsSessionEvent event
  pub same_tokens : tokens line ≡ tokens (line_of event)

abbrev pub ExactLines : Type 0
ExactLines = (line : List ℕ) (e : SessionEvent) → (session_reading line ≡ Ok (Some e)) ↔ (ReadsAs line e)

abbrev pub PrintedAreRead : Type 0
PrintedAreRead = (e : SessionEvent) → IsSessionEvent e → session_reading (line_of e) ≡ Ok (Some e)

-- What a session has seen never falls. After a read it is what was read, and after the reply to an own action it is at
-- or above the action's place.
pub record NeverFalls : Type 0 where
  pub reads : (old new : Token) (pos : ℕ) → read old pos ≡ Ok new → (old.position ≤ pos) × (new.position ≡ pos)
  pub writes : (t : Token) (id : ActionId) → (wrote t id).position ≡ t.position
  pub replies : (t : Token) (id : ActionId) (place : ℕ) → t.position ≤ (replied t id place).position
  pub own : (t : Token) (id : ActionId) (place : ℕ) → has_name t.written id ≡ true → place ≤ (replied t id place).position
