-- Which lines read as an event of followers.
use Rattle.std.specs.Prelude.{◌≡◌, ◌↔◌, ℕ, true, false, List, Some, Ok}
use Rattle.std.specs.Str.{is_utf8}
use Rattle.cg_base.specs.Sets.{IsId}
use Rattle.cg_text.specs.Tokens.{tokens, is_passed_over}
use Rattle.cg_schedule.specs.Limits.{IsCount, IsFill, IsQuery, IsWithin}
use Rattle.cg_follow.specs.declared.event.FollowEvent.{FollowEvent}
use Rattle.cg_follow.specs.declared.event.FollowEvent.TheVariants.{Follower, Feed, Stop, Recover, Weak}
use Rattle.cg_follow.specs.Line.{follow_reading}
use Rattle.cg_follow.specs.Print.{line_of}

-- what an event of followers may be: they have the numbers of replicas
abbrev pub IsFollowEvent : FollowEvent → Type 0
IsFollowEvent (Follower f p) = IsId f × IsId p
IsFollowEvent (Feed p f count) = IsId p × (IsId f × IsCount count)
IsFollowEvent (Stop f call fill) = IsId f × (IsWithin 0 1000000 call × IsFill fill)
IsFollowEvent (Recover f) = IsId f
IsFollowEvent (Weak f query) = IsId f × IsQuery query

-- A line reads as an event of followers where it is a text that isn't passed over, the event is within the limits, and
-- the line's tokens are those of the event's line.
pub record ReadsAs (line : List ℕ) (event : FollowEvent) : Type 0 where
  pub stands : is_passed_over line ≡ false
  pub is_text : is_utf8 line ≡ true
  pub within : IsFollowEvent event
  pub same_tokens : tokens line ≡ tokens (line_of event)

abbrev pub ExactLines : Type 0
ExactLines = (line : List ℕ) (e : FollowEvent) → (follow_reading line ≡ Ok (Some e)) ↔ (ReadsAs line e)
