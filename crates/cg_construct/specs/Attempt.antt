-- A member in an attempt.
use Rattle.std.specs.Prelude.{ℕ, List, Option}
use Rattle.std.specs.Option.{option_map}
use Rattle.cg_client.specs.declared.parts.DraftParts.{DraftParts}
use Rattle.cg_client.specs.Drafts.{turn_with}
use Rattle.cg_client.specs.Replica.{Held, Construct, No}
use Rattle.cg_client.specs.Turn.{Turn}

-- what the member holds, the attempt's configuration, and who has announced it
pub record Announced : Type 0 where
  pub held : Held
  pub conf : ℕ
  pub heard : List ℕ

-- the configuration of the attempt that the record tells of
abbrev pub attempt_of : Held → Option ℕ
attempt_of h = option_map (λ v. v.attempt) h.vulnerable

-- a member that has announced an attempt, and an event under way at it
abbrev pub in_construct : Announced → DraftParts → Turn
in_construct s d = turn_with s.held (Construct s.conf s.heard) d

-- a member whose attempt was cut short, and an event under way at it
abbrev pub in_no : Announced → DraftParts → Turn
in_no s d = turn_with s.held (No s.conf s.heard) d
