-- A member outside of a primary component, and one in an exchange.
use Rattle.std.specs.Prelude.{ℕ, Bool, List}
use Rattle.cg_knowledge.specs.declared.summary.Summary.{Summary}
use Rattle.cg_client.specs.declared.parts.DraftParts.{DraftParts}
use Rattle.cg_client.specs.Drafts.{turn_with}
use Rattle.cg_client.specs.Replica.{Held, NonPrim, ExchangeStates, ExchangeActions}
use Rattle.cg_client.specs.Turn.{Turn}

-- a member of no primary component, in a configuration's regular phase or not
pub record Outside : Type 0 where
  pub held : Held
  pub regular : Bool

-- a member that waits for the summaries of a configuration's members
pub record Waiting : Type 0 where
  pub held : Held
  pub conf : ℕ
  pub set : List ℕ
  pub heard : List Summary

-- a member that follows the plan of these summaries, of which so many items were accepted
pub record Following : Type 0 where
  pub held : Held
  pub conf : ℕ
  pub summaries : List Summary
  pub accepted : ℕ

-- each of them with an event under way at it
abbrev pub in_non_prim : Outside → DraftParts → Turn
in_non_prim s d = turn_with s.held (NonPrim s.regular) d

abbrev pub in_states : Waiting → DraftParts → Turn
in_states s d = turn_with s.held (ExchangeStates s.conf s.set s.heard) d

abbrev pub in_actions : Following → DraftParts → Turn
in_actions s d = turn_with s.held (ExchangeActions s.conf s.summaries s.accepted) d
