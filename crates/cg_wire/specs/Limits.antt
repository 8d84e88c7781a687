-- Which messages there are.
use Rattle.cg_base.specs.Sets.{IsId, IsSet}
use Rattle.cg_action.specs.ActionLimits.{IsAction}
use Rattle.cg_records.specs.Limits.{IsNumber, IsSmallCut, IsPrimary, IsMaybeVulnerable, IsYellow}
use Rattle.cg_knowledge.specs.declared.summary.Summary.{Summary}
use Rattle.cg_wire.specs.declared.message.Msg.{Msg}
use Rattle.cg_wire.specs.declared.message.Msg.TheVariants.{Action, State, GreenItem, RedItem, Cpc}

-- a summary whose parts are within their limits
pub record IsSummary (s : Summary) : Type 0 where
  pub id : IsId s.id
  pub conf : IsNumber s.conf
  pub prim : IsPrimary s.prim
  pub attempt_index : IsNumber s.attempt_index
  pub vulnerable : IsMaybeVulnerable s.vulnerable
  pub yellow : IsYellow s.yellow
  pub green_count : IsNumber s.green_count
  pub green_cut : IsSmallCut s.green_cut
  pub red_cut : IsSmallCut s.red_cut
  pub left : IsSet s.left

-- a message whose parts are within their limits
abbrev pub IsMsg : Msg → Type 0
IsMsg (Action action) = IsAction action
IsMsg (State s) = IsSummary s
IsMsg (GreenItem at action) = IsNumber at × IsAction action
IsMsg (RedItem action) = IsAction action
IsMsg (Cpc id conf) = IsId id × IsNumber conf
