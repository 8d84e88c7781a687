-- What is always so of the actions that are known.
use Rattle.cg_action.specs.ActionLimits.{IsAction}
use Rattle.cg_base.specs.Lists.{Each}
use Rattle.cg_records.specs.Limits.{IsIndex, IsName}
use Rattle.cg_queue.specs.Queue.{QueueView}

-- each kept action, each index of a cut and each yellow name is within its limits
pub record AreKept (q : QueueView) : Type 0 where
  pub greens : Each IsAction q.greens
  pub reds : Each IsAction q.reds
  pub green_cut : Each (λ top. IsIndex top.index) q.green_cut
  pub red_cut : Each (λ top. IsIndex top.index) q.red_cut
  pub yellow : Each IsName q.yellow
