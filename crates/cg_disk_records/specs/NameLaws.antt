-- What is within the limits of a record is a cut, or names of actions.
use Rattle.std.proofs.Common.{◌<◌, List, [], ◌∷◌, arith}
use Rattle.cg_base.specs.declared.limits.TheConstants.{NUMBER_LIMIT}
use Rattle.cg_base.specs.declared.action_id.ActionId.{ActionId}
use Rattle.cg_base.specs.CutLimits.{IsCut, NameActions}
use Rattle.cg_base.specs.CutLaws.{AreNames}
use Rattle.cg_action.specs.declared.action.Action.{Action}
use Rattle.cg_action.specs.ActionLimits.{IsAction}
use Rattle.cg_queue.specs.Queue.{names_of}
use Rattle.cg_base.specs.Lists.{Each}
use Rattle.cg_records.specs.Limits.{IsIndex, IsSmallCut}

-- a cut whose indexes have bytes is one
pub small-cut : (cut : List ActionId) → IsSmallCut cut → IsCut cut
small-cut cut small = record { ascends = small.ascends; named = named cut small.indexes } where
  named : (tops : List ActionId) → Each (λ top. IsIndex top.index) tops → NameActions tops
  named [] each = tt
  named (top ∷ tops) each = let high : top.index < NUMBER_LIMIT = each.0.1 in
      (each.0.0, omega (arith, high), named tops each.1)

pub names-within : (actions : List Action) → Each IsAction actions → AreNames (names_of actions)
names-within [] each = tt
names-within (a ∷ actions) each = let small : a.id.index < NUMBER_LIMIT = each.0.id.below in
    (each.0.id.creator, omega (arith, small), names-within actions each.1)
