-- What an action may be, and the parts of its commands.
use Rattle.std.specs.Prelude.{ℕ, ◌<◌, ◌≤◌, List, Option}
use Rattle.cg_base.specs.declared.limits.TheConstants.{NUMBER_LIMIT}
use Rattle.cg_base.specs.Sets.{IsId}
use Rattle.cg_base.specs.declared.action_id.ActionId.{ActionId}
use Rattle.cg_action.specs.declared.value.Value.{Value}
use Rattle.cg_action.specs.declared.command.Cmd.{Cmd}
use Rattle.cg_action.specs.declared.action.Action.{Action}
use Rattle.cg_action.specs.Limits.{IsTextWithin, IsKeyOf, IsPrefixOf, IsValueOf, IsWantOf, IsCommandOf, IsKind}

abbrev pub IsKey : List ℕ → Type 0
IsKey = IsKeyOf IsTextWithin

abbrev pub IsPrefix : List ℕ → Type 0
IsPrefix = IsPrefixOf IsTextWithin

abbrev pub IsValue : Value → Type 0
IsValue = IsValueOf IsTextWithin

abbrev pub IsWant : Option Value → Type 0
IsWant = IsWantOf IsTextWithin

abbrev pub IsCommand : Cmd → Type 0
IsCommand = IsCommandOf IsTextWithin

-- indexes count from 1, and every number is below 2 ^ 63
pub record IsActionId (id : ActionId) : Type 0 where
  pub creator : IsId id.creator
  pub from_one : 1 ≤ id.index
  pub below : id.index < NUMBER_LIMIT

pub record IsAction (a : Action) : Type 0 where
  pub id : IsActionId a.id
  pub green_line : a.green_line < NUMBER_LIMIT
  pub kind : IsKind a.kind
