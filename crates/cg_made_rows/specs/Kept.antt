-- What is kept beside the rows of made actions: values of the relaxed database, each of actions that stand in the rows.
use Rattle.std.specs.Prelude.{◌≡◌, ℕ, suc, ◌<◌, ◌^◌, List, All, Some, slice_get}
use Rattle.std.specs.Option.{unwrap_or}
use Rattle.cg_base.specs.declared.action_id.ActionId.{ActionId}
use Rattle.cg_base.specs.Lists.{at_place, row_at}
use Rattle.cg_action.specs.declared.action.Kind.TheVariants.{Leave}
use Rattle.cg_action.specs.declared.action.Action.{Action}
use Rattle.cg_action.specs.ActionLimits.{IsAction}
use Rattle.cg_relaxed.specs.Relaxed.{IsOf}
use Rattle.cg_relaxed.specs.RelaxedState.{RelaxedState, seen}

-- what stands for an action where none stands; its name is no action's
abbrev pub no_action : Action
no_action = record { id = record { creator = 0; index = 0 }; green_line = 0; kind = Leave 0 }

-- the rows as a map of made actions
abbrev pub made_in : List (List Action) → ActionId → Action
made_in rows id = unwrap_or (at_place (row_at rows id.creator) id.index) no_action

-- the action stands in its creator's row, at the place of its index
pub record IsPlaced (p place : ℕ) (a : Action) : Type 0 where
  pub name : a.id ≡ record { creator = p; index = place }
  pub small : place < 2 ^ 40
  pub action : IsAction a

abbrev pub ArePlaced : List (List Action) → Type 0
ArePlaced rows = (p k : ℕ) (a : Action) → slice_get (row_at rows p) k ≡ Some a → IsPlaced p (suc k) a

-- the value is of actions that stand in the rows
abbrev pub IsFrom : List (List Action) → RelaxedState → Type 0
IsFrom rows v = IsOf (made_in rows) (seen v)

pub record AreKept (rows : List (List Action)) (values : List RelaxedState) : Type 0 where
  pub placed : ArePlaced rows
  pub each : All (IsFrom rows) values
