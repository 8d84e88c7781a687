-- Rows of made actions with empty rows behind them.
use Rattle.std.specs.Prelude.{◌≡◌, ℕ, ◌≤◌, List, length, take}
use Rattle.cg_action.specs.declared.action.Action.{Action}
use Rattle.cg_made_rows.specs.Rows.{with_made}

-- the rows stand in front, and an action put in the row of the slot comes to the same
pub record IsGrown (rows grown : List (List Action)) (slot : ℕ) : Type 0 where
  pub front : take (length rows) grown ≡ rows
  pub long : length rows ≤ length grown
  pub same : (a : Action) → with_made grown slot a ≡ with_made rows slot a
