-- The worlds that there are, and the made actions that they keep.
use Rattle.std.specs.Prelude.{◌≡◌, ℕ, List, Contains, length}
use Rattle.cg_base.specs.Lists.{Each}
use Rattle.cg_base.specs.Cuts.{index_in}
use Rattle.cg_action.specs.declared.action.Action.{Action}
use Rattle.cg_model.specs.World.{World}
use Rattle.cg_model.specs.Chronicle.{Chronicle}
use Rattle.cg_model.specs.Standing.{IsReached}
use Rattle.cg_model.specs.Making.{AreNextOf, made_by}

-- admitted events lead to the world from before the start
pub record IsLed (w : World) : Type 0 where
  pub chronicle : Chronicle
  pub reached : IsReached chronicle w

-- the action stands in the book of a chronicle with which they do
pub record IsInBook (w : World) (a : Action) : Type 0 where
  pub chronicle : Chronicle
  pub reached : IsReached chronicle w
  pub booked : Contains chronicle.book a

-- those of each creator are numbered from 1, as many as were shown as made, and all stand in the book
pub record AreMade (c : Chronicle) (w : World) (made : List Action) : Type 0 where
  pub count : (p : ℕ) → length (made_by p made) ≡ index_in w.made p
  pub numbered : (p : ℕ) → AreNextOf p 0 (made_by p made)
  pub booked : Each (Contains c.book) made

-- admitted events lead to the world, and these are the actions that were shown as made on the way
pub record IsLedWith (w : World) (made : List Action) : Type 0 where
  pub chronicle : Chronicle
  pub reached : IsReached chronicle w
  pub all : AreMade chronicle w made
