-- What the events so far have come to.
use Rattle.std.specs.Prelude.{List, []}
use Rattle.cg_action.specs.declared.action.Action.{Action}
use Rattle.cg_model.specs.World.{World, no_world}

-- the world, and the actions that were shown as made on the way to it, in that order
pub record SoFar : Type 0 where
  pub world : World
  pub made : List Action

-- the world before its start, with nothing made
abbrev pub nothing_yet : SoFar
nothing_yet = record { world = no_world; made = [] }
