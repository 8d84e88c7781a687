-- The made actions, as contracts speak of them.
use Rattle.std.specs.Prelude.{List, [], ◌∷◌, ◌++◌}
use Rattle.cg_action.specs.declared.action.Action.{Action}
use Rattle.cg_world.specs.declared.all_made.LastMade.{LastMade}
use Rattle.cg_world.specs.declared.all_made.LastMade.TheVariants.{Nothing, Made}

-- those up to the last one
abbrev pub up_to : LastMade → List Action
up_to Nothing = []
up_to (Made earlier action) = earlier.value ++ action.value ∷ []
