-- The step of a chronicle: the small steps of an event, which stands in a world beside it, note what the event brings about.
use Rattle.std.specs.Prelude.{List, [], ◌∷◌, fold}
use Rattle.cg_schedule.specs.declared.event.Event.{Event}
use Rattle.cg_model.specs.World.{World}
use Rattle.cg_model.specs.Run.{Step}
use Rattle.cg_model.specs.Chronicle.{Chronicle}
use Rattle.cg_model.specs.Small.{Small, small_step}
use Rattle.cg_model.specs.Smalls.{smalls_in}

-- small steps are made, one after another
abbrev pub played : Chronicle → List Small → Chronicle
played c smalls = fold small_step c smalls

-- the chronicle behind the step of an event that is admitted in this world
abbrev pub chronicle_step : Chronicle → World → Event → Chronicle
chronicle_step c w e = played c (smalls_in w e)

-- the chronicle behind the steps of a run from this world
abbrev pub chronicle_after : Chronicle → World → List Step → Chronicle
chronicle_after c w [] = c
chronicle_after c w (s ∷ steps) = chronicle_after (chronicle_step c w s.event) s.world steps
