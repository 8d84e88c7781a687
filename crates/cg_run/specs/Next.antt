-- Which event is the next one of a run under way.
use Rattle.std.specs.Prelude.{◌≡◌, ◌<◌, true, length}
use Rattle.cg_schedule.specs.declared.event.Event.{Event}
use Rattle.cg_schedule.specs.declared.event.Event.TheVariants.{Rounds, End}
use Rattle.cg_schedule.specs.Line.{state_after}
use Rattle.cg_model.specs.World.{World}
use Rattle.cg_model.specs.Run.{MayStand}
use Rattle.cg_world.specs.Steps.{IsCounted}
use Rattle.cg_outcome.specs.Produced.{Progress}

-- the event may happen in the world: the end and rounds behind a start, any other where it may stand
abbrev pub MayHappen : World → Event → Type 0
MayHappen w (Rounds count) = 0 < length w.nodes
MayHappen w End = 0 < length w.nodes
MayHappen w other = MayStand w other × IsCounted other

-- the event is the next one: behind it a start was read, and it may happen
pub record IsNext (s : Progress) (e : Event) : Type 0 where
  pub started : (state_after s.reader e).started ≡ true
  pub happens : MayHappen s.world e
