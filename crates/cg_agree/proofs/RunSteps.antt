-- A step of a run: what stands before it and behind it, of the run up to there, and what the steps up to there have told.
use Rattle.std.proofs.Common.{◌≡◌, List, None}
use Rattle.cg_model.specs.World.{no_world}
use Rattle.cg_model.specs.Admission.{first_refusal}
use Rattle.cg_model.specs.Show.{Moved}
use Rattle.cg_model.specs.Step.{world_step}
use Rattle.cg_model.specs.Run.{Step, MayStand, IsRunFrom}
use Rattle.cg_model.specs.Agreement.{ComesAfter, through}
use Rattle.cg_model.specs.Chronicle.{no_chronicle}
use Rattle.cg_model.specs.Noting.{chronicle_step}
use Rattle.cg_model.specs.Played.{StandsBeside, AlwaysHolds, with_world}
use Rattle.cg_model.specs.Telling.{Tells}
use Rattle.cg_agree.proofs.CreatorNumbered.{stands-of}
use Rattle.cg_agree.proofs.MadeTold.{IsMadeTold}
use Rattle.cg_agree.proofs.TellsRun.{has-told, tells}
use Rattle.cg_agree.proofs.RunPrefix.{comes}
use Rattle.cg_model.specs.RunLaws.{world-last, chronicle-last, world_of, chronicle_of}

-- a step behind the earlier ones of a run
pub record IsStepAt (earlier : List Step) (s : Step) : Type 0 where
  pub before : IsRunFrom no_world earlier
  pub behind : IsRunFrom no_world (through earlier s)
  pub may : MayStand (world_of earlier) s.event
  pub admitted : first_refusal (world_of earlier) s.event ≡ None
  pub moved : (let m : Moved = record { entry = s.entry; world = s.world } in m) ≡ world_step (world_of earlier) s.event
  pub world : world_of (through earlier s) ≡ s.world
  pub chronicle : chronicle_of (through earlier s) ≡ chronicle_step (chronicle_of earlier) (world_of earlier) s.event

pub step-of : AlwaysHolds → (steps : List Step) → IsRunFrom no_world steps → (earlier : List Step) (s : Step) → ComesAfter steps earlier s → IsStepAt earlier s
step-of always steps run earlier s after =
    let is = comes always steps run earlier s after in
    record {
      before = is.before;
      behind = is.upto;
      may = is.step.may;
      admitted = is.step.admitted;
      moved = is.step.moved;
      world = world-last no_world earlier s;
      chronicle = chronicle-last no_chronicle no_world earlier s;
    }

-- what stands behind the steps of a run
pub record StandsFor (steps : List Step) : Type 0 where
  pub stands : StandsBeside (chronicle_of steps) (world_of steps)
  pub tells : Tells steps (with_world (chronicle_of steps) (world_of steps))
  pub told : IsMadeTold steps (chronicle_of steps) (world_of steps)

pub stands-for : AlwaysHolds → (steps : List Step) → IsRunFrom no_world steps → StandsFor steps
stands-for always steps run = record { stands = stands-of always steps run; tells = tells always steps run; told = (has-told always steps run).made }
