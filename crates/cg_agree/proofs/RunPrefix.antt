-- The steps of a run before one of them are a run, and so are those up to it.
use Rattle.std.proofs.Common.{◌≡◌, List, [], ◌∷◌, ◌++◌, None, subst}
use Rattle.cg_model.specs.World.{World, no_world}
use Rattle.cg_model.specs.Admission.{first_refusal}
use Rattle.cg_model.specs.Step.{world_step}
use Rattle.cg_model.specs.Run.{Step, MayStand, IsRunFrom, world_after}
use Rattle.cg_model.specs.Agreement.{ComesAfter, through}
use Rattle.cg_model.specs.Chronicle.{Chronicle, no_chronicle}
use Rattle.cg_model.specs.Noting.{chronicle_step, chronicle_after}
use Rattle.cg_model.specs.Played.{StandsBeside, AlwaysHolds}
use Rattle.cg_agree.proofs.CreatorNumbered.{stands-of}
use Rattle.cg_agree.proofs.RunForward.{IsStepOf}
use Rattle.cg_model.specs.RunLaws.{front-run, world-last, chronicle-last}

-- what the run says of a step
pub record IsMade (w : World) (s : Step) : Type 0 where
  pub may : MayStand w s.event
  pub admitted : first_refusal w s.event ≡ None
  pub moved : (record { entry = s.entry; world = s.world } ≡ world_step w s.event)

pub made-there : (w : World) (xs : List Step) (s : Step) (later : List Step) → IsRunFrom w (xs ++ s ∷ later) → IsMade (world_after w xs) s
made-there w [] s later run = record { may = run.0; admitted = run.1; moved = run.2 }
made-there w (x ∷ xs) s later run = made-there x.world xs s later run.3

through-run : (w : World) (xs : List Step) (s : Step) (later : List Step) → IsRunFrom w (xs ++ s ∷ later) → IsRunFrom w (through xs s)
through-run w [] s later run = (run.0, run.1, run.2, tt)
through-run w (x ∷ xs) s later run = (run.0, run.1, run.2, through-run x.world xs s later run.3)

-- a step of a run from nothing, and the runs that end before it and with it
pub record ComesThere (earlier : List Step) (s : Step) : Type 0 where
  pub before : IsRunFrom no_world earlier
  pub upto : IsRunFrom no_world (through earlier s)
  pub step : IsStepOf (chronicle_after no_chronicle no_world earlier) (world_after no_world earlier) s

pub comes : AlwaysHolds → (steps : List Step) → IsRunFrom no_world steps → (earlier : List Step) (s : Step) → ComesAfter steps earlier s → ComesThere earlier s
comes always steps run earlier s there =
    let later = there.0 in
    let whole : IsRunFrom no_world (earlier ++ s ∷ later) = subst (IsRunFrom no_world) there.1 run in
    let before = front-run no_world earlier (s ∷ later) whole in
    let upto = through-run no_world earlier s later whole in
    let is = made-there no_world earlier s later whole in
    record {
      before = before;
      upto = upto;
      step = record {
        may = is.may;
        admitted = is.admitted;
        moved = is.moved;
        before = stands-of always earlier before;
        behind = subst (λ (w : World). StandsBeside (chronicle_step (chronicle_after no_chronicle no_world earlier) (world_after no_world earlier) s.event) w) (world-last no_world earlier s)
            (subst (λ (c : Chronicle). StandsBeside c (world_after no_world (through earlier s))) (chronicle-last no_chronicle no_world earlier s) (stands-of always (through earlier s) upto));
      };
    }
