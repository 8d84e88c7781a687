-- The steps of a run tell of the chronicle that they lead to.
use Rattle.std.proofs.Common.{◌≡◌, List, [], Some, inl, refl, sym}
use Rattle.cg_model.specs.World.{World, no_world}
use Rattle.cg_model.specs.Show.{line_of}
use Rattle.cg_model.specs.Run.{Step, IsRunFrom, world_after}
use Rattle.cg_model.specs.Agreement.{through}
use Rattle.cg_model.specs.Chronicle.{Chronicle, no_chronicle}
use Rattle.cg_model.specs.Noting.{chronicle_step, chronicle_after}
use Rattle.cg_model.specs.Played.{AlwaysHolds, with_world}
use Rattle.cg_model.specs.Telling.{Tells, printed}
use Rattle.cg_agree_lemmas.specs.OrderTold.{order_told}
use Rattle.cg_agree.proofs.MadeBookKept.{nothing-made}
use Rattle.cg_agree.proofs.RunForward.{IsStepOf, of-run}
use Rattle.cg_agree.proofs.LinesShown.{AreLinesTold, lines-on, position-shown, white-shown}
use Rattle.cg_agree.proofs.MadeTold.{IsMadeTold, made-on, made-told, as-made}
use Rattle.cg_agree.proofs.StartTold.{IsStartTold, start-on}
use Rattle.cg_base.specs.ElementLaws.{each-contains}

-- what is kept by each step
pub record HasTold (earlier : List Step) (c : Chronicle) (w : World) : Type 0 where
  pub start : IsStartTold earlier c w
  pub lines : AreLinesTold earlier w
  pub made : IsMadeTold earlier c w

pub told-on : (earlier : List Step) (c : Chronicle) (w : World) (s : Step) → IsStepOf c w s → HasTold earlier c w → HasTold (through earlier s) (chronicle_step c w s.event) s.world
told-on earlier c w s step told =
    let lines = lines-on earlier c w s step told.lines in
    record { start = start-on earlier c w s step told.start; lines = lines; made = made-on earlier c w s step (position-shown (through earlier s) s.world lines) told.made }

pub nothing-told : HasTold [] no_chronicle no_world
nothing-told = record {
  start = record { start = refl; begun = inl refl };
  lines = record { shown = λ p. refl; stand = tt };
  made = record { fits = nothing-made; last = λ p. tt; run = refl; cut = refl; booked = tt };
}

pub has-told : AlwaysHolds → (steps : List Step) → IsRunFrom no_world steps → HasTold steps (chronicle_after no_chronicle no_world steps) (world_after no_world steps)
has-told always steps run = of-run always HasTold told-on nothing-told steps run

pub tells : AlwaysHolds → (steps : List Step) → IsRunFrom no_world steps → Tells steps (with_world (chronicle_after no_chronicle no_world steps) (world_after no_world steps))
tells always steps run =
    let c = chronicle_after no_chronicle no_world steps in
    let w = world_after no_world steps in
    let told = has-told always steps run in
    record {
      start = told.start.start;
      order = sym (order_told no_world steps run);
      shown = told.lines.shown;
      stands = λ s there. each-contains (λ s. printed w s.id ≡ Some (line_of w.group s)) w.nodes s told.lines.stand there;
      position = position-shown steps w told.lines;
      white = white-shown steps w told.lines;
      made = made-told steps c w told.made;
      as_made = as-made steps c w told.made;
    }
