use Rattle.std.proofs.Common.{◌≡◌, OnOk, Some, false, ap, sym, subst, ◌∙◌}
use Rattle.cg_group.specs.State.{is_up}
use Rattle.cg_model.specs.World.{World}
use Rattle.cg_model.specs.Show.{StepInProgress}
use Rattle.cg_model.specs.Step.{transfer}
use Rattle.cg_world_events.specs.Choosing.{Chooses}
use Rattle.cg_world_events.proofs.TransferFacts.{chosen-down, chosen-takes}
use Rattle.cg_world_events.proofs.handing.hand_pieces.Goals as goal

pub take_pieces-requires-clause-down : goal.take_pieces-requires-clause-down
take_pieces-requires-clause-down c =
    let old = c.going.inside.state.value in
    let found = subst (λ o. Chooses c.deref_mut.result.now c.choose.new.state c.args.p c.args.joiner o) c.in-Some.is c.in_ok-chosen.ensures in
    let chosen = subst (λ (w : World). Chooses w c.choose.new.state c.args.p c.args.joiner (Some c.in-Some.snapshot)) c.deref_mut.ensures.value found in
    chosen-down old c.choose.new.state c.args.p c.args.joiner c.in-Some.snapshot chosen
    (subst (λ (g : StepInProgress). is_up g.world.group c.args.joiner ≡ false) (sym c.going.view_is) c.requires.down)

pub returns-in-Some : goal.returns-in-Some
returns-in-Some c =
    let old = c.going.inside.state.value in
    let found = subst (λ o. Chooses c.deref_mut.result.now c.choose.new.state c.args.p c.args.joiner o) c.in-Some.is c.in_ok-chosen.ensures in
    let chosen = subst (λ (w : World). Chooses w c.choose.new.state c.args.p c.args.joiner (Some c.in-Some.snapshot)) c.deref_mut.ensures.value found in
    subst (λ (x : StepInProgress). OnOk c.take_pieces.result (c.take_pieces.new.going ≡ x))
    (chosen-takes old c.choose.new.state c.args.p c.args.joiner c.args.pieces c.in-Some.snapshot chosen
    ∙ ap (λ (g : StepInProgress). transfer g.world c.args.p c.args.joiner c.args.pieces) c.going.view_is) c.take_pieces.ensures
