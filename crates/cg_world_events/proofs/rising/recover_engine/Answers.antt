use Rattle.std.proofs.Common.{◌≡◌, IfOk, Option, refl, ap, subst, sym, ◌∙◌}
use Rattle.cg_disk.specs.Model.{view_of, state_of}
use Rattle.cg_model.specs.Show.{EventEffects}
use Rattle.cg_model.specs.World.{Node}
use Rattle.cg_engine.specs.Answers.{IsRecovered}
use Rattle.cg_engine.specs.Engines.{Fallen}
use Rattle.cg_store.specs.Opening.{IsNoStore}
use Rattle.cg_model.specs.Step.{risen}
use Rattle.cg_world_events.specs.Nodes.{raised}
use Rattle.cg_world_events.specs.SeenLaws.{down-seen}
use Rattle.cg_world_events.proofs.ComingUp.{is_store, unarmed_behind, rises_seen}
use Rattle.cg_world_events.proofs.rising.recover_engine.Goals as goal

pub returns-in-Running : goal.returns-in-Running
returns-in-Running c =
    let w = c.args.resting in
    let e = c.in-Running.engine in
    let green = c.in-Running.green in
    let made = c.args.made.now in
    let rests = c.into_wreck.ensures.rests in
    let is = subst (λ (x : Fallen _). IsRecovered view_of x e green) c.into_wreck.ensures.wreck c.in-Running.ensures in
    let none = unarmed_behind (view_of w.disk) (view_of e.store.disk) (state_of w.disk) (state_of e.store.disk) refl rests.unarmed is.reached.unstruck refl in
    subst (λ (up : Node × Option EventEffects). IfOk c.go_up.result (λ x. x ≡ up))
    (rises_seen view_of w rests.standing rests.stands e e green is (record { id = refl; unwritten = refl; replica = refl }) refl (state_of e.store.disk) refl none made
    ∙ sym (ap (λ (n : Node). raised n (risen made n.life)) (down-seen view_of w rests.standing rests.stands))) c.go_up.ensures

pub unreachable-requires-in-NotAStore : goal.unreachable-requires-in-NotAStore
unreachable-requires-in-NotAStore c =
    let w = c.args.resting in
    let x = c.in-NotAStore.field-0 in
    let rests = c.into_wreck.ensures.rests in
    let none = subst (λ (y : Fallen _). IsNoStore y.id (view_of y.disk) (view_of x.disk)) c.into_wreck.ensures.wreck c.in-NotAStore.ensures.0 in
    is_store w.id (view_of w.disk) (view_of x.disk) rests.standing rests.stands none
