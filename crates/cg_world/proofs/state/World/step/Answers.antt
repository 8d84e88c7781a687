use Rattle.std.proofs.Common.{◌≡◌, None, sym, ap, subst, ◌∙◌}
use Rattle.cg_model.specs.Admission.{first_refusal}
use Rattle.cg_model.specs.Run.{MayStand}
use Rattle.cg_model.specs.Show.{StepInProgress}
use Rattle.cg_model.specs.Standing.{IsBooked}
use Rattle.cg_model.specs.Step.{happens, quietly}
use Rattle.cg_world.specs.SoFar.{SoFar}
use Rattle.cg_world.specs.Steps.{Steps}
use Rattle.cg_world_events.specs.Grounds.{ComesFirst, IsHosted}
use Rattle.cg_world_events.specs.GroundLaws.{ComesFirst-stands}
use Rattle.cg_world.proofs.state.World.step.Goals as goal
use Rattle.cg_world.proofs.Leading.{led-booked, led-hosted, led-on, led-news, end-steps}

pub happen-requires-clause-booked : goal.happen-requires-clause-booked
happen-requires-clause-booked c =
    let w = c.self.inside in
    subst (λ (g : StepInProgress). IsBooked g.world) (sym c.quietly-going.ensures)
    (led-booked w.state.value w.made c.facts_stand_beside_each_world.ensures c.actions_stand_in_one_book.ensures c.self.invariant)

pub happen-requires-clause-hosted : goal.happen-requires-clause-hosted
happen-requires-clause-hosted c =
    let w = c.self.inside in
    subst (λ (g : StepInProgress). IsHosted g.world) (sym c.quietly-going.ensures) (led-hosted w.state.value w.made c.facts_stand_beside_each_world.ensures c.self.invariant)

pub happen-requires-clause-first : goal.happen-requires-clause-first
happen-requires-clause-first c =
    let stands = subst (λ (s : SoFar). MayStand s.world c.args.event.now) (sym c.self.view_is) c.requires.stands in
    subst (λ (g : StepInProgress). ComesFirst g.world c.args.event.now) (sym c.quietly-going.ensures) (ComesFirst-stands c.self.inside.state.value c.args.event.now stands)

pub happen-requires-clause-quiet : goal.happen-requires-clause-quiet
happen-requires-clause-quiet c = c.quietly-going.ensures ∙ ap (λ (g : StepInProgress). quietly g.world) (sym c.quietly-going.ensures)

pub end_and_keep-requires-clause-led : goal.end_and_keep-requires-clause-led
end_and_keep-requires-clause-led c =
    let w = c.self.inside in
    let e = c.args.event.now in
    let g = c.happen.new.going in
    let stands = subst (λ (s : SoFar). MayStand s.world e) (sym c.self.view_is) c.requires.stands in
    let is = subst (λ (h : StepInProgress). (first_refusal h.world e ≡ None) × (g ≡ happens h.world e)) c.quietly-going.ensures c.in-Ok.ensures in
    led-on w.state.value e g w.made c.facts_stand_beside_each_world.ensures c.made_actions_stand_in_the_book.ensures c.self.invariant stands is

pub end_and_keep-requires-clause-news : goal.end_and_keep-requires-clause-news
end_and_keep-requires-clause-news c =
    let w = c.self.inside in
    let e = c.args.event.now in
    let g = c.happen.new.going in
    let stands = subst (λ (s : SoFar). MayStand s.world e) (sym c.self.view_is) c.requires.stands in
    let is = subst (λ (h : StepInProgress). (first_refusal h.world e ≡ None) × (g ≡ happens h.world e)) c.quietly-going.ensures c.in-Ok.ensures in
    led-news w.state.value e g w.made c.touched.result c.others_show_nothing_new.ensures c.self.invariant stands is c.touched.ensures

pub returns-in-Ok : goal.returns-in-Ok
returns-in-Ok c =
    let e = c.args.event.now in
    let g = c.happen.new.going in
    let is = subst (λ (h : StepInProgress). (first_refusal h.world e ≡ None) × (g ≡ happens h.world e)) c.quietly-going.ensures c.in-Ok.ensures in
    subst (λ (s : SoFar). Steps s e c.end_and_keep.result) c.self.view_is
    (end-steps (record { world = c.self.inside.state.value; made = c.self.inside.made }) e g c.end_and_keep.result is c.end_and_keep.ensures)
