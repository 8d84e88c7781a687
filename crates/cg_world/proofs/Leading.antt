-- An admitted event leads on, and its step is the end of what it does.
use Rattle.std.proofs.Common.{◌≡◌, ℕ, List, ◌++◌, None, sym, ap, ◌∙◌, subst}
use Rattle.cg_schedule.specs.declared.event.Event.{Event}
use Rattle.cg_action.specs.declared.action.Action.{Action}
use Rattle.cg_model.specs.World.{World}
use Rattle.cg_world_events.specs.Grounds.{IsHosted}
use Rattle.cg_world_events.specs.GroundLaws.{IsHosted-beside}
use Rattle.cg_model.specs.Admission.{first_refusal}
use Rattle.cg_model.specs.Run.{MayStand}
use Rattle.cg_model.specs.Show.{StepInProgress, ended}
use Rattle.cg_model.specs.Step.{happens, world_step}
use Rattle.cg_model.specs.Noting.{chronicle_step}
use Rattle.cg_model.specs.Making.{newly_made, AlwaysMadeInBook}
use Rattle.cg_model.specs.Standing.{AlwaysStands, AlwaysBooked, IsBooked}
use Rattle.cg_model.specs.Touched.{touched, ShowsNewsOf, OthersShowNothingNew}
use Rattle.cg_world.specs.declared.world.Stepped.{Stepped}
use Rattle.cg_world.specs.declared.world.Stepped.TheVariants as stepped
use Rattle.cg_world.specs.Led.{IsLedWith}
use Rattle.cg_world.specs.SoFar.{SoFar}
use Rattle.cg_world.specs.Steps.{IsEnd, Steps}
use Rattle.cg_world.proofs.Making.{made-on}

pub led-booked : (w : World) (made : List Action) → AlwaysStands → AlwaysBooked → IsLedWith w made → IsBooked w
led-booked w made stands booked led = booked led.chronicle w (stands.beside led.chronicle w led.reached)

pub led-hosted : (w : World) (made : List Action) → AlwaysStands → IsLedWith w made → IsHosted w
led-hosted w made stands led = IsHosted-beside led.chronicle w (stands.beside led.chronicle w led.reached)

pub led-on : (w : World) (e : Event) (g : StepInProgress) (made : List Action) → AlwaysStands → AlwaysMadeInBook → IsLedWith w made → MayStand w e → (first_refusal w e ≡ None) × (g ≡ happens w e) →
    IsLedWith (ended g).world (made ++ newly_made (ended g))
unfolding world_step
led-on w e g made stands makes led may is =
    let c = led.chronicle in
    subst (λ (h : StepInProgress). IsLedWith (ended h).world (made ++ newly_made (ended h))) (sym is.1) (record {
      chronicle = chronicle_step c w e;
      reached = stands.step c w e led.reached may is.0;
      all = made-on c (chronicle_step c w e) w (world_step w e) made led.all (makes c w e led.reached may is.0);
    })

pub led-news : (w : World) (e : Event) (g : StepInProgress) (made : List Action) (set : List ℕ) → OthersShowNothingNew → IsLedWith w made → MayStand w e → (first_refusal w e ≡ None) × (g ≡ happens w e) →
    set ≡ touched e → ShowsNewsOf set g.world
led-news w e g made set others led may is same =
    subst (λ (h : StepInProgress). ShowsNewsOf set h.world) (sym is.1)
    (subst (λ (list : List ℕ). ShowsNewsOf list (happens w e).world) (sym same) (others led.chronicle w e led.reached may is.0))

pub end-steps : (before : SoFar) (e : Event) (g : StepInProgress) (s : Stepped) → (first_refusal before.world e ≡ None) × (g ≡ happens before.world e) →
    IsEnd (ended g) before.made s → Steps before e s
unfolding world_step
end-steps before e g (stepped.Done after entry) is end = (is.0, end.0 ∙ ap ended is.1, end.1)
end-steps before e g (stepped.Refused after reason) is end = absurd end
end-steps before e g stepped.NoMemory is end = tt
