-- One order grows: its places are numbered, each is printed in time, and it is shown as it stands.
use Rattle.std.proofs.Common.{◌≡◌, List, Contains, refl, sym, ap, ◌∙◌, subst}
use Rattle.cg_base.specs.Lists.{Each}
use Rattle.cg_base.specs.declared.action_id.ActionId.{ActionId}
use Rattle.cg_report.specs.declared.entry.Shown.{Shown}
use Rattle.cg_report.specs.declared.entry.Shown.TheVariants.{All}
use Rattle.cg_schedule.specs.declared.event.Event.{Event}
use Rattle.cg_schedule.specs.declared.event.Event.TheVariants.{ShowOrder}
use Rattle.cg_model.specs.World.{World, no_world}
use Rattle.cg_model.specs.Show.{Moved, ended}
use Rattle.cg_model.specs.Step.{happens, world_step}
use Rattle.cg_model.specs.Run.{Step, IsRunFrom, world_after}
use Rattle.cg_model.specs.Shown.{order_of}
use Rattle.cg_model.specs.Agreement.{ComesAfter, through, OrderGrows}
use Rattle.cg_model.specs.Chronicle.{Chronicle}
use Rattle.cg_model.specs.Played.{AlwaysHolds}
use Rattle.cg_agree_lemmas.specs.HappensShown.{OfShown, step-shows, each-shown}
use Rattle.cg_agree.proofs.OrderInTime.{in-time}
use Rattle.cg_agree_lemmas.specs.OrderTold.{order_told, places_told}
use Rattle.cg_agree.proofs.RunForward.{IsStepOf}
use Rattle.cg_agree.proofs.RunPrefix.{comes}
use Rattle.cg_base.specs.ElementLaws.{each-contains}
use Rattle.cg_model.specs.RunLaws.{front-run, world-last}

-- what a step shows is of this kind
pub shown-of : (c : Chronicle) (w : World) (s : Step) → IsStepOf c w s → (x : Shown) → Contains s.entry.shown x → OfShown w s.event x
shown-of c w s step x there =
    let shows = ap (λ (m : Moved). m.entry.shown) step.moved ∙ step-shows w s.event in
    each-contains (OfShown w s.event) s.entry.shown x (subst (Each (OfShown w s.event)) (sym shows) (each-shown w s.event)) there

order-shown : (w : World) → (world_step w ShowOrder).world.order ≡ w.order
unfolding world_step happens ended
order-shown w = refl

pub order-grows : AlwaysHolds → (steps : List Step) → IsRunFrom no_world steps → OrderGrows steps
order-grows always steps run = record {
  numbered = places_told no_world steps run;
  in_time = λ earlier later e. in-time always earlier (front-run no_world earlier later (subst (IsRunFrom no_world) e run));
  shown = λ earlier s list after there. shown earlier s list after there;
} where
  shown : (earlier : List Step) (s : Step) (list : List ActionId) → ComesAfter steps earlier s → Contains s.entry.shown (All list) → list ≡ order_of (through earlier s)
  shown earlier s list after there =
      let at = comes always steps run earlier s after in
      let w = world_after no_world earlier in
      let is = shown-of _ w s at.step (All list) there in
      let stays : s.world.order ≡ w.order = ap (λ (m : Moved). m.world.order) at.step.moved ∙ ap (λ (e : Event). (world_step w e).world.order) is.0 ∙ order-shown w in
      is.1 ∙ sym stays ∙ sym (ap (λ (v : World). v.order) (world-last no_world earlier s)) ∙ order_told no_world (through earlier s) at.upto
