-- Events lead on from the worlds to which events lead, and the facts stand beside each such world, with what is carried from event to event.
use Rattle.std.proofs.Common.{◌≡◌, List, [], ◌∷◌, ◌++◌, None, refl, sym, ap, ap₂, ◌∙◌, subst}
use Rattle.cg_schedule.specs.declared.event.Event.{Event}
use Rattle.cg_model.specs.World.{World, no_world}
use Rattle.cg_model.specs.Admission.{first_refusal}
use Rattle.cg_model.specs.Run.{MayStand}
use Rattle.cg_model.specs.Step.{world_step}
use Rattle.cg_model.specs.Chronicle.{Chronicle, no_chronicle}
use Rattle.cg_model.specs.Noting.{chronicle_step}
use Rattle.cg_model.specs.Played.{AreAdmitted}
use Rattle.cg_model.specs.Standing.{LeadTo, IsReached, AlwaysStands}
use Rattle.cg_agree.proofs.AlwaysMade.{IsCarried, stands-first, stands-step}

lead-on : (c : Chronicle) (w : World) (events : List Event) (d : Chronicle) (v : World) (e : Event) → LeadTo c w events d v → MayStand v e → first_refusal v e ≡ None →
    LeadTo c w (events ++ e ∷ []) (chronicle_step d v e) (world_step v e).world
lead-on c w [] d v e lead may admitted = (
  subst (λ (x : World). MayStand x e) (sym lead.1) may,
  ap (λ (x : World). first_refusal x e) lead.1 ∙ admitted,
  (ap₂ (λ (x : Chronicle) (y : World). chronicle_step x y e) lead.0 lead.1, ap (λ (x : World). (world_step x e).world) lead.1),
)
lead-on c w (first ∷ events) d v e lead may admitted = (lead.0, lead.1, lead-on (chronicle_step c w first) (world_step w first).world events d v e lead.2 may admitted)

pub are-admitted : (c : Chronicle) (w : World) (events : List Event) (d : Chronicle) (v : World) → LeadTo c w events d v → AreAdmitted w events
are-admitted c w [] d v lead = tt
are-admitted c w (e ∷ events) d v lead = (lead.0, lead.1, are-admitted (chronicle_step c w e) (world_step w e).world events d v lead.2)

carried-behind : (c : Chronicle) (w : World) (events : List Event) (d : Chronicle) (v : World) → LeadTo c w events d v → IsCarried c w → IsCarried d v
carried-behind c w [] d v lead is = subst (IsCarried d) lead.1 (subst (λ (x : Chronicle). IsCarried x w) lead.0 is)
carried-behind c w (e ∷ events) d v lead is =
    carried-behind (chronicle_step c w e) (world_step w e).world events d v lead.2 (stands-step c w e is.beside is.made is.order lead.0 lead.1)

is-carried : (c : Chronicle) (w : World) → IsReached c w → IsCarried c w
is-carried c w is = carried-behind no_chronicle no_world is.events c w is.lead stands-first

pub always-stands : AlwaysStands
always-stands = record {
  first = record { events = []; lead = (refl, refl) };
  step = λ c w e is may admitted. record { events = is.events ++ e ∷ []; lead = lead-on no_chronicle no_world is.events c w e is.lead may admitted };
  beside = λ c w is. (is-carried c w is).beside;
  carried = λ c w is. (let all = is-carried c w is in (all.made, all.order));
}
