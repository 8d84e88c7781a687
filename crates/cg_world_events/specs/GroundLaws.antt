-- What an event rests on is there where the facts of agreement stand, and where the event may stand.
use Rattle.std.proofs.Common.{sym, ap, subst, ◌∙◌}
use Rattle.std.specs.Prelude.{◌≡◌, is_some, IfSome}
use Rattle.cg_group.specs.State.{is_up}
use Rattle.cg_schedule.specs.declared.event.Event.{Event}
use Rattle.cg_schedule.specs.declared.event.Event.TheVariants.{Start}
use Rattle.cg_model.specs.World.{World}
use Rattle.cg_model.specs.Run.{MayStand}
use Rattle.cg_model.specs.Chronicle.{Chronicle}
use Rattle.cg_model.specs.Played.{StandsBeside}
use Rattle.cg_world_events.specs.Grounds.{ComesFirst, IsHosted}

-- ---- where the facts stand

pub IsHosted-beside : (c : Chronicle) (w : World) → StandsBeside c w → IsHosted w
IsHosted-beside c w stands =
    record {
      disk = λ p. subst (λ o. IfSome o (λ h. h.id ≡ p)) (sym (stands.same.disk p)) (stands.facts.net.hosted.disk p);
      up = λ p. ap is_some (stands.same.running p) ∙ stands.facts.net.phase_sound.up p
          ∙ ap (λ g. is_up g p) (sym stands.same.group);
    }

-- ---- where an event may stand

pub ComesFirst-stands : (w : World) (e : Event) → MayStand w e → ComesFirst w e
ComesFirst-stands w (Start set) may = may.0
ComesFirst-stands w _ may = tt
