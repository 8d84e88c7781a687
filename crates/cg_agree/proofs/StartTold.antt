-- The servers of a run's start are those of its chronicle: its first event is a start, and no later one is.
use Rattle.std.proofs.Common.{◌⊎◌, ◌≡◌, List, [], ◌∷◌, ◌++◌, None, refl, sym, ap, ◌∙◌, subst, inl, inr}
use Rattle.std.proofs.lemmas.List.{append-nil, append_assoc}
use Rattle.cg_base.specs.declared.weighted.Weighted.{Weighted}
use Rattle.cg_schedule.specs.declared.event.Event.{Event}
use Rattle.cg_schedule.specs.declared.event.Event.TheVariants.{Start, Split, Merge, Request, Weak, Dirty, Order, Recover, RecoverStopped, Downgrade, Show, ShowOrder, Gather, End, Receive, Deliver, Rounds, Stop, Fail, Join, Leave, Transfer}
use Rattle.cg_model.specs.World.{World}
use Rattle.cg_model.specs.Admission.{first_refusal}
use Rattle.cg_model.specs.Show.{Moved}
use Rattle.cg_model.specs.Step.{world_step}
use Rattle.cg_model.specs.Run.{Step, MayStand}
use Rattle.cg_model.specs.Shown.{start_in, start_of}
use Rattle.cg_model.specs.Agreement.{through}
use Rattle.cg_model.specs.Chronicle.{Chronicle}
use Rattle.cg_model.specs.Small.{small_step}
use Rattle.cg_model.specs.Smalls.{smalls_in}
use Rattle.cg_model.specs.Noting.{chronicle_step}
use Rattle.cg_model.specs.NodeLaws.{IsHosted, start_nodes, nodes_stay}
use Rattle.cg_agree.proofs.RunForward.{IsStepOf}
use Rattle.cg_agree.proofs.PrimStays.{event-stays}
use Rattle.cg_agree.proofs.PrimaryOne.{hosted-not}

-- the servers of the start so far; and before it there are none
pub record IsStartTold (earlier : List Step) (c : Chronicle) (w : World) : Type 0 where
  pub start : start_of earlier ≡ c.start
  pub begun : (c.start ≡ []) ⊎ IsHosted w

start-last : (earlier : List Step) (s : Step) → start_of (through earlier s) ≡ start_of earlier ++ start_in s.event
start-last [] s = append-nil (start_in s.event)
start-last (x ∷ earlier) s = ap (λ list. start_in x.event ++ list) (start-last earlier s) ∙ sym (append_assoc (start_in x.event) (start_of earlier) (start_in s.event))

module _ (c : Chronicle) (w : World) (before : List Weighted) (same : before ≡ c.start) (begun : (c.start ≡ []) ⊎ IsHosted w) where
  IsNext : Event → Type 0
  IsNext e = (before ++ start_in e ≡ (chronicle_step c w e).start) × IsHosted (world_step w e).world

  starts : (set : List Weighted) → MayStand w (Start set) → first_refusal w (Start set) ≡ None → IsNext (Start set)
  unfolding IsNext smalls_in small_step
  starts set may admitted = (
    elim begun [
      | inl none ↦ ap (λ list. list ++ set) (same ∙ none)
      | inr hosted ↦ absurd (hosted-not w (Start set) hosted may set refl)
    ],
    start_nodes w set admitted,
  )

  goes-on : (e : Event) → start_in e ≡ [] → MayStand w e → IsHosted w → IsNext e
  unfolding IsNext
  goes-on e none may hosted = (
    ap (λ list. before ++ list) none ∙ append-nil before ∙ same ∙ sym (event-stays c w e (hosted-not w e hosted may)).start,
    nodes_stay w e hosted,
  )

  next : (e : Event) → MayStand w e → first_refusal w e ≡ None → IsNext e
  next (Start set) may admitted = starts set may admitted
  next (Split set) may admitted = goes-on (Split set) refl may may.0
  next (Merge set) may admitted = goes-on (Merge set) refl may may.0
  next (Request p cmds query) may admitted = goes-on (Request p cmds query) refl may may.0
  next (Weak p query) may admitted = goes-on (Weak p query) refl may may.0
  next (Dirty p query) may admitted = goes-on (Dirty p query) refl may may.0
  next (Order p) may admitted = goes-on (Order p) refl may may.0
  next (Recover p) may admitted = goes-on (Recover p) refl may may.0
  next (RecoverStopped p call fill) may admitted = goes-on (RecoverStopped p call fill) refl may may.0
  next (Downgrade p) may admitted = goes-on (Downgrade p) refl may may.0
  next (Show p) may admitted = goes-on (Show p) refl may may.0
  next ShowOrder may admitted = goes-on ShowOrder refl may may.0
  next Gather may admitted = goes-on Gather refl may may.0
  next End may admitted = absurd may
  next (Receive p place) may admitted = goes-on (Receive p place) refl may may.0
  next (Deliver p count) may admitted = goes-on (Deliver p count) refl may may.0
  next (Rounds count) may admitted = absurd may
  next (Stop p call fill) may admitted = goes-on (Stop p call fill) refl may may.0
  next (Fail p call) may admitted = goes-on (Fail p call) refl may may.0
  next (Join p joiner weight) may admitted = goes-on (Join p joiner weight) refl may may.0
  next (Leave p server) may admitted = goes-on (Leave p server) refl may may.0
  next (Transfer p joiner pieces) may admitted = goes-on (Transfer p joiner pieces) refl may may.0

pub start-on : (earlier : List Step) (c : Chronicle) (w : World) (s : Step) → IsStepOf c w s → IsStartTold earlier c w → IsStartTold (through earlier s) (chronicle_step c w s.event) s.world
unfolding IsNext
start-on earlier c w s step told =
    let is = next c w (start_of earlier) told.start told.begun s.event step.may step.admitted in
    record { start = start-last earlier s ∙ is.0; begun = inr (subst IsHosted (sym (ap (λ (m : Moved). m.world) step.moved)) is.1) }
