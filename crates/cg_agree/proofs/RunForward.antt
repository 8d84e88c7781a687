-- What each step of a run keeps, beside its chronicle, holds of the run.
use Rattle.std.proofs.Common.{◌≡◌, List, [], ◌∷◌, ◌++◌, map, None, sym, ap, subst}
use Rattle.std.proofs.lemmas.List.{append-nil, append_assoc}
use Rattle.cg_model.specs.World.{World, no_world}
use Rattle.cg_model.specs.Admission.{first_refusal}
use Rattle.cg_model.specs.Show.{Moved}
use Rattle.cg_model.specs.Step.{world_step}
use Rattle.cg_model.specs.Run.{Step, MayStand, IsRunFrom, world_after}
use Rattle.cg_model.specs.Agreement.{through}
use Rattle.cg_model.specs.Chronicle.{Chronicle, no_chronicle}
use Rattle.cg_model.specs.Noting.{chronicle_step, chronicle_after}
use Rattle.cg_model.specs.Played.{StandsBeside, HoldsFrom, AlwaysHolds}
use Rattle.cg_agree.proofs.CreatorNumbered.{admitted-of}
use Rattle.cg_agree.proofs.PrimaryOne.{holds-here}

-- a step of a run beside its chronicle
pub record IsStepOf (c : Chronicle) (w : World) (s : Step) : Type 0 where
  pub may : MayStand w s.event
  pub admitted : first_refusal w s.event ≡ None
  pub moved : (record { entry = s.entry; world = s.world } ≡ world_step w s.event)
  pub before : StandsBeside c w
  pub behind : StandsBeside (chronicle_step c w s.event) s.world

-- it is kept by each step
abbrev pub IsKeptBySteps : (List Step → Chronicle → World → Type 0) → Type 0
IsKeptBySteps P = (earlier : List Step) (c : Chronicle) (w : World) (s : Step) → IsStepOf c w s → P earlier c w → P (through earlier s) (chronicle_step c w s.event) s.world

run-kept : (P : List Step → Chronicle → World → Type 0) → IsKeptBySteps P → (earlier : List Step) (c : Chronicle) (w : World) (steps : List Step) → IsRunFrom w steps →
    HoldsFrom c w (map (λ s. s.event) steps) → P earlier c w → P (earlier ++ steps) (chronicle_after c w steps) (world_after w steps)
run-kept P kept earlier c w [] run holds p = subst (λ (xs : List Step). P xs c w) (sym (append-nil earlier)) p
run-kept P kept earlier c w (s ∷ steps) run holds p =
    let d = chronicle_step c w s.event in
    let events = map (λ (x : Step). x.event) steps in
    let next : HoldsFrom d s.world events = subst (λ (v : World). HoldsFrom d v events) (sym (ap (λ (m : Moved). m.world) run.2)) holds.1 in
    let step : IsStepOf c w s = record { may = run.0; admitted = run.1; moved = run.2; before = holds.0; behind = holds-here d s.world events next } in
    subst (λ (xs : List Step). P xs (chronicle_after d s.world steps) (world_after s.world steps)) (append_assoc earlier (s ∷ []) steps)
    (run-kept P kept (through earlier s) d s.world steps run.3 next (kept earlier c w s step p))

pub of-run : AlwaysHolds → (P : List Step → Chronicle → World → Type 0) → IsKeptBySteps P → P [] no_chronicle no_world → (steps : List Step) → IsRunFrom no_world steps →
    P steps (chronicle_after no_chronicle no_world steps) (world_after no_world steps)
of-run always P kept first steps run =
    run-kept P kept [] no_chronicle no_world steps run (always (map (λ s. s.event) steps) (admitted-of no_world steps run)) first
