-- Behind each run, a replica that takes part is up, and has the order's greens as the lines told.
use Rattle.std.proofs.Common.{◌≡◌, ℕ, true, List, [], ◌∷◌, Some, None, refl, sym, ap, ◌∙◌, subst, inl, inr, is_some}
use Rattle.cg_client.specs.Replica.{Replica}
use Rattle.cg_model.specs.World.{World, no_world, replica_of}
use Rattle.cg_model.specs.Admission.{takes_part}
use Rattle.cg_model.specs.Show.{Moved}
use Rattle.cg_model.specs.Step.{world_step}
use Rattle.cg_model.specs.Run.{Step, IsRunFrom, world_after}
use Rattle.cg_model.specs.Agreement.{ComesAfter, through}
use Rattle.cg_model.specs.EveryRun.{EveryRunAgrees, Agreement}
use Rattle.cg_model.specs.Chronicle.{Chronicle, no_chronicle}
use Rattle.cg_model.specs.Noting.{chronicle_step, chronicle_after}
use Rattle.cg_model.specs.Played.{StandsBeside}
use Rattle.cg_model.specs.Standing.{IsReached, AlwaysStands}
use Rattle.cg_model.specs.Telling.{EveryRunTells}
use Rattle.cg_agree_lemmas.specs.SoundWorlds.{IsSound, sound-same, sound-of}
use Rattle.cg_agree_lemmas.specs.MadeAlone.{takes-part, is-running}
use Rattle.cg_base.specs.ElementLaws.{last-of}
use Rattle.cg_items_agree.proofs.OrderActions.{all-made}
use Rattle.cg_items_agree.proofs.FollowersGreens.{HasGreens}
use Rattle.cg_items_agree.proofs.FollowersAgree.{AlwaysStandsSo}
use Rattle.cg_model.specs.RunLaws.{world-last}

module _ (agrees : EveryRunAgrees) (facts : AlwaysStands) (tells : EveryRunTells) where
  agreement : (steps : List Step) → IsRunFrom no_world steps → Agreement steps None
  agreement steps run = agrees steps None run tt

  -- ---- who takes part is up

  reached : (c : Chronicle) (w : World) (steps : List Step) → IsReached c w → IsRunFrom w steps →
      IsReached (chronicle_after c w steps) (world_after w steps)
  reached c w [] is run = is
  reached c w (s ∷ steps) is run =
      let moved : s.world ≡ (world_step w s.event).world = ap (λ (m : Moved). m.world) run.2 in
      reached (chronicle_step c w s.event) s.world steps
      (subst (IsReached (chronicle_step c w s.event)) (sym moved) (facts.step c w s.event is run.0 run.1)) run.3

  takes-up : (steps : List Step) → IsRunFrom no_world steps → (p : ℕ) →
      takes_part (world_after no_world steps) p ≡ None → is_some (replica_of (world_after no_world steps) p) ≡ true
  takes-up steps run p takes =
      let c : Chronicle = chronicle_after no_chronicle no_world steps in
      let w : World = world_after no_world steps in
      let stands : StandsBeside c w = facts.beside c w (reached no_chronicle no_world steps facts.first run) in
      let sound : IsSound w = sound-same w c.world stands.same (sound-of c stands.facts) in
      sound.up p ∙ (takes-part w p takes).up

  -- ---- what it has green

  greens-behind : (front : List Step) (s : Step) → IsRunFrom no_world (through front s) → (p : ℕ) (r : Replica) →
      replica_of s.world p ≡ Some r → HasGreens (through front s) p r
  greens-behind front s run p r up =
      let steps : List Step = through front s in
      let agree = agreement steps run in
      let after : ComesAfter steps front s = ([], refl) in
      let held = agree.prefix.held front s p r after up in
      let there : replica_of (world_after no_world steps) p ≡ Some r = ap (λ (v : World). replica_of v p)
      (world-last no_world front s) ∙ up in
      record {
        position = held.1;
        white = (tells steps run).white p r there;
        within = held.0.0;
        db = agree.fold_answers.held front s p r after up;
        kept = agree.fold_answers.kept front s p r after up;
      }

  has-greens : (steps : List Step) → IsRunFrom no_world steps → (p : ℕ) (r : Replica) →
      replica_of (world_after no_world steps) p ≡ Some r → HasGreens steps p r
  has-greens steps run p r up = elim (last-of steps) [
    | inl none ↦ absurd (let clash : None ≡ Some r =
        sym (ap (λ (xs : List Step). replica_of (world_after no_world xs) p) none) ∙ up in cc)
    | inr some ↦
        let world : world_after no_world steps ≡ some.last.world = ap (world_after no_world) some.is
        ∙ world-last no_world some.front some.last in
        subst (λ (xs : List Step). HasGreens xs p r) (sym some.is)
        (greens-behind some.front some.last (subst (IsRunFrom no_world) some.is run) p r
        (sym (ap (λ (v : World). replica_of v p) world) ∙ up))
  ]

  pub always-stands : AlwaysStandsSo
  always-stands steps run = record {
    made = all-made steps (agreement steps run).creator_order;
    there = λ p takes.
        let is = is-running (world_after no_world steps) p (takes-up steps run p takes) in
        record { replica = is.replica; is = is.is; greens = has-greens steps run p is.replica is.is };
  }
