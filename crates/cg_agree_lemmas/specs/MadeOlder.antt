-- The steps of a disk that becomes one of the older format, and of a recovery that may be stopped, are made of small steps: of
-- none where the replica stays down, since the disk's content is the same, and else of a recovery.
use Rattle.std.proofs.Common.{◌≡◌, ℕ, Bool, true, false, List, [], ◌∷◌, Option, Some, None, map, refl, sym, ap, subst, ◌∙◌, inl, inr, option_map, option_and_then, if◌then◌else◌}
use Rattle.std.specs.Option.{option_map_or}
use Rattle.cg_disk_records.specs.Crash.{Strike, StopWith}
use Rattle.cg_disk_records.specs.Recovery.{recovery_outcome, is_reached}
use Rattle.cg_schedule.specs.declared.event.Event.TheVariants.{RecoverStopped, Downgrade}
use Rattle.cg_model.specs.World.{NodeState, Up, Down, Node, World, node_of, replica_of, running, set_life}
use Rattle.cg_model.specs.Admission.{first_refusal}
use Rattle.cg_model.specs.Show.{StepInProgress, ended}
use Rattle.cg_model.specs.Step.{happens, world_step, quietly, stays_down, recover, downgrade}
use Rattle.cg_model.specs.Looks.{on_disk, disk_held}
use Rattle.cg_model.specs.Small.{Small, Recovers}
use Rattle.cg_model.specs.Smalls.{smalls_in}
use Rattle.cg_model.specs.FactsLists.{IsRising}
use Rattle.cg_model.specs.Played.{IsSame}
use Rattle.cg_agree_lemmas.specs.NodeFacts.{put-found, ids-found, running-set, disk-set}
use Rattle.cg_agree_lemmas.specs.DiskSwaps.{IsSwapped, Swaps, swapped, outcome-content, downgrade-swaps}
use Rattle.cg_agree_lemmas.specs.SmallWorlds.{played_in, MayIn}
use Rattle.cg_agree_lemmas.specs.MadeQuietly.{IsMadeIn, same-worlds, same-lined}
use Rattle.cg_agree_lemmas.specs.MadeAlone.{recover-made}

pub swapped-same : (w v : World) (p : ℕ) → Swaps w v p → IsRising 0 (map (λ s. s.id) w.nodes) → IsSame w v
swapped-same w v p is rising = elim is [
  | inl same ↦ subst (IsSame w) (sym same) (same-worlds w w refl refl refl)
  | inr other ↦ subst (IsSame w) (sym other.world) (exchanged other)
] where
  exchanged : (is : IsSwapped w v p) → IsSame w (set_life w p (Down is.new is.green))
  exchanged is =
      let old : Node = record { id = p; life = Down is.old is.green } in
      let down : NodeState = Down is.new is.green in
      record {
        group = refl;
        nodes = sym (ids-found w.nodes p down old is.node rising);
        running = λ q. sym (running-set w p down q
            ∙ put-found (replica_of w) p None (ap (λ (o : Option Node). option_and_then (λ s. running s.life) o) is.node) q);
        disk = λ q. sym (disk-set w p down q
            ∙ put-found (disk_held w) p (Some is.new.content) (ap (λ (o : Option Node). option_map (λ s. on_disk s.life) o) is.node ∙ ap Some (sym is.content)) q);
        given = λ joiner. refl;
      }

pub downgrade-made : (w : World) (p : ℕ) → IsRising 0 (map (λ s. s.id) w.nodes) → IsMadeIn w (Downgrade p)
unfolding smalls_in world_step happens ended
downgrade-made w p rising = (tt, same-lined w (downgrade w p) (swapped-same w (downgrade w p) p (downgrade-swaps w p) rising) ((world_step w (Downgrade p)).world.lines))

-- these small steps make this step
abbrev MadeBy : World → List Small → StepInProgress → Type 0
MadeBy w smalls g = MayIn w smalls × IsSame (played_in w smalls) (ended g).world

-- a recovery in which a stop is armed, where the replica is left so, or recovers
abbrev MadeUnder : World → ℕ → Option NodeState → Type 0
MadeUnder w p left = MadeBy w (option_map_or (λ life. []) left (Recovers p ∷ [])) (option_map_or (λ life. quietly (set_life w p life)) left (recover w p))

pub stopped-made : (w : World) (p call : ℕ) (fill : List ℕ) → IsRising 0 (map (λ s. s.id) w.nodes) → first_refusal w (RecoverStopped p call fill) ≡ None → IsMadeIn w (RecoverStopped p call fill)
unfolding first_refusal smalls_in world_step happens ended
stopped-made w p call fill rising admitted = at (node_of w p) refl where
  strike : Strike
  strike = record { call = call; fault = StopWith fill }

  life : (s : Node) → node_of w p ≡ Some s → (l : NodeState) → s.life ≡ l → MadeUnder w p (stays_down strike l)
  life s e (Up r disk) is = recover-made w p admitted
  life s e (Down disk green) is = struck (is_reached disk strike) where
    left : NodeState
    left = Down (recovery_outcome disk strike) green

    stays : Swaps w (set_life w p left) p
    stays = swapped w p s e disk (recovery_outcome disk strike) green is (outcome-content disk strike)

    struck : (b : Bool) → MadeUnder w p (if b then Some left else None)
    struck true = (tt, same-lined w (set_life w p left) (swapped-same w (set_life w p left) p stays rising) ((ended (quietly (set_life w p left))).world.lines))
    struck false = recover-made w p admitted

  at : (o : Option Node) → node_of w p ≡ o → MadeBy w (option_map_or (λ s. option_map_or (λ life. []) (stays_down strike s.life) (Recovers p ∷ [])) o (Recovers p ∷ []))
      (option_map_or (λ s. option_map_or (λ life. quietly (set_life w p life)) (stays_down strike s.life) (recover w p)) o (recover w p))
  at None e = recover-made w p admitted
  at (Some s) e = life s e s.life refl
