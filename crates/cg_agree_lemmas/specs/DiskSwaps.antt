-- A replica that is down has another disk with the same content: so it is behind a downgrade, and behind a recovery that is stopped.
use Rattle.std.proofs.Common.{◌≡◌, ◌⊎◌, ℕ, Bool, true, false, List, Option, Some, None, refl, ◌∙◌, inl, inr, if◌then◌else◌}
use Rattle.std.specs.Option.{option_map_or}
use Rattle.cg_base.specs.declared.action_id.ActionId.{ActionId}
use Rattle.cg_disk_records.specs.Crash.{Disk, Strike}
use Rattle.cg_disk_records.specs.Recovery.{recovery_outcome, is_reached}
use Rattle.cg_model.specs.World.{NodeState, Up, Down, Node, World, node_of, set_life}
use Rattle.cg_model.specs.Show.{StepInProgress}
use Rattle.cg_model.specs.Step.{quietly, recover, stays_down, recover_under, downgrade}
use Rattle.cg_model.specs.AtNode.{downgrade_at}
use Rattle.cg_agree_lemmas.specs.NodeFacts.{node-id}

pub record IsSwapped (w v : World) (p : ℕ) : Type 0 where
  pub old : Disk
  pub new : Disk
  pub green : List ActionId
  pub node : node_of w p ≡ Some (record { id = p; life = Down old green })
  pub content : new.content ≡ old.content
  pub world : v ≡ set_life w p (Down new green)

-- it has, or nothing changes
abbrev pub Swaps : World → World → ℕ → Type 0
Swaps w v p = (v ≡ w) ⊎ IsSwapped w v p

pub swapped : (w : World) (p : ℕ) (s : Node) → node_of w p ≡ Some s → (old new : Disk) (green : List ActionId) → s.life ≡ Down old green → new.content ≡ old.content → Swaps w (set_life w p (Down new green)) p
swapped w p s e old new green is content =
    inr (record { old = old; new = new; green = green; node = e ∙ (λ i. Some (record { id = node-id w p s e i; life = is i })); content = content; world = refl })

pub outcome-content : (disk : Disk) (strike : Strike) → (recovery_outcome disk strike).content ≡ disk.content
unfolding recovery_outcome
outcome-content disk strike = refl

pub downgrade-swaps : (w : World) (p : ℕ) → Swaps w (downgrade w p) p
downgrade-swaps w p = at (node_of w p) refl where
  life : (s : Node) → node_of w p ≡ Some s → (l : NodeState) → s.life ≡ l → Swaps w (downgrade_at w p l) p
  life s e (Up r disk) is = inl refl
  life s e (Down disk green) is = swapped w p s e disk _ green is refl

  at : (o : Option Node) → node_of w p ≡ o → Swaps w (option_map_or (λ s. downgrade_at w p s.life) o w) p
  at None e = inl refl
  at (Some s) e = life s e s.life refl

-- a recovery in which a stop is armed leaves the replica down so, or it is a recovery
pub recover_under-cases : (w : World) (p : ℕ) (strike : Strike) (P : StepInProgress → Type 0) → ((v : World) → Swaps w v p → P (quietly v)) → P (recover w p) → P (recover_under w p strike)
recover_under-cases w p strike P stays rises = at (node_of w p) refl where
  life : (s : Node) → node_of w p ≡ Some s → (l : NodeState) → s.life ≡ l → P (option_map_or (λ life. quietly (set_life w p life)) (stays_down strike l) (recover w p))
  life s e (Up r disk) is = rises
  life s e (Down disk green) is = struck (is_reached disk strike) where
    left : NodeState
    left = Down (recovery_outcome disk strike) green

    struck : (b : Bool) → P (option_map_or (λ life. quietly (set_life w p life)) (if b then Some left else None) (recover w p))
    struck true = stays (set_life w p left) (swapped w p s e disk (recovery_outcome disk strike) green is (outcome-content disk strike))
    struck false = rises

  at : (o : Option Node) → node_of w p ≡ o → P (option_map_or (λ s. option_map_or (λ life. quietly (set_life w p life)) (stays_down strike s.life) (recover w p)) o (recover w p))
  at None e = rises
  at (Some s) e = life s e s.life refl
