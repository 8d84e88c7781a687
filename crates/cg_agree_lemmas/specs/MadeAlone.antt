-- The steps of a crash between two events, of a recovery, and of a transfer are made of small steps.
use Rattle.std.proofs.Common.{◌≡◌, ℕ, true, false, not, List, [], ◌∷◌, Option, Some, None, refl, sym, ap, ◌∙◌, is_some, is_none}
use Rattle.std.specs.Option.{option_map_or}
use Rattle.std.proofs.lemmas.Bool.{and_from}
use Rattle.cg_group.specs.declared.reason.Reason.TheVariants.{NotUp}
use Rattle.cg_group.specs.State.{is_up}
use Rattle.cg_group.specs.Refusals.{not_up}
use Rattle.cg_client.specs.Replica.{Replica}
use Rattle.cg_schedule.specs.declared.event.Event.TheVariants.{Recover, Stop}
use Rattle.cg_model.specs.World.{NodeState, Up, Down, Node, World, has_begun, node_of, replica_of}
use Rattle.cg_model.specs.Admission.{first_refusal, unknown, has_left, takes_part}
use Rattle.cg_model.specs.AdmissionCalls.{already_up}
use Rattle.cg_model.specs.Show.{ended}
use Rattle.cg_model.specs.Step.{happens, world_step, quietly}
use Rattle.cg_model.specs.AtNode.{crash_at, recover_from}
use Rattle.cg_model.specs.Smalls.{may_make, smalls_in}
use Rattle.cg_model.specs.Played.{IsSame}
use Rattle.cg_agree_lemmas.specs.UnorderedKept.{first-none, refused-not}
use Rattle.cg_agree_lemmas.specs.MadeQuietly.{IsMadeIn, same-worlds}
use Rattle.cg_agree_lemmas.specs.SmallWorlds.{small_in, may_in, crash_in, recover_in}
use Rattle.cg_group.specs.RefusalLaws.{refuse_none}

-- who takes part is up, and has not left
pub record TakesPart (w : World) (p : ℕ) : Type 0 where
  pub up : is_up w.group p ≡ true
  pub rest : has_left w p ≡ None

pub takes-part : (w : World) (p : ℕ) → takes_part w p ≡ None → TakesPart w p
takes-part w p e =
    let first = first-none (unknown w p) (not_up w.group p ∷ has_left w p ∷ []) (ap is_none e) in
    let second = first-none (not_up w.group p) (has_left w p ∷ []) first.1 in
    record { up = refused-not (is_up w.group p) (NotUp p) second.0; rest = (first-none (has_left w p) [] second.1).0 }

-- a replica that is up
pub record IsRunning (w : World) (p : ℕ) : Type 0 where
  pub replica : Replica
  pub is : replica_of w p ≡ Some replica

pub is-running : (w : World) (p : ℕ) → is_some (replica_of w p) ≡ true → IsRunning w p
is-running w p up = at (replica_of w p) refl where
  at : (o : Option Replica) → replica_of w p ≡ o → IsRunning w p
  at None e = absurd (let clash : false ≡ true = sym (ap is_some e) ∙ up in cc)
  at (Some r) e = record { replica = r; is = e }

-- ---- a crash now

pub stop-made : (w : World) (p : ℕ) (fill : List ℕ) → is_some (replica_of w p) ≡ true → IsMadeIn w (Stop p 0 fill)
unfolding may_make may_in smalls_in small_in world_step happens ended
stop-made w p fill up = ((up, tt), at (node_of w p)) where
  life-same : (life : NodeState) → IsSame (crash_in w p life) (ended (quietly (crash_at w p life))).world
  life-same (Up r disk) = same-worlds _ _ refl refl refl
  life-same (Down disk green) = same-worlds _ _ refl refl refl

  at : (o : Option Node) → IsSame (option_map_or (λ s. crash_in w p s.life) o w) (ended (quietly (option_map_or (λ s. crash_at w p s.life) o w))).world
  at None = same-worlds _ _ refl refl refl
  at (Some s) = life-same s.life

-- ---- a recovery

pub recover-made : (w : World) (p : ℕ) → first_refusal w (Recover p) ≡ None → IsMadeIn w (Recover p)
unfolding first_refusal may_make may_in smalls_in small_in world_step happens ended
recover-made w p admitted =
    let first = first-none (unknown w p) (already_up w p ∷ []) (ap is_none admitted) in
    let second = first-none (already_up w p) [] first.1 in
    let begun : has_begun w p ≡ true = refused-not (has_begun w p) _ first.0 in
    let down : is_some (replica_of w p) ≡ false = refuse_none (is_some (replica_of w p)) _ second.0 in
    ((and_from (has_begun w p) (not (is_some (replica_of w p))) begun (ap not down), tt), at (node_of w p)) where
      life-same : (life : NodeState) → IsSame (recover_in w life) (ended (recover_from w life)).world
      life-same (Up r disk) = same-worlds _ _ refl refl refl
      life-same (Down disk green) = same-worlds _ _ refl refl refl

      at : (o : Option Node) → IsSame (option_map_or (λ s. recover_in w s.life) o w) (ended (option_map_or (λ s. recover_from w s.life) o (quietly w))).world
      at None = same-worlds _ _ refl refl refl
      at (Some s) = life-same s.life
