-- Who leaves behind an exchange that was cut short, or has left, passes over what comes.
use Rattle.std.proofs.Common.{◌≡◌, ℕ, Bool, true, false, List, [], ◌∷◌, ◌++◌, Option, Some, None, sym, subst}
use Rattle.std.specs.Option.{option_map_or}
use Rattle.cg_base.specs.Lists.{at_place}
use Rattle.cg_wire.specs.declared.message.Msg.{Msg}
use Rattle.cg_group.specs.declared.delivery.Delivery.{Delivery}
use Rattle.cg_group.specs.declared.delivery.Delivery.TheVariants.{Message}
use Rattle.cg_group.specs.Events.{delivery_at, deliveries_at}
use Rattle.cg_group.specs.State.{Sent, Configuration}
use Rattle.cg_client.specs.Replica.{NonPrim, Left, Replica}
use Rattle.cg_client.specs.Turn.{Turn}
use Rattle.cg_states.specs.ReplicaStep.{on_message, after_delivery as take_one}
use Rattle.cg_model.specs.Small.{take_all}
use Rattle.cg_model.specs.Total.{IsUsedLeaving, AreTakenLeaving}
use Rattle.cg_agree_lemmas.specs.PartingNo.{alone-kept, left-kept}

pub taken-append : (ended : Bool) (xs ys : List (Delivery Msg)) (t : Turn) → AreTakenLeaving ended t xs → AreTakenLeaving ended (take_all xs t) ys → AreTakenLeaving ended t (xs ++ ys)
taken-append ended [] ys t a b = b
taken-append ended (x ∷ xs) ys t a b = (a.0, taken-append ended xs ys (take_one t x) a.1 b)

-- ---- who passes over what comes

-- where every message may come, and the state is kept
module _ (ended : Bool) (P : Replica → Type 0) (C : Configuration Msg) (each : (from : ℕ) (m : Msg) (t : Turn) → P t.replica → IsUsedLeaving ended t.replica.state t from m × P (on_message t.replica.state from m t).replica) where
  idle-place : (place : ℕ) (t : Turn) → P t.replica → AreTakenLeaving ended t (delivery_at C place) × P (take_all (delivery_at C place) t).replica
  unfolding delivery_at take_one
  idle-place place t is = at (at_place C.ordered place) where
    at : (o : Option (Sent Msg)) → (let list = option_map_or (λ (s : Sent Msg). Message place s.from s.message ∷ []) o [] in AreTakenLeaving ended t list × P (take_all list t).replica)
    at None = (tt, is)
    at (Some s) = (let one = each s.from s.message t is in ((one.0, tt), one.1))

  idle-places : (places : List ℕ) (t : Turn) → P t.replica → AreTakenLeaving ended t (deliveries_at C places)
  idle-places [] t is = tt
  idle-places (place ∷ places) t is =
      let one = idle-place place t is in
      taken-append ended (delivery_at C place) (deliveries_at C places) t one.0 (idle-places places (take_all (delivery_at C place) t) one.1)

pub alone-taken : (C : Configuration Msg) (places : List ℕ) (t : Turn) → t.replica.state ≡ NonPrim false → AreTakenLeaving false t (deliveries_at C places)
alone-taken = λ C. idle-places false (λ r. r.state ≡ NonPrim false) C (λ from m t e.
    subst (λ x. IsUsedLeaving false x t from m × ((on_message x from m t).replica.state ≡ NonPrim false)) (sym e) (tt, alone-kept from m t e))

pub left-taken : (C : Configuration Msg) (places : List ℕ) (t : Turn) → t.replica.state ≡ Left → AreTakenLeaving true t (deliveries_at C places)
left-taken = λ C. idle-places true (λ r. r.state ≡ Left) C (λ from m t e.
    subst (λ x. IsUsedLeaving true x t from m × ((on_message x from m t).replica.state ≡ Left)) (sym e) (tt, left-kept from m t e))
