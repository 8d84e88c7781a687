-- A replica that has left ignores each delivery.
use Rattle.std.specs.Prelude.{◌≡◌, ℕ, List, Option, Some, None}
use Rattle.std.proofs.Common.{refl}
use Rattle.cg_wire.specs.declared.message.Msg.{Msg}
use Rattle.cg_wire.specs.declared.message.Msg.TheVariants.{Action, State as StateMsg, GreenItem, RedItem, Cpc}
use Rattle.cg_wire.specs.Reading.{message_in}
use Rattle.cg_group.specs.declared.delivery.Delivery.{Delivery}
use Rattle.cg_group.specs.declared.delivery.Delivery.TheVariants.{Message, Transitional as TransitionalIn, Regular as RegularIn}
use Rattle.cg_client.specs.declared.parts.DraftParts.{DraftParts}
use Rattle.cg_client.specs.Drafts.{turn_with}
use Rattle.cg_client.specs.Replica.{Held, Left}
use Rattle.cg_states.specs.ReplicaStep.{on_message, on_transitional, on_regular}
use Rattle.cg_states.specs.Hearing.{hear, hear_delivery}

left_message : (h : Held) (d : DraftParts) (from : ℕ) (m : Msg) →
    on_message Left from m (turn_with h Left d) ≡ turn_with h Left d
unfolding on_message
left_message h d from (Action a) = refl
left_message h d from (StateMsg s) = refl
left_message h d from (GreenItem at a) = refl
left_message h d from (RedItem a) = refl
left_message h d from (Cpc id of_conf) = refl

left_read : (h : Held) (d : DraftParts) (from : ℕ) (o : Option Msg) →
    hear (turn_with h Left d) from o ≡ turn_with h Left d
left_read h d from None = refl
left_read h d from (Some m) = left_message h d from m

pub left_hears : (h : Held) (d : DraftParts) (e : Delivery (List ℕ)) →
    hear_delivery (turn_with h Left d) e ≡ turn_with h Left d
unfolding on_transitional on_regular
left_hears h d (Message place from bytes) = left_read h d from (message_in bytes)
left_hears h d (TransitionalIn at left) = refl
left_hears h d (RegularIn at joined) = refl
