-- What a replica makes of deliveries in bytes is what it makes of those that are read in them.
use Rattle.std.specs.Prelude.{◌≡◌, ℕ, List, [], ◌∷◌, ◌++◌, Option, Some, None, map, fold}
use Rattle.std.proofs.Common.{refl, sym, ap, ◌∙◌}
use Rattle.std.proofs.lemmas.List.Sums.{fold-append}
use Rattle.cg_group.specs.declared.delivery.Delivery.{Delivery}
use Rattle.cg_group.specs.declared.delivery.Delivery.TheVariants.{Message, Transitional as TransitionalIn, Regular as RegularIn}
use Rattle.cg_wire.specs.declared.message.Msg.{Msg}
use Rattle.cg_wire.specs.Bytes.{spelled_msg}
use Rattle.cg_wire.specs.Limits.{IsMsg}
use Rattle.cg_wire.specs.Reading.{message_in}
use Rattle.cg_encoded.specs.Encoded.{opened, IsSaid, AreSaid}
use Rattle.cg_client.specs.Replica.{Replica}
use Rattle.cg_client.specs.Requests.{settle}
use Rattle.cg_client.specs.Turn.{Turn, begin}
use Rattle.cg_states.specs.Hearing.{hear, hear_delivery}
use Rattle.cg_states.specs.ReplicaStep.{after_delivery, replica_step}
use Rattle.cg_engine.specs.declared.input.Input.{Input}
use Rattle.cg_engine.specs.declared.input.Input.TheVariants.{Deliver, Request}
use Rattle.cg_engine.specs.Inputs.{with_message, read, read_all, input_of, taken}

message-read : (t : Turn) (place from : ℕ) (m : Option Msg) → hear t from m ≡ fold after_delivery t (with_message place from m)
unfolding after_delivery
message-read t place from None = refl
message-read t place from (Some m) = refl

pub delivery-read : (t : Turn) (d : Delivery (List ℕ)) → hear_delivery t d ≡ fold after_delivery t (read d)
unfolding after_delivery
delivery-read t (Message place from bytes) = message-read t place from (message_in bytes)
delivery-read t (TransitionalIn conf set) = refl
delivery-read t (RegularIn conf set) = refl

pub deliveries-read : (t : Turn) (list : List (Delivery (List ℕ))) →
    fold hear_delivery t list ≡ fold after_delivery t (read_all list)
deliveries-read t [] = refl
deliveries-read t (d ∷ list) =
    ap (λ (now : Turn). fold hear_delivery now list) (delivery-read t d)
    ∙ deliveries-read (fold after_delivery t (read d)) list
    ∙ sym (fold-append after_delivery t (read d) (read_all list))

-- what an event makes of a replica is its step by the table of states
pub taken-is : (r : Replica) (i : Input) → taken (begin r) i ≡ replica_step r (input_of i)
unfolding replica_step
taken-is r (Deliver list) = ap settle (deliveries-read (begin r) list)
taken-is r (Request asked) = refl

-- ---- messages in bytes

opened-one-read : ((m : Msg) → IsMsg m → message_in (spelled_msg m) ≡ Some m) → (d : Delivery Msg) → IsSaid d →
    read (opened d) ≡ d ∷ []
opened-one-read exact (Message place from m) is = ap (with_message place from) (exact m is)
opened-one-read exact (TransitionalIn conf set) is = refl
opened-one-read exact (RegularIn conf set) is = refl

-- messages that are handed over in bytes are read as what they say
pub opened-read : ((m : Msg) → IsMsg m → message_in (spelled_msg m) ≡ Some m) →
    (list : List (Delivery Msg)) → AreSaid list →
    read_all (map opened list) ≡ list
opened-read exact [] said = refl
opened-read exact (d ∷ list) said =
    ap (λ (front : List (Delivery Msg)). front ++ read_all (map opened list)) (opened-one-read exact d said.0)
    ∙ ap (λ (rest : List (Delivery Msg)). d ∷ rest) (opened-read exact list said.1)
