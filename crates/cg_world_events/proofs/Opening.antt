-- Messages that are handed over in bytes are read as what they say.
use Rattle.std.proofs.Common.{◌≡◌, ℕ, List, Some, map, ◌∙◌, ap}
use Rattle.cg_group.specs.declared.delivery.Delivery.{Delivery}
use Rattle.cg_wire.specs.declared.message.Msg.{Msg}
use Rattle.cg_wire.specs.Bytes.{spelled_msg}
use Rattle.cg_wire.specs.Limits.{IsMsg}
use Rattle.cg_wire.specs.Reading.{message_in}
use Rattle.cg_encoded.specs.Encoded.{opened, AreSaid}
use Rattle.cg_states.specs.ReplicaStep.{Deliveries}
use Rattle.cg_engine.specs.InputLaws.{opened-read}
use Rattle.cg_engine.specs.Inputs.{read_all, input_of}
use Rattle.cg_engine.specs.declared.input.Input.TheVariants.{Deliver}

pub opened_is : ((m : Msg) → IsMsg m → message_in (spelled_msg m) ≡ Some m) → (list : List (Delivery Msg)) (all : List (Delivery (List ℕ))) → all ≡ map opened list → AreSaid list → input_of (Deliver all) ≡ Deliveries list
opened_is exact list all are said = ap (λ (x : List (Delivery (List ℕ))). Deliveries (read_all x)) are ∙ ap (λ (x : List (Delivery Msg)). Deliveries x) (opened-read exact list said)
