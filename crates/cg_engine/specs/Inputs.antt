-- What comes to a replica in one event, and what of it is read.
use Rattle.std.specs.Prelude.{ℕ, List, [], ◌∷◌, Option, Some, None, fold, flat_map}
use Rattle.cg_action.specs.Limits.{IsKind}
use Rattle.cg_wire.specs.declared.message.Msg.{Msg}
use Rattle.cg_wire.specs.Reading.{message_in}
use Rattle.cg_group.specs.declared.delivery.Delivery.{Delivery}
use Rattle.cg_group.specs.declared.delivery.Delivery.TheVariants.{Message, Transitional as TransitionalIn, Regular as RegularIn}
use Rattle.cg_client.specs.Requests.{request, settle}
use Rattle.cg_client.specs.Calls.{kind_of}
use Rattle.cg_client.specs.Turn.{Turn}
use Rattle.cg_states.specs.Hearing.{hear_delivery}
use Rattle.cg_states.specs.ReplicaStep.{Input, Deliveries, Asks}
use Rattle.cg_engine.specs.declared.input.Input.{Input as Given}
use Rattle.cg_engine.specs.declared.input.Input.TheVariants.{Deliver, Request}

-- the delivery of a message, where bytes spell one
abbrev pub with_message : ℕ → ℕ → Option Msg → List (Delivery Msg)
with_message place from None = []
with_message place from (Some m) = Message place from m ∷ []

-- what is read of a delivery: nothing, where its bytes spell no message
abbrev pub read : Delivery (List ℕ) → List (Delivery Msg)
read (Message place from bytes) = with_message place from (message_in bytes)
read (TransitionalIn conf set) = TransitionalIn conf set ∷ []
read (RegularIn conf set) = RegularIn conf set ∷ []

abbrev pub read_all : List (Delivery (List ℕ)) → List (Delivery Msg)
read_all list = flat_map read list

-- what comes to the replica of the definitions
abbrev pub input_of : Given → Input
input_of (Deliver list) = Deliveries (read_all list)
input_of (Request r) = Asks (kind_of r)

-- what is asked for is within the limits of an action
abbrev pub HasLimits : Given → Type 0
HasLimits (Deliver list) = Unit {0}
HasLimits (Request r) = IsKind (kind_of r)

-- an event under way, and what comes to the replica: deliveries of bytes in their order, and then the requests that are
-- kept; or a request
abbrev pub taken : Turn → Given → Turn
taken t (Deliver list) = settle (fold hear_delivery t list)
taken t (Request r) = request t (kind_of r)
