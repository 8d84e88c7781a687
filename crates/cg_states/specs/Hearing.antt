-- Deliveries of bytes, in each state.
use Rattle.std.specs.Prelude.{ℕ, List, Option, Some, None}
use Rattle.cg_wire.specs.declared.message.Msg.{Msg}
use Rattle.cg_wire.specs.Reading.{message_in}
use Rattle.cg_group.specs.declared.delivery.Delivery.{Delivery}
use Rattle.cg_group.specs.declared.delivery.Delivery.TheVariants.{Message, Transitional as TransitionalIn, Regular as RegularIn}
use Rattle.cg_client.specs.Turn.{Turn}
use Rattle.cg_states.specs.ReplicaStep.{on_message, on_transitional, on_regular}

-- a message, where there is one
abbrev pub hear : Turn → ℕ → Option Msg → Turn
hear t from None = t
hear t from (Some m) = on_message t.replica.state from m t

-- one delivery of bytes
abbrev pub hear_delivery : Turn → Delivery (List ℕ) → Turn
hear_delivery t (Message place from bytes) = hear t from (message_in bytes)
hear_delivery t (TransitionalIn conf set) = on_transitional t.replica.state t
hear_delivery t (RegularIn conf set) = on_regular t.replica.state conf set t
