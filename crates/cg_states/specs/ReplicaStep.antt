-- One event at one replica: the table of states. What it leaves out is ignored.
use Rattle.std.specs.Prelude.{ℕ, false, List, fold}
use Rattle.cg_action.specs.declared.action.Kind.{Kind}
use Rattle.cg_wire.specs.declared.message.Msg.{Msg}
use Rattle.cg_wire.specs.declared.message.Msg.TheVariants.{Action as ActionMsg, State as StateMsg, GreenItem, RedItem, Cpc}
use Rattle.cg_group.specs.declared.delivery.Delivery.{Delivery}
use Rattle.cg_group.specs.declared.delivery.Delivery.TheVariants.{Message, Transitional as TransitionalIn, Regular as RegularIn}
use Rattle.cg_client.specs.Replica.{State, RegPrim, TransPrim, ExchangeStates, ExchangeActions, Construct, No, Un, NonPrim, Replica}
use Rattle.cg_client.specs.Turn.{Turn, begin, go_to}
use Rattle.cg_client.specs.Marks.{mark_red, mark_yellow, mark_green}
use Rattle.cg_client.specs.Summary.{enter_exchange}
use Rattle.cg_client.specs.Requests.{request, settle}
use Rattle.cg_states.specs.TransPrim.{trans_prim_on_regular}
use Rattle.cg_states.specs.ExchangeStates.{exchange_states_on_summary}
use Rattle.cg_states.specs.ExchangeActions.{exchange_actions_on_item}
use Rattle.cg_states.specs.Construct.{construct_on_cpc}
use Rattle.cg_states.specs.No.{no_on_cpc, no_on_regular}
use Rattle.cg_states.specs.Un.{un_on_action}

-- a message of a member, in each state
unfoldable pub on_message : State → ℕ → Msg → Turn → Turn
on_message RegPrim from (ActionMsg a) t = mark_green t a
on_message TransPrim from (ActionMsg a) t = mark_yellow t a
on_message (ExchangeStates conf set heard) from (StateMsg s) t = exchange_states_on_summary t conf set heard from s
on_message (ExchangeActions conf summaries accepted) from (GreenItem at a) t =
    exchange_actions_on_item t conf summaries accepted from (GreenItem at a)
on_message (ExchangeActions conf summaries accepted) from (RedItem a) t =
    exchange_actions_on_item t conf summaries accepted from (RedItem a)
on_message (Construct conf heard) from (Cpc id of_conf) t = construct_on_cpc t conf heard from id of_conf
on_message (No conf heard) from (Cpc id of_conf) t = no_on_cpc t conf heard from id of_conf
on_message Un from (ActionMsg a) t = un_on_action t a
on_message (NonPrim regular) from (ActionMsg a) t = mark_red t a
on_message _ from m t = t

-- a transitional configuration, in each state
unfoldable pub on_transitional : State → Turn → Turn
on_transitional RegPrim t = go_to t TransPrim
on_transitional (ExchangeStates conf set heard) t = go_to t (NonPrim false)
on_transitional (ExchangeActions conf summaries accepted) t = go_to t (NonPrim false)
on_transitional (Construct conf heard) t = go_to t (No conf heard)
on_transitional (NonPrim regular) t = go_to t (NonPrim false)
on_transitional _ t = t

-- a regular configuration, in each state
unfoldable pub on_regular : State → ℕ → List ℕ → Turn → Turn
on_regular TransPrim conf set t = trans_prim_on_regular t conf set
on_regular (No at heard) conf set t = no_on_regular t conf set
on_regular Un conf set t = enter_exchange t conf set
on_regular (NonPrim regular) conf set t = enter_exchange t conf set
on_regular _ conf set t = t

-- one delivery
unfoldable pub after_delivery : Turn → Delivery Msg → Turn
after_delivery t (Message place from m) = on_message t.replica.state from m t
after_delivery t (TransitionalIn conf set) = on_transitional t.replica.state t
after_delivery t (RegularIn conf set) = on_regular t.replica.state conf set t

-- what an event hands to a replica: deliveries, or a request
pub data Input : Type 0 where
  Deliveries : (list : List (Delivery Msg)) → Input
  Asks : (kind : Kind) → Input

-- the replica's step: the deliveries in their order, and then the requests that it kept; or a request
unfoldable pub replica_step : Replica → Input → Turn
replica_step r (Deliveries list) = settle (fold after_delivery (begin r) list)
replica_step r (Asks kind) = request (begin r) kind
