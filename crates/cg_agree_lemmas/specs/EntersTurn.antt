-- The turn of a replica that comes into a configuration: it waits for the summaries of all, and has told its own.
use Rattle.std.proofs.Common.{◌≡◌, ℕ, true, false, List, [], ◌∷◌, ◌++◌, fold, refl, ap, ◌∙◌}
use Rattle.cg_action.specs.declared.action.Action.{Action}
use Rattle.cg_queue.specs.Queue.{Marking, Marks, Gaps, marked_red}
use Rattle.cg_queue.specs.declared.mark.Mark.TheVariants.{Placed, Known}
use Rattle.cg_wire.specs.declared.message.Msg.{Msg}
use Rattle.cg_wire.specs.declared.message.Msg.TheVariants.{State as StateMsg}
use Rattle.cg_client.specs.Replica.{State, RegPrim, TransPrim, ExchangeStates, ExchangeActions, Construct, No, Un, NonPrim, Left, Replica}
use Rattle.cg_client.specs.Turn.{Turn, begin, with_held}
use Rattle.cg_client.specs.Marks.{marked}
use Rattle.cg_client.specs.Summary.{summary_of, redden, forget_own, own_to_red, enter_exchange}
use Rattle.cg_states.specs.TransPrim.{end_prim}
use Rattle.cg_states.specs.No.{no_record}
use Rattle.cg_states.specs.ReplicaStep.{on_regular, after_delivery}
use Rattle.cg_group.specs.State.{GroupState, configuration}
use Rattle.cg_model.specs.Small.{newest_conf, take_newest}
use Rattle.cg_model.specs.Smalls.{is_between}

-- nothing is said, in the same state and by the same replica
record Says (t u : Turn) : Type 0 where
  pub sent : u.sent ≡ t.sent
  pub state : u.replica.state ≡ t.replica.state
  pub id : u.replica.held.id ≡ t.replica.held.id

says-marked : (t : Turn) (a : Action) (m : Marking) → Says t (marked t a m)
says-marked t a (Marks Placed q) = record { sent = refl; state = refl; id = refl }
says-marked t a (Marks Known q) = record { sent = refl; state = refl; id = refl }
says-marked t a (Gaps cut) = record { sent = refl; state = refl; id = refl }

says-reds : (list : List Action) (t : Turn) → Says t (fold redden t list)
says-reds [] t = record { sent = refl; state = refl; id = refl }
says-reds (a ∷ list) t =
    let one = says-marked t a (marked_red t.replica.held.queue a) in
    let rest = says-reds list (redden t a) in
    record { sent = rest.sent ∙ one.sent; state = rest.state ∙ one.state; id = rest.id ∙ one.id }

says-own : (t : Turn) → Says t (own_to_red t)
unfolding own_to_red
says-own t =
    let rest = says-reds t.replica.held.own (forget_own t) in
    record { sent = rest.sent; state = rest.state; id = rest.id }

-- own actions that become red change no state
pub own-state : (t : Turn) → (own_to_red t).replica.state ≡ t.replica.state
own-state t = (says-own t).state

-- it has told its summary, and waits
pub record TellsItsSummary (conf : ℕ) (set : List ℕ) (r : Replica) (u : Turn) : Type 0 where
  pub state : u.replica.state ≡ ExchangeStates conf set []
  pub sent : u.sent ≡ StateMsg (summary_of u.replica.held conf) ∷ []
  pub id : u.replica.held.id ≡ r.held.id

told-entering : (conf : ℕ) (set : List ℕ) (r : Replica) (t : Turn) → t.sent ≡ [] → t.replica.held.id ≡ r.held.id → TellsItsSummary conf set r (enter_exchange t conf set)
unfolding enter_exchange
told-entering conf set r t none id =
    let own = says-own t in
    record {
      state = refl;
      sent = ap (λ xs. xs ++ StateMsg (summary_of (own_to_red t).replica.held conf) ∷ []) (own.sent ∙ none);
      id = own.id ∙ id;
    }

pub told-regular : (state : State) (conf : ℕ) (set : List ℕ) (r : Replica) → is_between state ≡ true → TellsItsSummary conf set r (on_regular state conf set (begin r))
unfolding on_regular
told-regular TransPrim conf set r between = told-entering conf set r (with_held (begin r) (end_prim r.held)) refl refl
told-regular (No at heard) conf set r between = told-entering conf set r (with_held (begin r) (no_record r.held)) refl refl
told-regular Un conf set r between = told-entering conf set r (begin r) refl refl
told-regular (NonPrim regular) conf set r between = told-entering conf set r (begin r) refl refl
told-regular RegPrim conf set r between = absurd (let clash : false ≡ true = between in cc)
told-regular (ExchangeStates at members heard) conf set r between = absurd (let clash : false ≡ true = between in cc)
told-regular (ExchangeActions at heard n) conf set r between = absurd (let clash : false ≡ true = between in cc)
told-regular (Construct at heard) conf set r between = absurd (let clash : false ≡ true = between in cc)
told-regular Left conf set r between = absurd (let clash : false ≡ true = between in cc)

-- what the newest configuration makes of a replica between two
pub told-newest : (g : GroupState Msg) (r : Replica) → is_between r.state ≡ true → TellsItsSummary (newest_conf g) (configuration g (newest_conf g)).members r (take_newest g (begin r))
unfolding after_delivery
told-newest g r between = told-regular r.state (newest_conf g) (configuration g (newest_conf g)).members r between
