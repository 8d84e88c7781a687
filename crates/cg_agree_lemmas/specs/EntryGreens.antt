-- A replica that comes into a configuration has no more green than before.
use Rattle.std.proofs.Common.{◌≡◌, ℕ, true, false, List, [], ◌∷◌, drop, length, refl, ap, ◌∙◌}
use Rattle.cg_group.specs.State.{GroupState, configuration}
use Rattle.cg_wire.specs.declared.message.Msg.{Msg}
use Rattle.cg_client.specs.Replica.{State, RegPrim, TransPrim, ExchangeStates, ExchangeActions, Construct, No, Un, NonPrim, Left, Replica}
use Rattle.cg_client.specs.Turn.{Turn, begin, with_held}
use Rattle.cg_client.specs.Summary.{enter_exchange}
use Rattle.cg_states.specs.TransPrim.{end_prim}
use Rattle.cg_states.specs.No.{no_record}
use Rattle.cg_states.specs.ReplicaStep.{on_regular, after_delivery}
use Rattle.cg_model.specs.Small.{newly_green, take_newest, newest_conf}
use Rattle.cg_model.specs.Smalls.{is_between}
use Rattle.cg_agree_lemmas.specs.HeldCommit.{own-greens}

exchange-greens : (t : Turn) (conf : ℕ) (set : List ℕ) → (enter_exchange t conf set).replica.held.queue.greens ≡ t.replica.held.queue.greens
unfolding enter_exchange
exchange-greens t conf set = (own-greens t).greens

regular-greens : (state : State) (r : Replica) (conf : ℕ) (set : List ℕ) → is_between state ≡ true → (on_regular state conf set (begin r)).replica.held.queue.greens ≡ r.held.queue.greens
unfolding on_regular
regular-greens TransPrim r conf set between = exchange-greens (with_held (begin r) (end_prim r.held)) conf set
regular-greens (No at heard) r conf set between = exchange-greens (with_held (begin r) (no_record r.held)) conf set
regular-greens Un r conf set between = exchange-greens (begin r) conf set
regular-greens (NonPrim regular) r conf set between = exchange-greens (begin r) conf set
regular-greens RegPrim r conf set between = absurd (let clash : false ≡ true = between in cc)
regular-greens (ExchangeStates at all heard) r conf set between = absurd (let clash : false ≡ true = between in cc)
regular-greens (ExchangeActions at heard accepted) r conf set between = absurd (let clash : false ≡ true = between in cc)
regular-greens (Construct at heard) r conf set between = absurd (let clash : false ≡ true = between in cc)
regular-greens Left r conf set between = absurd (let clash : false ≡ true = between in cc)

pub entry-greens : (g : GroupState Msg) (r : Replica) → is_between r.state ≡ true → (take_newest g (begin r)).replica.held.queue.greens ≡ r.held.queue.greens
unfolding after_delivery
entry-greens g r between = regular-greens r.state r (newest_conf g) (configuration g (newest_conf g)).members between

drop-whole : {X : Type 0} (xs : List X) → drop (length xs) xs ≡ []
drop-whole [] = refl
drop-whole (x ∷ xs) = drop-whole xs

pub nothing-new : (old new : Replica) → new.held.queue.greens ≡ old.held.queue.greens → newly_green old new ≡ []
nothing-new old new same = ap (λ xs. drop (length old.held.queue.greens) xs) same ∙ drop-whole old.held.queue.greens
