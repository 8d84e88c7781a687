-- What becomes green in a replica's whole step is noted: the kept greens are those before it, and behind them the names noted.
use Rattle.std.proofs.Common.{◌≡◌, ℕ, suc, Bool, true, false, cond, List, [], ◌∷◌, ◌++◌, fold, refl, sym, ap, ◌∙◌, append-nil, if◌then◌else◌}
use Rattle.std.specs.Prelude.{◌==◌, nat_le}
use Rattle.std.proofs.lemmas.Bool.{cond_both}
use Rattle.std.proofs.lemmas.List.{append_assoc}
use Rattle.cg_base.specs.EachLaws.{Each-all}
use Rattle.cg_action.specs.declared.action.Action.{Action}
use Rattle.cg_action.specs.declared.action.Kind.{Kind}
use Rattle.cg_base.specs.Cuts.{index_in}
use Rattle.cg_queue.specs.Queue.{Marks, Gaps, placed_red, names_of}
use Rattle.cg_queue.specs.declared.mark.Mark.TheVariants.{Placed, Known}
use Rattle.cg_client.specs.Replica.{Held, State, RegPrim, TransPrim, ExchangeStates, ExchangeActions, Construct, No, Un, NonPrim, Left, Replica}
use Rattle.cg_client.specs.Turn.{Turn, begin, with_held}
use Rattle.cg_client.specs.Marks.{marked, place_green}
use Rattle.cg_client.specs.Requests.{is_creating, create, create_kept, empty_buffer, buffer, settle, request_in, request}
use Rattle.cg_client.specs.Summary.{redden, forget_own, own_to_red, enter_exchange}
use Rattle.cg_states.specs.TransPrim.{end_prim}
use Rattle.cg_states.specs.No.{no_record}
use Rattle.cg_group.specs.declared.delivery.Delivery.TheVariants.{Regular as RegularIn}
use Rattle.cg_states.specs.ReplicaStep.{Input, Deliveries, Asks, replica_step, after_delivery, on_regular}
use Rattle.cg_disk_records.specs.HeldLaws.{names-behind}
use Rattle.cg_agree_lemmas.specs.TurnRows.{IsRule, of-deliveries}
use Rattle.cg_model.specs.RowLaws.{any-deliveries}

pub record IsNoted (old : Held) (t : Turn) : Type 0 where
  pub white : t.replica.held.queue.white ≡ old.queue.white
  pub greens : names_of t.replica.held.queue.greens ≡ names_of old.queue.greens ++ t.green

-- nothing becomes green where own actions become red
record LeavesGreens (t u : Turn) : Type 0 where
  pub white : u.replica.held.queue.white ≡ t.replica.held.queue.white
  pub greens : u.replica.held.queue.greens ≡ t.replica.held.queue.greens
  pub green : u.green ≡ t.green

redden-greens : (t : Turn) (a : Action) → LeavesGreens t (redden t a)
redden-greens t a =
    let q = t.replica.held.queue in
    let cut = index_in q.red_cut a.id.creator in
    cond_both (nat_le a.id.index cut) (Marks Known q) (if a.id.index == suc cut then Marks Placed (placed_red q a) else Gaps cut) (λ m. LeavesGreens t (marked t a m))
    (λ y. record { white = refl; greens = refl; green = refl })
    (λ n. cond_both (a.id.index == suc cut) (Marks Placed (placed_red q a)) (Gaps cut) (λ m. LeavesGreens t (marked t a m))
    (λ y. record { white = refl; greens = refl; green = refl })
    (λ n. record { white = refl; greens = refl; green = refl }))

reddens-greens : (list : List Action) (t : Turn) → LeavesGreens t (fold redden t list)
reddens-greens [] t = record { white = refl; greens = refl; green = refl }
reddens-greens (a ∷ list) t =
    let one = redden-greens t a in
    let rest = reddens-greens list (redden t a) in
    record { white = rest.white ∙ one.white; greens = rest.greens ∙ one.greens; green = rest.green ∙ one.green }

own-noted : (old : Held) (t : Turn) → IsNoted old t → IsNoted old (own_to_red t)
unfolding own_to_red
own-noted old t p =
    let rest = reddens-greens t.replica.held.own (forget_own t) in
    record { white = rest.white ∙ p.white; greens = ap names_of rest.greens ∙ p.greens ∙ ap (λ xs. names_of old.queue.greens ++ xs) (sym rest.green) }

noted-rule : (old : Held) → IsRule (IsNoted old) (λ a. Unit {0})
unfolding place_green
noted-rule old = record {
  greens = λ t p. Each-all (λ (a : Action). Unit {0}) (λ a. tt) t.replica.held.queue.greens;
  reds = λ t p. Each-all (λ (a : Action). Unit {0}) (λ a. tt) t.replica.held.queue.reds;
  goes = λ t state apart p. record { white = p.white; greens = p.greens };
  leaves = λ t p. record { white = p.white; greens = p.greens };
  says = λ t m none p. record { white = p.white; greens = p.greens };
  part = λ t part p. record { white = p.white; greens = p.greens };
  values = λ t yellow valid prim index v p. record { white = p.white; greens = p.greens };
  known = λ t a fine next made p. record { white = p.white; greens = p.greens };
  green = λ t a fine next made p. record {
    white = p.white;
    greens = names-behind t.replica.held.queue.greens a ∙ ap (λ xs. xs ++ a.id ∷ []) p.greens ∙ append_assoc (names_of old.queue.greens) t.green (a.id ∷ []);
  };
  own_red = λ t p. own-noted old t p;
}

-- ---- requests make nothing green

creates-noted : (old : Held) (list : List Kind) (t : Turn) → IsNoted old t → IsNoted old (fold create t list)
unfolding create
creates-noted old [] t p = p
creates-noted old (kind ∷ list) t p = creates-noted old list (create t kind) (record { white = p.white; greens = p.greens })

settle-noted : (old : Held) (t : Turn) → IsNoted old t → IsNoted old (settle t)
unfolding create_kept
settle-noted old t p = at (is_creating t.replica.state) where
  at : (b : Bool) → IsNoted old (cond b (create_kept t) t)
  at true = creates-noted old t.replica.held.buffered (empty_buffer t) (record { white = p.white; greens = p.greens })
  at false = p

request-noted : (old : Held) (t : Turn) (kind : Kind) → IsNoted old t → IsNoted old (request t kind)
unfolding create
request-noted old t kind p = at t.replica.state where
  made : IsNoted old (create t kind)
  made = record { white = p.white; greens = p.greens }

  kept : IsNoted old (buffer t kind)
  kept = record { white = p.white; greens = p.greens }

  at : (state : State) → IsNoted old (request_in state t kind)
  at RegPrim = made
  at (NonPrim true) = made
  at Left = p
  at TransPrim = kept
  at (ExchangeStates conf set heard) = kept
  at (ExchangeActions conf heard accepted) = kept
  at (Construct conf heard) = kept
  at (No conf heard) = kept
  at Un = kept
  at (NonPrim false) = kept

-- A replica's whole step.
pub step-noted : (r : Replica) (input : Input) → IsNoted r.held (replica_step r input)
unfolding replica_step
step-noted r (Deliveries list) =
    let first : IsNoted r.held (begin r) = record { white = refl; greens = sym (append-nil (names_of r.held.queue.greens)) } in
    settle-noted r.held (fold after_delivery (begin r) list) (of-deliveries (IsNoted r.held) (λ a. Unit {0}) (noted-rule r.held) (begin r) list (any-deliveries list) first)
step-noted r (Asks kind) = request-noted r.held (begin r) kind (record { white = refl; greens = sym (append-nil (names_of r.held.queue.greens)) })

-- ---- a new configuration makes nothing green

creates-green : (list : List Kind) (t : Turn) → (fold create t list).green ≡ t.green
unfolding create
creates-green [] t = refl
creates-green (kind ∷ list) t = creates-green list (create t kind)

settle-green : (t : Turn) → (settle t).green ≡ t.green
unfolding create_kept
settle-green t = at (is_creating t.replica.state) where
  at : (b : Bool) → (cond b (create_kept t) t).green ≡ t.green
  at true = creates-green t.replica.held.buffered (empty_buffer t)
  at false = refl

own-green : (t : Turn) → (own_to_red t).green ≡ t.green
unfolding own_to_red
own-green t = (reddens-greens t.replica.held.own (forget_own t)).green

regular-green : (state : State) (conf : ℕ) (set : List ℕ) (t : Turn) → (on_regular state conf set t).green ≡ t.green
unfolding on_regular enter_exchange
regular-green TransPrim conf set t = own-green (with_held t (end_prim t.replica.held))
regular-green (No at heard) conf set t = own-green (with_held t (no_record t.replica.held))
regular-green Un conf set t = own-green t
regular-green (NonPrim regular) conf set t = own-green t
regular-green RegPrim conf set t = refl
regular-green (ExchangeStates at members heard) conf set t = refl
regular-green (ExchangeActions at summaries accepted) conf set t = refl
regular-green (Construct at heard) conf set t = refl
regular-green Left conf set t = refl

pub entry-none : (r : Replica) (conf : ℕ) (set : List ℕ) → (replica_step r (Deliveries (RegularIn conf set ∷ []))).green ≡ []
unfolding replica_step after_delivery
entry-none r conf set = settle-green (on_regular r.state conf set (begin r)) ∙ regular-green r.state conf set (begin r)
