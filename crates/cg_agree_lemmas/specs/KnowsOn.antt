-- Who is still in the configuration in which it told something knows all that it knew, and has made nothing in the states of an exchange
-- and of an attempt: what a turn, a commit and a step leave of that.
use Rattle.std.proofs.Common.{◌≡◌, ℕ, ◌≤◌, Bool, true, false, cond, List, [], ◌∷◌, fold, refl, sym, ap, ◌∙◌, arith}
use Rattle.cg_base.specs.Lists.{Each}
use Rattle.cg_base.specs.Cuts.{index_in}
use Rattle.cg_action.specs.declared.action.Kind.{Kind}
use Rattle.cg_wire.specs.declared.message.Msg.{Msg}
use Rattle.cg_wire.specs.declared.message.Msg.TheVariants.{Action as ActionMsg, State as StateMsg, GreenItem, RedItem, Cpc}
use Rattle.cg_group.specs.declared.delivery.Delivery.{Delivery}
use Rattle.cg_group.specs.declared.delivery.Delivery.TheVariants.{Message, Transitional as TransitionalIn, Regular as RegularIn}
use Rattle.cg_client.specs.Replica.{Held, State, RegPrim, TransPrim, ExchangeStates, ExchangeActions, Construct, No, Un, NonPrim, Left, Replica, created}
use Rattle.cg_client.specs.Turn.{Turn, begin}
use Rattle.cg_client.specs.Marks.{mark_red, mark_yellow, mark_green}
use Rattle.cg_client.specs.Requests.{is_creating, create, create_kept, empty_buffer, buffer, settle, request_in, request}
use Rattle.cg_queue.specs.Queue.{QueueView}
use Rattle.cg_disk_records.specs.Stored.{whiten}
use Rattle.cg_states.specs.ReplicaStep.{on_message, on_transitional, after_delivery}
use Rattle.cg_disk_records.specs.Crash.{whitened}
use Rattle.cg_model.specs.Chronicle.{Told}
use Rattle.cg_model.specs.FactsExchange.{HasMadeNothing, KnowsAsMuch}
use Rattle.cg_agree_lemmas.specs.TurnValues.{even-mark_red, even-mark_yellow, even-mark_green, even-create_kept, even-create}
use Rattle.cg_agree_lemmas.specs.TurnRows.{of-deliveries}
use Rattle.cg_agree_lemmas.specs.CreatedKept.{HasCreated, StaysCreated, created-rule}
use Rattle.cg_base.specs.BoolLaws.{impossible}
use Rattle.cg_model.specs.RowLaws.{any-deliveries}

-- states in which something may have been created
abbrev pub is_free : State → Bool
is_free RegPrim = true
is_free TransPrim = true
is_free (NonPrim regular) = true
is_free _ = false

-- ---- within a configuration such a state leads to another one

free-at : (u : Turn) (state : State) → u.replica.state ≡ state → is_free state ≡ true → is_free u.replica.state ≡ true
free-at u state e is = ap is_free e ∙ is

free-message : (state : State) (from : ℕ) (m : Msg) (t : Turn) → t.replica.state ≡ state → is_free state ≡ true → is_free (on_message state from m t).replica.state ≡ true
unfolding on_message
free-message RegPrim from (ActionMsg a) t e is = free-at (mark_green t a) RegPrim ((even-mark_green t a).state ∙ e) refl
free-message TransPrim from (ActionMsg a) t e is = free-at (mark_yellow t a) TransPrim ((even-mark_yellow t a).state ∙ e) refl
free-message (NonPrim regular) from (ActionMsg a) t e is = free-at (mark_red t a) (NonPrim regular) ((even-mark_red t a).state ∙ e) refl
free-message RegPrim from (StateMsg s) t e is = free-at t RegPrim e refl
free-message RegPrim from (GreenItem at a) t e is = free-at t RegPrim e refl
free-message RegPrim from (RedItem a) t e is = free-at t RegPrim e refl
free-message RegPrim from (Cpc id conf) t e is = free-at t RegPrim e refl
free-message TransPrim from (StateMsg s) t e is = free-at t TransPrim e refl
free-message TransPrim from (GreenItem at a) t e is = free-at t TransPrim e refl
free-message TransPrim from (RedItem a) t e is = free-at t TransPrim e refl
free-message TransPrim from (Cpc id conf) t e is = free-at t TransPrim e refl
free-message (NonPrim regular) from (StateMsg s) t e is = free-at t (NonPrim regular) e refl
free-message (NonPrim regular) from (GreenItem at a) t e is = free-at t (NonPrim regular) e refl
free-message (NonPrim regular) from (RedItem a) t e is = free-at t (NonPrim regular) e refl
free-message (NonPrim regular) from (Cpc id conf) t e is = free-at t (NonPrim regular) e refl
free-message (ExchangeStates at set heard) from m t e is = impossible is
free-message (ExchangeActions at summaries accepted) from m t e is = impossible is
free-message (Construct at heard) from m t e is = impossible is
free-message (No at heard) from m t e is = impossible is
free-message Un from m t e is = impossible is
free-message Left from m t e is = impossible is

free-transitional : (state : State) (t : Turn) → t.replica.state ≡ state → is_free state ≡ true → is_free (on_transitional state t).replica.state ≡ true
unfolding on_transitional
free-transitional RegPrim t e is = refl
free-transitional TransPrim t e is = free-at t TransPrim e refl
free-transitional (NonPrim regular) t e is = refl
free-transitional (ExchangeStates at set heard) t e is = impossible is
free-transitional (ExchangeActions at summaries accepted) t e is = impossible is
free-transitional (Construct at heard) t e is = impossible is
free-transitional (No at heard) t e is = impossible is
free-transitional Un t e is = impossible is
free-transitional Left t e is = impossible is

-- no configuration comes
abbrev pub IsInside : Delivery Msg → Type 0
IsInside (RegularIn conf set) = ⊥
IsInside _ = Unit {0}

free-take : (t : Turn) (d : Delivery Msg) → IsInside d → is_free t.replica.state ≡ true → is_free (after_delivery t d).replica.state ≡ true
unfolding after_delivery
free-take t (Message place from m) inside is = free-message t.replica.state from m t refl is
free-take t (TransitionalIn conf set) inside is = free-transitional t.replica.state t refl is
free-take t (RegularIn conf set) inside is = absurd inside

free-list : (list : List (Delivery Msg)) (t : Turn) → Each IsInside list → is_free t.replica.state ≡ true → is_free (fold after_delivery t list).replica.state ≡ true
free-list [] t inside is = is
free-list (d ∷ list) t inside is = free-list list (after_delivery t d) inside.1 (free-take t d inside.0 is)

-- ---- what is known goes on

pub record GoesOnKnowing (old new : Replica) : Type 0 where
  pub red : (creator : ℕ) → index_in old.held.queue.red_cut creator ≤ index_in new.held.queue.red_cut creator
  pub free : is_free old.state ≡ true → is_free new.state ≡ true
  pub made : is_free new.state ≡ false → created new.held ≡ created old.held

pub knowing-same : (r : Replica) → GoesOnKnowing r r
knowing-same r = record { red = λ creator. omega arith; free = λ e. e; made = λ e. refl }

made-where : (t : Told) (h : Held) (state : State) → HasMadeNothing t h state → is_free state ≡ false → created h ≡ index_in t.summary.red_cut t.summary.id
made-where t h RegPrim is e = absurd (let clash : true ≡ false = e in cc)
made-where t h TransPrim is e = absurd (let clash : true ≡ false = e in cc)
made-where t h (NonPrim regular) is e = absurd (let clash : true ≡ false = e in cc)
made-where t h (ExchangeStates at set heard) is e = is
made-where t h (ExchangeActions at summaries accepted) is e = is
made-where t h (Construct at heard) is e = is
made-where t h (No at heard) is e = is
made-where t h Un is e = is
made-where t h Left is e = is

where-made : (t : Told) (h : Held) (state : State) → (is_free state ≡ false → created h ≡ index_in t.summary.red_cut t.summary.id) → HasMadeNothing t h state
where-made t h RegPrim is = tt
where-made t h TransPrim is = tt
where-made t h (NonPrim regular) is = tt
where-made t h (ExchangeStates at set heard) is = is refl
where-made t h (ExchangeActions at summaries accepted) is = is refl
where-made t h (Construct at heard) is = is refl
where-made t h (No at heard) is = is refl
where-made t h Un is = is refl
where-made t h Left is = is refl

not-free : (a b : Bool) → (a ≡ true → b ≡ true) → b ≡ false → a ≡ false
not-free true b leads e = absurd (let clash : true ≡ false = sym (leads refl) ∙ e in cc)
not-free false b leads e = refl

pub knows-on : (t : Told) (old new : Replica) → GoesOnKnowing old new → KnowsAsMuch t old → KnowsAsMuch t new
knows-on t old new on is = record {
  red = λ creator. (let low = is.red creator in let more = on.red creator in omega arith);
  made = where-made t new.held new.state (λ e. on.made e ∙ made-where t old.held old.state is.made (not-free (is_free old.state) (is_free new.state) on.free e));
}

-- what is handed
pub takes-knowing : (r : Replica) (list : List (Delivery Msg)) → HasCreated r.held r.held → Each IsInside list → GoesOnKnowing r (fold after_delivery (begin r) list).replica
takes-knowing r list first inside =
    let now = of-deliveries (StaysCreated r.held) (λ a. Unit {0}) (created-rule r.held) (begin r) list (any-deliveries list) (record { held = first; made = refl }) in
    record { red = now.held.red; free = λ e. free-list list (begin r) inside e; made = λ e. now.held.created }

-- requests: where something is created it may have been before
created-reds : (list : List Kind) (t : Turn) → (fold create t list).replica.held.queue ≡ t.replica.held.queue
unfolding create
created-reds [] t = refl
created-reds (kind ∷ list) t = created-reds list (create t kind)

creating-free : (state : State) → is_creating state ≡ true → is_free state ≡ true
creating-free RegPrim e = refl
creating-free (NonPrim regular) e = refl
creating-free TransPrim e = refl
creating-free (ExchangeStates at set heard) e = impossible e
creating-free (ExchangeActions at summaries accepted) e = impossible e
creating-free (Construct at heard) e = impossible e
creating-free (No at heard) e = impossible e
creating-free Un e = impossible e
creating-free Left e = impossible e

-- something is created in a state in which it may be
creates : (r : Replica) (u : Turn) → is_creating r.state ≡ true → u.replica.state ≡ r.state → u.replica.held.queue ≡ r.held.queue → GoesOnKnowing r u.replica
creates r u can state queue = record {
  red = λ creator. (let same = ap (λ (q : QueueView). index_in q.red_cut creator) queue in omega arith);
  free = λ e. ap is_free state ∙ e;
  made = λ e. absurd (let clash : true ≡ false = sym (creating-free r.state can) ∙ ap is_free (sym state) ∙ e in cc);
}

pub settles-knowing : (r : Replica) → GoesOnKnowing r (settle (begin r)).replica
unfolding create_kept
settles-knowing r = at (is_creating r.state) refl where
  at : (b : Bool) → is_creating r.state ≡ b → GoesOnKnowing r (cond b (create_kept (begin r)) (begin r)).replica
  at true e = creates r (create_kept (begin r)) e (even-create_kept (begin r)).state (created-reds r.held.buffered (empty_buffer (begin r)))
  at false e = knowing-same r

pub asks-knowing : (r : Replica) (kind : Kind) → GoesOnKnowing r (request (begin r) kind).replica
asks-knowing r kind = at r.state refl where
  t : Turn
  t = begin r

  made : is_creating r.state ≡ true → GoesOnKnowing r (create t kind).replica
  made can = creates r (create t kind) can (even-create t kind).state (created-reds (kind ∷ []) t)

  kept : GoesOnKnowing r (buffer t kind).replica
  kept = record { red = λ creator. omega arith; free = λ e. e; made = λ e. refl }

  at : (state : State) → r.state ≡ state → GoesOnKnowing r (request_in state t kind).replica
  at RegPrim e = made (ap is_creating e)
  at (NonPrim true) e = made (ap is_creating e)
  at Left e = knowing-same r
  at TransPrim e = kept
  at (ExchangeStates conf set heard) e = kept
  at (ExchangeActions conf heard accepted) e = kept
  at (Construct conf heard) e = kept
  at (No conf heard) e = kept
  at Un e = kept
  at (NonPrim false) e = kept

-- a commit
pub whitened-knowing : (r : Replica) → GoesOnKnowing r (whitened r)
unfolding whiten
whitened-knowing r = record { red = λ creator. omega arith; free = λ e. e; made = λ e. refl }
