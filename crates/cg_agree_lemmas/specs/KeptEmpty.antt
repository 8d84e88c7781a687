-- Who creates keeps no request behind an event, and who has left keeps none; and what is held goes on through a replica's whole step.
use Rattle.std.proofs.Common.{◌≡◌, Bool, true, false, cond, List, [], ◌∷◌, ◌++◌, fold, refl, sym, ap, ◌∙◌, subst}
use Rattle.cg_base.specs.EachLaws.{Each-all}
use Rattle.cg_action.specs.declared.action.Action.{Action}
use Rattle.cg_action.specs.declared.action.Kind.{Kind}
use Rattle.cg_queue.specs.Queue.{Marking, Marks, Gaps, marked_red}
use Rattle.cg_queue.specs.declared.mark.Mark.TheVariants.{Placed, Known}
use Rattle.cg_client.specs.Replica.{Held, State, RegPrim, TransPrim, ExchangeStates, ExchangeActions, Construct, No, Un, NonPrim, Left, Replica}
use Rattle.cg_client.specs.Turn.{Turn, begin}
use Rattle.cg_client.specs.Marks.{marked, place_green}
use Rattle.cg_client.specs.Requests.{is_creating, next_action, create, create_kept, empty_buffer, buffer, settle, request_in, request}
use Rattle.cg_client.specs.Summary.{redden, forget_own, own_to_red}
use Rattle.cg_states.specs.ReplicaStep.{Input, Deliveries, Asks, replica_step, after_delivery}
use Rattle.cg_model.specs.World.{is_left_state}
use Rattle.cg_model.specs.FactsReplica.{IsEmptyIn}
use Rattle.cg_agree_lemmas.specs.TurnValues.{even-own_to_red}
use Rattle.cg_agree_lemmas.specs.TurnRows.{IsRule, of-deliveries}
use Rattle.cg_agree_lemmas.specs.DiskAhead.{IsUnnoted, IsFurther, OwnRuns, StaysBehind, further-refl, nil-more, stays-rule}
use Rattle.cg_model.specs.RowLaws.{any-deliveries}

-- ---- who has left

abbrev IsLeftEmpty : Turn → Type 0
IsLeftEmpty t = is_left_state t.replica.state ≡ true → t.replica.held.buffered ≡ []

marked-buffer : (t : Turn) (a : Action) (m : Marking) → (marked t a m).replica.held.buffered ≡ t.replica.held.buffered
marked-buffer t a (Marks Placed q) = refl
marked-buffer t a (Marks Known q) = refl
marked-buffer t a (Gaps cut) = refl

reddened-buffer : (list : List Action) (t : Turn) → (fold redden t list).replica.held.buffered ≡ t.replica.held.buffered
reddened-buffer [] t = refl
reddened-buffer (a ∷ list) t = reddened-buffer list (redden t a) ∙ marked-buffer t a (marked_red t.replica.held.queue a)

own-buffer : (t : Turn) → (own_to_red t).replica.held.buffered ≡ t.replica.held.buffered
unfolding own_to_red
own-buffer t = reddened-buffer t.replica.held.own (forget_own t)

left-rule : IsRule IsLeftEmpty (λ a. Unit {0})
unfolding place_green
left-rule = record {
  greens = λ t p. Each-all (λ (a : Action). Unit {0}) (λ a. tt) t.replica.held.queue.greens;
  reds = λ t p. Each-all (λ (a : Action). Unit {0}) (λ a. tt) t.replica.held.queue.reds;
  goes = λ t state apart p e. absurd (let clash : true ≡ false = sym e ∙ apart in cc);
  leaves = λ t p e. refl;
  says = λ t m none p e. p e;
  part = λ t part p e. p e;
  values = λ t yellow valid prim index v p e. p e;
  known = λ t a fine next made p e. p e;
  green = λ t a fine next made p e. p e;
  own_red = λ t p e. own-buffer t ∙ p (ap is_left_state (sym (even-own_to_red t).state) ∙ e);
}

-- ---- requests

created-buffer : (list : List Kind) (t : Turn) → (fold create t list).replica.held.buffered ≡ t.replica.held.buffered
unfolding create
created-buffer [] t = refl
created-buffer (kind ∷ list) t = created-buffer list (create t kind)

pub kept-buffer : (t : Turn) → (create_kept t).replica.held.buffered ≡ []
unfolding create_kept
kept-buffer t = created-buffer t.replica.held.buffered (empty_buffer t)

empty-in : (h : Held) (state : State) → h.buffered ≡ [] → IsEmptyIn h state
empty-in h RegPrim e = e
empty-in h TransPrim e = tt
empty-in h (ExchangeStates conf set heard) e = tt
empty-in h (ExchangeActions conf heard accepted) e = tt
empty-in h (Construct conf heard) e = tt
empty-in h (No conf heard) e = tt
empty-in h Un e = tt
empty-in h (NonPrim true) e = e
empty-in h (NonPrim false) e = tt
empty-in h Left e = e

resting : (h : Held) (state : State) → is_creating state ≡ false → (is_left_state state ≡ true → h.buffered ≡ []) → IsEmptyIn h state
resting h RegPrim idle left = absurd (let clash : true ≡ false = idle in cc)
resting h TransPrim idle left = tt
resting h (ExchangeStates conf set heard) idle left = tt
resting h (ExchangeActions conf heard accepted) idle left = tt
resting h (Construct conf heard) idle left = tt
resting h (No conf heard) idle left = tt
resting h Un idle left = tt
resting h (NonPrim true) idle left = absurd (let clash : true ≡ false = idle in cc)
resting h (NonPrim false) idle left = tt
resting h Left idle left = left refl

left-empty : (h : Held) (state : State) → IsEmptyIn h state → is_left_state state ≡ true → h.buffered ≡ []
left-empty h Left is e = is
left-empty h RegPrim is e = absurd (let clash : false ≡ true = e in cc)
left-empty h TransPrim is e = absurd (let clash : false ≡ true = e in cc)
left-empty h (ExchangeStates conf set heard) is e = absurd (let clash : false ≡ true = e in cc)
left-empty h (ExchangeActions conf heard accepted) is e = absurd (let clash : false ≡ true = e in cc)
left-empty h (Construct conf heard) is e = absurd (let clash : false ≡ true = e in cc)
left-empty h (No conf heard) is e = absurd (let clash : false ≡ true = e in cc)
left-empty h Un is e = absurd (let clash : false ≡ true = e in cc)
left-empty h (NonPrim regular) is e = absurd (let clash : false ≡ true = e in cc)

settled-empty : (t : Turn) → IsLeftEmpty t → IsEmptyIn (settle t).replica.held (settle t).replica.state
settled-empty t left = at (is_creating t.replica.state) refl where
  at : (b : Bool) → is_creating t.replica.state ≡ b → IsEmptyIn (cond b (create_kept t) t).replica.held (cond b (create_kept t) t).replica.state
  at true e = empty-in (create_kept t).replica.held (create_kept t).replica.state (kept-buffer t)
  at false e = resting t.replica.held t.replica.state e left

asked-empty : (r : Replica) (kind : Kind) → IsEmptyIn r.held r.state → IsEmptyIn (request (begin r) kind).replica.held (request (begin r) kind).replica.state
asked-empty r kind is = at r.state refl is where
  t : Turn
  t = begin r

  made : r.held.buffered ≡ [] → IsEmptyIn (create t kind).replica.held (create t kind).replica.state
  made none = empty-in (create t kind).replica.held (create t kind).replica.state (created-buffer (kind ∷ []) t ∙ none)

  kept : (state : State) → r.state ≡ state → is_creating state ≡ false → is_left_state state ≡ false → IsEmptyIn (buffer t kind).replica.held r.state
  kept state e idle apart = subst (λ s. IsEmptyIn (buffer t kind).replica.held s) (sym e) (resting (buffer t kind).replica.held state idle (λ y. absurd (let clash : true ≡ false = sym y ∙ apart in cc)))

  at : (state : State) → r.state ≡ state → IsEmptyIn r.held state → IsEmptyIn (request_in state t kind).replica.held (request_in state t kind).replica.state
  at RegPrim e i = made i
  at (NonPrim true) e i = made i
  at Left e i = subst (λ s. IsEmptyIn r.held s) (sym e) i
  at TransPrim e i = kept TransPrim e refl refl
  at (ExchangeStates conf set heard) e i = kept (ExchangeStates conf set heard) e refl refl
  at (ExchangeActions conf heard accepted) e i = kept (ExchangeActions conf heard accepted) e refl refl
  at (Construct conf heard) e i = kept (Construct conf heard) e refl refl
  at (No conf heard) e i = kept (No conf heard) e refl refl
  at Un e i = kept Un e refl refl
  at (NonPrim false) e i = kept (NonPrim false) e refl refl

-- Who creates keeps no request behind a step, nor does one that has left.
pub step-empty : (r : Replica) (input : Input) → IsEmptyIn r.held r.state → IsEmptyIn (replica_step r input).replica.held (replica_step r input).replica.state
unfolding replica_step
step-empty r (Deliveries list) is =
    settled-empty (fold after_delivery (begin r) list) (of-deliveries IsLeftEmpty (λ a. Unit {0}) left-rule (begin r) list (any-deliveries list) (left-empty r.held r.state is))
step-empty r (Asks kind) is = asked-empty r kind is

-- ---- what is held goes on

more-made : (list : List Kind) (t : Turn) → (fold create t list).made ≡ [] → t.made ≡ []
unfolding create
more-made [] t e = e
more-made (kind ∷ list) t e = absurd (nil-more t.made (next_action t.replica.held kind) (more-made list (create t kind) e))

with-buffer : (old h : Held) (list : List Kind) → IsFurther old h × OwnRuns h → (let new = record h { buffered = list } in IsFurther old new × OwnRuns new)
with-buffer old h list is = (
  record { id = is.0.id; white = is.0.white; green_cut = is.0.green_cut; red = is.0.red; created = is.0.created; own = is.0.own; fewer = is.0.fewer },
  record { rising = is.1.rising; run = is.1.run; mine = is.1.mine },
)

kept-behind : (old : Held) (t : Turn) → StaysBehind old t → StaysBehind old (create_kept t)
unfolding create_kept create
kept-behind old t p u = at t.replica.held.buffered u where
  at : (list : List Kind) → IsUnnoted (fold create (empty_buffer t) list) →
      IsFurther old (fold create (empty_buffer t) list).replica.held × OwnRuns (fold create (empty_buffer t) list).replica.held
  at [] u = with-buffer old t.replica.held [] (p (record { marked_own = u.marked_own; green = u.green; made = u.made }))
  at (kind ∷ list) u = absurd (nothing-made list u.made) where
    nothing-made : (list : List Kind) → (fold create (create (empty_buffer t) kind) list).made ≡ [] → ⊥
    nothing-made list e = nil-more t.made (next_action (empty_buffer t).replica.held kind) (more-made list (create (empty_buffer t) kind) e)

pub step-behind : (r : Replica) (input : Input) → OwnRuns r.held → StaysBehind r.held (replica_step r input)
unfolding replica_step create
step-behind r (Deliveries list) own = settled (fold after_delivery (begin r) list)
    (of-deliveries (StaysBehind r.held) (λ a. Unit {0}) (stays-rule r.held) (begin r) list (any-deliveries list) (λ u. (further-refl r.held, own)))
  where
    settled : (t : Turn) → StaysBehind r.held t → StaysBehind r.held (settle t)
    settled t p = at (is_creating t.replica.state) where
      at : (b : Bool) → StaysBehind r.held (cond b (create_kept t) t)
      at true = kept-behind r.held t p
      at false = p
step-behind r (Asks kind) own = at r.state where
  t : Turn
  t = begin r

  made : StaysBehind r.held (create t kind)
  made u = absurd (nothing u.made) where
    nothing : (create t kind).made ≡ [] → ⊥
    nothing e = nil-more t.made (next_action t.replica.held kind) e

  kept : StaysBehind r.held (buffer t kind)
  kept u = with-buffer r.held r.held (r.held.buffered ++ kind ∷ []) (further-refl r.held, own)

  at : (state : State) → StaysBehind r.held (request_in state t kind)
  at RegPrim = made
  at (NonPrim true) = made
  at Left = λ u. (further-refl r.held, own)
  at TransPrim = kept
  at (ExchangeStates conf set heard) = kept
  at (ExchangeActions conf heard accepted) = kept
  at (Construct conf heard) = kept
  at (No conf heard) = kept
  at Un = kept
  at (NonPrim false) = kept
