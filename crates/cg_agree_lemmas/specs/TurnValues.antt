-- What a turn leaves of what a replica knows of primary components: marks, own actions and requests change nothing of it.
use Rattle.std.proofs.Common.{◌≡◌, ℕ, Bool, true, false, cond, List, [], ◌∷◌, fold, Option, Some, None, refl, ◌∙◌}
use Rattle.std.specs.Prelude.{suc, ◌==◌}
use Rattle.cg_base.specs.Sets.{has}
use Rattle.cg_action.specs.declared.action.Action.{Action}
use Rattle.cg_action.specs.declared.action.Kind.{Kind}
use Rattle.cg_queue.specs.Queue.{Marking, Marks, Gaps, green_count, marked_red, marked_yellow}
use Rattle.cg_queue.specs.declared.mark.Mark.TheVariants.{Placed, Known}
use Rattle.cg_knowledge.specs.declared.summary.Summary.{Summary}
use Rattle.cg_knowledge.specs.Summaries.{gone}
use Rattle.cg_plan.specs.declared.parts.Part.{Part}
use Rattle.cg_wire.specs.declared.message.Msg.{Msg}
use Rattle.cg_wire.specs.declared.message.Msg.TheVariants.{Action as ActionMsg, State as StateMsg, GreenItem, RedItem, Cpc}
use Rattle.cg_client.specs.Replica.{Held, State, RegPrim, TransPrim, ExchangeStates, ExchangeActions, Construct, No, Un, NonPrim, Left}
use Rattle.cg_client.specs.Turn.{Turn}
use Rattle.cg_client.specs.Marks.{is_unmade, marked, mark_red, mark_yellow, can_be_green, place_green, mark_green, mark_green_at}
use Rattle.cg_client.specs.Requests.{create, create_kept, empty_buffer, buffer, settle, is_creating, request_in, request}
use Rattle.cg_client.specs.Summary.{redden, forget_own, own_to_red}
use Rattle.cg_client.specs.Install.{valid_yellow, yellow_green, reds_green}
use Rattle.cg_states.specs.ExchangeActions.{mark_item, take_item, send_part}

-- what is known of primary components, and whose it is
pub record SameValues (old new : Held) : Type 0 where
  pub id : new.id ≡ old.id
  pub prim : new.prim ≡ old.prim
  pub attempt_index : new.attempt_index ≡ old.attempt_index
  pub vulnerable : new.vulnerable ≡ old.vulnerable
  pub yellow_valid : new.yellow_valid ≡ old.yellow_valid

pub same-values : (h : Held) → SameValues h h
same-values h = record { id = refl; prim = refl; attempt_index = refl; vulnerable = refl; yellow_valid = refl }

pub values-then : (a b e : Held) → SameValues a b → SameValues b e → SameValues a e
values-then a b e one two = record {
  id = two.id ∙ one.id;
  prim = two.prim ∙ one.prim;
  attempt_index = two.attempt_index ∙ one.attempt_index;
  vulnerable = two.vulnerable ∙ one.vulnerable;
  yellow_valid = two.yellow_valid ∙ one.yellow_valid;
}

-- a part of a turn that changes neither these nor the state
pub record IsEven (t u : Turn) : Type 0 where
  pub state : u.replica.state ≡ t.replica.state
  pub values : SameValues t.replica.held u.replica.held

pub even-refl : (t : Turn) → IsEven t t
even-refl t = record { state = refl; values = same-values t.replica.held }

pub even-then : (t u v : Turn) → IsEven t u → IsEven u v → IsEven t v
even-then t u v one two = record { state = two.state ∙ one.state; values = values-then t.replica.held u.replica.held v.replica.held one.values two.values }

pub even-choice : (test : Bool) (t u v : Turn) → IsEven t u → IsEven t v → IsEven t (cond test u v)
even-choice true t u v one two = one
even-choice false t u v one two = two

pub even-fold : {A : Type 0} (step : Turn → A → Turn) → ((t : Turn) (a : A) → IsEven t (step t a)) → (list : List A) (t : Turn) → IsEven t (fold step t list)
even-fold step each [] t = even-refl t
even-fold step each (a ∷ list) t = even-then t (step t a) (fold step (step t a) list) (each t a) (even-fold step each list (step t a))

-- ---- marks

pub even-marked : (t : Turn) (a : Action) (m : Marking) → IsEven t (marked t a m)
even-marked t a (Marks Placed q) = record { state = refl; values = record { id = refl; prim = refl; attempt_index = refl; vulnerable = refl; yellow_valid = refl } }
even-marked t a (Marks Known q) = record { state = refl; values = record { id = refl; prim = refl; attempt_index = refl; vulnerable = refl; yellow_valid = refl } }
even-marked t a (Gaps cut) = even-refl t

pub even-mark_red : (t : Turn) (a : Action) → IsEven t (mark_red t a)
unfolding mark_red
even-mark_red t a = even-choice (is_unmade t.replica.held a) t t (marked t a (marked_red t.replica.held.queue a)) (even-refl t) (even-marked t a (marked_red t.replica.held.queue a))

pub even-mark_yellow : (t : Turn) (a : Action) → IsEven t (mark_yellow t a)
unfolding mark_yellow
even-mark_yellow t a = even-choice (is_unmade t.replica.held a) t t (marked t a (marked_yellow t.replica.held.queue a)) (even-refl t) (even-marked t a (marked_yellow t.replica.held.queue a))

even-place_green : (t : Turn) (a : Action) → IsEven t (place_green t a)
unfolding place_green
even-place_green t a = record { state = refl; values = record { id = refl; prim = refl; attempt_index = refl; vulnerable = refl; yellow_valid = refl } }

pub even-mark_green : (t : Turn) (a : Action) → IsEven t (mark_green t a)
unfolding mark_green
even-mark_green t a = even-choice (can_be_green t.replica.held a) t (place_green t a) t (even-place_green t a) (even-refl t)

pub even-mark_green_at : (t : Turn) (place : ℕ) (a : Action) → IsEven t (mark_green_at t place a)
even-mark_green_at t place a = even-choice (place == suc (green_count t.replica.held.queue)) t (mark_green t a) t (even-mark_green t a) (even-refl t)

-- ---- own actions and requests

pub even-own_to_red : (t : Turn) → IsEven t (own_to_red t)
unfolding own_to_red
even-own_to_red t =
    even-then t (forget_own t) (fold redden (forget_own t) t.replica.held.own)
    (record { state = refl; values = record { id = refl; prim = refl; attempt_index = refl; vulnerable = refl; yellow_valid = refl } })
    (even-fold redden (λ u a. even-marked u a (marked_red u.replica.held.queue a)) t.replica.held.own (forget_own t))

pub even-create : (t : Turn) (kind : Kind) → IsEven t (create t kind)
unfolding create
even-create t kind = record { state = refl; values = record { id = refl; prim = refl; attempt_index = refl; vulnerable = refl; yellow_valid = refl } }

even-buffer : (t : Turn) (kind : Kind) → IsEven t (buffer t kind)
even-buffer t kind = record { state = refl; values = record { id = refl; prim = refl; attempt_index = refl; vulnerable = refl; yellow_valid = refl } }

pub even-create_kept : (t : Turn) → IsEven t (create_kept t)
unfolding create_kept
even-create_kept t =
    even-then t (empty_buffer t) (fold create (empty_buffer t) t.replica.held.buffered)
    (record { state = refl; values = record { id = refl; prim = refl; attempt_index = refl; vulnerable = refl; yellow_valid = refl } })
    (even-fold create even-create t.replica.held.buffered (empty_buffer t))

pub even-settle : (t : Turn) → IsEven t (settle t)
even-settle t = even-choice (is_creating t.replica.state) t (create_kept t) t (even-create_kept t) (even-refl t)

even-request_in : (state : State) (t : Turn) (kind : Kind) → IsEven t (request_in state t kind)
even-request_in RegPrim t kind = even-create t kind
even-request_in TransPrim t kind = even-buffer t kind
even-request_in (ExchangeStates conf set heard) t kind = even-buffer t kind
even-request_in (ExchangeActions conf summaries accepted) t kind = even-buffer t kind
even-request_in (Construct conf heard) t kind = even-buffer t kind
even-request_in (No conf heard) t kind = even-buffer t kind
even-request_in Un t kind = even-buffer t kind
even-request_in (NonPrim true) t kind = even-create t kind
even-request_in (NonPrim false) t kind = even-buffer t kind
even-request_in Left t kind = even-refl t

pub even-request : (t : Turn) (kind : Kind) → IsEven t (request t kind)
even-request t kind = even-request_in t.replica.state t kind

-- ---- items and an installation's marks

even-mark_item : (t : Turn) (m : Msg) → IsEven t (mark_item t m)
even-mark_item t (GreenItem place a) = even-mark_green_at t place a
even-mark_item t (RedItem a) = even-mark_red t a
even-mark_item t (ActionMsg a) = even-refl t
even-mark_item t (StateMsg s) = even-refl t
even-mark_item t (Cpc id conf) = even-refl t

pub even-take_item : (t : Turn) (heard : List Summary) (m : Msg) → IsEven t (take_item t heard m)
even-take_item t heard m = even-choice (has (gone heard) t.replica.held.id) t t (mark_item t m) (even-refl t) (even-mark_item t m)

pub even-send_part : (t : Turn) (o : Option Part) → IsEven t (send_part t o)
unfolding send_part
even-send_part t None = even-refl t
even-send_part t (Some part) = record { state = refl; values = same-values t.replica.held }

pub even-installed : (t : Turn) → IsEven t (reds_green (yellow_green t))
even-installed t =
    even-then t (yellow_green t) (reds_green (yellow_green t)) (even-fold mark_green even-mark_green (valid_yellow t.replica.held) t)
    (even-fold mark_green even-mark_green (yellow_green t).replica.held.queue.reds (yellow_green t))
