-- In an exchange nothing is waited for, whatever is handed: own actions became red as the replica came.
use Rattle.std.proofs.Common.{◌≡◌, ℕ, suc, true, List, [], ◌∷◌, ◌++◌, Option, Some, None, ap}
use Rattle.std.specs.Prelude.{◌==◌}
use Rattle.std.proofs.lemmas.Bool.{cond_both}
use Rattle.cg_base.specs.Sets.{has, is_within}
use Rattle.cg_action.specs.declared.action.Action.{Action}
use Rattle.cg_queue.specs.Queue.{Marking, Marks, Gaps, marked_red, green_count}
use Rattle.cg_queue.specs.declared.mark.Mark.TheVariants.{Placed, Known}
use Rattle.cg_knowledge.specs.declared.summary.Summary.{Summary}
use Rattle.cg_knowledge.specs.Summaries.{gone, senders}
use Rattle.cg_knowledge.specs.Verdict.{decides}
use Rattle.cg_plan.specs.declared.parts.Part.{Part}
use Rattle.cg_plan.specs.Plan.{plan_of}
use Rattle.cg_plan.specs.Progress.{is_done, turn_of}
use Rattle.cg_wire.specs.declared.message.Msg.{Msg}
use Rattle.cg_wire.specs.declared.message.Msg.TheVariants.{Action as ActionMsg, State as StateMsg, GreenItem, RedItem, Cpc}
use Rattle.cg_client.specs.Replica.{ExchangeStates, ExchangeActions, NonPrim, Left}
use Rattle.cg_client.specs.Turn.{Turn, with_held, go_to}
use Rattle.cg_client.specs.Marks.{is_unmade, after_first, marked, mark_red, can_be_green, place_green, mark_green}
use Rattle.cg_client.specs.Requests.{empty_buffer}
use Rattle.cg_states.specs.ExchangeActions.{send_part, progress, go_on, is_next, mark_item, take_item, exchange_actions_on_item}
use Rattle.cg_states.specs.ExchangeStates.{is_usable, with_heard, exchange_states_on_summary}
use Rattle.cg_states.specs.PlanEnd.{take_over, attempt, decide, end_plan}
use Rattle.cg_states.specs.ReplicaStep.{on_message}

-- a part of a turn behind which nothing is waited for, where nothing was before it
abbrev WaitsForNone : (Turn → Turn) → Type 0
WaitsForNone f = (t : Turn) → t.replica.held.own ≡ [] → (f t).replica.held.own ≡ []

none-marked : (t : Turn) (a : Action) (m : Marking) → t.replica.held.own ≡ [] → (marked t a m).replica.held.own ≡ []
none-marked t a (Marks Placed q) none = ap (λ xs. after_first xs a.id) none
none-marked t a (Marks Known q) none = none
none-marked t a (Gaps cut) none = none

none-red : (a : Action) → WaitsForNone (λ t. mark_red t a)
unfolding mark_red
none-red a t none = cond_both (is_unmade t.replica.held a) t (marked t a (marked_red t.replica.held.queue a)) (λ u. u.replica.held.own ≡ []) (λ y. none) (λ n. none-marked t a (marked_red t.replica.held.queue a) none)

none-green : (a : Action) → WaitsForNone (λ t. mark_green t a)
unfolding mark_green place_green
none-green a t none = cond_both (can_be_green t.replica.held a) (place_green t a) t (λ u. u.replica.held.own ≡ []) (λ y. ap (λ xs. after_first xs a.id) none) (λ n. none)

none-item : (m : Msg) → WaitsForNone (λ t. mark_item t m)
none-item (GreenItem place a) t none = cond_both (place == suc (green_count t.replica.held.queue)) (mark_green t a) t (λ u. u.replica.held.own ≡ []) (λ y. none-green a t none) (λ n. none)
none-item (RedItem a) t none = none-red a t none
none-item (ActionMsg a) t none = none
none-item (StateMsg s) t none = none
none-item (Cpc i k) t none = none

none-taken : (heard : List Summary) (m : Msg) → WaitsForNone (λ t. take_item t heard m)
none-taken heard m t none = cond_both (has (gone heard) t.replica.held.id) t (mark_item t m) (λ u. u.replica.held.own ≡ []) (λ y. none) (λ n. none-item m t none)

none-part : (o : Option Part) → WaitsForNone (λ t. send_part t o)
unfolding send_part
none-part None t none = none
none-part (Some part) t none = none

none-end : (conf : ℕ) (heard : List Summary) → WaitsForNone (λ t. end_plan t conf heard)
unfolding end_plan decide attempt take_over
none-end conf heard t none =
    cond_both (has (gone heard) t.replica.held.id) (go_to (empty_buffer t) Left) (decide (with_held t (take_over t.replica.held heard)) conf heard) (λ u. u.replica.held.own ≡ []) (λ y. none)
    (λ n. cond_both (decides heard) (attempt (with_held t (take_over t.replica.held heard)) conf heard) (go_to (with_held t (take_over t.replica.held heard)) (NonPrim true)) (λ u. u.replica.held.own ≡ []) (λ y. none) (λ f. none))

none-on : (conf : ℕ) (heard : List Summary) (n : ℕ) → WaitsForNone (λ t. go_on t conf heard n)
unfolding go_on
none-on conf heard n t none =
    let sent = send_part (go_to t (ExchangeActions conf heard n)) (turn_of (plan_of heard) t.replica.held.id n) in
    let still : sent.replica.held.own ≡ [] = none-part (turn_of (plan_of heard) t.replica.held.id n) (go_to t (ExchangeActions conf heard n)) none in
    cond_both (is_done (progress heard n)) (end_plan sent conf heard) sent (λ u. u.replica.held.own ≡ []) (λ y. none-end conf heard sent still) (λ f. still)

-- a summary and an item
none-summary : (conf : ℕ) (set : List ℕ) (heard : List Summary) (from : ℕ) (s : Summary) → WaitsForNone (λ t. exchange_states_on_summary t conf set heard from s)
none-summary conf set heard from s t none =
    cond_both (is_usable conf heard from s) (with_heard t conf set (heard ++ s ∷ [])) t (λ u. u.replica.held.own ≡ [])
    (λ y. cond_both (is_within set (senders (heard ++ s ∷ []))) (go_on t conf (heard ++ s ∷ []) 0) (go_to t (ExchangeStates conf set (heard ++ s ∷ []))) (λ u. u.replica.held.own ≡ [])
    (λ z. none-on conf (heard ++ s ∷ []) 0 t none) (λ z. none)) (λ f. none)

none-next : (conf : ℕ) (heard : List Summary) (n from : ℕ) (m : Msg) → WaitsForNone (λ t. exchange_actions_on_item t conf heard n from m)
none-next conf heard n from m t none =
    cond_both (is_next heard n from m) (go_on (take_item t heard m) conf heard (suc n)) t (λ u. u.replica.held.own ≡ []) (λ y. none-on conf heard (suc n) (take_item t heard m) (none-taken heard m t none)) (λ f. none)

pub none-in_states : (conf : ℕ) (set : List ℕ) (heard : List Summary) (from : ℕ) (m : Msg) → WaitsForNone (on_message (ExchangeStates conf set heard) from m)
unfolding on_message
none-in_states conf set heard from (StateMsg s) t none = none-summary conf set heard from s t none
none-in_states conf set heard from (ActionMsg a) t none = none
none-in_states conf set heard from (GreenItem at a) t none = none
none-in_states conf set heard from (RedItem a) t none = none
none-in_states conf set heard from (Cpc i k) t none = none

pub none-in_actions : (conf : ℕ) (heard : List Summary) (n from : ℕ) (m : Msg) → WaitsForNone (on_message (ExchangeActions conf heard n) from m)
unfolding on_message
none-in_actions conf heard n from (GreenItem at a) t none = none-next conf heard n from (GreenItem at a) t none
none-in_actions conf heard n from (RedItem a) t none = none-next conf heard n from (RedItem a) t none
none-in_actions conf heard n from (StateMsg s) t none = none
none-in_actions conf heard n from (ActionMsg a) t none = none
none-in_actions conf heard n from (Cpc i k) t none = none
