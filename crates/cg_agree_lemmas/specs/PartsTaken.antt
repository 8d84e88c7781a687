-- Each row of the table of states is a part of a turn, and so is a delivery.
use Rattle.std.proofs.Common.{ℕ, suc, true, false, cond, List, [], ◌∷◌, ◌++◌, Option, Some, None, fold}
use Rattle.std.specs.Prelude.{◌==◌, ◌||◌, not}
use Rattle.cg_base.specs.Text.{is_nil}
use Rattle.cg_base.specs.Sets.{has, is_within, with_member}
use Rattle.cg_action.specs.declared.action.Action.{Action}
use Rattle.cg_action.specs.declared.action.Kind.{Kind}
use Rattle.cg_db.specs.Apply.{apply}
use Rattle.cg_queue.specs.Queue.{Marking, Marks, Gaps, green_count, marked_red, marked_yellow}
use Rattle.cg_queue.specs.declared.mark.Mark.TheVariants.{Placed, Known}
use Rattle.cg_knowledge.specs.declared.summary.Summary.{Summary}
use Rattle.cg_knowledge.specs.Summaries.{gone, senders}
use Rattle.cg_knowledge.specs.Verdict.{decides}
use Rattle.cg_plan.specs.declared.parts.Part.{Part}
use Rattle.cg_plan.specs.Plan.{plan_of}
use Rattle.cg_plan.specs.Progress.{is_done, turn_of}
use Rattle.cg_wire.specs.declared.message.Msg.{Msg}
use Rattle.cg_wire.specs.declared.message.Msg.TheVariants.{Action as ActionMsg, State as StateMsg, GreenItem, RedItem, Cpc}
use Rattle.cg_group.specs.declared.delivery.Delivery.{Delivery}
use Rattle.cg_group.specs.declared.delivery.Delivery.TheVariants.{Message, Transitional as TransitionalIn, Regular as RegularIn}
use Rattle.cg_client.specs.Replica.{Held, State, RegPrim, TransPrim, ExchangeStates, ExchangeActions, Construct, No, Un, NonPrim, Left, Replica}
use Rattle.cg_client.specs.Turn.{with_held, go_to, send}
use Rattle.cg_client.specs.Marks.{is_unmade, after_first, marked, mark_red, mark_yellow, can_be_green, with_green, unknown_in, given_to, place_green, mark_green, mark_green_at}
use Rattle.cg_client.specs.Requests.{is_creating, next_action, with_own, add_action, create, empty_buffer, create_kept, settle}
use Rattle.cg_client.specs.Summary.{summary_of, redden, forget_own, own_to_red, tell, enter_exchange}
use Rattle.cg_client.specs.Install.{valid_yellow, with_prim, prim_after, yellow_green, reds_green, install}
use Rattle.cg_states.specs.TransPrim.{end_prim, trans_prim_on_regular}
use Rattle.cg_states.specs.ExchangeStates.{is_usable, with_heard, exchange_states_on_summary}
use Rattle.cg_states.specs.ExchangeActions.{messages_in_part, send_part, progress, go_on, is_next, mark_item, take_item, exchange_actions_on_item}
use Rattle.cg_states.specs.PlanEnd.{take_over, begin_attempt, attempt, decide, end_plan}
use Rattle.cg_states.specs.Construct.{attempt_set, is_announced, construct_with, construct_on_cpc}
use Rattle.cg_states.specs.No.{no_with, no_on_cpc, no_record, no_on_regular}
use Rattle.cg_states.specs.Un.{un_on_action}
use Rattle.cg_states.specs.ReplicaStep.{on_message, on_transitional, on_regular, after_delivery}
use Rattle.cg_agree_lemmas.specs.Parts.{IsPart, part-none, part-both, part-by_replica, part-choice, part-fold, part-changed, part-known, part-green, part-made, part-sent, part-replies, part-own}

-- ---- marks

abbrev to_state : State → Replica → Replica
to_state state r = record r { state = state }

abbrev holding : Held → Replica → Replica
holding h r = record r { held = h }

pub part-go_to : (state : State) → IsPart (λ t. go_to t state)
part-go_to state = part-changed (to_state state)

-- what is held becomes a function of what was held
pub part-held : (change : Held → Held) → IsPart (λ t. with_held t (change t.replica.held))
part-held change = part-changed (λ r. record r { held = change r.held })

pub part-marked : (a : Action) (m : Marking) → IsPart (λ t. marked t a m)
part-marked a (Marks Placed q) =
    part-both (λ t. let h = t.replica.held in with_held t (record h { queue = q; own = after_first h.own a.id })) (λ t. record t { known = t.known ++ a ∷ [] })
    (part-held (λ h. record h { queue = q; own = after_first h.own a.id })) (part-known (a ∷ []))
part-marked a (Marks Known q) = part-held (λ h. record h { queue = q })
part-marked a (Gaps cut) = part-none

pub part-mark_red : (a : Action) → IsPart (λ t. mark_red t a)
unfolding mark_red
part-mark_red a =
    part-by_replica (λ r t. cond (is_unmade r.held a) t (marked t a (marked_red r.held.queue a)))
    (λ r. part-choice (is_unmade r.held a) (λ t. t) (λ t. marked t a (marked_red r.held.queue a)) part-none (part-marked a (marked_red r.held.queue a)))

pub part-mark_yellow : (a : Action) → IsPart (λ t. mark_yellow t a)
unfolding mark_yellow
part-mark_yellow a =
    part-by_replica (λ r t. cond (is_unmade r.held a) t (marked t a (marked_yellow r.held.queue a)))
    (λ r. part-choice (is_unmade r.held a) (λ t. t) (λ t. marked t a (marked_yellow r.held.queue a)) part-none (part-marked a (marked_yellow r.held.queue a)))

pub part-place_green : (a : Action) → IsPart (λ t. place_green t a)
unfolding place_green
part-place_green a =
    part-by_replica (λ r t.
    (let placed = with_held t (with_green r.held a) in
    record placed { known = t.known ++ unknown_in r.held.queue a; green = t.green ++ a.id ∷ []; replies = t.replies ++ given_to r.held.owed a (apply r.held.db a) }))
    (λ r. part-both (λ t. with_held t (with_green r.held a))
    (λ t. record t { known = t.known ++ unknown_in r.held.queue a; green = t.green ++ a.id ∷ []; replies = t.replies ++ given_to r.held.owed a (apply r.held.db a) })
    (part-changed (holding (with_green r.held a)))
    (part-both (λ t. record t { known = t.known ++ unknown_in r.held.queue a }) (λ t. record t { green = t.green ++ a.id ∷ []; replies = t.replies ++ given_to r.held.owed a (apply r.held.db a) })
    (part-known (unknown_in r.held.queue a))
    (part-both (λ t. record t { green = t.green ++ a.id ∷ [] }) (λ t. record t { replies = t.replies ++ given_to r.held.owed a (apply r.held.db a) })
    (part-green (a.id ∷ [])) (part-replies (given_to r.held.owed a (apply r.held.db a))))))

pub part-mark_green : (a : Action) → IsPart (λ t. mark_green t a)
unfolding mark_green
part-mark_green a =
    part-by_replica (λ r t. cond (can_be_green r.held a) (place_green t a) t)
    (λ r. part-choice (can_be_green r.held a) (λ t. place_green t a) (λ t. t) (part-place_green a) part-none)

pub part-mark_green_at : (place : ℕ) (a : Action) → IsPart (λ t. mark_green_at t place a)
part-mark_green_at place a =
    part-by_replica (λ r t. cond (place == suc (green_count r.held.queue)) (mark_green t a) t)
    (λ r. part-choice (place == suc (green_count r.held.queue)) (λ t. mark_green t a) (λ t. t) (part-mark_green a) part-none)

-- ---- entering an exchange

pub part-redden : (a : Action) → IsPart (λ t. redden t a)
part-redden a = part-by_replica (λ r t. marked t a (marked_red r.held.queue a)) (λ r. part-marked a (marked_red r.held.queue a))

pub part-forget_own : IsPart forget_own
part-forget_own =
    part-by_replica (λ r t. (let left = with_held t (record r.held { own = [] }) in record left { marked_own = t.marked_own || not (is_nil r.held.own) }))
    (λ r. part-both (λ t. with_held t (record r.held { own = [] })) (λ t. record t { marked_own = t.marked_own || not (is_nil r.held.own) })
    (part-changed (holding (record r.held { own = [] }))) (part-own (not (is_nil r.held.own))))

pub part-own_to_red : IsPart own_to_red
unfolding own_to_red
part-own_to_red =
    part-by_replica (λ r t. fold redden (forget_own t) r.held.own)
    (λ r. part-both forget_own (λ t. fold redden t r.held.own) part-forget_own (part-fold redden r.held.own part-redden))

pub part-send : (m : Replica → Msg) → IsPart (λ t. send t (m t.replica))
part-send m = part-by_replica (λ r t. send t (m r)) (λ r. part-sent (m r ∷ []))

pub part-enter_exchange : (conf : ℕ) (set : List ℕ) → IsPart (λ t. enter_exchange t conf set)
unfolding enter_exchange
part-enter_exchange conf set =
    part-both own_to_red (λ t. tell t conf set) part-own_to_red
    (part-both (λ t. send t (StateMsg (summary_of t.replica.held conf))) (λ t. go_to t (ExchangeStates conf set []))
    (part-send (λ r. StateMsg (summary_of r.held conf))) (part-go_to (ExchangeStates conf set [])))

pub part-end_prim : (conf : ℕ) (set : List ℕ) → IsPart (λ t. trans_prim_on_regular t conf set)
part-end_prim conf set =
    part-both (λ t. with_held t (end_prim t.replica.held)) (λ t. enter_exchange t conf set) (part-held end_prim) (part-enter_exchange conf set)

pub part-no_on_regular : (conf : ℕ) (set : List ℕ) → IsPart (λ t. no_on_regular t conf set)
part-no_on_regular conf set =
    part-both (λ t. with_held t (no_record t.replica.held)) (λ t. enter_exchange t conf set) (part-held no_record) (part-enter_exchange conf set)

-- ---- installation

pub part-yellow_green : IsPart yellow_green
part-yellow_green = part-by_replica (λ r t. fold mark_green t (valid_yellow r.held)) (λ r. part-fold mark_green (valid_yellow r.held) part-mark_green)

pub part-reds_green : IsPart reds_green
part-reds_green = part-by_replica (λ r t. fold mark_green t r.held.queue.reds) (λ r. part-fold mark_green r.held.queue.reds part-mark_green)

pub part-install : IsPart install
unfolding install
part-install =
    part-by_replica (λ r t. (let done = reds_green (yellow_green t) in with_held done (with_prim done.replica.held (prim_after r.held r.held.vulnerable))))
    (λ r. part-both (λ t. reds_green (yellow_green t)) (λ t. with_held t (with_prim t.replica.held (prim_after r.held r.held.vulnerable)))
    (part-both yellow_green reds_green part-yellow_green part-reds_green) (part-held (λ h. with_prim h (prim_after r.held r.held.vulnerable))))

pub part-construct_on_cpc : (conf : ℕ) (heard : List ℕ) (from id of_conf : ℕ) → IsPart (λ t. construct_on_cpc t conf heard from id of_conf)
part-construct_on_cpc conf heard from id of_conf =
    part-by_replica (λ r t. cond (is_announced r.held conf from id of_conf) (construct_with t conf (with_member heard from)) t)
    (λ r. part-choice (is_announced r.held conf from id of_conf) (λ t. construct_with t conf (with_member heard from)) (λ t. t)
    (with_all (with_member heard from)) part-none) where
      with_all : (all : List ℕ) → IsPart (λ t. construct_with t conf all)
      with_all all =
          part-by_replica (λ r t. cond (is_within (attempt_set r.held) all) (go_to (install t) RegPrim) (go_to t (Construct conf all)))
          (λ r. part-choice (is_within (attempt_set r.held) all) (λ t. go_to (install t) RegPrim) (λ t. go_to t (Construct conf all))
          (part-both install (λ t. go_to t RegPrim) part-install (part-go_to RegPrim)) (part-go_to (Construct conf all)))

pub part-no_on_cpc : (conf : ℕ) (heard : List ℕ) (from id of_conf : ℕ) → IsPart (λ t. no_on_cpc t conf heard from id of_conf)
part-no_on_cpc conf heard from id of_conf =
    part-by_replica (λ r t. cond (is_announced r.held conf from id of_conf) (no_with t conf (with_member heard from)) t)
    (λ r. part-choice (is_announced r.held conf from id of_conf) (λ t. no_with t conf (with_member heard from)) (λ t. t)
    (with_all (with_member heard from)) part-none) where
      with_all : (all : List ℕ) → IsPart (λ t. no_with t conf all)
      with_all all =
          part-by_replica (λ r t. cond (is_within (attempt_set r.held) all) (go_to t Un) (go_to t (No conf all)))
          (λ r. part-choice (is_within (attempt_set r.held) all) (λ t. go_to t Un) (λ t. go_to t (No conf all)) (part-go_to Un) (part-go_to (No conf all)))

pub part-un_on_action : (a : Action) → IsPart (λ t. un_on_action t a)
part-un_on_action a =
    part-both (λ t. mark_yellow (install t) a) (λ t. go_to t TransPrim) (part-both install (λ t. mark_yellow t a) part-install (part-mark_yellow a)) (part-go_to TransPrim)

-- ---- exchanges

pub part-send_part : (o : Option Part) → IsPart (λ t. send_part t o)
unfolding send_part
part-send_part None = part-none
part-send_part (Some part) = part-by_replica (λ r t. record t { sent = t.sent ++ messages_in_part r.held.queue part }) (λ r. part-sent (messages_in_part r.held.queue part))

pub part-empty_buffer : IsPart empty_buffer
part-empty_buffer = part-held (λ h. record h { buffered = [] })

pub part-attempt : (conf : ℕ) (summaries : List Summary) → IsPart (λ t. attempt t conf summaries)
unfolding attempt
part-attempt conf summaries =
    part-by_replica (λ r t. send (go_to (with_held t (begin_attempt r.held conf summaries)) (Construct conf [])) (Cpc r.held.id conf))
    (λ r. part-both (λ t. go_to (with_held t (begin_attempt r.held conf summaries)) (Construct conf [])) (λ t. send t (Cpc r.held.id conf))
    (part-both (λ t. with_held t (begin_attempt r.held conf summaries)) (λ t. go_to t (Construct conf []))
    (part-changed (holding (begin_attempt r.held conf summaries))) (part-go_to (Construct conf [])))
    (part-sent (Cpc r.held.id conf ∷ [])))

pub part-decide : (conf : ℕ) (summaries : List Summary) → IsPart (λ t. decide t conf summaries)
unfolding decide
part-decide conf summaries =
    part-choice (decides summaries) (λ t. attempt t conf summaries) (λ t. go_to t (NonPrim true)) (part-attempt conf summaries) (part-go_to (NonPrim true))

pub part-end_plan : (conf : ℕ) (summaries : List Summary) → IsPart (λ t. end_plan t conf summaries)
unfolding end_plan
part-end_plan conf summaries =
    part-by_replica (λ r t. cond (has (gone summaries) r.held.id) (go_to (empty_buffer t) Left) (decide (with_held t (take_over r.held summaries)) conf summaries))
    (λ r. part-choice (has (gone summaries) r.held.id) (λ t. go_to (empty_buffer t) Left) (λ t. decide (with_held t (take_over r.held summaries)) conf summaries)
    (part-both empty_buffer (λ t. go_to t Left) part-empty_buffer (part-go_to Left))
    (part-both (λ t. with_held t (take_over r.held summaries)) (λ t. decide t conf summaries) (part-changed (holding (take_over r.held summaries))) (part-decide conf summaries)))

pub part-go_on : (conf : ℕ) (summaries : List Summary) (accepted : ℕ) → IsPart (λ t. go_on t conf summaries accepted)
unfolding go_on
part-go_on conf summaries accepted =
    part-by_replica (λ r t.
    (let sent = send_part (go_to t (ExchangeActions conf summaries accepted)) (turn_of (plan_of summaries) r.held.id accepted) in
    cond (is_done (progress summaries accepted)) (end_plan sent conf summaries) sent))
    (λ r. part-both (λ t. send_part (go_to t (ExchangeActions conf summaries accepted)) (turn_of (plan_of summaries) r.held.id accepted))
    (λ t. cond (is_done (progress summaries accepted)) (end_plan t conf summaries) t)
    (part-both (λ t. go_to t (ExchangeActions conf summaries accepted)) (λ t. send_part t (turn_of (plan_of summaries) r.held.id accepted))
    (part-go_to (ExchangeActions conf summaries accepted)) (part-send_part (turn_of (plan_of summaries) r.held.id accepted)))
    (part-choice (is_done (progress summaries accepted)) (λ t. end_plan t conf summaries) (λ t. t) (part-end_plan conf summaries) part-none))

pub part-on_summary : (conf : ℕ) (set : List ℕ) (heard : List Summary) (from : ℕ) (s : Summary) → IsPart (λ t. exchange_states_on_summary t conf set heard from s)
part-on_summary conf set heard from s =
    part-choice (is_usable conf heard from s) (λ t. with_heard t conf set (heard ++ s ∷ [])) (λ t. t)
    (part-choice (is_within set (senders (heard ++ s ∷ []))) (λ t. go_on t conf (heard ++ s ∷ []) 0) (λ t. go_to t (ExchangeStates conf set (heard ++ s ∷ [])))
    (part-go_on conf (heard ++ s ∷ []) 0) (part-go_to (ExchangeStates conf set (heard ++ s ∷ []))))
    part-none

pub part-mark_item : (m : Msg) → IsPart (λ t. mark_item t m)
part-mark_item (GreenItem place a) = part-mark_green_at place a
part-mark_item (RedItem a) = part-mark_red a
part-mark_item (ActionMsg a) = part-none
part-mark_item (StateMsg s) = part-none
part-mark_item (Cpc id conf) = part-none

pub part-on_item : (conf : ℕ) (summaries : List Summary) (accepted from : ℕ) (m : Msg) → IsPart (λ t. exchange_actions_on_item t conf summaries accepted from m)
part-on_item conf summaries accepted from m =
    part-choice (is_next summaries accepted from m) (λ t. go_on (take_item t summaries m) conf summaries (suc accepted)) (λ t. t)
    (part-both (λ t. take_item t summaries m) (λ t. go_on t conf summaries (suc accepted))
    (part-by_replica (λ r t. cond (has (gone summaries) r.held.id) t (mark_item t m))
    (λ r. part-choice (has (gone summaries) r.held.id) (λ t. t) (λ t. mark_item t m) part-none (part-mark_item m)))
    (part-go_on conf summaries (suc accepted)))
    part-none

-- ---- deliveries

pub part-on_message : (state : State) (from : ℕ) (m : Msg) → IsPart (on_message state from m)
unfolding on_message
part-on_message RegPrim from (ActionMsg a) = part-mark_green a
part-on_message RegPrim from (StateMsg s) = part-none
part-on_message RegPrim from (GreenItem at a) = part-none
part-on_message RegPrim from (RedItem a) = part-none
part-on_message RegPrim from (Cpc id of_conf) = part-none
part-on_message TransPrim from (ActionMsg a) = part-mark_yellow a
part-on_message TransPrim from (StateMsg s) = part-none
part-on_message TransPrim from (GreenItem at a) = part-none
part-on_message TransPrim from (RedItem a) = part-none
part-on_message TransPrim from (Cpc id of_conf) = part-none
part-on_message (ExchangeStates conf set heard) from (ActionMsg a) = part-none
part-on_message (ExchangeStates conf set heard) from (StateMsg s) = part-on_summary conf set heard from s
part-on_message (ExchangeStates conf set heard) from (GreenItem at a) = part-none
part-on_message (ExchangeStates conf set heard) from (RedItem a) = part-none
part-on_message (ExchangeStates conf set heard) from (Cpc id of_conf) = part-none
part-on_message (ExchangeActions conf summaries accepted) from (ActionMsg a) = part-none
part-on_message (ExchangeActions conf summaries accepted) from (StateMsg s) = part-none
part-on_message (ExchangeActions conf summaries accepted) from (GreenItem at a) = part-on_item conf summaries accepted from (GreenItem at a)
part-on_message (ExchangeActions conf summaries accepted) from (RedItem a) = part-on_item conf summaries accepted from (RedItem a)
part-on_message (ExchangeActions conf summaries accepted) from (Cpc id of_conf) = part-none
part-on_message (Construct conf heard) from (ActionMsg a) = part-none
part-on_message (Construct conf heard) from (StateMsg s) = part-none
part-on_message (Construct conf heard) from (GreenItem at a) = part-none
part-on_message (Construct conf heard) from (RedItem a) = part-none
part-on_message (Construct conf heard) from (Cpc id of_conf) = part-construct_on_cpc conf heard from id of_conf
part-on_message (No conf heard) from (ActionMsg a) = part-none
part-on_message (No conf heard) from (StateMsg s) = part-none
part-on_message (No conf heard) from (GreenItem at a) = part-none
part-on_message (No conf heard) from (RedItem a) = part-none
part-on_message (No conf heard) from (Cpc id of_conf) = part-no_on_cpc conf heard from id of_conf
part-on_message Un from (ActionMsg a) = part-un_on_action a
part-on_message Un from (StateMsg s) = part-none
part-on_message Un from (GreenItem at a) = part-none
part-on_message Un from (RedItem a) = part-none
part-on_message Un from (Cpc id of_conf) = part-none
part-on_message (NonPrim regular) from (ActionMsg a) = part-mark_red a
part-on_message (NonPrim regular) from (StateMsg s) = part-none
part-on_message (NonPrim regular) from (GreenItem at a) = part-none
part-on_message (NonPrim regular) from (RedItem a) = part-none
part-on_message (NonPrim regular) from (Cpc id of_conf) = part-none
part-on_message Left from (ActionMsg a) = part-none
part-on_message Left from (StateMsg s) = part-none
part-on_message Left from (GreenItem at a) = part-none
part-on_message Left from (RedItem a) = part-none
part-on_message Left from (Cpc id of_conf) = part-none

pub part-on_transitional : (state : State) → IsPart (on_transitional state)
unfolding on_transitional
part-on_transitional RegPrim = part-go_to TransPrim
part-on_transitional TransPrim = part-none
part-on_transitional (ExchangeStates conf set heard) = part-go_to (NonPrim false)
part-on_transitional (ExchangeActions conf summaries accepted) = part-go_to (NonPrim false)
part-on_transitional (Construct conf heard) = part-go_to (No conf heard)
part-on_transitional (No conf heard) = part-none
part-on_transitional Un = part-none
part-on_transitional (NonPrim regular) = part-go_to (NonPrim false)
part-on_transitional Left = part-none

pub part-on_regular : (state : State) (conf : ℕ) (set : List ℕ) → IsPart (on_regular state conf set)
unfolding on_regular
part-on_regular RegPrim conf set = part-none
part-on_regular TransPrim conf set = part-end_prim conf set
part-on_regular (ExchangeStates at members heard) conf set = part-none
part-on_regular (ExchangeActions at summaries accepted) conf set = part-none
part-on_regular (Construct at heard) conf set = part-none
part-on_regular (No at heard) conf set = part-no_on_regular conf set
part-on_regular Un conf set = part-enter_exchange conf set
part-on_regular (NonPrim regular) conf set = part-enter_exchange conf set
part-on_regular Left conf set = part-none

-- a delivery is a part of a turn
pub part-take : (d : Delivery Msg) → IsPart (λ t. after_delivery t d)
unfolding after_delivery
part-take (Message place from m) = part-by_replica (λ r. on_message r.state from m) (λ r. part-on_message r.state from m)
part-take (TransitionalIn conf set) = part-by_replica (λ r. on_transitional r.state) (λ r. part-on_transitional r.state)
part-take (RegularIn conf set) = part-by_replica (λ r. on_regular r.state conf set) (λ r. part-on_regular r.state conf set)

pub part-take_all : (list : List (Delivery Msg)) → IsPart (λ t. fold after_delivery t list)
part-take_all list = part-fold after_delivery list part-take

-- ---- requests

pub part-create : (kind : Kind) → IsPart (λ t. create t kind)
unfolding create
part-create kind =
    part-by_replica (λ r t. add_action t (next_action r.held kind))
    (λ r. (let a = next_action r.held kind in
    part-both (λ t. with_held t (with_own t.replica.held a)) (λ t. record t { made = t.made ++ a ∷ []; sent = t.sent ++ ActionMsg a ∷ [] })
    (part-held (λ h. with_own h a))
    (part-both (λ t. record t { made = t.made ++ a ∷ [] }) (λ t. record t { sent = t.sent ++ ActionMsg a ∷ [] }) (part-made (a ∷ [])) (part-sent (ActionMsg a ∷ [])))))

pub part-settle : IsPart settle
unfolding create_kept
part-settle =
    part-by_replica (λ r t. cond (is_creating r.state) (create_kept t) t)
    (λ r. part-choice (is_creating r.state) create_kept (λ t. t)
    (part-by_replica (λ r t. fold create (empty_buffer t) r.held.buffered)
    (λ r. part-both empty_buffer (λ t. fold create t r.held.buffered) part-empty_buffer (part-fold create r.held.buffered part-create)))
    part-none)
