-- Each row of the table of states keeps a turn calm, and so does the step of a replica.
use Rattle.std.proofs.Common.{◌≡◌, ℕ, suc, true, false, List, [], ◌∷◌, ◌++◌, fold, Option, Some, None, sym, ap, subst, flat_map, zero, ◌-◌}
use Rattle.std.specs.Option.{option_to_list, option_map}
use Rattle.std.proofs.lemmas.Bool.{cond-false}
use Rattle.cg_base.specs.Lists.{at_place, Each}
use Rattle.cg_base.specs.Sets.{has, is_within, with_member}
use Rattle.cg_action.specs.declared.action.Action.{Action}
use Rattle.cg_queue.specs.Queue.{QueueView, action_of}
use Rattle.cg_base.specs.Ids.{same_id}
use Rattle.cg_knowledge.specs.declared.summary.Summary.{Summary}
use Rattle.cg_knowledge.specs.Summaries.{gone, senders}
use Rattle.cg_knowledge.specs.Verdict.{decides}
use Rattle.cg_plan.specs.declared.parts.Item.{Item}
use Rattle.cg_plan.specs.declared.parts.Item.TheVariants.{Green, Red}
use Rattle.cg_plan.specs.declared.parts.Part.{Part}
use Rattle.cg_plan.specs.Items.{items_of}
use Rattle.cg_plan.specs.Plan.{plan_of}
use Rattle.cg_plan.specs.Progress.{is_done, turn_of}
use Rattle.cg_wire.specs.declared.message.Msg.{Msg}
use Rattle.cg_wire.specs.declared.message.Msg.TheVariants.{Action as ActionMsg, State as StateMsg, GreenItem, RedItem, Cpc}
use Rattle.cg_group.specs.declared.delivery.Delivery.{Delivery}
use Rattle.cg_group.specs.declared.delivery.Delivery.TheVariants.{Message, Transitional as TransitionalIn, Regular as RegularIn}
use Rattle.cg_base.specs.EachLaws.{Each-append}
use Rattle.cg_client.specs.Replica.{State, RegPrim, TransPrim, ExchangeStates, ExchangeActions, Construct, No, Un, NonPrim, Left, Replica}
use Rattle.cg_client.specs.Turn.{Turn, begin, with_held, go_to}
use Rattle.cg_client.specs.Requests.{empty_buffer}
use Rattle.cg_client.specs.Summary.{own_to_red, summary_of, enter_exchange}
use Rattle.cg_client.specs.Install.{install}
use Rattle.cg_client.specs.Marks.{mark_yellow}
use Rattle.cg_states.specs.TransPrim.{end_prim}
use Rattle.cg_states.specs.PlanEnd.{take_over, attempt, decide, end_plan}
use Rattle.cg_states.specs.ExchangeActions.{message_of, messages_in_part, mark_item, take_item, send_part, progress, go_on, is_next, exchange_actions_on_item}
use Rattle.cg_states.specs.ExchangeStates.{is_usable, with_heard, exchange_states_on_summary}
use Rattle.cg_states.specs.Construct.{attempt_set, is_announced, construct_with, construct_on_cpc}
use Rattle.cg_states.specs.No.{no_record, no_with, no_on_cpc}
use Rattle.cg_states.specs.Un.{un_on_action}
use Rattle.cg_states.specs.ReplicaStep.{on_message, on_transitional, on_regular, after_delivery, Input, Deliveries, Asks, replica_step}
use Rattle.cg_laws.proofs.Calm.{CalmKind, Calm, CalmQueue, CalmHeld, TellsOfNone, CalmState, CalmMessage, CalmDelivery, CalmTurn, gone-none}
use Rattle.cg_laws.proofs.CalmMarks.{found-calm, choice-calm, mark_red-calm, mark_yellow-calm, mark_green-calm, mark_green_at-calm, install-calm, own_to_red-calm, settle-calm, request-calm}

-- ---- items

some-calm : (make : Action → Msg) → ((a : Action) → Calm a → CalmMessage (make a)) → (o : Option Action) → Each Calm (option_to_list o) → Each CalmMessage (option_to_list (option_map make o))
some-calm make fine None each = tt
some-calm make fine (Some a) each = (fine a each.0, tt)

at-calm : (actions : List Action) (n : ℕ) → Each Calm actions → Each Calm (option_to_list (at_place actions n))
at-calm actions zero each = tt
at-calm [] (suc n) each = tt
at-calm (a ∷ actions) (suc zero) each = (each.0, tt)
at-calm (a ∷ actions) (suc (suc n)) each = at-calm actions (suc n) each.1

item-calm : (q : QueueView) (item : Item) → CalmQueue q → Each CalmMessage (option_to_list (message_of q item))
item-calm q (Green place) calm = some-calm (GreenItem place) (λ a fine. fine) (at_place q.greens (place - q.white)) (at-calm q.greens (place - q.white) calm.0)
item-calm q (Red id) calm = some-calm RedItem (λ a fine. fine) (action_of q id) (found-calm (λ a. same_id a.id id) (q.greens ++ q.reds) (Each-append Calm q.greens q.reds calm.0 calm.1))

items-calm : (q : QueueView) (items : List Item) → CalmQueue q → Each CalmMessage (flat_map (λ item. option_to_list (message_of q item)) items)
items-calm q [] calm = tt
items-calm q (item ∷ items) calm =
    Each-append CalmMessage (option_to_list (message_of q item)) (flat_map (λ item. option_to_list (message_of q item)) items) (item-calm q item calm) (items-calm q items calm)

-- what comes to a replica
abbrev pub CalmInput : Input → Type 0
CalmInput (Deliveries list) = Each CalmDelivery list
CalmInput (Asks kind) = CalmKind kind

module _ (p : ℕ) where
  send_part-calm : (t : Turn) (part : Option Part) → CalmTurn p t → CalmTurn p (send_part t part)
  unfolding send_part
  send_part-calm t None calm = calm
  send_part-calm t (Some part) calm =
      let q = t.replica.held.queue in
      (calm.0, calm.1, Each-append CalmMessage t.sent (messages_in_part q part) calm.2 (items-calm q (items_of part) calm.0.1))

  -- the replica goes to another state
  goes : (t : Turn) (state : State) → CalmState state → CalmTurn p t → CalmTurn p (go_to t state)
  goes t state fine calm = (calm.0, fine, calm.2)

  -- ---- the end of a plan

  attempt-calm : (t : Turn) (conf : ℕ) (heard : List Summary) → CalmTurn p t → CalmTurn p (attempt t conf heard)
  unfolding attempt
  attempt-calm t conf heard calm = (calm.0, tt, Each-append CalmMessage t.sent (Cpc t.replica.held.id conf ∷ []) calm.2 (tt, tt))

  decide-calm : (t : Turn) (conf : ℕ) (heard : List Summary) → CalmTurn p t → CalmTurn p (decide t conf heard)
  unfolding decide
  decide-calm t conf heard calm =
      choice-calm p (decides heard) (attempt t conf heard) (go_to t (NonPrim true)) (attempt-calm t conf heard calm) (goes t (NonPrim true) tt calm)

  take_over-calm : (t : Turn) (heard : List Summary) → CalmTurn p t → CalmTurn p (with_held t (take_over t.replica.held heard))
  unfolding take_over
  take_over-calm t heard calm = calm

  -- nobody is gone
  end_plan-calm : (t : Turn) (conf : ℕ) (heard : List Summary) → Each TellsOfNone heard → CalmTurn p t → CalmTurn p (end_plan t conf heard)
  unfolding end_plan
  end_plan-calm t conf heard none calm =
      let h = t.replica.held in
      let stays : has (gone heard) h.id ≡ false = ap (λ set. has set h.id) (gone-none heard none) in
      let on = decide (with_held t (take_over h heard)) conf heard in
      subst (CalmTurn p) (sym (cond-false (has (gone heard) h.id) (go_to (empty_buffer t) Left) on stays))
      (decide-calm (with_held t (take_over h heard)) conf heard (take_over-calm t heard calm))

  go_on-calm : (t : Turn) (conf : ℕ) (heard : List Summary) (accepted : ℕ) → Each TellsOfNone heard → CalmTurn p t → CalmTurn p (go_on t conf heard accepted)
  unfolding go_on
  go_on-calm t conf heard accepted none calm =
      let u = go_to t (ExchangeActions conf heard accepted) in
      let part = turn_of (plan_of heard) t.replica.held.id accepted in
      let sent = send_part u part in
      let is = send_part-calm u part (goes t (ExchangeActions conf heard accepted) none calm) in
      choice-calm p (is_done (progress heard accepted)) (end_plan sent conf heard) sent (end_plan-calm sent conf heard none is) is

  -- ---- summaries and items

  mark_item-calm : (t : Turn) (m : Msg) → CalmMessage m → CalmTurn p t → CalmTurn p (mark_item t m)
  mark_item-calm t (GreenItem place a) fine calm = mark_green_at-calm p t place a fine calm
  mark_item-calm t (RedItem a) fine calm = mark_red-calm p t a fine calm
  mark_item-calm t (ActionMsg a) fine calm = calm
  mark_item-calm t (StateMsg s) fine calm = calm
  mark_item-calm t (Cpc id conf) fine calm = calm

  on_item-calm : (t : Turn) (conf : ℕ) (heard : List Summary) (accepted from : ℕ) (m : Msg) → Each TellsOfNone heard → CalmMessage m → CalmTurn p t →
      CalmTurn p (exchange_actions_on_item t conf heard accepted from m)
  on_item-calm t conf heard accepted from m none fine calm =
      let u = take_item t heard m in
      let is = choice-calm p (has (gone heard) t.replica.held.id) t (mark_item t m) calm (mark_item-calm t m fine calm) in
      choice-calm p (is_next heard accepted from m) (go_on u conf heard (suc accepted)) t (go_on-calm u conf heard (suc accepted) none is) calm

  on_summary-calm : (t : Turn) (conf : ℕ) (set : List ℕ) (heard : List Summary) (from : ℕ) (s : Summary) → Each TellsOfNone heard → TellsOfNone s → CalmTurn p t →
      CalmTurn p (exchange_states_on_summary t conf set heard from s)
  on_summary-calm t conf set heard from s none fine calm =
      let all = heard ++ s ∷ [] in
      let still = Each-append TellsOfNone heard (s ∷ []) none (fine, tt) in
      choice-calm p (is_usable conf heard from s) (with_heard t conf set all) t
      (choice-calm p (is_within set (senders all)) (go_on t conf all 0) (go_to t (ExchangeStates conf set all)) (go_on-calm t conf all 0 still calm) (goes t (ExchangeStates conf set all) still calm))
      calm

  -- ---- announcements

  construct-calm : (t : Turn) (conf : ℕ) (heard : List ℕ) (from id at : ℕ) → CalmTurn p t → CalmTurn p (construct_on_cpc t conf heard from id at)
  construct-calm t conf heard from id at calm =
      let more = with_member heard from in
      choice-calm p (is_announced t.replica.held conf from id at) (construct_with t conf more) t
      (choice-calm p (is_within (attempt_set t.replica.held) more) (go_to (install t) RegPrim) (go_to t (Construct conf more))
      (goes (install t) RegPrim tt (install-calm p t calm)) (goes t (Construct conf more) tt calm))
      calm

  no-calm : (t : Turn) (conf : ℕ) (heard : List ℕ) (from id at : ℕ) → CalmTurn p t → CalmTurn p (no_on_cpc t conf heard from id at)
  no-calm t conf heard from id at calm =
      let more = with_member heard from in
      choice-calm p (is_announced t.replica.held conf from id at) (no_with t conf more) t
      (choice-calm p (is_within (attempt_set t.replica.held) more) (go_to t Un) (go_to t (No conf more)) (goes t Un tt calm) (goes t (No conf more) tt calm))
      calm

  un-calm : (t : Turn) (a : Action) → Calm a → CalmTurn p t → CalmTurn p (un_on_action t a)
  un-calm t a fine calm = goes (mark_yellow (install t) a) TransPrim tt (mark_yellow-calm p (install t) a fine (install-calm p t calm))

  -- ---- configurations

  enter-calm : (t : Turn) (conf : ℕ) (set : List ℕ) → CalmTurn p t → CalmTurn p (enter_exchange t conf set)
  unfolding enter_exchange summary_of
  enter-calm t conf set calm =
      let u = own_to_red t in
      let is = own_to_red-calm p t calm in
      (is.0, tt, Each-append CalmMessage u.sent (StateMsg (summary_of u.replica.held conf) ∷ []) is.2 (is.0.4, tt))

  -- ---- the table

  on_message-calm : (state : State) (from : ℕ) (m : Msg) (t : Turn) → CalmState state → CalmMessage m → CalmTurn p t → CalmTurn p (on_message state from m t)
  unfolding on_message
  on_message-calm RegPrim from (ActionMsg a) t is fine calm = mark_green-calm p t a fine calm
  on_message-calm TransPrim from (ActionMsg a) t is fine calm = mark_yellow-calm p t a fine calm
  on_message-calm (ExchangeStates conf set heard) from (StateMsg s) t is fine calm = on_summary-calm t conf set heard from s is fine calm
  on_message-calm (ExchangeActions conf heard accepted) from (GreenItem at a) t is fine calm = on_item-calm t conf heard accepted from (GreenItem at a) is fine calm
  on_message-calm (ExchangeActions conf heard accepted) from (RedItem a) t is fine calm = on_item-calm t conf heard accepted from (RedItem a) is fine calm
  on_message-calm (Construct conf heard) from (Cpc id at) t is fine calm = construct-calm t conf heard from id at calm
  on_message-calm (No conf heard) from (Cpc id at) t is fine calm = no-calm t conf heard from id at calm
  on_message-calm Un from (ActionMsg a) t is fine calm = un-calm t a fine calm
  on_message-calm (NonPrim regular) from (ActionMsg a) t is fine calm = mark_red-calm p t a fine calm
  on_message-calm RegPrim from (StateMsg s) t is fine calm = calm
  on_message-calm RegPrim from (GreenItem at a) t is fine calm = calm
  on_message-calm RegPrim from (RedItem a) t is fine calm = calm
  on_message-calm RegPrim from (Cpc id at) t is fine calm = calm
  on_message-calm TransPrim from (StateMsg s) t is fine calm = calm
  on_message-calm TransPrim from (GreenItem at a) t is fine calm = calm
  on_message-calm TransPrim from (RedItem a) t is fine calm = calm
  on_message-calm TransPrim from (Cpc id at) t is fine calm = calm
  on_message-calm (ExchangeStates conf set heard) from (ActionMsg a) t is fine calm = calm
  on_message-calm (ExchangeStates conf set heard) from (GreenItem at a) t is fine calm = calm
  on_message-calm (ExchangeStates conf set heard) from (RedItem a) t is fine calm = calm
  on_message-calm (ExchangeStates conf set heard) from (Cpc id at) t is fine calm = calm
  on_message-calm (ExchangeActions conf heard accepted) from (ActionMsg a) t is fine calm = calm
  on_message-calm (ExchangeActions conf heard accepted) from (StateMsg s) t is fine calm = calm
  on_message-calm (ExchangeActions conf heard accepted) from (Cpc id at) t is fine calm = calm
  on_message-calm (Construct conf heard) from (ActionMsg a) t is fine calm = calm
  on_message-calm (Construct conf heard) from (StateMsg s) t is fine calm = calm
  on_message-calm (Construct conf heard) from (GreenItem at a) t is fine calm = calm
  on_message-calm (Construct conf heard) from (RedItem a) t is fine calm = calm
  on_message-calm (No conf heard) from (ActionMsg a) t is fine calm = calm
  on_message-calm (No conf heard) from (StateMsg s) t is fine calm = calm
  on_message-calm (No conf heard) from (GreenItem at a) t is fine calm = calm
  on_message-calm (No conf heard) from (RedItem a) t is fine calm = calm
  on_message-calm Un from (StateMsg s) t is fine calm = calm
  on_message-calm Un from (GreenItem at a) t is fine calm = calm
  on_message-calm Un from (RedItem a) t is fine calm = calm
  on_message-calm Un from (Cpc id at) t is fine calm = calm
  on_message-calm (NonPrim regular) from (StateMsg s) t is fine calm = calm
  on_message-calm (NonPrim regular) from (GreenItem at a) t is fine calm = calm
  on_message-calm (NonPrim regular) from (RedItem a) t is fine calm = calm
  on_message-calm (NonPrim regular) from (Cpc id at) t is fine calm = calm
  on_message-calm Left from (ActionMsg a) t is fine calm = calm
  on_message-calm Left from (StateMsg s) t is fine calm = calm
  on_message-calm Left from (GreenItem at a) t is fine calm = calm
  on_message-calm Left from (RedItem a) t is fine calm = calm
  on_message-calm Left from (Cpc id at) t is fine calm = calm

  on_transitional-calm : (state : State) (t : Turn) → CalmTurn p t → CalmTurn p (on_transitional state t)
  unfolding on_transitional
  on_transitional-calm RegPrim t calm = goes t TransPrim tt calm
  on_transitional-calm TransPrim t calm = calm
  on_transitional-calm (ExchangeStates conf set heard) t calm = goes t (NonPrim false) tt calm
  on_transitional-calm (ExchangeActions conf heard accepted) t calm = goes t (NonPrim false) tt calm
  on_transitional-calm (Construct conf heard) t calm = goes t (No conf heard) tt calm
  on_transitional-calm (No conf heard) t calm = calm
  on_transitional-calm Un t calm = calm
  on_transitional-calm (NonPrim regular) t calm = goes t (NonPrim false) tt calm
  on_transitional-calm Left t calm = calm

  on_regular-calm : (state : State) (conf : ℕ) (set : List ℕ) (t : Turn) → CalmTurn p t → CalmTurn p (on_regular state conf set t)
  unfolding on_regular
  on_regular-calm RegPrim conf set t calm = calm
  on_regular-calm TransPrim conf set t calm = enter-calm (with_held t (end_prim t.replica.held)) conf set calm
  on_regular-calm (ExchangeStates at members heard) conf set t calm = calm
  on_regular-calm (ExchangeActions at heard accepted) conf set t calm = calm
  on_regular-calm (Construct at heard) conf set t calm = calm
  on_regular-calm (No at heard) conf set t calm = enter-calm (with_held t (no_record t.replica.held)) conf set calm
  on_regular-calm Un conf set t calm = enter-calm t conf set calm
  on_regular-calm (NonPrim regular) conf set t calm = enter-calm t conf set calm
  on_regular-calm Left conf set t calm = calm

  take-calm : (t : Turn) (d : Delivery Msg) → CalmDelivery d → CalmTurn p t → CalmTurn p (after_delivery t d)
  unfolding after_delivery
  take-calm t (Message place from m) fine calm = on_message-calm t.replica.state from m t calm.1 fine calm
  take-calm t (TransitionalIn conf set) fine calm = on_transitional-calm t.replica.state t calm
  take-calm t (RegularIn conf set) fine calm = on_regular-calm t.replica.state conf set t calm

  taken-calm : (t : Turn) (list : List (Delivery Msg)) → Each CalmDelivery list → CalmTurn p t → CalmTurn p (fold after_delivery t list)
  taken-calm t [] each calm = calm
  taken-calm t (d ∷ list) each calm = taken-calm (after_delivery t d) list each.1 (take-calm t d each.0 calm)

  -- ---- a step

  pub step-calm : (r : Replica) (input : Input) → CalmHeld p r.held → CalmState r.state → CalmInput input → CalmTurn p (replica_step r input)
  unfolding replica_step
  step-calm r (Deliveries list) held state fine = settle-calm p (fold after_delivery (begin r) list) (taken-calm (begin r) list fine (held, state, tt))
  step-calm r (Asks kind) held state fine = request-calm p (begin r) kind fine (held, state, tt)
