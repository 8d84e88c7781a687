-- What a replica says as it is handed messages and a transitional configuration: items and announcements alone.
use Rattle.std.proofs.Common.{◌≡◌, ℕ, suc, Bool, true, false, cond, List, [], ◌∷◌, ◌++◌, Option, Some, None, fold, filter_map, flat_map, refl, ap, ◌∙◌, append-nil, option_map, ◌-◌}
use Rattle.std.specs.Option.{option_to_list, option_map_or}
use Rattle.std.proofs.lemmas.Bool.{cond_both}
use Rattle.std.proofs.lemmas.List.Elements.{filter_map-append}
use Rattle.std.proofs.lemmas.List.Sums.{fold-append}
use Rattle.cg_base.specs.Sets.{has, is_within, with_member}
use Rattle.cg_action.specs.declared.action.Action.{Action}
use Rattle.cg_queue.specs.Queue.{QueueView, marked_yellow, action_of}
use Rattle.cg_knowledge.specs.declared.summary.Summary.{Summary}
use Rattle.cg_knowledge.specs.Summaries.{gone, senders}
use Rattle.cg_knowledge.specs.Verdict.{decides}
use Rattle.cg_plan.specs.declared.parts.Item.{Item}
use Rattle.cg_plan.specs.declared.parts.Item.TheVariants.{Green, Red}
use Rattle.cg_plan.specs.declared.parts.Part.{Part}
use Rattle.cg_plan.specs.Items.{items_of}
use Rattle.cg_plan.specs.Plan.{plan_of}
use Rattle.cg_plan.specs.Progress.{is_done, turn_of}
use Rattle.cg_wire.specs.declared.message.Msg.{Msg}
use Rattle.cg_wire.specs.declared.message.Msg.TheVariants.{Action as ActionMsg, State as StateMsg, GreenItem, RedItem, Cpc}
use Rattle.cg_group.specs.declared.delivery.Delivery.TheVariants.{Message, Transitional as TransitionalIn}
use Rattle.cg_group.specs.State.{Sent, Configuration, GroupState, regular_in, phase_of, home, delivered_to}
use Rattle.cg_group.specs.Events.{delivery_at, deliveries_at}
use Rattle.cg_base.specs.Lists.{at_place}
use Rattle.cg_client.specs.Replica.{State, RegPrim, TransPrim, ExchangeStates, ExchangeActions, Construct, No, Un, NonPrim, Left, Replica}
use Rattle.cg_client.specs.Turn.{Turn, go_to}
use Rattle.cg_client.specs.Marks.{is_unmade, marked, mark_yellow}
use Rattle.cg_client.specs.Install.{install}
use Rattle.cg_states.specs.ExchangeStates.{is_usable, with_heard, exchange_states_on_summary}
use Rattle.cg_states.specs.ExchangeActions.{message_of, send_part, progress, go_on, is_next, mark_item, take_item, exchange_actions_on_item}
use Rattle.cg_states.specs.PlanEnd.{end_plan}
use Rattle.cg_states.specs.Construct.{attempt_set, is_announced, construct_with, construct_on_cpc}
use Rattle.cg_states.specs.No.{no_with, no_on_cpc}
use Rattle.cg_states.specs.Un.{un_on_action}
use Rattle.cg_states.specs.ReplicaStep.{on_message, on_transitional, after_delivery}
use Rattle.cg_model.specs.Small.{take_next, take_parting}
use Rattle.cg_agree_lemmas.specs.HandSays.{part_messages, cpc_at_end, sent-part, sent-end}
use Rattle.cg_agree_lemmas.specs.HandTalk.{sent-marked, sent-mark_red, sent-mark_green, sent-install, sent-mark_green_at}

pub sent-mark_yellow : (t : Turn) (a : Action) → (mark_yellow t a).sent ≡ t.sent
unfolding mark_yellow
sent-mark_yellow t a =
    let h = t.replica.held in
    cond_both (is_unmade h a) t (marked t a (marked_yellow h.queue a)) (λ u. u.sent ≡ t.sent) (λ y. refl) (λ n. sent-marked t a (marked_yellow h.queue a))

module _ {Y : Type 0} (look : Msg → Option Y) (green : (n : ℕ) (a : Action) → look (GreenItem n a) ≡ None) (red : (a : Action) → look (RedItem a) ≡ None)
    (cpc : (i k : ℕ) → look (Cpc i k) ≡ None) where
  -- a part of a turn says nothing of that kind
  abbrev pub IsSilent : (Turn → Turn) → Type 0
  IsSilent f = (t : Turn) → filter_map look (f t).sent ≡ filter_map look t.sent

  silent-none : IsSilent (λ t. t)
  silent-none t = refl

  silent-both : (f g : Turn → Turn) → IsSilent f → IsSilent g → IsSilent (λ t. g (f t))
  silent-both f g a b t = b (f t) ∙ a t

  silent-choice : (test : Bool) (f g : Turn → Turn) → IsSilent f → IsSilent g → IsSilent (λ t. cond test (f t) (g t))
  silent-choice true f g a b = a
  silent-choice false f g a b = b

  silent-by_replica : (f : Replica → Turn → Turn) → ((r : Replica) → IsSilent (f r)) → IsSilent (λ t. f t.replica t)
  silent-by_replica f each t = each t.replica t

  silent-fold : {A : Type 0} (step : Turn → A → Turn) (list : List A) → ((a : A) → IsSilent (λ t. step t a)) → IsSilent (λ t. fold step t list)
  silent-fold step [] each = silent-none
  silent-fold step (a ∷ list) each = silent-both (λ t. step t a) (λ t. fold step t list) (each a) (silent-fold step list each)

  -- nothing is said at all
  silent-same : (f : Turn → Turn) → ((t : Turn) → (f t).sent ≡ t.sent) → IsSilent f
  silent-same f same t = ap (filter_map look) (same t)

  -- ---- items and announcements

  first-none : (m : Msg) (ms : List Msg) → look m ≡ None → filter_map look (m ∷ ms) ≡ filter_map look ms
  first-none m ms e = rw e refl

  of-item : (q : QueueView) (item : Item) → filter_map look (option_to_list (message_of q item)) ≡ []
  of-item q (Green place) = at (at_place q.greens (place - q.white)) where
    at : (o : Option Action) → filter_map look (option_to_list (option_map (GreenItem place) o)) ≡ []
    at None = refl
    at (Some a) = first-none (GreenItem place a) [] (green place a)
  of-item q (Red id) = at (action_of q id) where
    at : (o : Option Action) → filter_map look (option_to_list (option_map RedItem o)) ≡ []
    at None = refl
    at (Some a) = first-none (RedItem a) [] (red a)

  of-items : (q : QueueView) (items : List Item) → filter_map look (flat_map (λ item. option_to_list (message_of q item)) items) ≡ []
  of-items q [] = refl
  of-items q (item ∷ items) =
      filter_map-append look (option_to_list (message_of q item)) (flat_map (λ item. option_to_list (message_of q item)) items)
      ∙ ap (λ xs. xs ++ filter_map look (flat_map (λ item. option_to_list (message_of q item)) items)) (of-item q item) ∙ of-items q items

  of-part : (q : QueueView) (o : Option Part) → filter_map look (part_messages q o) ≡ []
  of-part q None = refl
  of-part q (Some part) = of-items q (items_of part)

  said-nothing : (xs ys : List Msg) → filter_map look ys ≡ [] → filter_map look (xs ++ ys) ≡ filter_map look xs
  said-nothing xs ys none = filter_map-append look xs ys ∙ ap (λ zs. filter_map look xs ++ zs) none ∙ append-nil (filter_map look xs)

  silent-send_part : (o : Option Part) → IsSilent (λ t. send_part t o)
  silent-send_part o t = ap (filter_map look) (sent-part t o) ∙ said-nothing t.sent (part_messages t.replica.held.queue o) (of-part t.replica.held.queue o)

  of-end : (conf : ℕ) (heard : List Summary) (me : ℕ) → filter_map look (cpc_at_end conf heard me) ≡ []
  of-end conf heard me =
      cond_both (has (gone heard) me) [] (cond (decides heard) (Cpc me conf ∷ []) []) (λ xs. filter_map look xs ≡ []) (λ y. refl)
      (λ n. cond_both (decides heard) (Cpc me conf ∷ []) [] (λ xs. filter_map look xs ≡ []) (λ y. first-none (Cpc me conf) [] (cpc me conf)) (λ f. refl))

  silent-end_plan : (conf : ℕ) (heard : List Summary) → IsSilent (λ t. end_plan t conf heard)
  silent-end_plan conf heard t = ap (filter_map look) (sent-end t conf heard) ∙ said-nothing t.sent (cpc_at_end conf heard t.replica.held.id) (of-end conf heard t.replica.held.id)

  silent-go_on : (conf : ℕ) (heard : List Summary) (n : ℕ) → IsSilent (λ t. go_on t conf heard n)
  unfolding go_on
  silent-go_on conf heard n = silent-by_replica (λ r t.
      (let sent = send_part (go_to t (ExchangeActions conf heard n)) (turn_of (plan_of heard) r.held.id n) in cond (is_done (progress heard n)) (end_plan sent conf heard) sent))
      (λ r. silent-both (λ t. send_part (go_to t (ExchangeActions conf heard n)) (turn_of (plan_of heard) r.held.id n))
      (λ t. cond (is_done (progress heard n)) (end_plan t conf heard) t)
      (λ t. silent-send_part (turn_of (plan_of heard) r.held.id n) (go_to t (ExchangeActions conf heard n)))
      (silent-choice (is_done (progress heard n)) (λ t. end_plan t conf heard) (λ t. t) (silent-end_plan conf heard) silent-none))

  silent-on_summary : (conf : ℕ) (set : List ℕ) (heard : List Summary) (from : ℕ) (s : Summary) → IsSilent (λ t. exchange_states_on_summary t conf set heard from s)
  silent-on_summary conf set heard from s =
      silent-choice (is_usable conf heard from s) (λ t. with_heard t conf set (heard ++ s ∷ [])) (λ t. t)
      (silent-choice (is_within set (senders (heard ++ s ∷ []))) (λ t. go_on t conf (heard ++ s ∷ []) 0) (λ t. go_to t (ExchangeStates conf set (heard ++ s ∷ [])))
      (silent-go_on conf (heard ++ s ∷ []) 0) (λ t. refl))
      silent-none

  silent-mark_item : (m : Msg) → IsSilent (λ t. mark_item t m)
  silent-mark_item (GreenItem place a) = silent-same (λ t. mark_item t (GreenItem place a)) (λ t. sent-mark_green_at t place a)
  silent-mark_item (RedItem a) = silent-same (λ t. mark_item t (RedItem a)) (λ t. sent-mark_red t a)
  silent-mark_item (ActionMsg a) = silent-none
  silent-mark_item (StateMsg s) = silent-none
  silent-mark_item (Cpc id conf) = silent-none

  silent-on_item : (conf : ℕ) (heard : List Summary) (n from : ℕ) (m : Msg) → IsSilent (λ t. exchange_actions_on_item t conf heard n from m)
  silent-on_item conf heard n from m =
      silent-choice (is_next heard n from m) (λ t. go_on (take_item t heard m) conf heard (suc n)) (λ t. t)
      (silent-both (λ t. take_item t heard m) (λ t. go_on t conf heard (suc n))
      (silent-by_replica (λ r t. cond (has (gone heard) r.held.id) t (mark_item t m))
      (λ r. silent-choice (has (gone heard) r.held.id) (λ t. t) (λ t. mark_item t m) silent-none (silent-mark_item m)))
      (silent-go_on conf heard (suc n)))
      silent-none

  silent-install : IsSilent (λ t. go_to (install t) RegPrim)
  silent-install t = ap (filter_map look) (sent-install t)

  silent-construct : (conf : ℕ) (heard : List ℕ) (from id of_conf : ℕ) → IsSilent (λ t. construct_on_cpc t conf heard from id of_conf)
  silent-construct conf heard from id of_conf =
      silent-by_replica (λ r t. cond (is_announced r.held conf from id of_conf) (construct_with t conf (with_member heard from)) t)
      (λ r. silent-choice (is_announced r.held conf from id of_conf) (λ t. construct_with t conf (with_member heard from)) (λ t. t)
      (silent-by_replica (λ r t. cond (is_within (attempt_set r.held) (with_member heard from)) (go_to (install t) RegPrim) (go_to t (Construct conf (with_member heard from))))
      (λ r. silent-choice (is_within (attempt_set r.held) (with_member heard from)) (λ t. go_to (install t) RegPrim) (λ t. go_to t (Construct conf (with_member heard from))) silent-install (λ t. refl)))
      silent-none)

  silent-no : (conf : ℕ) (heard : List ℕ) (from id of_conf : ℕ) → IsSilent (λ t. no_on_cpc t conf heard from id of_conf)
  silent-no conf heard from id of_conf =
      silent-by_replica (λ r t. cond (is_announced r.held conf from id of_conf) (no_with t conf (with_member heard from)) t)
      (λ r. silent-choice (is_announced r.held conf from id of_conf) (λ t. no_with t conf (with_member heard from)) (λ t. t)
      (silent-by_replica (λ r t. cond (is_within (attempt_set r.held) (with_member heard from)) (go_to t Un) (go_to t (No conf (with_member heard from))))
      (λ r. silent-choice (is_within (attempt_set r.held) (with_member heard from)) (λ t. go_to t Un) (λ t. go_to t (No conf (with_member heard from))) (λ t. refl) (λ t. refl)))
      silent-none)

  silent-un : (a : Action) → IsSilent (λ t. un_on_action t a)
  silent-un a t = ap (filter_map look) (sent-mark_yellow (install t) a ∙ sent-install t)

  -- ---- deliveries

  pub silent-on_message : (state : State) (from : ℕ) (m : Msg) → IsSilent (on_message state from m)
  unfolding on_message
  silent-on_message RegPrim from (ActionMsg a) = silent-same (λ t. on_message RegPrim from (ActionMsg a) t) (λ t. sent-mark_green t a)
  silent-on_message RegPrim from (StateMsg s) = silent-none
  silent-on_message RegPrim from (GreenItem at a) = silent-none
  silent-on_message RegPrim from (RedItem a) = silent-none
  silent-on_message RegPrim from (Cpc id of_conf) = silent-none
  silent-on_message TransPrim from (ActionMsg a) = silent-same (λ t. on_message TransPrim from (ActionMsg a) t) (λ t. sent-mark_yellow t a)
  silent-on_message TransPrim from (StateMsg s) = silent-none
  silent-on_message TransPrim from (GreenItem at a) = silent-none
  silent-on_message TransPrim from (RedItem a) = silent-none
  silent-on_message TransPrim from (Cpc id of_conf) = silent-none
  silent-on_message (ExchangeStates conf set heard) from (ActionMsg a) = silent-none
  silent-on_message (ExchangeStates conf set heard) from (StateMsg s) = silent-on_summary conf set heard from s
  silent-on_message (ExchangeStates conf set heard) from (GreenItem at a) = silent-none
  silent-on_message (ExchangeStates conf set heard) from (RedItem a) = silent-none
  silent-on_message (ExchangeStates conf set heard) from (Cpc id of_conf) = silent-none
  silent-on_message (ExchangeActions conf summaries accepted) from (ActionMsg a) = silent-none
  silent-on_message (ExchangeActions conf summaries accepted) from (StateMsg s) = silent-none
  silent-on_message (ExchangeActions conf summaries accepted) from (GreenItem at a) = silent-on_item conf summaries accepted from (GreenItem at a)
  silent-on_message (ExchangeActions conf summaries accepted) from (RedItem a) = silent-on_item conf summaries accepted from (RedItem a)
  silent-on_message (ExchangeActions conf summaries accepted) from (Cpc id of_conf) = silent-none
  silent-on_message (Construct conf heard) from (ActionMsg a) = silent-none
  silent-on_message (Construct conf heard) from (StateMsg s) = silent-none
  silent-on_message (Construct conf heard) from (GreenItem at a) = silent-none
  silent-on_message (Construct conf heard) from (RedItem a) = silent-none
  silent-on_message (Construct conf heard) from (Cpc id of_conf) = silent-construct conf heard from id of_conf
  silent-on_message (No conf heard) from (ActionMsg a) = silent-none
  silent-on_message (No conf heard) from (StateMsg s) = silent-none
  silent-on_message (No conf heard) from (GreenItem at a) = silent-none
  silent-on_message (No conf heard) from (RedItem a) = silent-none
  silent-on_message (No conf heard) from (Cpc id of_conf) = silent-no conf heard from id of_conf
  silent-on_message Un from (ActionMsg a) = silent-un a
  silent-on_message Un from (StateMsg s) = silent-none
  silent-on_message Un from (GreenItem at a) = silent-none
  silent-on_message Un from (RedItem a) = silent-none
  silent-on_message Un from (Cpc id of_conf) = silent-none
  silent-on_message (NonPrim regular) from (ActionMsg a) = silent-same (λ t. on_message (NonPrim regular) from (ActionMsg a) t) (λ t. sent-mark_red t a)
  silent-on_message (NonPrim regular) from (StateMsg s) = silent-none
  silent-on_message (NonPrim regular) from (GreenItem at a) = silent-none
  silent-on_message (NonPrim regular) from (RedItem a) = silent-none
  silent-on_message (NonPrim regular) from (Cpc id of_conf) = silent-none
  silent-on_message Left from (ActionMsg a) = silent-none
  silent-on_message Left from (StateMsg s) = silent-none
  silent-on_message Left from (GreenItem at a) = silent-none
  silent-on_message Left from (RedItem a) = silent-none
  silent-on_message Left from (Cpc id of_conf) = silent-none

  pub silent-on_transitional : (state : State) → IsSilent (on_transitional state)
  unfolding on_transitional
  silent-on_transitional RegPrim t = refl
  silent-on_transitional TransPrim t = refl
  silent-on_transitional (ExchangeStates conf set heard) t = refl
  silent-on_transitional (ExchangeActions conf summaries accepted) t = refl
  silent-on_transitional (Construct conf heard) t = refl
  silent-on_transitional (No conf heard) t = refl
  silent-on_transitional Un t = refl
  silent-on_transitional (NonPrim regular) t = refl
  silent-on_transitional Left t = refl

  pub silent-message : (place from : ℕ) (m : Msg) → IsSilent (λ t. after_delivery t (Message place from m))
  unfolding after_delivery
  silent-message place from m = silent-by_replica (λ r. on_message r.state from m) (λ r. silent-on_message r.state from m)

  silent-at : (C : Configuration Msg) (place : ℕ) → IsSilent (λ t. fold after_delivery t (delivery_at C place))
  unfolding delivery_at
  silent-at C place = at (at_place C.ordered place) where
    at : (o : Option (Sent Msg)) → IsSilent (λ t. fold after_delivery t (option_map_or (λ s. Message place s.from s.message ∷ []) o []))
    at None = silent-none
    at (Some s) = silent-message place s.from s.message

  silent-places : (C : Configuration Msg) (places : List ℕ) → IsSilent (λ t. fold after_delivery t (deliveries_at C places))
  silent-places C [] t = refl
  silent-places C (place ∷ places) t =
      ap (λ (u : Turn). filter_map look u.sent) (fold-append after_delivery t (delivery_at C place) (deliveries_at C places))
      ∙ silent-places C places (fold after_delivery t (delivery_at C place)) ∙ silent-at C place t

  -- a place that is handed, and a parting
  pub silent-next : (g : GroupState Msg) (p : ℕ) → IsSilent (take_next g p)
  silent-next g p = silent-at (home g p) (suc (delivered_to g p))

  pub silent-parting : (g : GroupState Msg) (p : ℕ) (set places : List ℕ) → IsSilent (take_parting g p set places)
  unfolding after_delivery
  silent-parting g p set places t =
      silent-places (home g p) places (after_delivery t (TransitionalIn (regular_in (phase_of g p)) set)) ∙ silent-on_transitional t.replica.state t
