-- A replica that is handed no green item beyond a place has no more greens than that, or comes to be in a primary component.
use Rattle.std.proofs.Common.{◌⊎◌, ◌≡◌, ℕ, suc, ◌+◌, ◌≤◌, Bool, true, false, cond, List, [], ◌∷◌, ◌++◌, fold, length, refl, sym, ap, ap₂, ◌∙◌, subst, inl, inr, arith, eqb-true}
use Rattle.std.specs.Prelude.{◌==◌}
use Rattle.std.proofs.lemmas.Bool.{cond_both}
use Rattle.std.proofs.lemmas.List.{length-append}
use Rattle.cg_base.specs.Lists.{Each}
use Rattle.cg_base.specs.Sets.{has, is_within, with_member}
use Rattle.cg_action.specs.declared.action.Action.{Action}
use Rattle.cg_action.specs.declared.action.Kind.{Kind}
use Rattle.cg_queue.specs.Queue.{green_count}
use Rattle.cg_knowledge.specs.declared.summary.Summary.{Summary}
use Rattle.cg_knowledge.specs.Summaries.{gone, senders}
use Rattle.cg_knowledge.specs.Verdict.{decides}
use Rattle.cg_plan.specs.Plan.{plan_of}
use Rattle.cg_plan.specs.Progress.{is_done, turn_of}
use Rattle.cg_wire.specs.declared.message.Msg.{Msg}
use Rattle.cg_wire.specs.declared.message.Msg.TheVariants.{Action as ActionMsg, State as StateMsg, GreenItem, RedItem, Cpc}
use Rattle.cg_group.specs.declared.delivery.Delivery.{Delivery}
use Rattle.cg_group.specs.declared.delivery.Delivery.TheVariants.{Message, Transitional as TransitionalIn, Regular as RegularIn}
use Rattle.cg_client.specs.Replica.{Held, State, RegPrim, TransPrim, ExchangeStates, ExchangeActions, Construct, No, Un, NonPrim, Left, Replica}
use Rattle.cg_client.specs.Turn.{Turn, begin, with_held, go_to}
use Rattle.cg_client.specs.Marks.{is_unmade, can_be_green, mark_red, mark_yellow, place_green, mark_green}
use Rattle.cg_client.specs.Summary.{redden, own_to_red, enter_exchange}
use Rattle.cg_client.specs.Install.{install}
use Rattle.cg_client.specs.Requests.{is_creating, create, create_kept, empty_buffer, settle}
use Rattle.cg_states.specs.TransPrim.{end_prim}
use Rattle.cg_states.specs.PlanEnd.{take_over, attempt, decide, end_plan}
use Rattle.cg_states.specs.ExchangeActions.{send_part, progress, go_on, is_next, mark_item, take_item}
use Rattle.cg_states.specs.ExchangeStates.{is_usable, with_heard}
use Rattle.cg_states.specs.Construct.{attempt_set, is_announced, construct_with}
use Rattle.cg_states.specs.No.{no_record, no_with}
use Rattle.cg_states.specs.ReplicaStep.{Deliveries, replica_step, on_message, on_transitional, on_regular, after_delivery}
use Rattle.cg_model.specs.FactsReplica.{is_primary}
use Rattle.cg_agree_lemmas.specs.GreenMembers.{SameMembers, redden-same, own-same, creates-same}
use Rattle.cg_agree.proofs.ItemsReached.{IsItemWithin}
use Rattle.cg_agree_lemmas.specs.PartingNo.{state-yellow}
use Rattle.cg_agree_lemmas.specs.ExchangeHands.{sent-replica}

abbrev pub count : Turn → ℕ
count t = green_count t.replica.held.queue

-- no further than that, or in a primary component
abbrev pub IsStill : ℕ → Turn → Type 0
IsStill n t = (count t ≤ n) ⊎ (is_primary t.replica.state ≡ true)

same-count : (old new : Held) → SameMembers old new → green_count new.queue ≡ green_count old.queue
same-count old new same = ap₂ (λ n list. n + length list) same.white same.greens

-- ---- marks

green-state : (t : Turn) (a : Action) → (mark_green t a).replica.state ≡ t.replica.state
unfolding mark_green place_green
green-state t a = cond_both (can_be_green t.replica.held a) (place_green t a) t (λ u. u.replica.state ≡ t.replica.state) (λ y. refl) (λ n. refl)

green-count : (t : Turn) (a : Action) → count (mark_green t a) ≤ suc (count t)
unfolding mark_green place_green
green-count t a = cond_both (can_be_green t.replica.held a) (place_green t a) t (λ u. count u ≤ suc (count t))
    (λ y. (let more = length-append t.replica.held.queue.greens (a ∷ []) in omega arith)) (λ n. omega arith)

red-count : (t : Turn) (a : Action) → count (mark_red t a) ≡ count t
unfolding mark_red
red-count t a = cond_both (is_unmade t.replica.held a) t (redden t a) (λ u. count u ≡ count t) (λ y. refl) (λ n. same-count t.replica.held (redden t a).replica.held (redden-same t a))

-- ---- an exchange

decide-count : (t : Turn) (conf : ℕ) (summaries : List Summary) → count (decide t conf summaries) ≡ count t
unfolding decide attempt
decide-count t conf summaries = cond_both (decides summaries) (attempt t conf summaries) (go_to t (NonPrim true)) (λ u. count u ≡ count t) (λ y. refl) (λ n. refl)

end-count : (t : Turn) (conf : ℕ) (summaries : List Summary) → count (end_plan t conf summaries) ≡ count t
unfolding end_plan take_over
end-count t conf summaries =
    let h = t.replica.held in
    cond_both (has (gone summaries) h.id) (go_to (empty_buffer t) Left) (decide (with_held t (take_over h summaries)) conf summaries) (λ u. count u ≡ count t)
    (λ y. refl) (λ n. decide-count (with_held t (take_over h summaries)) conf summaries)

go_on-count : (t : Turn) (conf : ℕ) (summaries : List Summary) (accepted : ℕ) → count (go_on t conf summaries accepted) ≡ count t
unfolding go_on
go_on-count t conf summaries accepted =
    let o = turn_of (plan_of summaries) t.replica.held.id accepted in
    let there = go_to t (ExchangeActions conf summaries accepted) in
    let sent = send_part there o in
    let same : count sent ≡ count t = ap (λ (r : Replica). green_count r.held.queue) (sent-replica there o) in
    cond_both (is_done (progress summaries accepted)) (end_plan sent conf summaries) sent (λ u. count u ≡ count t) (λ y. end-count sent conf summaries ∙ same) (λ n. same)

item-count : (n : ℕ) (t : Turn) (summaries : List Summary) (m : Msg) → IsItemWithin n m → count t ≤ n → count (take_item t summaries m) ≤ n
item-count n t summaries m within le = cond_both (has (gone summaries) t.replica.held.id) t (mark_item t m) (λ u. count u ≤ n) (λ y. le) (λ f. at m within) where
  at : (m : Msg) → IsItemWithin n m → count (mark_item t m) ≤ n
  at (GreenItem place a) within =
      cond_both (place == suc (count t)) (mark_green t a) t (λ u. count u ≤ n)
      (λ y. (let more = green-count t a in let next : place ≡ suc (count t) = eqb-true place (suc (count t)) y in let far : place ≤ n = within in omega arith)) (λ f. le)
  at (RedItem a) within = subst (λ k. k ≤ n) (sym (red-count t a)) le
  at (StateMsg s) within = le
  at (Cpc id conf) within = le
  at (ActionMsg a) within = le

-- ---- each row

module _ (n : ℕ) (t : Turn) (still : IsStill n t) where
  -- outside of a primary component
  outside : (state : State) → t.replica.state ≡ state → is_primary state ≡ false → count t ≤ n
  outside state is out = elim still [ inl le ↦ le | inr inside ↦ absurd (let clash : true ≡ false = sym inside ∙ ap is_primary is ∙ out in cc) ]

  inside : (state : State) → t.replica.state ≡ state → is_primary state ≡ true → (u : Turn) → u.replica.state ≡ t.replica.state → IsStill n u
  inside state is out u same = inr (ap is_primary (same ∙ is) ∙ out)

  as-before : (u : Turn) → count u ≡ count t → count t ≤ n → IsStill n u
  as-before u same le = inl (omega arith)

  exchange-still : (conf : ℕ) (set : List ℕ) (heard : List Summary) (from : ℕ) (m : Msg) → count t ≤ n → IsStill n (on_message (ExchangeStates conf set heard) from m t)
  unfolding on_message
  exchange-still conf set heard from (StateMsg s) le =
      let more = heard ++ s ∷ [] in
      cond_both (is_usable conf heard from s) (with_heard t conf set more) t (IsStill n)
      (λ y. cond_both (is_within set (senders more)) (go_on t conf more 0) (go_to t (ExchangeStates conf set more)) (IsStill n) (λ z. as-before (go_on t conf more 0) (go_on-count t conf more 0) le) (λ z. inl le))
      (λ f. inl le)
  exchange-still conf set heard from (GreenItem place a) le = inl le
  exchange-still conf set heard from (RedItem a) le = inl le
  exchange-still conf set heard from (Cpc id at) le = inl le
  exchange-still conf set heard from (ActionMsg a) le = inl le

  item-still : (conf : ℕ) (summaries : List Summary) (accepted from : ℕ) (m : Msg) → IsItemWithin n m → count t ≤ n →
      IsStill n (cond (is_next summaries accepted from m) (go_on (take_item t summaries m) conf summaries (suc accepted)) t)
  item-still conf summaries accepted from m within le =
      let u = take_item t summaries m in
      cond_both (is_next summaries accepted from m) (go_on u conf summaries (suc accepted)) t (IsStill n)
      (λ y. inl (let same = go_on-count u conf summaries (suc accepted) in let low = item-count n t summaries m within le in omega arith)) (λ f. inl le)

  actions-still : (conf : ℕ) (summaries : List Summary) (accepted from : ℕ) (m : Msg) → IsItemWithin n m → count t ≤ n → IsStill n (on_message (ExchangeActions conf summaries accepted) from m t)
  unfolding on_message
  actions-still conf summaries accepted from (GreenItem place a) within le = item-still conf summaries accepted from (GreenItem place a) within le
  actions-still conf summaries accepted from (RedItem a) within le = item-still conf summaries accepted from (RedItem a) within le
  actions-still conf summaries accepted from (StateMsg s) within le = inl le
  actions-still conf summaries accepted from (Cpc id at) within le = inl le
  actions-still conf summaries accepted from (ActionMsg a) within le = inl le

  construct-still : (conf : ℕ) (heard : List ℕ) (from : ℕ) (m : Msg) → count t ≤ n → IsStill n (on_message (Construct conf heard) from m t)
  unfolding on_message
  construct-still conf heard from (Cpc id at) le =
      let more = with_member heard from in
      cond_both (is_announced t.replica.held conf from id at) (construct_with t conf more) t (IsStill n)
      (λ y. cond_both (is_within (attempt_set t.replica.held) more) (go_to (install t) RegPrim) (go_to t (Construct conf more)) (IsStill n) (λ z. inr refl) (λ z. inl le))
      (λ f. inl le)
  construct-still conf heard from (StateMsg s) le = inl le
  construct-still conf heard from (GreenItem place a) le = inl le
  construct-still conf heard from (RedItem a) le = inl le
  construct-still conf heard from (ActionMsg a) le = inl le

  no-still : (conf : ℕ) (heard : List ℕ) (from : ℕ) (m : Msg) → count t ≤ n → IsStill n (on_message (No conf heard) from m t)
  unfolding on_message
  no-still conf heard from (Cpc id at) le =
      let more = with_member heard from in
      cond_both (is_announced t.replica.held conf from id at) (no_with t conf more) t (IsStill n)
      (λ y. cond_both (is_within (attempt_set t.replica.held) more) (go_to t Un) (go_to t (No conf more)) (IsStill n) (λ z. inl le) (λ z. inl le))
      (λ f. inl le)
  no-still conf heard from (StateMsg s) le = inl le
  no-still conf heard from (GreenItem place a) le = inl le
  no-still conf heard from (RedItem a) le = inl le
  no-still conf heard from (ActionMsg a) le = inl le

  others-still : (state : State) (from : ℕ) (m : Msg) → t.replica.state ≡ state → IsItemWithin n m → IsStill n (on_message state from m t)
  unfolding on_message
  others-still RegPrim from (ActionMsg a) is within = inside RegPrim is refl (mark_green t a) (green-state t a)
  others-still RegPrim from (StateMsg s) is within = still
  others-still RegPrim from (GreenItem place a) is within = still
  others-still RegPrim from (RedItem a) is within = still
  others-still RegPrim from (Cpc id at) is within = still
  others-still TransPrim from (ActionMsg a) is within = inside TransPrim is refl (mark_yellow t a) (state-yellow t a)
  others-still TransPrim from (StateMsg s) is within = still
  others-still TransPrim from (GreenItem place a) is within = still
  others-still TransPrim from (RedItem a) is within = still
  others-still TransPrim from (Cpc id at) is within = still
  others-still Un from (ActionMsg a) is within = inr refl
  others-still Un from (StateMsg s) is within = still
  others-still Un from (GreenItem place a) is within = still
  others-still Un from (RedItem a) is within = still
  others-still Un from (Cpc id at) is within = still
  others-still (NonPrim regular) from (ActionMsg a) is within = as-before (mark_red t a) (red-count t a) (outside (NonPrim regular) is refl)
  others-still (NonPrim regular) from (StateMsg s) is within = still
  others-still (NonPrim regular) from (GreenItem place a) is within = still
  others-still (NonPrim regular) from (RedItem a) is within = still
  others-still (NonPrim regular) from (Cpc id at) is within = still
  others-still Left from (ActionMsg a) is within = still
  others-still Left from (StateMsg s) is within = still
  others-still Left from (GreenItem place a) is within = still
  others-still Left from (RedItem a) is within = still
  others-still Left from (Cpc id at) is within = still
  others-still (ExchangeStates conf set heard) from m is within = exchange-still conf set heard from m (outside (ExchangeStates conf set heard) is refl)
  others-still (ExchangeActions conf summaries accepted) from m is within = actions-still conf summaries accepted from m within (outside (ExchangeActions conf summaries accepted) is refl)
  others-still (Construct conf heard) from m is within = construct-still conf heard from m (outside (Construct conf heard) is refl)
  others-still (No conf heard) from m is within = no-still conf heard from m (outside (No conf heard) is refl)

  parting-still : (state : State) → t.replica.state ≡ state → IsStill n (on_transitional state t)
  unfolding on_transitional
  parting-still RegPrim is = inr refl
  parting-still TransPrim is = still
  parting-still Un is = still
  parting-still Left is = still
  parting-still (No conf heard) is = still
  parting-still (NonPrim regular) is = inl (outside (NonPrim regular) is refl)
  parting-still (ExchangeStates conf set heard) is = inl (outside (ExchangeStates conf set heard) is refl)
  parting-still (ExchangeActions conf summaries accepted) is = inl (outside (ExchangeActions conf summaries accepted) is refl)
  parting-still (Construct conf heard) is = inl (outside (Construct conf heard) is refl)

-- ---- what an event hands to a replica

-- no regular configuration, and no item beyond that place
abbrev pub IsHandedWithin : ℕ → Delivery Msg → Type 0
IsHandedWithin n (Message place from m) = IsItemWithin n m
IsHandedWithin n (TransitionalIn conf set) = Unit {0}
IsHandedWithin n (RegularIn conf set) = ⊥

take-still : (n : ℕ) (t : Turn) (d : Delivery Msg) → IsHandedWithin n d → IsStill n t → IsStill n (after_delivery t d)
unfolding after_delivery
take-still n t (Message place from m) within still = others-still n t still t.replica.state from m refl within
take-still n t (TransitionalIn conf set) within still = parting-still n t still t.replica.state refl
take-still n t (RegularIn conf set) within still = absurd within

takes-still : (n : ℕ) (list : List (Delivery Msg)) (t : Turn) → Each (IsHandedWithin n) list → IsStill n t → IsStill n (fold after_delivery t list)
takes-still n [] t each still = still
takes-still n (d ∷ list) t each still = takes-still n list (after_delivery t d) each.1 (take-still n t d each.0 still)

creates-state : (list : List Kind) (t : Turn) → (fold create t list).replica.state ≡ t.replica.state
unfolding create
creates-state [] t = refl
creates-state (kind ∷ list) t = creates-state list (create t kind)

settle-still : (n : ℕ) (t : Turn) → IsStill n t → IsStill n (settle t)
unfolding create_kept
settle-still n t still = at (is_creating t.replica.state) where
  kept : Turn
  kept = fold create (empty_buffer t) t.replica.held.buffered

  at : (b : Bool) → IsStill n (cond b (create_kept t) t)
  at false = still
  at true = elim still [
    | inl le ↦ inl (let same = same-count (empty_buffer t).replica.held kept.replica.held (creates-same t.replica.held.buffered (empty_buffer t)) in omega arith)
    | inr inside ↦ inr (ap is_primary (creates-state t.replica.held.buffered (empty_buffer t)) ∙ inside)
  ]

pub step-still : (n : ℕ) (r : Replica) (list : List (Delivery Msg)) → Each (IsHandedWithin n) list → green_count r.held.queue ≤ n → IsStill n (replica_step r (Deliveries list))
unfolding replica_step
step-still n r list each le = settle-still n (fold after_delivery (begin r) list) (takes-still n list (begin r) each (inl le))

-- ---- a regular configuration

entered-count : (t : Turn) (conf : ℕ) (set : List ℕ) → count (enter_exchange t conf set) ≡ count t
unfolding enter_exchange
entered-count t conf set = same-count t.replica.held (own_to_red t).replica.held (own-same t)

regular-count : (state : State) (t : Turn) (conf : ℕ) (set : List ℕ) → count (on_regular state conf set t) ≡ count t
unfolding on_regular
regular-count TransPrim t conf set = entered-count (with_held t (end_prim t.replica.held)) conf set
regular-count (No at heard) t conf set = entered-count (with_held t (no_record t.replica.held)) conf set
regular-count Un t conf set = entered-count t conf set
regular-count (NonPrim regular) t conf set = entered-count t conf set
regular-count RegPrim t conf set = refl
regular-count (ExchangeStates at all heard) t conf set = refl
regular-count (ExchangeActions at heard accepted) t conf set = refl
regular-count (Construct at heard) t conf set = refl
regular-count Left t conf set = refl

pub entry-still : (n : ℕ) (r : Replica) (conf : ℕ) (set : List ℕ) → green_count r.held.queue ≤ n → IsStill n (replica_step r (Deliveries (RegularIn conf set ∷ [])))
unfolding replica_step after_delivery
entry-still n r conf set le =
    let t = on_regular r.state conf set (begin r) in
    settle-still n t (inl (let same : count t ≡ green_count r.held.queue = regular-count r.state (begin r) conf set in omega arith))
