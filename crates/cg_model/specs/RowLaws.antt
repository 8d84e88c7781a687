-- A fact of a turn that each change of it keeps is kept by every row of the table, and by the deliveries of an event.
use Rattle.std.proofs.Common.{◌≡◌, ℕ, suc, ◌+◌, ◌≤◌, ◌++◌, List, [], ◌∷◌, fold, length, cond, Bool, true, false, not, Option, Some, None, refl, sym, subst, arith, inl, inr, if◌then◌else◌, eqb-true}
use Rattle.std.specs.Prelude.{◌==◌}
use Rattle.std.proofs.lemmas.Bool.{cases_order, cases_Bool, and_parts}
use Rattle.cg_base.specs.Lists.{Each}
use Rattle.cg_base.specs.declared.action_id.ActionId.{ActionId}
use Rattle.cg_base.specs.Cuts.{index_in}
use Rattle.cg_base.specs.Sets.{has, is_within, with_member}
use Rattle.cg_action.specs.declared.action.Action.{Action}
use Rattle.cg_queue.specs.Queue.{marked_red, marked_yellow, and_yellow, with_yellow, placed_red}
use Rattle.cg_queue.specs.MarkLaws.{red-gap, red-known, red-placed}
use Rattle.cg_records.specs.declared.primary.Primary.{Primary}
use Rattle.cg_records.specs.declared.vulnerable.Vulnerable.{Vulnerable}
use Rattle.cg_knowledge.specs.declared.summary.Summary.{Summary}
use Rattle.cg_knowledge.specs.Summaries.{gone, senders}
use Rattle.cg_knowledge.specs.Primary.{known_primary, known_attempt}
use Rattle.cg_knowledge.specs.Yellow.{common_yellow}
use Rattle.cg_knowledge.specs.Vulnerable.{decided}
use Rattle.cg_knowledge.specs.Verdict.{decides}
use Rattle.cg_plan.specs.declared.parts.Part.{Part}
use Rattle.cg_plan.specs.Plan.{plan_of}
use Rattle.cg_plan.specs.Progress.{is_done, turn_of}
use Rattle.cg_wire.specs.declared.message.Msg.{Msg}
use Rattle.cg_wire.specs.declared.message.Msg.TheVariants.{Action as ActionMsg, State as StateMsg, GreenItem, RedItem, Cpc}
use Rattle.cg_group.specs.declared.delivery.Delivery.{Delivery}
use Rattle.cg_group.specs.declared.delivery.Delivery.TheVariants.{Message, Transitional as TransitionalIn, Regular as RegularIn}
use Rattle.cg_client.specs.Replica.{Held, State, RegPrim, TransPrim, ExchangeStates, ExchangeActions, Construct, No, Un, NonPrim, Left}
use Rattle.cg_client.specs.Turn.{Turn, with_held, go_to, send}
use Rattle.cg_client.specs.Marks.{is_unmade, newly_known, marked, mark_red, mark_yellow, can_be_green, place_green, mark_green, mark_green_at}
use Rattle.cg_client.specs.Requests.{empty_buffer}
use Rattle.cg_client.specs.Summary.{own_to_red, summary_of, enter_exchange}
use Rattle.cg_client.specs.Install.{valid_yellow, yellow_green, reds_green, prim_after, install}
use Rattle.cg_states.specs.TransPrim.{end_prim}
use Rattle.cg_states.specs.PlanEnd.{usable_names, take_over, begin_attempt, attempt, decide, end_plan}
use Rattle.cg_states.specs.ExchangeActions.{mark_item, take_item, send_part, messages_in_part, progress, go_on, is_next, exchange_actions_on_item}
use Rattle.cg_states.specs.ExchangeStates.{is_usable, with_heard, exchange_states_on_summary}
use Rattle.cg_states.specs.Construct.{attempt_set, is_announced, construct_with, construct_on_cpc}
use Rattle.cg_states.specs.No.{no_record, no_with, no_on_cpc}
use Rattle.cg_states.specs.Un.{un_on_action}
use Rattle.cg_states.specs.ReplicaStep.{on_message, on_transitional, on_regular, after_delivery}
use Rattle.cg_model.specs.Recorded.{OfMessage, OfDelivery}
use Rattle.cg_model.specs.World.{is_left_state}
use Rattle.cg_model.specs.Talk.{action_in}

-- what is held with other values, and another yellow list
abbrev pub with_values : Held → List ActionId → Bool → Primary → ℕ → Option Vulnerable → Held
with_values h yellow valid prim index v =
    let q = h.queue in
    record h { queue = record q { yellow = yellow }; yellow_valid = valid; prim = prim; attempt_index = index; vulnerable = v }

-- a name that is known becomes yellow
abbrev pub yellowed_in : Turn → ActionId → Turn
yellowed_in t id = let h = t.replica.held in with_held t (record h { queue = with_yellow h.queue id })

-- what holds of a turn, and of each action that comes, is kept by each change
pub record IsRowRule (P : Turn → Type 0) (Fine : Action → Type 0) : Type 0 where
  pub yellow : (t : Turn) → P t → Each Fine (valid_yellow t.replica.held)
  pub reds : (t : Turn) → P t → Each Fine t.replica.held.queue.reds
  pub goes : (t : Turn) (state : State) → is_left_state state ≡ false → P t → P (go_to t state)
  pub leaves : (t : Turn) → P t → P (go_to (empty_buffer t) Left)
  pub says : (t : Turn) (m : Msg) → action_in m ≡ None → P t → P (send t m)
  pub part : (t : Turn) (part : Part) → P t → P (record t { sent = t.sent ++ messages_in_part t.replica.held.queue part })
  pub records : (t : Turn) (valid : Bool) (prim : Primary) (index : ℕ) (v : Option Vulnerable) → P t →
      P (with_held t (with_values t.replica.held t.replica.held.queue.yellow valid prim index v))
  pub usable : (t : Turn) (ids : List ActionId) (valid : Bool) (prim : Primary) (index : ℕ) (v : Option Vulnerable) → P t →
      P (with_held t (with_values t.replica.held (usable_names t.replica.held.queue ids) valid prim index v))
  pub installs : (t : Turn) (prim : Primary) → P t → P (with_held t (with_values t.replica.held [] false prim 0 t.replica.held.vulnerable))
  pub known : (t : Turn) (a : Action) → Fine a → a.id.index ≡ suc (index_in t.replica.held.queue.red_cut a.id.creator) → is_unmade t.replica.held a ≡ false →
      P t → P (newly_known t a (placed_red t.replica.held.queue a))
  pub known_yellow : (t : Turn) (a : Action) → Fine a → a.id.index ≡ suc (index_in t.replica.held.queue.red_cut a.id.creator) → is_unmade t.replica.held a ≡ false →
      P t → P (yellowed_in (newly_known t a (placed_red t.replica.held.queue a)) a.id)
  pub yellowed : (t : Turn) (id : ActionId) → id.index ≤ index_in t.replica.held.queue.red_cut id.creator → P t → P (yellowed_in t id)
  pub green : (t : Turn) (a : Action) → Fine a → a.id.index ≡ suc (index_in t.replica.held.queue.green_cut a.id.creator) → is_unmade t.replica.held a ≡ false →
      P t → P (place_green t a)
  pub own_red : (t : Turn) → P t → P (own_to_red t)

-- ---- the rows

module _ (P : Turn → Type 0) (Fine : Action → Type 0) (rule : IsRowRule P Fine) where
  -- a choice
  choice : (test : Bool) (t u : Turn) → P t → P u → P (if test then t else u)
  choice true t u p q = p
  choice false t u p q = q

  pub of-mark_red : (t : Turn) (a : Action) → Fine a → P t → P (mark_red t a)
  unfolding mark_red
  of-mark_red t a fine p =
      let q = t.replica.held.queue in
      let cut = index_in q.red_cut a.id.creator in
      elim (cases_Bool (is_unmade t.replica.held a)) [
        | inl unmade ↦ subst (λ b. P (cond b t (marked t a (marked_red q a)))) (sym unmade) p
        | inr made ↦ subst (λ b. P (cond b t (marked t a (marked_red q a)))) (sym made) (elim (cases_order a.id.index (suc cut)) [
          | inl next ↦ subst (λ m. P (marked t a m)) (sym (red-placed q a next)) (rule.known t a fine next made p)
          | inr apart ↦ elim apart [
            | inl lt ↦ subst (λ m. P (marked t a m)) (sym (red-known q a (omega arith))) p
            | inr gt ↦ subst (λ m. P (marked t a m)) (sym (red-gap q a gt)) p
          ]
        ])
      ]

  pub of-mark_yellow : (t : Turn) (a : Action) → Fine a → P t → P (mark_yellow t a)
  unfolding mark_yellow
  of-mark_yellow t a fine p =
      let h = t.replica.held in
      let q = h.queue in
      let cut = index_in q.red_cut a.id.creator in
      elim (cases_Bool (is_unmade h a)) [
        | inl unmade ↦ subst (λ b. P (cond b t (marked t a (marked_yellow q a)))) (sym unmade) p
        | inr made ↦ subst (λ b. P (cond b t (marked t a (marked_yellow q a)))) (sym made) (elim (cases_order a.id.index (suc cut)) [
          | inl next ↦ subst (λ m. P (marked t a (and_yellow a.id m))) (sym (red-placed q a next)) (rule.known_yellow t a fine next made p)
          | inr apart ↦ elim apart [
            | inl lt ↦ subst (λ m. P (marked t a (and_yellow a.id m))) (sym (red-known q a (omega arith))) (rule.yellowed t a.id (omega arith) p)
            | inr gt ↦ subst (λ m. P (marked t a (and_yellow a.id m))) (sym (red-gap q a gt)) p
          ]
        ])
      ]

  pub of-mark_green : (t : Turn) (a : Action) → Fine a → P t → P (mark_green t a)
  unfolding mark_green can_be_green
  of-mark_green t a fine p =
      let h = t.replica.held in
      elim (cases_Bool (can_be_green h a)) [
        | inl can ↦
            let parts = and_parts (a.id.index == suc (index_in h.queue.green_cut a.id.creator)) (not (is_unmade h a)) can in
            subst (λ b. P (cond b (place_green t a) t)) (sym can)
            (rule.green t a fine (eqb-true a.id.index (suc (index_in h.queue.green_cut a.id.creator)) parts.0) (off (is_unmade h a) parts.1) p)
        | inr cannot ↦ subst (λ b. P (cond b (place_green t a) t)) (sym cannot) p
      ]
    where
      off : (b : Bool) → not b ≡ true → b ≡ false
      off true e = absurd (let clash : false ≡ true = e in cc)
      off false e = refl

  of-mark_green_at : (t : Turn) (place : ℕ) (a : Action) → Fine a → P t → P (mark_green_at t place a)
  of-mark_green_at t place a fine p =
      choice (place == suc (t.replica.held.queue.white + length t.replica.held.queue.greens)) (mark_green t a) t (of-mark_green t a fine p) p

  of-greens : (t : Turn) (list : List Action) → Each Fine list → P t → P (fold mark_green t list)
  of-greens t [] fine p = p
  of-greens t (a ∷ list) fine p = of-greens (mark_green t a) list fine.1 (of-mark_green t a fine.0 p)

  of-installed : (t : Turn) → P t → P (reds_green (yellow_green t))
  of-installed t p =
      let u = yellow_green t in
      let q = of-greens t (valid_yellow t.replica.held) (rule.yellow t p) p in
      of-greens u u.replica.held.queue.reds (rule.reds u q) q

  pub of-install : (t : Turn) → P t → P (install t)
  unfolding install
  of-install t p =
      let h = t.replica.held in
      let done = reds_green (yellow_green t) in
      rule.installs done (prim_after h h.vulnerable) (of-installed t p)

  pub of-enter_exchange : (t : Turn) (conf : ℕ) (set : List ℕ) → P t → P (enter_exchange t conf set)
  unfolding enter_exchange
  of-enter_exchange t conf set p =
      let u = own_to_red t in
      let m = StateMsg (summary_of u.replica.held conf) in
      rule.goes (send u m) (ExchangeStates conf set []) refl (rule.says u m refl (rule.own_red t p))

  -- ---- the end of a plan

  of-attempt : (t : Turn) (conf : ℕ) (summaries : List Summary) → P t → P (attempt t conf summaries)
  unfolding attempt
  of-attempt t conf summaries p =
      let h = t.replica.held in
      let new = begin_attempt h conf summaries in
      let u = go_to (with_held t new) (Construct conf []) in
      rule.says u (Cpc h.id conf) refl (rule.goes (with_held t new) (Construct conf []) refl (rule.records t h.yellow_valid h.prim new.attempt_index new.vulnerable p))

  of-decide : (t : Turn) (conf : ℕ) (summaries : List Summary) → P t → P (decide t conf summaries)
  unfolding decide
  of-decide t conf summaries p =
      choice (decides summaries) (attempt t conf summaries) (go_to t (NonPrim true)) (of-attempt t conf summaries p) (rule.goes t (NonPrim true) refl p)

  of-take_over : (t : Turn) (summaries : List Summary) → P t → P (with_held t (take_over t.replica.held summaries))
  unfolding take_over
  of-take_over t summaries p =
      let h = t.replica.held in
      rule.usable t (common_yellow summaries).list (common_yellow summaries).valid (known_primary summaries) (known_attempt summaries)
      (decided summaries h.vulnerable) p

  of-end_plan : (t : Turn) (conf : ℕ) (summaries : List Summary) → P t → P (end_plan t conf summaries)
  unfolding end_plan
  of-end_plan t conf summaries p =
      let h = t.replica.held in
      choice (has (gone summaries) h.id) (go_to (empty_buffer t) Left) (decide (with_held t (take_over h summaries)) conf summaries)
      (rule.leaves t p) (of-decide (with_held t (take_over h summaries)) conf summaries (of-take_over t summaries p))

  of-send_part : (t : Turn) (part : Option Part) → P t → P (send_part t part)
  unfolding send_part
  of-send_part t None p = p
  of-send_part t (Some part) p = rule.part t part p

  pub of-go_on : (t : Turn) (conf : ℕ) (summaries : List Summary) (accepted : ℕ) → P t → P (go_on t conf summaries accepted)
  unfolding go_on
  of-go_on t conf summaries accepted p =
      let u = go_to t (ExchangeActions conf summaries accepted) in
      let part = turn_of (plan_of summaries) t.replica.held.id accepted in
      let sent = send_part u part in
      let is = of-send_part u part (rule.goes t (ExchangeActions conf summaries accepted) refl p) in
      choice (is_done (progress summaries accepted)) (end_plan sent conf summaries) sent (of-end_plan sent conf summaries is) is

  of-mark_item : (t : Turn) (m : Msg) → OfMessage Fine m → P t → P (mark_item t m)
  of-mark_item t (GreenItem place a) fine p = of-mark_green_at t place a fine p
  of-mark_item t (RedItem a) fine p = of-mark_red t a fine p
  of-mark_item t (ActionMsg a) fine p = p
  of-mark_item t (StateMsg s) fine p = p
  of-mark_item t (Cpc id conf) fine p = p

  pub of-take_item : (t : Turn) (summaries : List Summary) (m : Msg) → OfMessage Fine m → P t → P (take_item t summaries m)
  of-take_item t summaries m fine p = choice (has (gone summaries) t.replica.held.id) t (mark_item t m) p (of-mark_item t m fine p)

  of-item : (t : Turn) (conf : ℕ) (summaries : List Summary) (accepted from : ℕ) (m : Msg) → OfMessage Fine m → P t →
      P (exchange_actions_on_item t conf summaries accepted from m)
  of-item t conf summaries accepted from m fine p =
      choice (is_next summaries accepted from m) (go_on (take_item t summaries m) conf summaries (suc accepted)) t
      (of-go_on (take_item t summaries m) conf summaries (suc accepted) (of-take_item t summaries m fine p)) p

  of-with_heard : (t : Turn) (conf : ℕ) (set : List ℕ) (heard : List Summary) → P t → P (with_heard t conf set heard)
  of-with_heard t conf set heard p =
      choice (is_within set (senders heard)) (go_on t conf heard 0) (go_to t (ExchangeStates conf set heard))
      (of-go_on t conf heard 0 p) (rule.goes t (ExchangeStates conf set heard) refl p)

  of-summary : (t : Turn) (conf : ℕ) (set : List ℕ) (heard : List Summary) (from : ℕ) (s : Summary) → P t → P (exchange_states_on_summary t conf set heard from s)
  of-summary t conf set heard from s p =
      choice (is_usable conf heard from s) (with_heard t conf set (heard ++ s ∷ [])) t (of-with_heard t conf set (heard ++ s ∷ []) p) p

  -- ---- announcements

  of-construct_with : (t : Turn) (conf : ℕ) (heard : List ℕ) → P t → P (construct_with t conf heard)
  of-construct_with t conf heard p =
      choice (is_within (attempt_set t.replica.held) heard) (go_to (install t) RegPrim) (go_to t (Construct conf heard))
      (rule.goes (install t) RegPrim refl (of-install t p)) (rule.goes t (Construct conf heard) refl p)

  of-construct_on_cpc : (t : Turn) (conf : ℕ) (heard : List ℕ) (from id of_conf : ℕ) → P t → P (construct_on_cpc t conf heard from id of_conf)
  of-construct_on_cpc t conf heard from id of_conf p =
      choice (is_announced t.replica.held conf from id of_conf) (construct_with t conf (with_member heard from)) t (of-construct_with t conf (with_member heard from) p) p

  of-no_with : (t : Turn) (conf : ℕ) (heard : List ℕ) → P t → P (no_with t conf heard)
  of-no_with t conf heard p =
      choice (is_within (attempt_set t.replica.held) heard) (go_to t Un) (go_to t (No conf heard)) (rule.goes t Un refl p) (rule.goes t (No conf heard) refl p)

  of-no_on_cpc : (t : Turn) (conf : ℕ) (heard : List ℕ) (from id of_conf : ℕ) → P t → P (no_on_cpc t conf heard from id of_conf)
  of-no_on_cpc t conf heard from id of_conf p =
      choice (is_announced t.replica.held conf from id of_conf) (no_with t conf (with_member heard from)) t (of-no_with t conf (with_member heard from) p) p

  of-un_on_action : (t : Turn) (a : Action) → Fine a → P t → P (un_on_action t a)
  of-un_on_action t a fine p = rule.goes (mark_yellow (install t) a) TransPrim refl (of-mark_yellow (install t) a fine (of-install t p))

  -- ---- the table

  pub of-on_message : (state : State) (from : ℕ) (m : Msg) (t : Turn) → OfMessage Fine m → P t → P (on_message state from m t)
  unfolding on_message
  of-on_message RegPrim from (ActionMsg a) t fine p = of-mark_green t a fine p
  of-on_message TransPrim from (ActionMsg a) t fine p = of-mark_yellow t a fine p
  of-on_message (ExchangeStates conf set heard) from (StateMsg s) t fine p = of-summary t conf set heard from s p
  of-on_message (ExchangeActions conf summaries accepted) from (GreenItem at a) t fine p = of-item t conf summaries accepted from (GreenItem at a) fine p
  of-on_message (ExchangeActions conf summaries accepted) from (RedItem a) t fine p = of-item t conf summaries accepted from (RedItem a) fine p
  of-on_message (Construct conf heard) from (Cpc id of_conf) t fine p = of-construct_on_cpc t conf heard from id of_conf p
  of-on_message (No conf heard) from (Cpc id of_conf) t fine p = of-no_on_cpc t conf heard from id of_conf p
  of-on_message Un from (ActionMsg a) t fine p = of-un_on_action t a fine p
  of-on_message (NonPrim regular) from (ActionMsg a) t fine p = of-mark_red t a fine p
  of-on_message RegPrim from (StateMsg s) t fine p = p
  of-on_message RegPrim from (GreenItem at a) t fine p = p
  of-on_message RegPrim from (RedItem a) t fine p = p
  of-on_message RegPrim from (Cpc id of_conf) t fine p = p
  of-on_message TransPrim from (StateMsg s) t fine p = p
  of-on_message TransPrim from (GreenItem at a) t fine p = p
  of-on_message TransPrim from (RedItem a) t fine p = p
  of-on_message TransPrim from (Cpc id of_conf) t fine p = p
  of-on_message (ExchangeStates conf set heard) from (ActionMsg a) t fine p = p
  of-on_message (ExchangeStates conf set heard) from (GreenItem at a) t fine p = p
  of-on_message (ExchangeStates conf set heard) from (RedItem a) t fine p = p
  of-on_message (ExchangeStates conf set heard) from (Cpc id of_conf) t fine p = p
  of-on_message (ExchangeActions conf summaries accepted) from (ActionMsg a) t fine p = p
  of-on_message (ExchangeActions conf summaries accepted) from (StateMsg s) t fine p = p
  of-on_message (ExchangeActions conf summaries accepted) from (Cpc id of_conf) t fine p = p
  of-on_message (Construct conf heard) from (ActionMsg a) t fine p = p
  of-on_message (Construct conf heard) from (StateMsg s) t fine p = p
  of-on_message (Construct conf heard) from (GreenItem at a) t fine p = p
  of-on_message (Construct conf heard) from (RedItem a) t fine p = p
  of-on_message (No conf heard) from (ActionMsg a) t fine p = p
  of-on_message (No conf heard) from (StateMsg s) t fine p = p
  of-on_message (No conf heard) from (GreenItem at a) t fine p = p
  of-on_message (No conf heard) from (RedItem a) t fine p = p
  of-on_message Un from (StateMsg s) t fine p = p
  of-on_message Un from (GreenItem at a) t fine p = p
  of-on_message Un from (RedItem a) t fine p = p
  of-on_message Un from (Cpc id of_conf) t fine p = p
  of-on_message (NonPrim regular) from (StateMsg s) t fine p = p
  of-on_message (NonPrim regular) from (GreenItem at a) t fine p = p
  of-on_message (NonPrim regular) from (RedItem a) t fine p = p
  of-on_message (NonPrim regular) from (Cpc id of_conf) t fine p = p
  of-on_message Left from (ActionMsg a) t fine p = p
  of-on_message Left from (StateMsg s) t fine p = p
  of-on_message Left from (GreenItem at a) t fine p = p
  of-on_message Left from (RedItem a) t fine p = p
  of-on_message Left from (Cpc id of_conf) t fine p = p

  pub of-on_transitional : (state : State) (t : Turn) → P t → P (on_transitional state t)
  unfolding on_transitional
  of-on_transitional RegPrim t p = rule.goes t TransPrim refl p
  of-on_transitional TransPrim t p = p
  of-on_transitional (ExchangeStates conf set heard) t p = rule.goes t (NonPrim false) refl p
  of-on_transitional (ExchangeActions conf summaries accepted) t p = rule.goes t (NonPrim false) refl p
  of-on_transitional (Construct conf heard) t p = rule.goes t (No conf heard) refl p
  of-on_transitional (No conf heard) t p = p
  of-on_transitional Un t p = p
  of-on_transitional (NonPrim regular) t p = rule.goes t (NonPrim false) refl p
  of-on_transitional Left t p = p

  pub of-on_regular : (state : State) (conf : ℕ) (set : List ℕ) (t : Turn) → P t → P (on_regular state conf set t)
  unfolding on_regular
  of-on_regular RegPrim conf set t p = p
  of-on_regular TransPrim conf set t p =
      let h = t.replica.held in
      of-enter_exchange (with_held t (end_prim h)) conf set (rule.records t true h.prim h.attempt_index None p)
  of-on_regular (ExchangeStates at members heard) conf set t p = p
  of-on_regular (ExchangeActions at summaries accepted) conf set t p = p
  of-on_regular (Construct at heard) conf set t p = p
  of-on_regular (No at heard) conf set t p =
      let h = t.replica.held in
      of-enter_exchange (with_held t (no_record h)) conf set (rule.records t h.yellow_valid h.prim h.attempt_index None p)
  of-on_regular Un conf set t p = of-enter_exchange t conf set p
  of-on_regular (NonPrim regular) conf set t p = of-enter_exchange t conf set p
  of-on_regular Left conf set t p = p

  pub of-take : (t : Turn) (d : Delivery Msg) → OfDelivery Fine d → P t → P (after_delivery t d)
  unfolding after_delivery
  of-take t (Message place from m) fine p = of-on_message t.replica.state from m t fine p
  of-take t (TransitionalIn conf set) fine p = of-on_transitional t.replica.state t p
  of-take t (RegularIn conf set) fine p = of-on_regular t.replica.state conf set t p

  pub of-deliveries : (t : Turn) (list : List (Delivery Msg)) → Each (OfDelivery Fine) list → P t → P (fold after_delivery t list)
  of-deliveries t [] fine p = p
  of-deliveries t (d ∷ list) fine p = of-deliveries (after_delivery t d) list fine.1 (of-take t d fine.0 p)

pub any-message : (m : Msg) → OfMessage (λ a. Unit {0}) m
any-message (ActionMsg a) = tt
any-message (StateMsg s) = tt
any-message (GreenItem place a) = tt
any-message (RedItem a) = tt
any-message (Cpc id conf) = tt

pub any-delivery : (d : Delivery Msg) → OfDelivery (λ a. Unit {0}) d
any-delivery (Message place from m) = any-message m
any-delivery (TransitionalIn conf set) = tt
any-delivery (RegularIn conf set) = tt

-- any action may come
pub any-deliveries : (list : List (Delivery Msg)) → Each (OfDelivery (λ a. Unit {0})) list
any-deliveries [] = tt
any-deliveries (d ∷ list) = (any-delivery d, any-deliveries list)
