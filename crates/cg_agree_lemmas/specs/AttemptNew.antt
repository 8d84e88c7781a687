-- A turn that ends within an attempt began within it, with the same reds; or the attempt is new, and so is its record.
use Rattle.std.proofs.Common.{◌⊎◌, ◌≡◌, ℕ, suc, Bool, true, false, cond, List, [], ◌∷◌, ◌++◌, fold, Option, Some, None, refl, sym, ap, ◌∙◌, subst, inl, inr, eq-eqb}
use Rattle.cg_base.specs.Lists.{Each}
use Rattle.cg_base.specs.Sets.{has, is_within, with_member}
use Rattle.cg_action.specs.declared.action.Kind.{Kind}
use Rattle.cg_records.specs.declared.vulnerable.Vulnerable.{Vulnerable}
use Rattle.cg_knowledge.specs.declared.summary.Summary.{Summary}
use Rattle.cg_knowledge.specs.Summaries.{gone, senders}
use Rattle.cg_knowledge.specs.Verdict.{decides}
use Rattle.cg_plan.specs.Plan.{plan_of}
use Rattle.cg_plan.specs.Progress.{is_done, turn_of}
use Rattle.cg_wire.specs.declared.message.Msg.{Msg}
use Rattle.cg_wire.specs.declared.message.Msg.TheVariants.{Action as ActionMsg, State as StateMsg, GreenItem, RedItem, Cpc}
use Rattle.cg_group.specs.declared.delivery.Delivery.{Delivery}
use Rattle.cg_group.specs.declared.delivery.Delivery.TheVariants.{Message, Transitional as TransitionalIn, Regular as RegularIn}
use Rattle.cg_client.specs.Replica.{Held, State, RegPrim, TransPrim, ExchangeStates, ExchangeActions, Construct, No, Un, NonPrim, Left, Replica}
use Rattle.cg_client.specs.Turn.{Turn, begin, with_held, go_to}
use Rattle.cg_client.specs.Marks.{mark_red, mark_yellow, mark_green}
use Rattle.cg_client.specs.Requests.{is_creating, create_kept, settle, empty_buffer, create, buffer, request_in, request}
use Rattle.cg_client.specs.Summary.{enter_exchange}
use Rattle.cg_client.specs.Install.{install}
use Rattle.cg_states.specs.PlanEnd.{take_over, attempt, decide, end_plan}
use Rattle.cg_states.specs.ExchangeActions.{take_item, send_part, progress, go_on, is_next, exchange_actions_on_item}
use Rattle.cg_states.specs.ExchangeStates.{is_usable, with_heard, exchange_states_on_summary}
use Rattle.cg_states.specs.Construct.{attempt_set, is_announced, construct_with}
use Rattle.cg_states.specs.No.{no_with}
use Rattle.cg_disk_records.specs.Commit.{same_values}
use Rattle.cg_states.specs.ReplicaStep.{Input, Deliveries, Asks, replica_step, on_message, on_transitional, on_regular, after_delivery}
use Rattle.cg_model.specs.Fronts.{IsSomeWith}
use Rattle.cg_model.specs.Levels.{is_record_of}
use Rattle.cg_model.specs.FactsReplica.{is_attempting, IsAsOnDisk}
use Rattle.cg_agree_lemmas.specs.TurnValues.{even-mark_red, even-mark_yellow, even-mark_green, even-send_part, even-create_kept, even-create}
use Rattle.cg_disk_records.specs.ValueLaws.{one-value}

-- the attempt was under way and the reds are the same, or its record is another one
abbrev pub IsSameOrNew : Replica → Held → Type 0
IsSameOrNew old h =
    ((is_attempting old.state ≡ true) × (h.queue.reds ≡ old.held.queue.reds)) ⊎ IsSomeWith h.vulnerable (λ v. is_record_of v.attempt old.held.vulnerable ≡ false)

-- and who is in an exchange has had no record of the attempt of its configuration
abbrev pub IsTracked : Replica → State → Held → Type 0
IsTracked old (Construct conf heard) h = IsSameOrNew old h
IsTracked old (No conf heard) h = IsSameOrNew old h
IsTracked old Un h = IsSameOrNew old h
IsTracked old (ExchangeStates conf set heard) h = is_record_of conf old.held.vulnerable ≡ false
IsTracked old (ExchangeActions conf summaries accepted) h = is_record_of conf old.held.vulnerable ≡ false
IsTracked old _ h = Unit {0}

abbrev pub IsTrackedIn : Replica → Turn → Type 0
IsTrackedIn old t = IsTracked old t.replica.state t.replica.held

-- as a turn begins
abbrev pub HasNoRecordYet : Replica → State → Type 0
HasNoRecordYet r (ExchangeStates conf set heard) = is_record_of conf r.held.vulnerable ≡ false
HasNoRecordYet r (ExchangeActions conf summaries accepted) = is_record_of conf r.held.vulnerable ≡ false
HasNoRecordYet r _ = Unit {0}

pub tracked-first : (r : Replica) → HasNoRecordYet r r.state → IsTrackedIn r (begin r)
tracked-first r none = at r.state refl none where
  at : (state : State) → r.state ≡ state → HasNoRecordYet r state → IsTracked r state r.held
  at RegPrim e n = tt
  at TransPrim e n = tt
  at (ExchangeStates conf set heard) e n = n
  at (ExchangeActions conf summaries accepted) e n = n
  at (Construct conf heard) e n = inl (ap is_attempting e, refl)
  at (No conf heard) e n = inl (ap is_attempting e, refl)
  at Un e n = inl (ap is_attempting e, refl)
  at (NonPrim regular) e n = tt
  at Left e n = tt

module _ (old : Replica) where
  tracked-at : (u : Turn) (state : State) → u.replica.state ≡ state → IsTracked old state u.replica.held → IsTrackedIn old u
  tracked-at u state e is = subst (λ s. IsTracked old s u.replica.held) (sym e) is

  choice : (test : Bool) (t u : Turn) → IsTrackedIn old t → IsTrackedIn old u → IsTrackedIn old (cond test t u)
  choice true t u a b = a
  choice false t u a b = b

  -- ---- an exchange

  of-attempt : (t : Turn) (conf : ℕ) (heard : List Summary) → is_record_of conf old.held.vulnerable ≡ false → IsTrackedIn old (attempt t conf heard)
  unfolding attempt
  of-attempt t conf heard none = inr none

  of-decide : (t : Turn) (conf : ℕ) (heard : List Summary) → is_record_of conf old.held.vulnerable ≡ false → IsTrackedIn old (decide t conf heard)
  unfolding decide
  of-decide t conf heard none = choice (decides heard) (attempt t conf heard) (go_to t (NonPrim true)) (of-attempt t conf heard none) tt

  of-end_plan : (t : Turn) (conf : ℕ) (heard : List Summary) → is_record_of conf old.held.vulnerable ≡ false → IsTrackedIn old (end_plan t conf heard)
  unfolding end_plan
  of-end_plan t conf heard none =
      let h = t.replica.held in
      choice (has (gone heard) h.id) (go_to (empty_buffer t) Left) (decide (with_held t (take_over h heard)) conf heard) tt (of-decide (with_held t (take_over h heard)) conf heard none)

  of-go_on : (t : Turn) (conf : ℕ) (heard : List Summary) (accepted : ℕ) → is_record_of conf old.held.vulnerable ≡ false → IsTrackedIn old (go_on t conf heard accepted)
  unfolding go_on
  of-go_on t conf heard accepted none =
      let u = go_to t (ExchangeActions conf heard accepted) in
      let part = turn_of (plan_of heard) t.replica.held.id accepted in
      choice (is_done (progress heard accepted)) (end_plan (send_part u part) conf heard) (send_part u part) (of-end_plan (send_part u part) conf heard none)
      (tracked-at (send_part u part) (ExchangeActions conf heard accepted) (even-send_part u part).state none)

  of-item : (t : Turn) (conf : ℕ) (heard : List Summary) (accepted from : ℕ) (m : Msg) → is_record_of conf old.held.vulnerable ≡ false → IsTrackedIn old t →
      IsTrackedIn old (exchange_actions_on_item t conf heard accepted from m)
  of-item t conf heard accepted from m none is =
      choice (is_next heard accepted from m) (go_on (take_item t heard m) conf heard (suc accepted)) t (of-go_on (take_item t heard m) conf heard (suc accepted) none) is

  of-summary : (t : Turn) (conf : ℕ) (set : List ℕ) (heard : List Summary) (from : ℕ) (s : Summary) → is_record_of conf old.held.vulnerable ≡ false → IsTrackedIn old t →
      IsTrackedIn old (exchange_states_on_summary t conf set heard from s)
  of-summary t conf set heard from s none is =
      let more = heard ++ s ∷ [] in
      choice (is_usable conf heard from s) (with_heard t conf set more) t
      (choice (is_within set (senders more)) (go_on t conf more 0) (go_to t (ExchangeStates conf set more)) (of-go_on t conf more 0 none) none) is

  -- ---- the table

  pub of-message : (state : State) (from : ℕ) (m : Msg) (t : Turn) → t.replica.state ≡ state → IsTracked old state t.replica.held → IsTrackedIn old (on_message state from m t)
  unfolding on_message
  of-message RegPrim from (ActionMsg a) t e is = tracked-at (mark_green t a) RegPrim ((even-mark_green t a).state ∙ e) tt
  of-message TransPrim from (ActionMsg a) t e is = tracked-at (mark_yellow t a) TransPrim ((even-mark_yellow t a).state ∙ e) tt
  of-message (NonPrim regular) from (ActionMsg a) t e is = tracked-at (mark_red t a) (NonPrim regular) ((even-mark_red t a).state ∙ e) tt
  of-message (ExchangeStates conf set heard) from (StateMsg s) t e is = of-summary t conf set heard from s is (tracked-at t (ExchangeStates conf set heard) e is)
  of-message (ExchangeActions conf heard accepted) from (GreenItem at a) t e is = of-item t conf heard accepted from (GreenItem at a) is (tracked-at t (ExchangeActions conf heard accepted) e is)
  of-message (ExchangeActions conf heard accepted) from (RedItem a) t e is = of-item t conf heard accepted from (RedItem a) is (tracked-at t (ExchangeActions conf heard accepted) e is)
  of-message (Construct conf heard) from (Cpc id of_conf) t e is =
      let more = with_member heard from in
      choice (is_announced t.replica.held conf from id of_conf) (construct_with t conf more) t
      (choice (is_within (attempt_set t.replica.held) more) (go_to (install t) RegPrim) (go_to t (Construct conf more)) tt is) (tracked-at t (Construct conf heard) e is)
  of-message (No conf heard) from (Cpc id of_conf) t e is =
      let more = with_member heard from in
      choice (is_announced t.replica.held conf from id of_conf) (no_with t conf more) t
      (choice (is_within (attempt_set t.replica.held) more) (go_to t Un) (go_to t (No conf more)) is is) (tracked-at t (No conf heard) e is)
  of-message Un from (ActionMsg a) t e is = tt
  of-message RegPrim from (StateMsg s) t e is = tracked-at t RegPrim e is
  of-message RegPrim from (GreenItem at a) t e is = tracked-at t RegPrim e is
  of-message RegPrim from (RedItem a) t e is = tracked-at t RegPrim e is
  of-message RegPrim from (Cpc id of_conf) t e is = tracked-at t RegPrim e is
  of-message TransPrim from (StateMsg s) t e is = tracked-at t TransPrim e is
  of-message TransPrim from (GreenItem at a) t e is = tracked-at t TransPrim e is
  of-message TransPrim from (RedItem a) t e is = tracked-at t TransPrim e is
  of-message TransPrim from (Cpc id of_conf) t e is = tracked-at t TransPrim e is
  of-message (ExchangeStates conf set heard) from (ActionMsg a) t e is = tracked-at t (ExchangeStates conf set heard) e is
  of-message (ExchangeStates conf set heard) from (GreenItem at a) t e is = tracked-at t (ExchangeStates conf set heard) e is
  of-message (ExchangeStates conf set heard) from (RedItem a) t e is = tracked-at t (ExchangeStates conf set heard) e is
  of-message (ExchangeStates conf set heard) from (Cpc id of_conf) t e is = tracked-at t (ExchangeStates conf set heard) e is
  of-message (ExchangeActions conf heard accepted) from (ActionMsg a) t e is = tracked-at t (ExchangeActions conf heard accepted) e is
  of-message (ExchangeActions conf heard accepted) from (StateMsg s) t e is = tracked-at t (ExchangeActions conf heard accepted) e is
  of-message (ExchangeActions conf heard accepted) from (Cpc id of_conf) t e is = tracked-at t (ExchangeActions conf heard accepted) e is
  of-message (Construct conf heard) from (ActionMsg a) t e is = tracked-at t (Construct conf heard) e is
  of-message (Construct conf heard) from (StateMsg s) t e is = tracked-at t (Construct conf heard) e is
  of-message (Construct conf heard) from (GreenItem at a) t e is = tracked-at t (Construct conf heard) e is
  of-message (Construct conf heard) from (RedItem a) t e is = tracked-at t (Construct conf heard) e is
  of-message (No conf heard) from (ActionMsg a) t e is = tracked-at t (No conf heard) e is
  of-message (No conf heard) from (StateMsg s) t e is = tracked-at t (No conf heard) e is
  of-message (No conf heard) from (GreenItem at a) t e is = tracked-at t (No conf heard) e is
  of-message (No conf heard) from (RedItem a) t e is = tracked-at t (No conf heard) e is
  of-message Un from (StateMsg s) t e is = tracked-at t Un e is
  of-message Un from (GreenItem at a) t e is = tracked-at t Un e is
  of-message Un from (RedItem a) t e is = tracked-at t Un e is
  of-message Un from (Cpc id of_conf) t e is = tracked-at t Un e is
  of-message (NonPrim regular) from (StateMsg s) t e is = tracked-at t (NonPrim regular) e is
  of-message (NonPrim regular) from (GreenItem at a) t e is = tracked-at t (NonPrim regular) e is
  of-message (NonPrim regular) from (RedItem a) t e is = tracked-at t (NonPrim regular) e is
  of-message (NonPrim regular) from (Cpc id of_conf) t e is = tracked-at t (NonPrim regular) e is
  of-message Left from (ActionMsg a) t e is = tracked-at t Left e is
  of-message Left from (StateMsg s) t e is = tracked-at t Left e is
  of-message Left from (GreenItem at a) t e is = tracked-at t Left e is
  of-message Left from (RedItem a) t e is = tracked-at t Left e is
  of-message Left from (Cpc id of_conf) t e is = tracked-at t Left e is

  of-transitional : (state : State) (t : Turn) → t.replica.state ≡ state → IsTracked old state t.replica.held → IsTrackedIn old (on_transitional state t)
  unfolding on_transitional
  of-transitional RegPrim t e is = tt
  of-transitional TransPrim t e is = tracked-at t TransPrim e is
  of-transitional (ExchangeStates conf set heard) t e is = tt
  of-transitional (ExchangeActions conf heard accepted) t e is = tt
  of-transitional (Construct conf heard) t e is = is
  of-transitional (No conf heard) t e is = tracked-at t (No conf heard) e is
  of-transitional Un t e is = tracked-at t Un e is
  of-transitional (NonPrim regular) t e is = tt
  of-transitional Left t e is = tracked-at t Left e is

  -- a new configuration is of an attempt that there was no record of
  of-regular : (state : State) (conf : ℕ) (set : List ℕ) (t : Turn) → t.replica.state ≡ state → is_record_of conf old.held.vulnerable ≡ false → IsTracked old state t.replica.held →
      IsTrackedIn old (on_regular state conf set t)
  unfolding on_regular enter_exchange
  of-regular TransPrim conf set t e none is = none
  of-regular (No at heard) conf set t e none is = none
  of-regular Un conf set t e none is = none
  of-regular (NonPrim regular) conf set t e none is = none
  of-regular RegPrim conf set t e none is = tracked-at t RegPrim e is
  of-regular (ExchangeStates at members heard) conf set t e none is = tracked-at t (ExchangeStates at members heard) e is
  of-regular (ExchangeActions at heard accepted) conf set t e none is = tracked-at t (ExchangeActions at heard accepted) e is
  of-regular (Construct at heard) conf set t e none is = tracked-at t (Construct at heard) e is
  of-regular Left conf set t e none is = tracked-at t Left e is

  -- ---- what is delivered, and requests

  abbrev pub IsNewConf : Delivery Msg → Type 0
  IsNewConf (RegularIn conf set) = is_record_of conf old.held.vulnerable ≡ false
  IsNewConf _ = Unit {0}

  of-take : (t : Turn) (d : Delivery Msg) → IsNewConf d → IsTrackedIn old t → IsTrackedIn old (after_delivery t d)
  unfolding after_delivery
  of-take t (Message place from m) new is = of-message t.replica.state from m t refl is
  of-take t (TransitionalIn conf set) new is = of-transitional t.replica.state t refl is
  of-take t (RegularIn conf set) new is = of-regular t.replica.state conf set t refl new is

  of-list : (list : List (Delivery Msg)) (t : Turn) → Each IsNewConf list → IsTrackedIn old t → IsTrackedIn old (fold after_delivery t list)
  of-list [] t new is = is
  of-list (d ∷ list) t new is = of-list list (after_delivery t d) new.1 (of-take t d new.0 is)

  creating-free : (state : State) (h : Held) → is_creating state ≡ true → IsTracked old state h
  creating-free RegPrim h e = tt
  creating-free (NonPrim regular) h e = tt
  creating-free TransPrim h e = tt
  creating-free Left h e = tt
  creating-free (ExchangeStates conf set heard) h e = absurd (let clash : false ≡ true = e in cc)
  creating-free (ExchangeActions conf heard accepted) h e = absurd (let clash : false ≡ true = e in cc)
  creating-free (Construct conf heard) h e = absurd (let clash : false ≡ true = e in cc)
  creating-free (No conf heard) h e = absurd (let clash : false ≡ true = e in cc)
  creating-free Un h e = absurd (let clash : false ≡ true = e in cc)

  of-settle : (t : Turn) → IsTrackedIn old t → IsTrackedIn old (settle t)
  of-settle t is = at (is_creating t.replica.state) refl where
    at : (b : Bool) → is_creating t.replica.state ≡ b → IsTrackedIn old (cond b (create_kept t) t)
    at true e = tracked-at (create_kept t) t.replica.state (even-create_kept t).state (creating-free t.replica.state (create_kept t).replica.held e)
    at false e = is

  of-request : (t : Turn) (kind : Kind) → IsTrackedIn old t → IsTrackedIn old (request t kind)
  of-request t kind is = at t.replica.state refl is where
    kept : (state : State) → t.replica.state ≡ state → IsTracked old state t.replica.held → IsTrackedIn old (buffer t kind)
    kept state e is = subst (λ s. IsTracked old s (buffer t kind).replica.held) (sym e) (buffered state is) where
      buffered : (state : State) → IsTracked old state t.replica.held → IsTracked old state (buffer t kind).replica.held
      buffered RegPrim i = i
      buffered TransPrim i = i
      buffered (ExchangeStates conf set heard) i = i
      buffered (ExchangeActions conf heard accepted) i = i
      buffered (Construct conf heard) i = i
      buffered (No conf heard) i = i
      buffered Un i = i
      buffered (NonPrim regular) i = i
      buffered Left i = i

    made : (state : State) → t.replica.state ≡ state → is_creating state ≡ true → IsTrackedIn old (create t kind)
    made state e can = tracked-at (create t kind) state ((even-create t kind).state ∙ e) (creating-free state (create t kind).replica.held can)

    at : (state : State) → t.replica.state ≡ state → IsTracked old state t.replica.held → IsTrackedIn old (request_in state t kind)
    at RegPrim e i = made RegPrim e refl
    at TransPrim e i = kept TransPrim e i
    at (ExchangeStates conf set heard) e i = kept (ExchangeStates conf set heard) e i
    at (ExchangeActions conf heard accepted) e i = kept (ExchangeActions conf heard accepted) e i
    at (Construct conf heard) e i = kept (Construct conf heard) e i
    at (No conf heard) e i = kept (No conf heard) e i
    at Un e i = kept Un e i
    at (NonPrim true) e i = made (NonPrim true) e refl
    at (NonPrim false) e i = kept (NonPrim false) e i
    at Left e i = tracked-at t Left e i

  -- what an event hands to the replica brings no configuration of whose attempt it has a record
  abbrev pub IsNewIn : Input → Type 0
  IsNewIn (Deliveries list) = Each IsNewConf list
  IsNewIn (Asks kind) = Unit {0}

-- the reds of a replica that ends within an attempt, without another record, are those that it had
pub step-tracked : (r : Replica) (input : Input) → HasNoRecordYet r r.state → IsNewIn r input → IsTrackedIn r (replica_step r input)
unfolding replica_step
step-tracked r (Deliveries list) none new = of-settle r (fold after_delivery (begin r) list) (of-list r list (begin r) new (tracked-first r none))
step-tracked r (Asks kind) none new = of-request r (begin r) kind (tracked-first r none)

pub as-on-disk : (r : Replica) (t : Turn) (disk : Held) → IsTrackedIn r t → same_values r.held t.replica.held ≡ true → IsAsOnDisk r.held disk r.state → IsAsOnDisk t.replica.held disk t.replica.state
as-on-disk r t disk tracked same was = at t.replica.state tracked where
  h : Held
  h = t.replica.held

  vulnerable : r.held.vulnerable ≡ h.vulnerable
  vulnerable = (one-value r.held h same).vulnerable

  reds-were : (state : State) → is_attempting state ≡ true → IsAsOnDisk r.held disk state → r.held.queue.reds ≡ disk.queue.reds
  reds-were (Construct conf heard) e i = i
  reds-were (No conf heard) e i = i
  reds-were Un e i = i
  reds-were RegPrim e i = absurd (let clash : false ≡ true = e in cc)
  reds-were TransPrim e i = absurd (let clash : false ≡ true = e in cc)
  reds-were (ExchangeStates conf set heard) e i = absurd (let clash : false ≡ true = e in cc)
  reds-were (ExchangeActions conf heard accepted) e i = absurd (let clash : false ≡ true = e in cc)
  reds-were (NonPrim regular) e i = absurd (let clash : false ≡ true = e in cc)
  reds-were Left e i = absurd (let clash : false ≡ true = e in cc)

  not-other : (o : Option Vulnerable) → IsSomeWith o (λ v. is_record_of v.attempt o ≡ false) → ⊥
  not-other None is = is
  not-other (Some v) is = let clash : true ≡ false = sym (eq-eqb v.attempt v.attempt refl) ∙ is in cc

  same-reds : IsSameOrNew r h → h.queue.reds ≡ disk.queue.reds
  same-reds is = elim is [
    | inl stays ↦ stays.1 ∙ reds-were r.state stays.0 was
    | inr new ↦ absurd (not-other h.vulnerable (subst (λ (o : Option Vulnerable). IsSomeWith h.vulnerable (λ v. is_record_of v.attempt o ≡ false)) vulnerable new))
  ]

  at : (state : State) → IsTracked r state h → IsAsOnDisk h disk state
  at (Construct conf heard) i = same-reds i
  at (No conf heard) i = same-reds i
  at Un i = same-reds i
  at RegPrim i = tt
  at TransPrim i = tt
  at (ExchangeStates conf set heard) i = tt
  at (ExchangeActions conf heard accepted) i = tt
  at (NonPrim regular) i = tt
  at Left i = tt
