-- Whatever a member is handed in its regular phase, it is in the state of the talk with it.
use Rattle.std.proofs.Common.{◌≡◌, ℕ, suc, Bool, true, false, cond, not, ◌&&◌, ◌||◌, List, refl, sym, ap, ap₂, ◌∙◌, ⊎_elim}
use Rattle.std.specs.Prelude.{◌==◌}
use Rattle.std.proofs.lemmas.Bool.{and_parts, and_from, and_left, cond_both, cases_Bool, cond-true, cond-false, false_from_ne_true, not-true, or_cases}
use Rattle.cg_base.specs.Sets.{has, is_within}
use Rattle.cg_action.specs.declared.action.Action.{Action}
use Rattle.cg_knowledge.specs.declared.summary.Summary.{Summary}
use Rattle.cg_knowledge.specs.Summaries.{senders, gone, remaining}
use Rattle.cg_knowledge.specs.Verdict.{decides}
use Rattle.cg_plan.specs.declared.parts.Item.{Item}
use Rattle.cg_plan.specs.declared.parts.Item.TheVariants.{Green, Red}
use Rattle.cg_plan.specs.Progress.{is_wanted, next_item, is_done}
use Rattle.cg_wire.specs.declared.message.Msg.{Msg}
use Rattle.cg_wire.specs.declared.message.Msg.TheVariants.{Action as ActionMsg, State as StateMsg, GreenItem, RedItem, Cpc}
use Rattle.cg_client.specs.Replica.{State, RegPrim, ExchangeStates, ExchangeActions, Construct, NonPrim, Left}
use Rattle.cg_client.specs.Turn.{Turn, go_to}
use Rattle.cg_queue.specs.Queue.{green_count}
use Rattle.cg_client.specs.Marks.{mark_red, mark_green, mark_green_at}
use Rattle.cg_client.specs.Install.{install}
use Rattle.cg_states.specs.ExchangeStates.{is_usable, with_heard}
use Rattle.cg_states.specs.ExchangeActions.{progress, go_on, take_item, mark_item}
use Rattle.cg_states.specs.Construct.{attempt_set, is_announced as is_usable_announcement, construct_with}
use Rattle.cg_states.specs.ReplicaStep.{on_message}
use Rattle.cg_model.specs.Talk.{Talk, hears_from, is_full, is_through, is_ended, is_announced, is_due, may_go_on, may_say, state_behind, state_in}
use Rattle.cg_group.specs.LookupLaws.{at-cond}
use Rattle.cg_agree_lemmas.specs.TalkEarly.{IsEarly, all-member, not_full, due_parts}
use Rattle.cg_agree_lemmas.specs.HandState.{IsKept, kept-mark_red, kept-mark_green, state_at_end, state-go_on, state-full}

module _ (set : List ℕ) (conf me : ℕ) (t : Talk) (early : IsEarly set t) (tr : Turn) (id : tr.replica.held.id ≡ me)
    (at : tr.replica.state ≡ state_in set conf t me)
    (attempt : is_ended set t ≡ true → has (gone t.heard) me ≡ false → decides t.heard ≡ true → attempt_set tr.replica.held ≡ remaining t.heard) where
  -- the plan has come so far
  abbrev plan_state : List Summary → ℕ → ℕ → State
  plan_state heard n i = cond (is_done (progress heard n)) (state_at_end conf heard i) (ExchangeActions conf heard n)

  pub hand-summary : (from : ℕ) (s : Summary) → may_say set conf t from (StateMsg s) ≡ true →
      (on_message (state_in set conf t me) from (StateMsg s) tr).replica.state ≡ state_in set conf (hears_from t from (StateMsg s)) me
  unfolding on_message
  hand-summary from s may =
      let u = hears_from t from (StateMsg s) in
      let outer = and_parts ((has set from && (s.id == from)) && (s.conf == conf)) (not (has (senders t.heard) from)) may in
      let named = and_parts (has set from && (s.id == from)) (s.conf == conf) outer.0 in
      let whose = and_parts (has set from) (s.id == from) named.0 in
      let usable : is_usable conf t.heard from s ≡ true = and_from ((s.id == from) && (s.conf == conf)) _ (and_from (s.id == from) (s.conf == conf) whose.1 named.1) outer.1 in
      let partly = not_full set t from whose.0 (not-true (has (senders t.heard) from) outer.1) in
      let said = early.quiet (and_left (is_full set t) (is_through t) partly) in
      let here : state_in set conf t me ≡ ExchangeStates conf set t.heard = rw partly refl in
      ap (λ (st : State). (on_message st from (StateMsg s) tr).replica.state) here
      ∙ ap (λ (b : Bool). (cond b (with_heard tr conf set u.heard) tr).replica.state) usable
      ∙ at-cond (λ (x : Turn). x.replica.state) (is_full set u) (go_on tr conf u.heard 0) (go_to tr (ExchangeStates conf set u.heard))
      ∙ ⊎_elim
      (λ full. cond-true (is_full set u) (go_on tr conf u.heard 0).replica.state (ExchangeStates conf set u.heard) full ∙ state-go_on tr conf u.heard 0
      ∙ ap₂ (plan_state u.heard) (sym (early.none partly)) id ∙ sym (state-full set conf u me full said.0))
      (λ rest. cond-false (is_full set u) (go_on tr conf u.heard 0).replica.state (ExchangeStates conf set u.heard) rest ∙ sym (waits u rest))
      (cases_Bool (is_full set u)) where
        waits : (u : Talk) → is_full set u ≡ false → state_in set conf u me ≡ ExchangeStates conf set u.heard
        waits u rest = rw rest refl

  kept-item : (m : Msg) → IsKept tr (mark_item tr m) → IsKept tr (take_item tr t.heard m)
  kept-item m k = cond_both (has (gone t.heard) tr.replica.held.id) tr (mark_item tr m) (IsKept tr) (λ y. record { state = refl; id = refl }) (λ n. k)

  -- an item that is due is the next one
  hand-item : (from : ℕ) (m : Msg) (item : Item) → is_due set t from item ≡ true → IsKept tr (take_item tr t.heard m) →
      (cond (is_wanted (next_item (progress t.heard t.accepted)) from item) (go_on (take_item tr t.heard m) conf t.heard (suc t.accepted)) tr).replica.state
      ≡ state_in set conf (record t { accepted = suc t.accepted }) me
  hand-item from m item due k =
      let parts = due_parts set t from item due in
      let wanted = (and_parts (is_full set t) (is_wanted (next_item (progress t.heard t.accepted)) from item) due).1 in
      let said = early.quiet (and_right' parts.1) in
      let u : Talk = record t { accepted = suc t.accepted } in
      ap (λ (b : Bool). (cond b (go_on (take_item tr t.heard m) conf t.heard (suc t.accepted)) tr).replica.state) wanted
      ∙ state-go_on (take_item tr t.heard m) conf t.heard (suc t.accepted)
      ∙ ap (plan_state t.heard (suc t.accepted)) (k.id ∙ id) ∙ sym (state-full set conf u me parts.0 said.0) where
        and_right' : is_through t ≡ false → is_ended set t ≡ false
        and_right' through = rw through (both_false (is_full set t)) where
          both_false : (b : Bool) → (b && false) ≡ false
          both_false true = refl
          both_false false = refl

  in_plan : (from : ℕ) (item : Item) → is_due set t from item ≡ true → state_in set conf t me ≡ ExchangeActions conf t.heard t.accepted
  in_plan from item due = let parts = due_parts set t from item due in rw (parts.0, parts.1) refl

  -- where the plan is through, by who has left, who decides and who has announced
  behind : (u : Talk) → is_ended set u ≡ true → state_in set conf u me ≡ state_behind conf u me
  behind u ended = let parts = and_parts (is_full set u) (is_through u) ended in rw (parts.0, parts.1) refl

  -- the state before is that of the talk
  is_in : (state : State) → state_in set conf t me ≡ state → tr.replica.state ≡ state
  is_in state e = at ∙ e

  pub hand-announcement : (from q of_conf : ℕ) → may_say set conf t from (Cpc q of_conf) ≡ true →
      (on_message (state_in set conf t me) from (Cpc q of_conf) tr).replica.state ≡ state_in set conf (hears_from t from (Cpc q of_conf)) me
  unfolding on_message
  hand-announcement from q of_conf may =
      let outer = and_parts ((((q == from) && (of_conf == conf)) && may_go_on set t from) && decides t.heard) (not (has t.announced from)) may in
      let inner = and_parts (((q == from) && (of_conf == conf)) && may_go_on set t from) (decides t.heard) outer.0 in
      let named = and_parts ((q == from) && (of_conf == conf)) (may_go_on set t from) inner.0 in
      let on = and_parts (is_ended set t) (has (remaining t.heard) from) named.1 in
      let u = hears_from t from (Cpc q of_conf) in
      ⊎_elim
      (λ left.
      let before : state_in set conf t me ≡ Left = behind t on.0 ∙ left_behind t left in
      ap (λ (st : State). (on_message st from (Cpc q of_conf) tr).replica.state) before ∙ is_in Left before ∙ sym (behind u on.0 ∙ left_behind u left))
      (λ here.
      let set_is = attempt on.0 here inner.1 in
      let open_yet : is_announced t ≡ false = false_from_ne_true (is_announced t) (λ all.
      let has_it : has t.announced from ≡ true = all-member (has t.announced) (remaining t.heard) from on.1 all in
      let lacks : has t.announced from ≡ false = not-true (has t.announced from) outer.1 in
      let clash : true ≡ false = sym has_it ∙ lacks in cc) in
      let before : state_in set conf t me ≡ Construct conf t.announced = behind t on.0 ∙ (rw (here, inner.1, open_yet) refl) in
      let usable : is_usable_announcement tr.replica.held conf from q of_conf ≡ true =
      and_from ((q == from) && (of_conf == conf)) _ named.0 (ap (λ (l : List ℕ). has l from) set_is ∙ on.1) in
      ap (λ (st : State). (on_message st from (Cpc q of_conf) tr).replica.state) before
      ∙ ap (λ (b : Bool). (cond b (construct_with tr conf u.announced) tr).replica.state) usable
      ∙ at-cond (λ (x : Turn). x.replica.state) (is_within (attempt_set tr.replica.held) u.announced) (go_to (install tr) RegPrim) (go_to tr (Construct conf u.announced))
      ∙ ap (λ (l : List ℕ). cond (is_within l u.announced) RegPrim (Construct conf u.announced)) set_is
      ∙ sym (behind u on.0 ∙ deciding u here inner.1))
      (cases_Bool (has (gone t.heard) me)) where
        left_behind : (u : Talk) → has (gone u.heard) me ≡ true → state_behind conf u me ≡ Left
        left_behind u left = rw left refl

        deciding : (u : Talk) → has (gone u.heard) me ≡ false → decides u.heard ≡ true → state_behind conf u me ≡ cond (is_announced u) RegPrim (Construct conf u.announced)
        deciding u here decided = rw (here, decided) refl

  pub hand-action : (from : ℕ) (a : Action) → may_say set conf t from (ActionMsg a) ≡ true →
      (on_message (state_in set conf t me) from (ActionMsg a) tr).replica.state ≡ state_in set conf (hears_from t from (ActionMsg a)) me
  unfolding on_message
  hand-action from a may =
      let outer = and_parts ((a.id.creator == from) && may_go_on set t from) (not (decides t.heard) || is_announced t) may in
      let on = and_parts (is_ended set t) (has (remaining t.heard) from) (and_parts (a.id.creator == from) (may_go_on set t from) outer.0).1 in
      ⊎_elim
      (λ left. stays Left (behind t on.0 ∙ (rw left refl)) tr (record { state = refl; id = refl }) refl)
      (λ here. ⊎_elim
      (λ outside.
      let no = not-true (decides t.heard) outside in
      stays (NonPrim true) (behind t on.0 ∙ outside_behind here no) (mark_red tr a) (kept-mark_red tr a) refl)
      (λ all. ⊎_elim
      (λ decided. stays RegPrim (behind t on.0 ∙ inside_behind here decided all) (mark_green tr a) (kept-mark_green tr a) refl)
      (λ no. stays (NonPrim true) (behind t on.0 ∙ outside_behind here no) (mark_red tr a) (kept-mark_red tr a) refl)
      (cases_Bool (decides t.heard)))
      (or_cases (not (decides t.heard)) (is_announced t) outer.1))
      (cases_Bool (has (gone t.heard) me)) where
        inside_behind : has (gone t.heard) me ≡ false → decides t.heard ≡ true → is_announced t ≡ true → state_behind conf t me ≡ RegPrim
        inside_behind here decided all = rw (here, decided, all) refl

        outside_behind : has (gone t.heard) me ≡ false → decides t.heard ≡ false → state_behind conf t me ≡ NonPrim true
        outside_behind here isnt = rw (here, isnt) refl

        stays : (state : State) → state_in set conf t me ≡ state → (x : Turn) → IsKept tr x → on_message state from (ActionMsg a) tr ≡ x →
            (on_message (state_in set conf t me) from (ActionMsg a) tr).replica.state ≡ state_in set conf t me
        stays state before x k e =
            ap (λ (st : State). (on_message st from (ActionMsg a) tr).replica.state) before ∙ ap (λ (y : Turn). y.replica.state) e ∙ k.state ∙ at

  kept-green_at : (place : ℕ) (a : Action) → IsKept tr (mark_green_at tr place a)
  kept-green_at place a =
      cond_both (place == suc (green_count tr.replica.held.queue)) (mark_green tr a) tr (IsKept tr) (λ y. kept-mark_green tr a) (λ n. record { state = refl; id = refl })

  -- any message that may be said
  pub hand-message : (from : ℕ) (m : Msg) → may_say set conf t from m ≡ true →
      (on_message (state_in set conf t me) from m tr).replica.state ≡ state_in set conf (hears_from t from m) me
  unfolding on_message
  hand-message from (StateMsg s) may = hand-summary from s may
  hand-message from (GreenItem place a) may =
      ap (λ (st : State). (on_message st from (GreenItem place a) tr).replica.state) (in_plan from (Green place) may)
      ∙ hand-item from (GreenItem place a) (Green place) may (kept-item (GreenItem place a) (kept-green_at place a))
  hand-message from (RedItem a) may =
      ap (λ (st : State). (on_message st from (RedItem a) tr).replica.state) (in_plan from (Red a.id) may)
      ∙ hand-item from (RedItem a) (Red a.id) may (kept-item (RedItem a) (kept-mark_red tr a))
  hand-message from (Cpc q of_conf) may = hand-announcement from q of_conf may
  hand-message from (ActionMsg a) may = hand-action from a may
