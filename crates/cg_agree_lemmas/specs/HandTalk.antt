-- Whatever a member is handed in its regular phase, it has said what is due behind the talk with it: each kind of message.
use Rattle.std.proofs.Common.{◌≡◌, ℕ, suc, Bool, true, false, cond, not, ◌&&◌, List, [], ◌∷◌, ◌++◌, Option, filter_map, fold, refl, sym, ap, ◌∙◌, ⊎_elim, append-nil, if◌then◌else◌, arith, ◌-◌, subst}
use Rattle.std.specs.Prelude.{◌==◌}
use Rattle.std.proofs.lemmas.Bool.{and_parts, and_from, cond_both, cases_Bool, cond-true, cond-false}
use Rattle.cg_base.specs.Sets.{has, is_within, with_member}
use Rattle.cg_base.specs.MemberLaws.{is_within_more}
use Rattle.cg_action.specs.declared.action.Action.{Action}
use Rattle.cg_queue.specs.Queue.{Marking, Marks, Gaps, marked_red, green_count}
use Rattle.cg_queue.specs.declared.mark.Mark.TheVariants.{Placed, Known}
use Rattle.cg_knowledge.specs.declared.summary.Summary.{Summary}
use Rattle.cg_knowledge.specs.Summaries.{senders, gone, remaining}
use Rattle.cg_knowledge.specs.Verdict.{decides}
use Rattle.cg_plan.specs.declared.parts.Item.{Item}
use Rattle.cg_plan.specs.declared.parts.Item.TheVariants.{Green, Red}
use Rattle.cg_plan.specs.Plan.{plan_of}
use Rattle.cg_plan.specs.Progress.{is_wanted, next_item, turn_of}
use Rattle.cg_plan.specs.FilledLaws.{plan-filled}
use Rattle.cg_wire.specs.declared.message.Msg.{Msg}
use Rattle.cg_wire.specs.declared.message.Msg.TheVariants.{Action as ActionMsg, State as StateMsg, GreenItem, RedItem, Cpc}
use Rattle.cg_client.specs.Replica.{State, RegPrim, ExchangeStates, ExchangeActions, Construct, NonPrim, Left}
use Rattle.cg_client.specs.Turn.{Turn, go_to}
use Rattle.cg_client.specs.Marks.{is_unmade, marked, mark_red, mark_green, can_be_green, place_green, mark_green_at}
use Rattle.cg_client.specs.Requests.{is_creating}
use Rattle.cg_client.specs.Install.{install, yellow_green, valid_yellow}
use Rattle.cg_states.specs.ExchangeStates.{is_usable, with_heard}
use Rattle.cg_states.specs.ExchangeActions.{progress, go_on, take_item, mark_item}
use Rattle.cg_states.specs.Construct.{attempt_set, is_announced as is_usable_announcement, construct_with}
use Rattle.cg_states.specs.ReplicaStep.{on_message}
use Rattle.cg_model.specs.Chronicle.{Told}
use Rattle.cg_model.specs.Talk.{Talk, hears_from, is_full, is_through, is_announced, is_due, may_say, state_behind, state_in, item_in, announcer_in, act_in, due_from, due_items, due_announcement}
use Rattle.cg_model.specs.FactsTalk.{SaysWhatIsDue}
use Rattle.cg_group.specs.LookupLaws.{at-cond}
use Rattle.cg_agree_lemmas.specs.TalkEarly.{IsEarly, not_full, due_parts}
use Rattle.cg_agree_lemmas.specs.TalkCommute.{tells, announces, acts}
use Rattle.cg_agree_lemmas.specs.DueItems.{part_items, due-step, due-first}
use Rattle.cg_agree_lemmas.specs.HandSays.{says-go_on}
use Rattle.cg_agree_lemmas.specs.HandState.{kept-mark_red, kept-mark_green}
use Rattle.cg_model.specs.Total.{keeps_part}

-- ---- marks say nothing

pub sent-marked : (t : Turn) (a : Action) (m : Marking) → (marked t a m).sent ≡ t.sent
sent-marked t a (Marks Placed q) = refl
sent-marked t a (Marks Known q) = refl
sent-marked t a (Gaps cut) = refl

pub sent-mark_red : (t : Turn) (a : Action) → (mark_red t a).sent ≡ t.sent
unfolding mark_red
sent-mark_red t a =
    let h = t.replica.held in
    cond_both (is_unmade h a) t (marked t a (marked_red h.queue a)) (λ u. u.sent ≡ t.sent) (λ y. refl) (λ n. sent-marked t a (marked_red h.queue a))

pub sent-mark_green : (t : Turn) (a : Action) → (mark_green t a).sent ≡ t.sent
unfolding mark_green place_green
sent-mark_green t a = cond_both (can_be_green t.replica.held a) (place_green t a) t (λ u. u.sent ≡ t.sent) (λ y. refl) (λ n. refl)

sent-mark_greens : (list : List Action) (t : Turn) → (fold mark_green t list).sent ≡ t.sent
sent-mark_greens [] t = refl
sent-mark_greens (a ∷ list) t = sent-mark_greens list (mark_green t a) ∙ sent-mark_green t a

pub sent-install : (t : Turn) → (install t).sent ≡ t.sent
unfolding install
sent-install t =
    let yellow = yellow_green t in
    sent-mark_greens yellow.replica.held.queue.reds yellow ∙ sent-mark_greens (valid_yellow t.replica.held) t

pub sent-mark_item : (t : Turn) (heard : List Summary) (m : Msg) → (mark_item t m).sent ≡ t.sent → (take_item t heard m).sent ≡ t.sent
sent-mark_item t heard m e = cond_both (has (gone heard) t.replica.held.id) t (mark_item t m) (λ u. u.sent ≡ t.sent) (λ y. refl) (λ n. e)

pub sent-mark_green_at : (t : Turn) (place : ℕ) (a : Action) → (mark_green_at t place a).sent ≡ t.sent
sent-mark_green_at t place a =
    cond_both (place == suc (green_count t.replica.held.queue)) (mark_green t a) t (λ u. u.sent ≡ t.sent) (λ y. sent-mark_green t a) (λ n. refl)

pub id-mark_green_at : (t : Turn) (place : ℕ) (a : Action) → (mark_green_at t place a).replica.held.id ≡ t.replica.held.id
id-mark_green_at t place a =
    cond_both (place == suc (green_count t.replica.held.queue)) (mark_green t a) t (λ u. u.replica.held.id ≡ t.replica.held.id) (λ y. (kept-mark_green t a).id) (λ n. refl)

pub id-take_item : (t : Turn) (heard : List Summary) (m : Msg) → (mark_item t m).replica.held.id ≡ t.replica.held.id → (take_item t heard m).replica.held.id ≡ t.replica.held.id
id-take_item t heard m e = cond_both (has (gone heard) t.replica.held.id) t (mark_item t m) (λ u. u.replica.held.id ≡ t.replica.held.id) (λ y. refl) (λ n. e)

-- ---- states that create

creating-choice : (left decided announced announced' : Bool) → (announced ≡ true → announced' ≡ true) →
    cond left false (cond (not decided) true (cond announced' true false)) ≡ false → cond left false (cond (not decided) true (cond announced true false)) ≡ false
creating-choice true d a b grows e = refl
creating-choice false false a b grows e = e
creating-choice false true false b grows e = refl
creating-choice false true true b grows e = ap (λ c. cond c true false) (sym (grows refl)) ∙ e

pub creating-behind : (conf : ℕ) (t : Talk) (me : ℕ) → is_creating (state_behind conf t me)
    ≡ cond (has (gone t.heard) me) false (cond (not (decides t.heard)) true (cond (is_announced t) true false))
creating-behind conf t me =
    at-cond is_creating (has (gone t.heard) me) Left (if not (decides t.heard) then NonPrim true else if is_announced t then RegPrim else Construct conf t.announced)
    ∙ ap (cond (has (gone t.heard) me) false)
    (at-cond is_creating (not (decides t.heard)) (NonPrim true) (if is_announced t then RegPrim else Construct conf t.announced)
    ∙ ap (cond (not (decides t.heard)) true) (at-cond is_creating (is_announced t) RegPrim (Construct conf t.announced)))

-- ---- what is said with each kind of message

module _ (set : List ℕ) (conf me : ℕ) (t : Talk) (tr : Turn) (none : tr.sent ≡ []) where
  partly-state : (u : Talk) → is_full set u ≡ false → state_in set conf u me ≡ ExchangeStates conf set u.heard
  partly-state u partly = rw partly refl

  usable-from : (from : ℕ) (s : Summary) → may_say set conf t from (StateMsg s) ≡ true → is_usable conf t.heard from s ≡ true
  usable-from from s may =
      let outer = and_parts ((has set from && (s.id == from)) && (s.conf == conf)) (not (has (senders t.heard) from)) may in
      let named = and_parts (has set from && (s.id == from)) (s.conf == conf) outer.0 in
      let whose = and_parts (has set from) (s.id == from) named.0 in
      and_from ((s.id == from) && (s.conf == conf)) (not (has (senders t.heard) from)) (and_from (s.id == from) (s.conf == conf) whose.1 named.1) outer.1

  pub sent-summary : (from : ℕ) (s : Summary) → may_say set conf t from (StateMsg s) ≡ true →
      (on_message (state_in set conf t me) from (StateMsg s) tr).sent
      ≡ cond (is_full set (hears_from t from (StateMsg s))) (go_on tr conf (t.heard ++ s ∷ []) 0).sent []
  unfolding on_message
  sent-summary from s may =
      let u = hears_from t from (StateMsg s) in
      let first = tells set conf t from s may in
      let partly : is_full set t ≡ false = not_full set t from first.member first.first in
      ap (λ (st : State). (on_message st from (StateMsg s) tr).sent) (partly-state t partly)
      ∙ ap (λ (b : Bool). (cond b (with_heard tr conf set u.heard) tr).sent) (usable-from from s may)
      ∙ at-cond (λ (x : Turn). x.sent) (is_full set u) (go_on tr conf u.heard 0) (go_to tr (ExchangeStates conf set u.heard))
      ∙ ap (cond (is_full set u) (go_on tr conf u.heard 0).sent) none

  in_plan : (from : ℕ) (item : Item) → is_due set t from item ≡ true → state_in set conf t me ≡ ExchangeActions conf t.heard t.accepted
  in_plan from item due = let parts = due_parts set t from item due in rw (parts.0, parts.1) refl

  -- an item that is due is taken, and the plan goes on
  item-sent : (from : ℕ) (m : Msg) (item : Item) → is_due set t from item ≡ true →
      (cond (is_wanted (next_item (progress t.heard t.accepted)) from item) (go_on (take_item tr t.heard m) conf t.heard (suc t.accepted)) tr).sent
      ≡ (go_on (take_item tr t.heard m) conf t.heard (suc t.accepted)).sent
  item-sent from m item due =
      let wanted = (and_parts (is_full set t) (is_wanted (next_item (progress t.heard t.accepted)) from item) due).1 in
      ap (λ (b : Bool). (cond b (go_on (take_item tr t.heard m) conf t.heard (suc t.accepted)) tr).sent) wanted

  pub sent-green : (from at : ℕ) (a : Action) → may_say set conf t from (GreenItem at a) ≡ true →
      (on_message (state_in set conf t me) from (GreenItem at a) tr).sent ≡ (go_on (take_item tr t.heard (GreenItem at a)) conf t.heard (suc t.accepted)).sent
  unfolding on_message
  sent-green from at a may =
      ap (λ (st : State). (on_message st from (GreenItem at a) tr).sent) (in_plan from (Green at) may) ∙ item-sent from (GreenItem at a) (Green at) may

  pub sent-red : (from : ℕ) (a : Action) → may_say set conf t from (RedItem a) ≡ true →
      (on_message (state_in set conf t me) from (RedItem a) tr).sent ≡ (go_on (take_item tr t.heard (RedItem a)) conf t.heard (suc t.accepted)).sent
  unfolding on_message
  sent-red from a may =
      ap (λ (st : State). (on_message st from (RedItem a) tr).sent) (in_plan from (Red a.id) may) ∙ item-sent from (RedItem a) (Red a.id) may

  ended-state : (v : Talk) → is_full set v ≡ true → is_through v ≡ true → state_in set conf v me ≡ state_behind conf v me
  ended-state v full through = rw (full, through) refl

  -- a replica behind the end of a plan
  behind-state : (P : State → Type 0) → P Left → P (NonPrim true) → P RegPrim → P (Construct conf t.announced) → P (state_behind conf t me)
  behind-state P left non prim construct =
      cond_both (has (gone t.heard) me) Left (if not (decides t.heard) then NonPrim true else if is_announced t then RegPrim else Construct conf t.announced) P
      (λ y. left)
      (λ n. cond_both (not (decides t.heard)) (NonPrim true) (if is_announced t then RegPrim else Construct conf t.announced) P
      (λ y. non) (λ n. cond_both (is_announced t) RegPrim (Construct conf t.announced) P (λ y. prim) (λ n. construct)))

  quiet-construct : (from i k : ℕ) → (on_message (Construct conf t.announced) from (Cpc i k) tr).sent ≡ []
  unfolding on_message
  quiet-construct from i k =
      let heard = with_member t.announced from in
      let done = is_within (attempt_set tr.replica.held) heard in
      cond_both (is_usable_announcement tr.replica.held conf from i k) (construct_with tr conf heard) tr (λ u. u.sent ≡ [])
      (λ y. cond_both done (go_to (install tr) RegPrim) (go_to tr (Construct conf heard)) (λ u. u.sent ≡ []) (λ d. sent-install tr ∙ none) (λ d. none)) (λ n. none)

  quiet-cpc : (from i k : ℕ) → (on_message (state_behind conf t me) from (Cpc i k) tr).sent ≡ []
  unfolding on_message
  quiet-cpc from i k = behind-state (λ st. (on_message st from (Cpc i k) tr).sent ≡ []) none none none (quiet-construct from i k)

  quiet-act : (from : ℕ) (a : Action) → (on_message (state_behind conf t me) from (ActionMsg a) tr).sent ≡ []
  unfolding on_message
  quiet-act from a = behind-state (λ st. (on_message st from (ActionMsg a) tr).sent ≡ []) none (sent-mark_red tr a ∙ none) (sent-mark_green tr a ∙ none) none

  pub sent-cpc : (from i k : ℕ) → may_say set conf t from (Cpc i k) ≡ true → (on_message (state_in set conf t me) from (Cpc i k) tr).sent ≡ []
  sent-cpc from i k may =
      let on = (announces set conf t from i k may).goes_on in
      ap (λ (st : State). (on_message st from (Cpc i k) tr).sent) (ended-state t on.full on.through) ∙ quiet-cpc from i k

  pub sent-act : (from : ℕ) (a : Action) → may_say set conf t from (ActionMsg a) ≡ true → (on_message (state_in set conf t me) from (ActionMsg a) tr).sent ≡ []
  sent-act from a may =
      let on = (acts set conf t from a may).goes_on in
      ap (λ (st : State). (on_message st from (ActionMsg a) tr).sent) (ended-state t on.full on.through) ∙ quiet-act from a

-- ---- each kind of message

module _ (set : List ℕ) (conf me : ℕ) (t : Talk) (early : IsEarly set t) (member : has set me ≡ true) (tr : Turn) (id : tr.replica.held.id ≡ me)
    (none : tr.sent ≡ []) (said : List Msg) (told : Option Told) (says : SaysWhatIsDue set conf me said t told) where
  -- at first nothing is due but one's summary
  said-nothing : (u : Talk) → is_full set u ≡ false → (due_items set u me ≡ []) × (due_announcement set u me ≡ [])
  said-nothing u partly = (rw partly refl, rw partly refl)

  due-at_first : (u : Talk) → is_full set u ≡ true → u.accepted ≡ 0 → due_items set u me ≡ part_items (turn_of (plan_of u.heard) me u.accepted)
  due-at_first u full zeroth = rw (full, zeroth) (due-first (plan_of u.heard) me (plan-filled u.heard))

  pub says-summary : (from : ℕ) (s : Summary) → may_say set conf t from (StateMsg s) ≡ true →
      (is_full set (hears_from t from (StateMsg s)) ≡ true → keeps_part tr.replica.held.queue (turn_of (plan_of (t.heard ++ s ∷ [])) me 0) ≡ true) →
      SaysWhatIsDue set conf me (said ++ (on_message (state_in set conf t me) from (StateMsg s) tr).sent) (hears_from t from (StateMsg s)) told
  unfolding on_message
  says-summary from s may holds =
      let u = hears_from t from (StateMsg s) in
      let first = tells set conf t from s may in
      let partly : is_full set t ≡ false = not_full set t from first.member first.first in
      let zeroth : u.accepted ≡ 0 = early.none partly in
      let before = said-nothing t partly in
      let items : filter_map item_in said ≡ [] = says.items ∙ before.0 in
      let announcement : filter_map announcer_in said ≡ [] = says.announcement ∙ before.1 in
      let actions : filter_map act_in said ≡ [] = says.actions (ap is_creating (partly-state set conf me t tr none t partly)) in
      let sent = sent-summary set conf me t tr none from s may in
      ⊎_elim
      (λ full.
      let due : due_items set u me ≡ filter_map item_in said ++ part_items (turn_of (plan_of u.heard) me u.accepted) =
      due-at_first u full zeroth ∙ ap (λ xs. xs ++ part_items (turn_of (plan_of u.heard) me u.accepted)) (sym items) in
      let goes = says-go_on set conf me u said told tr full member id none (rw zeroth (holds full)) says.summary due announcement actions in
      let same : (go_on tr conf u.heard u.accepted).sent ≡ (on_message (state_in set conf t me) from (StateMsg s) tr).sent =
      ap (λ n. (go_on tr conf u.heard n).sent) zeroth ∙ sym (sent ∙ cond-true (is_full set u) (go_on tr conf u.heard 0).sent [] full) in
      subst (λ (xs : List Msg). SaysWhatIsDue set conf me (said ++ xs) u told) same goes)
      (λ rest.
      let after = said-nothing u rest in
      let same : [] ≡ (on_message (state_in set conf t me) from (StateMsg s) tr).sent = sym (sent ∙ cond-false (is_full set u) (go_on tr conf u.heard 0).sent [] rest) in
      subst (λ (xs : List Msg). SaysWhatIsDue set conf me xs u told) (sym (append-nil said) ∙ ap (λ xs. said ++ xs) same)
      (record { summary = says.summary; items = items ∙ sym after.0; announcement = announcement ∙ sym after.1; actions = λ no. actions }))
      (cases_Bool (is_full set u))

  says-item : (from : ℕ) (m : Msg) (item : Item) (u : Turn) → is_due set t from item ≡ true → u.replica.held.id ≡ me → u.sent ≡ [] →
      keeps_part u.replica.held.queue (turn_of (plan_of t.heard) me (suc t.accepted)) ≡ true →
      SaysWhatIsDue set conf me (said ++ (go_on u conf t.heard (suc t.accepted)).sent) (record t { accepted = suc t.accepted }) told
  says-item from m item u due id' none' holds =
      let parts = due_parts set t from item due in
      let next : Talk = record t { accepted = suc t.accepted } in
      let whole : suc t.accepted - 0 ≡ suc t.accepted = omega arith in
      let step = due-step (plan_of t.heard) 0 me t.accepted (plan-filled t.heard) (omega arith)
      ∙ ap (λ k. due_from 0 (plan_of t.heard) me t.accepted ++ part_items (turn_of (plan_of t.heard) me k)) whole in
      let before : due_announcement set t me ≡ [] = rw (parts.0, parts.1) refl in
      let state : is_creating (state_in set conf t me) ≡ false = ap is_creating (in_plan set conf me t tr none from item due) in
      let items : due_items set t me ≡ due_from 0 (plan_of t.heard) me t.accepted = rw parts.0 refl in
      let dues : due_items set next me ≡ filter_map item_in said ++ part_items (turn_of (plan_of t.heard) me (suc t.accepted)) =
      rw (parts.0, says.items ∙ items) step in
      says-go_on set conf me next said told u parts.0 member id' none' holds says.summary dues (says.announcement ∙ before) (says.actions state)

  -- behind the plan nothing more is due
  pub says-quiet : (announced : List ℕ) (list : List Action) (sent : List Msg) → sent ≡ [] → is_full set t ≡ true → is_through t ≡ true →
      (is_announced t ≡ true → is_within (remaining t.heard) announced ≡ true) →
      SaysWhatIsDue set conf me (said ++ sent) (record t { announced = announced; acts = list }) told
  says-quiet announced list sent nothing full through grows =
      let u : Talk = record t { announced = announced; acts = list } in
      subst (λ (xs : List Msg). SaysWhatIsDue set conf me xs u told) (sym (append-nil said) ∙ ap (λ xs. said ++ xs) (sym nothing))
      (record {
        summary = says.summary;
        items = says.items;
        announcement = says.announcement;
        actions = λ no. says.actions (ap is_creating (ended-state set conf me t tr none t full through) ∙ creating-behind conf t me
            ∙ creating-choice (has (gone t.heard) me) (decides t.heard) (is_announced t) (is_announced u) grows
            (sym (creating-behind conf u me) ∙ sym (ap is_creating (ended-state set conf me t tr none u full through)) ∙ no));
      })

  pub says-cpc : (from i k : ℕ) → may_say set conf t from (Cpc i k) ≡ true →
      SaysWhatIsDue set conf me (said ++ (on_message (state_in set conf t me) from (Cpc i k) tr).sent) (hears_from t from (Cpc i k)) told
  says-cpc from i k may =
      let on = (announces set conf t from i k may).goes_on in
      says-quiet (with_member t.announced from) t.acts (on_message (state_in set conf t me) from (Cpc i k) tr).sent (sent-cpc set conf me t tr none from i k may) on.full on.through
      (is_within_more (remaining t.heard) t.announced from)

  pub says-act : (from : ℕ) (a : Action) → may_say set conf t from (ActionMsg a) ≡ true →
      SaysWhatIsDue set conf me (said ++ (on_message (state_in set conf t me) from (ActionMsg a) tr).sent) (hears_from t from (ActionMsg a)) told
  says-act from a may =
      let on = (acts set conf t from a may).goes_on in
      says-quiet t.announced (t.acts ++ a ∷ []) (on_message (state_in set conf t me) from (ActionMsg a) tr).sent (sent-act set conf me t tr none from a may) on.full on.through (λ yet. yet)

  abbrev HasNext : Msg → Type 0
  HasNext m = keeps_part (take_item tr t.heard m).replica.held.queue (turn_of (plan_of t.heard) me (suc t.accepted)) ≡ true

  pub says-green : (from at : ℕ) (a : Action) → may_say set conf t from (GreenItem at a) ≡ true → HasNext (GreenItem at a) →
      SaysWhatIsDue set conf me (said ++ (on_message (state_in set conf t me) from (GreenItem at a) tr).sent) (hears_from t from (GreenItem at a)) told
  unfolding on_message
  says-green from at a may holds =
      let m = GreenItem at a in
      let u = take_item tr t.heard m in
      let same = sent-green set conf me t tr none from at a may in
      subst (λ (xs : List Msg). SaysWhatIsDue set conf me (said ++ xs) (record t { accepted = suc t.accepted }) told) (sym same)
      (says-item from m (Green at) u may (id-take_item tr t.heard m (id-mark_green_at tr at a) ∙ id) (sent-mark_item tr t.heard m (sent-mark_green_at tr at a) ∙ none) holds)

  pub says-red : (from : ℕ) (a : Action) → may_say set conf t from (RedItem a) ≡ true → HasNext (RedItem a) →
      SaysWhatIsDue set conf me (said ++ (on_message (state_in set conf t me) from (RedItem a) tr).sent) (hears_from t from (RedItem a)) told
  unfolding on_message
  says-red from a may holds =
      let m = RedItem a in
      let u = take_item tr t.heard m in
      let same = sent-red set conf me t tr none from a may in
      subst (λ (xs : List Msg). SaysWhatIsDue set conf me (said ++ xs) (record t { accepted = suc t.accepted }) told) (sym same)
      (says-item from m (Red a.id) u may (id-take_item tr t.heard m (kept-mark_red tr a).id ∙ id) (sent-mark_item tr t.heard m (sent-mark_red tr a) ∙ none) holds)
