-- What a member says as it is handed a message may be said behind all that was said: each kind of message.
use Rattle.std.proofs.Common.{◌≡◌, ℕ, suc, true, false, ◌&&◌, ◌-◌, List, [], ◌∷◌, ◌++◌, Option, Some, map, filter_map, fold, take, refl, sym, ap, ◌∙◌, ⊎_elim, append-nil, arith, subst}
use Rattle.std.proofs.lemmas.Bool.{and_parts, and_from, and_left, and_right, cases_Bool, cond-true, cond-false}
use Rattle.std.proofs.lemmas.List.{append_assoc}
use Rattle.std.proofs.lemmas.List.Elements.{filter_map-append}
use Rattle.std.proofs.lemmas.List.Sums.{fold-append}
use Rattle.cg_base.specs.Sets.{has, is_within}
use Rattle.cg_action.specs.declared.action.Action.{Action}
use Rattle.cg_knowledge.specs.declared.summary.Summary.{Summary}
use Rattle.cg_knowledge.specs.Summaries.{senders}
use Rattle.cg_plan.specs.declared.parts.Item.TheVariants.{Green, Red}
use Rattle.cg_plan.specs.declared.parts.Part.{Part}
use Rattle.cg_plan.specs.Items.{items_of_plan}
use Rattle.cg_plan.specs.Plan.{plan_of}
use Rattle.cg_plan.specs.Progress.{turn_of}
use Rattle.cg_plan.specs.FilledLaws.{plan-filled}
use Rattle.cg_wire.specs.declared.message.Msg.{Msg}
use Rattle.cg_wire.specs.declared.message.Msg.TheVariants.{Action as ActionMsg, State as StateMsg, GreenItem, RedItem, Cpc}
use Rattle.cg_group.specs.State.{Sent}
use Rattle.cg_client.specs.Turn.{Turn}
use Rattle.cg_states.specs.ExchangeActions.{go_on, take_item}
use Rattle.cg_states.specs.ReplicaStep.{on_message}
use Rattle.cg_model.specs.Chronicle.{Told}
use Rattle.cg_model.specs.Looks.{sent_by, placed_of}
use Rattle.cg_model.specs.Talk.{Talk, no_talk, hears, hears_from, is_full, is_through, is_ended, may_say, is_legal, state_in, item_in, announcer_in, due_items, due_from, due_announcement}
use Rattle.cg_model.specs.FactsTalk.{SaysWhatIsDue}
use Rattle.cg_agree_lemmas.specs.TalkEarly.{early-legal, early-none, not_full, due_parts}
use Rattle.cg_agree_lemmas.specs.TalkCommute.{legal-append, tells}
use Rattle.cg_agree_lemmas.specs.DueAll.{items_by, due-all}
use Rattle.cg_agree_lemmas.specs.HandState.{kept-mark_red}
use Rattle.cg_agree_lemmas.specs.HandTalk.{sent-summary, sent-green, sent-red, sent-cpc, sent-act, sent-mark_red, sent-mark_green_at, id-mark_green_at, id-take_item, sent-mark_item}
use Rattle.cg_agree_lemmas.specs.SaidSoFar.{kind_of, part_of, kind-cons, nobodys, nil-both, placed-append, items_so_far, so_far-legal}
use Rattle.cg_agree_lemmas.specs.HandLegal.{go_on-legal}
use Rattle.cg_model.specs.Total.{keeps_part}

pub nil-behind : {Y : Type 0} (xs ys : List Y) → xs ++ ys ≡ xs → ys ≡ []
nil-behind [] ys e = e
nil-behind (x ∷ xs) ys e = nil-behind xs ys (let tail : x ∷ (xs ++ ys) ≡ x ∷ xs = e in cc)

-- a member was handed so much, is handed a message now, and the rest was said; it has said what is due behind what it was handed
module _ (set : List ℕ) (conf me : ℕ) (handed : List (Sent Msg)) (from : ℕ) (m : Msg) (rest : List (Sent Msg)) where
  abbrev pub handed_now : Sent Msg
  handed_now = record { from = from; message = m }

  abbrev pub all_said : List (Sent Msg)
  all_said = handed ++ handed_now ∷ rest

  abbrev pub before : Talk
  before = fold hears no_talk handed

  abbrev pub after : Talk
  after = hears_from before from m

  pub record IsHanded (told : Option Told) (tr : Turn) : Type 0 where
    pub member : has set me ≡ true
    pub legal : is_legal set conf no_talk all_said ≡ true
    pub says : SaysWhatIsDue set conf me (placed_of me all_said) before told
    pub id : tr.replica.held.id ≡ me
    pub none : tr.sent ≡ []

  pub legal-parts : is_legal set conf no_talk all_said ≡ true →
      (is_legal set conf no_talk handed ≡ true) × (may_say set conf before from m ≡ true) × (is_legal set conf after rest ≡ true)
  legal-parts legal =
      let two = and_parts (is_legal set conf no_talk handed) (is_legal set conf before (handed_now ∷ rest)) (sym (legal-append set conf handed (handed_now ∷ rest) no_talk) ∙ legal) in
      let more = and_parts (may_say set conf before from m) (is_legal set conf after rest) two.1 in
      (two.0, more.0, more.1)

  kinds : {Y : Type 0} (f : Msg → Option Y) → kind_of f me all_said ≡ kind_of f me handed ++ (part_of f me from m ++ kind_of f me rest)
  kinds f =
      ap (filter_map f) (placed-append me handed (handed_now ∷ rest)) ∙ filter_map-append f (placed_of me handed) (placed_of me (handed_now ∷ rest))
      ∙ ap (λ xs. kind_of f me handed ++ xs) (kind-cons f me handed_now rest)

  none-later : {Y : Type 0} (f : Msg → Option Y) → kind_of f me all_said ≡ [] → kind_of f me rest ≡ []
  none-later f none = (nil-both set conf me (part_of f me from m) (kind_of f me rest) (nil-both set conf me (kind_of f me handed) (part_of f me from m ++ kind_of f me rest) (sym (kinds f) ∙ none)).1).1

  all-talk : fold hears no_talk all_said ≡ fold hears after rest
  all-talk = fold-append hears no_talk handed (handed_now ∷ rest)

  -- the items that the member has said so far
  so_far : is_legal set conf no_talk handed ≡ true → may_say set conf before from m ≡ true →
      items_so_far set after me ≡ kind_of item_in me handed ++ part_of item_in me from m
  so_far legal may =
      let list = handed ++ handed_now ∷ [] in
      let ok : is_legal set conf no_talk list ≡ true =
      legal-append set conf handed (handed_now ∷ []) no_talk
      ∙ and_from (is_legal set conf no_talk handed) (may_say set conf before from m && true) legal (and_from (may_say set conf before from m) true may refl) in
      ap (λ t. items_so_far set t me) (sym (fold-append hears no_talk handed (handed_now ∷ [])))
      ∙ so_far-legal set conf me list no_talk (early-none set) ok
      ∙ ap (λ xs. xs ++ kind_of item_in me list) (nobodys (is_full set no_talk))
      ∙ ap (filter_map item_in) (placed-append me handed (handed_now ∷ [])) ∙ filter_map-append item_in (placed_of me handed) (placed_of me (handed_now ∷ []))
      ∙ ap (λ xs. kind_of item_in me handed ++ xs) (kind-cons item_in me handed_now [] ∙ append-nil (part_of item_in me from m))

  -- where a part of the member begins behind one more item, it has said no item of it
  no-item-later : is_legal set conf no_talk all_said ≡ true → is_full set before ≡ true → after.heard ≡ before.heard → after.accepted ≡ suc before.accepted →
      kind_of item_in me all_said ≡ due_items set before me → (part : Part) → turn_of (plan_of before.heard) me (suc before.accepted) ≡ Some part →
      kind_of item_in me rest ≡ []
  no-item-later legal full heard accepted said part begins =
      let parts = legal-parts legal in
      let plan = plan_of before.heard in
      let whole : suc before.accepted - 0 ≡ suc before.accepted = omega arith in
      let front = kind_of item_in me handed ++ part_of item_in me from m in
      let due : due_items set before me ≡ items_by me (take (suc before.accepted) (items_of_plan plan)) =
      due-is full ∙ due-all plan 0 me before.accepted part (plan-filled before.heard) (omega arith) (ap (turn_of plan me) whole ∙ begins)
      ∙ ap (λ k. items_by me (take k (items_of_plan plan))) whole in
      let far : items_so_far set after me ≡ items_by me (take (suc before.accepted) (items_of_plan plan)) =
      far-is after before.heard (suc before.accepted) full heard accepted in
      let same : front ++ kind_of item_in me rest ≡ front =
      append_assoc (kind_of item_in me handed) (part_of item_in me from m) (kind_of item_in me rest) ∙ sym (kinds item_in) ∙ said ∙ due ∙ sym far ∙ so_far parts.0 parts.1 in
      nil-behind front (kind_of item_in me rest) same
    where
      due-is : is_full set before ≡ true → due_items set before me ≡ due_from 0 (plan_of before.heard) me before.accepted
      due-is full = rw full refl

      far-is : (t : Talk) (heard : List Summary) (n : ℕ) → is_within set (senders heard) ≡ true → t.heard ≡ heard → t.accepted ≡ n →
          items_so_far set t me ≡ items_by me (take n (items_of_plan (plan_of heard)))
      far-is t heard n full same many = rw (same, many, full) refl

  abbrev pub MaySay : List Msg → Type 0
  MaySay sent = is_legal set conf (fold hears no_talk all_said) (map (sent_by me) sent) ≡ true

  may-none : (sent : List Msg) → sent ≡ [] → MaySay sent
  may-none sent none = rw none refl

  -- behind one more message the plan goes on
  may-go_on : (told : Option Told) (tr u : Turn) → IsHanded told tr → is_full set after ≡ true → is_ended set before ≡ false → after.announced ≡ before.announced →
      ((part : Part) → turn_of (plan_of after.heard) me after.accepted ≡ Some part → kind_of item_in me rest ≡ []) →
      u.replica.held.id ≡ me → u.sent ≡ [] → keeps_part u.replica.held.queue (turn_of (plan_of after.heard) me after.accepted) ≡ true →
      MaySay (go_on u conf after.heard after.accepted).sent
  may-go_on told tr u h full yet announced no_items id none holds =
      let parts = legal-parts h.legal in
      let early = early-legal set conf handed no_talk (early-none set) parts.0 in
      let quiet : after.announced ≡ [] = announced ∙ (early.quiet yet).0 in
      let nobody : due_announcement set before me ≡ [] = rw yet refl in
      let no_cpc = none-later announcer_in (h.says.announcement ∙ nobody) in
      ap (λ t. is_legal set conf t (map (sent_by me) (go_on u conf after.heard after.accepted).sent)) all-talk
      ∙ go_on-legal set conf me after full h.member quiet rest parts.2 no_cpc no_items u id none holds

-- what has to be there to be said: the actions of a part that begins behind a summary, and behind an item
abbrev pub HasFirst : Turn → Talk → ℕ → Type 0
HasFirst tr t me = keeps_part tr.replica.held.queue (turn_of (plan_of t.heard) me 0) ≡ true

abbrev pub HasNext : Turn → Talk → ℕ → Msg → Type 0
HasNext tr t me m = keeps_part (take_item tr t.heard m).replica.held.queue (turn_of (plan_of t.heard) me (suc t.accepted)) ≡ true

module _ (set : List ℕ) (conf me : ℕ) (handed : List (Sent Msg)) (from : ℕ) (rest : List (Sent Msg)) (told : Option Told) (tr : Turn) where
  abbrev before_it : Talk
  before_it = fold hears no_talk handed

  pub may-summary : (s : Summary) → IsHanded set conf me handed from (StateMsg s) rest told tr →
      (is_full set (hears_from before_it from (StateMsg s)) ≡ true → HasFirst tr (hears_from before_it from (StateMsg s)) me) →
      MaySay set conf me handed from (StateMsg s) rest (on_message (state_in set conf before_it me) from (StateMsg s) tr).sent
  may-summary s h holds =
      let t = before_it in
      let u = hears_from t from (StateMsg s) in
      let parts = legal-parts set conf me handed from (StateMsg s) rest h.legal in
      let early = early-legal set conf handed no_talk (early-none set) parts.0 in
      let first = tells set conf t from s parts.1 in
      let partly : is_full set t ≡ false = not_full set t from first.member first.first in
      let zeroth : u.accepted ≡ 0 = early.none partly in
      let yet : is_ended set t ≡ false = and_left (is_full set t) (is_through t) partly in
      let nothing : due_items set t me ≡ [] = rw partly refl in
      let no_items = none-later set conf me handed from (StateMsg s) rest item_in (h.says.items ∙ nothing) in
      let sent = sent-summary set conf me t tr h.none from s parts.1 in
      ⊎_elim
      (λ full.
      let same : (go_on tr conf u.heard u.accepted).sent ≡ (on_message (state_in set conf t me) from (StateMsg s) tr).sent =
      ap (λ n. (go_on tr conf u.heard n).sent) zeroth ∙ sym (sent ∙ cond-true (is_full set u) (go_on tr conf u.heard 0).sent [] full) in
      subst (λ (xs : List Msg). MaySay set conf me handed from (StateMsg s) rest xs) same
      (may-go_on set conf me handed from (StateMsg s) rest told tr tr h full yet refl (λ part b. no_items) h.id h.none (rw zeroth (holds full))))
      (λ more. may-none set conf me handed from (StateMsg s) rest (on_message (state_in set conf t me) from (StateMsg s) tr).sent
      (sent ∙ cond-false (is_full set u) (go_on tr conf u.heard 0).sent [] more))
      (cases_Bool (is_full set u))

  pub may-green : (at : ℕ) (a : Action) → IsHanded set conf me handed from (GreenItem at a) rest told tr → HasNext tr before_it me (GreenItem at a) →
      MaySay set conf me handed from (GreenItem at a) rest (on_message (state_in set conf before_it me) from (GreenItem at a) tr).sent
  may-green at a h holds =
      let m = GreenItem at a in
      let t = before_it in
      let parts = legal-parts set conf me handed from m rest h.legal in
      let due = due_parts set t from (Green at) parts.1 in
      subst (λ (xs : List Msg). MaySay set conf me handed from m rest xs) (sym (sent-green set conf me t tr h.none from at a parts.1))
      (may-go_on set conf me handed from m rest told tr (take_item tr t.heard m) h due.0 (and_right (is_full set t) (is_through t) due.1) refl
      (no-item-later set conf me handed from m rest h.legal due.0 refl refl h.says.items)
      (id-take_item tr t.heard m (id-mark_green_at tr at a) ∙ h.id) (sent-mark_item tr t.heard m (sent-mark_green_at tr at a) ∙ h.none) holds)

  pub may-red : (a : Action) → IsHanded set conf me handed from (RedItem a) rest told tr → HasNext tr before_it me (RedItem a) →
      MaySay set conf me handed from (RedItem a) rest (on_message (state_in set conf before_it me) from (RedItem a) tr).sent
  may-red a h holds =
      let m = RedItem a in
      let t = before_it in
      let parts = legal-parts set conf me handed from m rest h.legal in
      let due = due_parts set t from (Red a.id) parts.1 in
      subst (λ (xs : List Msg). MaySay set conf me handed from m rest xs) (sym (sent-red set conf me t tr h.none from a parts.1))
      (may-go_on set conf me handed from m rest told tr (take_item tr t.heard m) h due.0 (and_right (is_full set t) (is_through t) due.1) refl
      (no-item-later set conf me handed from m rest h.legal due.0 refl refl h.says.items)
      (id-take_item tr t.heard m (kept-mark_red tr a).id ∙ h.id) (sent-mark_item tr t.heard m (sent-mark_red tr a) ∙ h.none) holds)

  pub may-cpc : (i k : ℕ) → IsHanded set conf me handed from (Cpc i k) rest told tr →
      MaySay set conf me handed from (Cpc i k) rest (on_message (state_in set conf before_it me) from (Cpc i k) tr).sent
  may-cpc i k h =
      let parts = legal-parts set conf me handed from (Cpc i k) rest h.legal in
      may-none set conf me handed from (Cpc i k) rest (on_message (state_in set conf before_it me) from (Cpc i k) tr).sent (sent-cpc set conf me before_it tr h.none from i k parts.1)

  pub may-act : (a : Action) → IsHanded set conf me handed from (ActionMsg a) rest told tr →
      MaySay set conf me handed from (ActionMsg a) rest (on_message (state_in set conf before_it me) from (ActionMsg a) tr).sent
  may-act a h =
      let parts = legal-parts set conf me handed from (ActionMsg a) rest h.legal in
      may-none set conf me handed from (ActionMsg a) rest (on_message (state_in set conf before_it me) from (ActionMsg a) tr).sent (sent-act set conf me before_it tr h.none from a parts.1)
