-- What a member says as it is handed a message may be said behind all that was said.
use Rattle.std.proofs.Common.{◌≡◌, ℕ, suc, true, false, cond, not, ◌&&◌, ◌-◌, ◌≤◌, List, [], ◌∷◌, ◌++◌, Option, Some, None, length, map, fold, drop, refl, ap, ap₂, ◌∙◌, ⊎_elim, append-nil, eq-eqb, arith}
use Rattle.std.specs.Prelude.{◌==◌, slice_get, is_some}
use Rattle.std.specs.List.{list_all}
use Rattle.std.specs.Option.{option_map, option_to_list}
use Rattle.std.proofs.lemmas.Bool.{and_parts, and_from, cond_both, cases_Bool, not_from_false, leb-true}
use Rattle.cg_base.specs.declared.action_id.ActionId.{ActionId}
use Rattle.cg_base.specs.Lists.{at_place}
use Rattle.cg_base.specs.Ids.{same_id}
use Rattle.cg_base.specs.Sets.{has, is_within}
use Rattle.cg_base.specs.FindLaws.{found_passes}
use Rattle.cg_action.specs.declared.action.Action.{Action}
use Rattle.cg_queue.specs.Queue.{QueueView, action_of}
use Rattle.cg_knowledge.specs.Summaries.{senders, gone, remaining}
use Rattle.cg_knowledge.specs.Verdict.{decides}
use Rattle.cg_plan.specs.declared.parts.Item.{Item}
use Rattle.cg_plan.specs.declared.parts.Item.TheVariants.{Green, Red}
use Rattle.cg_plan.specs.declared.parts.Part.{Part}
use Rattle.cg_plan.specs.declared.parts.SentItem.{SentItem as PlanSent}
use Rattle.cg_plan.specs.Items.{items_of, items_of_plan, sent_by as plan_sent}
use Rattle.cg_plan.specs.contracts.parts.ItemPartialEq.TheImpl.{ghosts as same_item}
use Rattle.cg_plan.specs.Plan.{plan_of}
use Rattle.cg_plan.specs.Progress.{is_wanted, next_item, is_done, turn_of}
use Rattle.cg_plan.specs.PlanLaws.{same_item-itself, same_item-is}
use Rattle.cg_plan.specs.FilledLaws.{plan-filled}
use Rattle.cg_wire.specs.declared.message.Msg.{Msg}
use Rattle.cg_wire.specs.declared.message.Msg.TheVariants.{GreenItem, RedItem, Cpc}
use Rattle.cg_group.specs.State.{Sent}
use Rattle.cg_client.specs.Turn.{Turn}
use Rattle.cg_states.specs.ExchangeActions.{message_of, progress, go_on}
use Rattle.cg_model.specs.Looks.{sent_by}
use Rattle.cg_model.specs.Talk.{Talk, hears, is_full, is_through, is_ended, is_due, may_go_on, may_say, is_legal, item_in, announcer_in}
use Rattle.cg_agree_lemmas.specs.TalkEarly.{all-member}
use Rattle.cg_agree_lemmas.specs.TalkCommute.{wanted-one}
use Rattle.cg_agree_lemmas.specs.DueAll.{begins, none-begins, get-drop, next-drop}
use Rattle.cg_agree_lemmas.specs.HandSays.{messages, part_messages, cpc_at_end, sent-go_on, remains-unless_gone}
use Rattle.cg_agree_lemmas.specs.SaidSoFar.{kind_of, IsSame, NoneElse, rest-same, rest-through, rest-lacks}
use Rattle.cg_model.specs.Total.{keeps_part}

module _ (set : List ℕ) (conf me : ℕ) where
  due-there : (z : Talk) (item : Item) → is_full set z ≡ true → slice_get (items_of_plan (plan_of z.heard)) z.accepted ≡ Some (plan_sent me item) → is_due set z me item ≡ true
  unfolding next_item
  due-there z item full here =
      and_from (is_full set z) (is_wanted (next_item (progress z.heard z.accepted)) me item) full
      (ap (λ o. is_wanted o me item) here ∙ and_from (me == me) (same_item.eq item item) (eq-eqb me me refl) (same_item-itself item))

  legal-green : (at : ℕ) (o : Option Action) (z : Talk) (rest : List Msg) → is_some (option_map (GreenItem at) o) ≡ true → is_due set z me (Green at) ≡ true →
      is_legal set conf (record z { accepted = suc z.accepted }) (map (sent_by me) rest) ≡ true →
      is_legal set conf z (map (sent_by me) (option_to_list (option_map (GreenItem at) o) ++ rest)) ≡ true
  legal-green at None z rest there due more = absurd (let none : false ≡ true = there in cc)
  legal-green at (Some a) z rest there due more =
      and_from (is_due set z me (Green at)) (is_legal set conf (record z { accepted = suc z.accepted }) (map (sent_by me) rest)) due more

  legal-red : (id : ActionId) (o : Option Action) (z : Talk) (rest : List Msg) → ((a : Action) → o ≡ Some a → Red a.id ≡ Red id) →
      is_some (option_map RedItem o) ≡ true → is_due set z me (Red id) ≡ true →
      is_legal set conf (record z { accepted = suc z.accepted }) (map (sent_by me) rest) ≡ true →
      is_legal set conf z (map (sent_by me) (option_to_list (option_map RedItem o) ++ rest)) ≡ true
  legal-red id None z rest named there due more = absurd (let none : false ≡ true = there in cc)
  legal-red id (Some a) z rest named there due more =
      and_from (is_due set z me (Red a.id)) (is_legal set conf (record z { accepted = suc z.accepted }) (map (sent_by me) rest))
      (ap (λ i. is_due set z me i) (named a refl) ∙ due) more

  -- the items of a member that come next, one after another
  legal-items : (q : QueueView) (items : List Item) (z : Talk) (rest : List PlanSent) → is_full set z ≡ true →
      drop z.accepted (items_of_plan (plan_of z.heard)) ≡ map (plan_sent me) items ++ rest → list_all (λ item. is_some (message_of q item)) items ≡ true →
      is_legal set conf z (map (sent_by me) (messages q items)) ≡ true
  legal-items q [] z rest full here all = refl
  legal-items q (Green at ∷ items) z rest full here all =
      let parts = and_parts (is_some (message_of q (Green at))) (list_all (λ item. is_some (message_of q item)) items) all in
      let plan = items_of_plan (plan_of z.heard) in
      let due = due-there z (Green at) full (get-drop plan z.accepted (plan_sent me (Green at)) (map (plan_sent me) items ++ rest) here) in
      let next = next-drop plan z.accepted (plan_sent me (Green at)) (map (plan_sent me) items ++ rest) here in
      legal-green at (at_place q.greens (at - q.white)) z (messages q items) parts.0 due
      (legal-items q items (record z { accepted = suc z.accepted }) rest full next parts.1)
  legal-items q (Red id ∷ items) z rest full here all =
      let parts = and_parts (is_some (message_of q (Red id))) (list_all (λ item. is_some (message_of q item)) items) all in
      let plan = items_of_plan (plan_of z.heard) in
      let due = due-there z (Red id) full (get-drop plan z.accepted (plan_sent me (Red id)) (map (plan_sent me) items ++ rest) here) in
      let next = next-drop plan z.accepted (plan_sent me (Red id)) (map (plan_sent me) items ++ rest) here in
      legal-red id (action_of q id) z (messages q items)
      (λ a found. same_item-is (Red a.id) (Red id) (found_passes (λ a. same_id a.id id) (q.greens ++ q.reds) a found)) parts.0 due
      (legal-items q items (record z { accepted = suc z.accepted }) rest full next parts.1)

  -- the first item of a part that begins
  first-item : (xs : List PlanSent) (k : ℕ) (items : List Item) (rest : List PlanSent) → 1 ≤ length items → drop k xs ≡ map (plan_sent me) items ++ rest →
      (item : Item) × (slice_get xs k ≡ Some (plan_sent me item))
  first-item xs k [] rest some here = absurd (omega arith)
  first-item xs k (item ∷ items) rest some here = (item, get-drop xs k (plan_sent me item) (map (plan_sent me) items ++ rest) here)

  -- where the next item is the member's, no other one's is due
  none-else : (t : Talk) (item : Item) → slice_get (items_of_plan (plan_of t.heard)) t.accepted ≡ Some (plan_sent me item) → is_full set t ≡ true → NoneElse set conf me t
  none-else t item here full q other differs due =
      let mine = (and_parts (is_full set t) (is_wanted (next_item (progress t.heard t.accepted)) me item) (due-there t item full here)).1 in
      let its = (and_parts (is_full set t) (is_wanted (next_item (progress t.heard t.accepted)) q other) due).1 in
      differs (wanted-one (next_item (progress t.heard t.accepted)) q me other item its mine)

  module _ (t : Talk) (full : is_full set t ≡ true) (member : has set me ≡ true) (quiet : t.announced ≡ []) (rest : List (Sent Msg))
      (legal : is_legal set conf t rest ≡ true) (no_cpc : kind_of announcer_in me rest ≡ [])
      (no_items : (part : Part) → turn_of (plan_of t.heard) me t.accepted ≡ Some part → kind_of item_in me rest ≡ [])
      (u : Turn) (id : u.replica.held.id ≡ me) (none : u.sent ≡ []) (holds : keeps_part u.replica.held.queue (turn_of (plan_of t.heard) me t.accepted) ≡ true) where
    abbrev z : Talk
    z = fold hears t rest

    lacks : has z.announced me ≡ false
    lacks = rest-lacks set conf me rest t no_cpc (ap (λ xs. has xs me) quiet)

    full-same : IsSame set conf me t z → is_full set z ≡ true
    full-same same = ap (λ h. is_within set (senders h)) same.heard ∙ full

    -- the announcement at the end of the plan
    legal-cpc : is_done (progress t.heard t.accepted) ≡ true → is_legal set conf z (map (sent_by me) (cpc_at_end conf t.heard me)) ≡ true
    legal-cpc through =
        let same = rest-through set conf me rest t full through legal in
        cond_both (has (gone t.heard) me) [] (cond (decides t.heard) (Cpc me conf ∷ []) []) (λ xs. is_legal set conf z (map (sent_by me) xs) ≡ true) (λ y. refl)
        (λ stays. cond_both (decides t.heard) (Cpc me conf ∷ []) [] (λ xs. is_legal set conf z (map (sent_by me) xs) ≡ true)
        (λ decided. and_from (may_say set conf z me (Cpc me conf)) true (said same stays decided) refl) (λ n. refl)) where
          said : IsSame set conf me t z → has (gone t.heard) me ≡ false → decides t.heard ≡ true → may_say set conf z me (Cpc me conf) ≡ true
          said same stays decided =
              let told = all-member (has (senders t.heard)) set me member full in
              let remains : has (remaining z.heard) me ≡ true = ap (λ h. has (remaining h) me) same.heard ∙ remains-unless_gone t.heard me told ∙ not_from_false (has (gone t.heard) me) stays in
              let through' : is_through z ≡ true = ap₂ (λ h n. is_done (progress h n)) same.heard same.accepted ∙ through in
              let ended = and_from (is_full set z) (is_through z) (full-same same) through' in
              let on = and_from (is_ended set z) (has (remaining z.heard) me) ended remains in
              let named = and_from (me == me) (conf == conf) (eq-eqb me me refl) (eq-eqb conf conf refl) in
              and_from ((((me == me) && (conf == conf)) && may_go_on set z me) && decides z.heard) (not (has z.announced me))
              (and_from (((me == me) && (conf == conf)) && may_go_on set z me) (decides z.heard) (and_from ((me == me) && (conf == conf)) (may_go_on set z me) named on)
              (ap decides same.heard ∙ decided))
              (not_from_false (has z.announced me) lacks)

    -- a part that begins
    legal-part : (o : Option Part) → turn_of (plan_of t.heard) me t.accepted ≡ o → keeps_part u.replica.held.queue o ≡ true →
        is_legal set conf z (map (sent_by me) (part_messages u.replica.held.queue o)) ≡ true
    legal-part None e all = refl
    legal-part (Some part) e all =
        let b = begins (plan_of t.heard) me t.accepted part (plan-filled t.heard) e in
        let first = first-item (items_of_plan (plan_of t.heard)) t.accepted (items_of part) b.rest b.some b.here in
        let same = rest-same set conf me rest t full (none-else t first.0 first.1 full) legal (no_items part e) in
        legal-items u.replica.held.queue (items_of part) z b.rest (full-same same)
        (ap₂ (λ h n. drop n (items_of_plan (plan_of h))) same.heard same.accepted ∙ b.here) all

    abbrev next_part : Option Part
    next_part = turn_of (plan_of t.heard) me t.accepted

    -- behind all that was said, what a member says as the plan goes on may be said
    pub go_on-legal : is_legal set conf z (map (sent_by me) (go_on u conf t.heard t.accepted).sent) ≡ true
    unfolding is_done
    go_on-legal =
        let q = u.replica.held.queue in
        let done = is_done (progress t.heard t.accepted) in
        let sent : (go_on u conf t.heard t.accepted).sent ≡ part_messages q next_part ++ cond done (cpc_at_end conf t.heard me) [] =
        sent-go_on u conf t.heard t.accepted ∙ rw (none, id) refl in
        ap (λ xs. is_legal set conf z (map (sent_by me) xs)) sent
        ∙ ⊎_elim
        (λ is.
        let over = none-begins (plan_of t.heard) me t.accepted (plan-filled t.heard) (leb-true (length (items_of_plan (plan_of t.heard))) t.accepted is) in
        ap₂ (λ o b. is_legal set conf z (map (sent_by me) (part_messages q o ++ cond b (cpc_at_end conf t.heard me) []))) over is ∙ legal-cpc is)
        (λ isnt.
        ap (λ b. is_legal set conf z (map (sent_by me) (part_messages q next_part ++ cond b (cpc_at_end conf t.heard me) []))) isnt
        ∙ ap (λ xs. is_legal set conf z (map (sent_by me) xs)) (append-nil (part_messages q next_part)) ∙ legal-part next_part refl holds)
        (cases_Bool done)
