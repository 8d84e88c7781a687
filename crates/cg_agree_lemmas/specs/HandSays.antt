-- Whatever a member is handed in its regular phase, it has said what is due behind the talk with it.
use Rattle.std.proofs.Common.{◌≡◌, ℕ, Bool, true, false, cond, not, ◌&&◌, List, [], ◌∷◌, ◌++◌, Option, Some, None, filter_map, refl, sym, ap, ap₂, ◌∙◌, append-nil}
use Rattle.std.specs.Prelude.{◌-◌, is_some, flat_map}
use Rattle.std.specs.Option.{option_map, option_to_list}
use Rattle.cg_base.specs.Ids.{same_id}
use Rattle.std.specs.List.{list_all}
use Rattle.std.proofs.lemmas.Bool.{and_parts}
use Rattle.std.proofs.lemmas.List.Elements.{filter_map-append}
use Rattle.cg_base.specs.declared.action_id.ActionId.{ActionId}
use Rattle.cg_base.specs.Lists.{at_place}
use Rattle.cg_base.specs.Sets.{has}
use Rattle.cg_base.specs.SetLaws.{has-without}
use Rattle.cg_base.specs.FindLaws.{found_passes}
use Rattle.cg_action.specs.declared.action.Action.{Action}
use Rattle.cg_queue.specs.Queue.{QueueView, action_of}
use Rattle.cg_knowledge.specs.declared.summary.Summary.{Summary}
use Rattle.cg_knowledge.specs.Summaries.{senders, gone, remaining}
use Rattle.cg_knowledge.specs.Verdict.{decides}
use Rattle.cg_plan.specs.declared.parts.Item.{Item}
use Rattle.cg_plan.specs.declared.parts.Item.TheVariants.{Green, Red}
use Rattle.cg_plan.specs.declared.parts.Part.{Part}
use Rattle.cg_plan.specs.Items.{items_of}
use Rattle.cg_plan.specs.PlanLaws.{same_item-is}
use Rattle.cg_plan.specs.Plan.{plan_of}
use Rattle.cg_plan.specs.Progress.{is_done, turn_of}
use Rattle.cg_wire.specs.declared.message.Msg.{Msg}
use Rattle.cg_wire.specs.declared.message.Msg.TheVariants.{GreenItem, RedItem, Cpc}
use Rattle.cg_client.specs.Replica.{ExchangeActions, NonPrim, Left}
use Rattle.cg_client.specs.Turn.{Turn, go_to, with_held}
use Rattle.cg_client.specs.Requests.{empty_buffer}
use Rattle.cg_states.specs.ExchangeActions.{message_of, messages_in_part, send_part, progress, go_on}
use Rattle.cg_states.specs.PlanEnd.{take_over, attempt, decide, end_plan}
use Rattle.cg_model.specs.Chronicle.{Told}
use Rattle.cg_model.specs.Talk.{Talk, is_full, summary_in, item_in, announcer_in, act_in, due_items}
use Rattle.cg_model.specs.FactsTalk.{SaysWhatIsDue, summaries_of}
use Rattle.cg_group.specs.LookupLaws.{at-cond}
use Rattle.cg_agree_lemmas.specs.TalkEarly.{all-member}
use Rattle.cg_agree_lemmas.specs.DueItems.{part_items}
use Rattle.cg_model.specs.Total.{keeps_part}

-- ---- what the end of a plan says

-- the messages of a part, where there is one
abbrev pub part_messages : QueueView → Option Part → List Msg
part_messages q None = []
part_messages q (Some part) = messages_in_part q part

abbrev pub cpc_at_end : ℕ → List Summary → ℕ → List Msg
cpc_at_end conf heard me = cond (has (gone heard) me) [] (cond (decides heard) (Cpc me conf ∷ []) [])

pub sent-part : (t : Turn) (o : Option Part) → (send_part t o).sent ≡ t.sent ++ part_messages t.replica.held.queue o
unfolding send_part
sent-part t None = sym (append-nil t.sent)
sent-part t (Some part) = refl

id-part : (t : Turn) (o : Option Part) → (send_part t o).replica.held.id ≡ t.replica.held.id
unfolding send_part
id-part t None = refl
id-part t (Some part) = refl

onto : (b : Bool) (xs ys zs : List Msg) → cond b (xs ++ ys) (xs ++ zs) ≡ xs ++ cond b ys zs
onto true xs ys zs = refl
onto false xs ys zs = refl

pub sent-end : (t : Turn) (conf : ℕ) (heard : List Summary) → (end_plan t conf heard).sent ≡ t.sent ++ cpc_at_end conf heard t.replica.held.id
unfolding end_plan decide attempt take_over
sent-end t conf heard =
    let h = t.replica.held in
    let taken = with_held t (take_over h heard) in
    at-cond (λ (u : Turn). u.sent) (has (gone heard) h.id) (go_to (empty_buffer t) Left) (decide taken conf heard)
    ∙ ap₂ (cond (has (gone heard) h.id)) (sym (append-nil t.sent))
    (at-cond (λ (u : Turn). u.sent) (decides heard) (attempt taken conf heard) (go_to taken (NonPrim true))
    ∙ ap (cond (decides heard) (t.sent ++ Cpc h.id conf ∷ [])) (sym (append-nil t.sent)) ∙ onto (decides heard) t.sent (Cpc h.id conf ∷ []) [])
    ∙ onto (has (gone heard) h.id) t.sent [] (cond (decides heard) (Cpc h.id conf ∷ []) [])

-- what is said as the plan goes on
pub sent-go_on : (t : Turn) (conf : ℕ) (heard : List Summary) (accepted : ℕ) → (go_on t conf heard accepted).sent
    ≡ (t.sent ++ part_messages t.replica.held.queue (turn_of (plan_of heard) t.replica.held.id accepted))
    ++ cond (is_done (progress heard accepted)) (cpc_at_end conf heard t.replica.held.id) []
unfolding go_on
sent-go_on t conf heard accepted =
    let o = turn_of (plan_of heard) t.replica.held.id accepted in
    let going = go_to t (ExchangeActions conf heard accepted) in
    let sent = send_part going o in
    at-cond (λ (u : Turn). u.sent) (is_done (progress heard accepted)) (end_plan sent conf heard) sent
    ∙ ap₂ (cond (is_done (progress heard accepted))) (sent-end sent conf heard ∙ ap (λ n. sent.sent ++ cpc_at_end conf heard n) (id-part going o)) (sym (append-nil sent.sent))
    ∙ onto (is_done (progress heard accepted)) sent.sent (cpc_at_end conf heard t.replica.held.id) []
    ∙ ap (λ xs. xs ++ cond (is_done (progress heard accepted)) (cpc_at_end conf heard t.replica.held.id) []) (sent-part going o)

-- ---- the kinds of the messages of a part

abbrev pub messages : QueueView → List Item → List Msg
messages q items = flat_map (λ item. option_to_list (message_of q item)) items

pub record OnlyItems (list : List Msg) : Type 0 where
  pub summary : filter_map summary_in list ≡ []
  pub announcement : filter_map announcer_in list ≡ []
  pub actions : filter_map act_in list ≡ []

only-green : (at : ℕ) (o : Option Action) (rest : List Msg) → OnlyItems rest → OnlyItems (option_to_list (option_map (GreenItem at) o) ++ rest)
only-green at None rest more = more
only-green at (Some a) rest more = record { summary = more.summary; announcement = more.announcement; actions = more.actions }

only-red : (o : Option Action) (rest : List Msg) → OnlyItems rest → OnlyItems (option_to_list (option_map RedItem o) ++ rest)
only-red None rest more = more
only-red (Some a) rest more = record { summary = more.summary; announcement = more.announcement; actions = more.actions }

only-items : (q : QueueView) (items : List Item) → OnlyItems (messages q items)
only-items q [] = record { summary = refl; announcement = refl; actions = refl }
only-items q (Green at ∷ items) = only-green at (at_place q.greens (at - q.white)) (messages q items) (only-items q items)
only-items q (Red id ∷ items) = only-red (action_of q id) (messages q items) (only-items q items)

only-part : (q : QueueView) (o : Option Part) → OnlyItems (part_messages q o)
only-part q None = record { summary = refl; announcement = refl; actions = refl }
only-part q (Some part) = only-items q (items_of part)

green-item : (at : ℕ) (o : Option Action) (rest : List Msg) (items : List Item) → is_some (option_map (GreenItem at) o) ≡ true →
    filter_map item_in rest ≡ items → filter_map item_in (option_to_list (option_map (GreenItem at) o) ++ rest) ≡ Green at ∷ items
green-item at None rest items there more = absurd (let no : false ≡ true = there in cc)
green-item at (Some a) rest items there more = ap (λ xs. Green at ∷ xs) more

red-item : (id : ActionId) (o : Option Action) (rest : List Msg) (items : List Item) → ((a : Action) → o ≡ Some a → Red a.id ≡ Red id) →
    is_some (option_map RedItem o) ≡ true →
    filter_map item_in rest ≡ items → filter_map item_in (option_to_list (option_map RedItem o) ++ rest) ≡ Red id ∷ items
red-item id None rest items named there more = absurd (let no : false ≡ true = there in cc)
red-item id (Some a) rest items named there more = ap₂ (λ x xs. x ∷ xs) (named a refl) more

-- the messages of items that the replica has are those of the items
items-said : (q : QueueView) (items : List Item) → list_all (λ item. is_some (message_of q item)) items ≡ true →
    filter_map item_in (messages q items) ≡ items
items-said q [] all = refl
items-said q (Green at ∷ items) all =
    let parts = and_parts (is_some (message_of q (Green at))) (list_all (λ item. is_some (message_of q item)) items) all in
    green-item at (at_place q.greens (at - q.white)) (messages q items) items parts.0 (items-said q items parts.1)
items-said q (Red id ∷ items) all =
    let parts = and_parts (is_some (message_of q (Red id))) (list_all (λ item. is_some (message_of q item)) items) all in
    red-item id (action_of q id) (messages q items) items
    (λ a found. same_item-is (Red a.id) (Red id) (found_passes (λ a. same_id a.id id) (q.greens ++ q.reds) a found)) parts.0 (items-said q items parts.1)

part-said : (q : QueueView) (o : Option Part) → keeps_part q o ≡ true → filter_map item_in (part_messages q o) ≡ part_items o
part-said q None all = refl
part-said q (Some part) all = items-said q (items_of part) all

-- ---- three pieces of what is said

module _ {Y : Type 0} (f : Msg → Option Y) where
  kind-three : (said part end : List Msg) → filter_map f (said ++ (part ++ end)) ≡ filter_map f said ++ (filter_map f part ++ filter_map f end)
  kind-three said part end = filter_map-append f said (part ++ end) ∙ ap (λ xs. filter_map f said ++ xs) (filter_map-append f part end)

  kind-end : (done left decided : Bool) (m : Msg) → filter_map f (cond done (cond left [] (cond decided (m ∷ []) [])) [])
      ≡ cond done (cond left [] (cond decided (filter_map f (m ∷ [])) [])) []
  kind-end false left decided m = refl
  kind-end true true decided m = refl
  kind-end true false true m = refl
  kind-end true false false m = refl

none-end : {Y : Type 0} (done left decided : Bool) → cond done (cond left [] (cond decided [] [])) [] ≡ (let xs : List Y = [] in xs)
none-end false left decided = refl
none-end true true decided = refl
none-end true false true = refl
none-end true false false = refl

one-end : (done left decided : Bool) (me : ℕ) → cond done (cond left [] (cond decided (me ∷ []) [])) [] ≡ cond (((true && done) && not left) && decided) (me ∷ []) []
one-end false left decided me = refl
one-end true true decided me = refl
one-end true false true me = refl
one-end true false false me = refl

-- who has told a summary remains, or has left
pub remains-unless_gone : (heard : List Summary) (me : ℕ) → has (senders heard) me ≡ true → has (remaining heard) me ≡ not (has (gone heard) me)
unfolding remaining
remains-unless_gone heard me told = has-without (senders heard) (gone heard) me ∙ ap (λ b. b && not (has (gone heard) me)) told

module _ (set : List ℕ) (conf me : ℕ) (t : Talk) (said : List Msg) (told : Option Told) (u : Turn) where
  abbrev next_part : Option Part
  next_part = turn_of (plan_of t.heard) me t.accepted

  abbrev end_messages : List Msg
  end_messages = cond (is_done (progress t.heard t.accepted)) (cpc_at_end conf t.heard me) []

  said-three : u.replica.held.id ≡ me → u.sent ≡ [] → said ++ (go_on u conf t.heard t.accepted).sent
      ≡ said ++ (part_messages u.replica.held.queue next_part ++ end_messages)
  said-three id none = ap (λ xs. said ++ xs) (sent-go_on u conf t.heard t.accepted ∙ rw (none, id) refl)

  -- where all have told: with what is said as the plan goes on, a member has said what is due
  pub says-go_on : is_full set t ≡ true → has set me ≡ true → u.replica.held.id ≡ me → u.sent ≡ [] → keeps_part u.replica.held.queue next_part ≡ true →
      filter_map summary_in said ≡ summaries_of told → due_items set t me ≡ filter_map item_in said ++ part_items next_part →
      filter_map announcer_in said ≡ [] → filter_map act_in said ≡ [] →
      SaysWhatIsDue set conf me (said ++ (go_on u conf t.heard t.accepted).sent) t told
  says-go_on full member id none holds summary items announcement actions =
      let q = u.replica.held.queue in
      let only = only-part q next_part in
      let done = is_done (progress t.heard t.accepted) in
      let left = has (gone t.heard) me in
      let decided = decides t.heard in
      let remains = remains-unless_gone t.heard me (all-member (has (senders t.heard)) set me member full) in
      let all = said-three id none in
      record {
        summary = ap (filter_map summary_in) all ∙ kind-three summary_in said (part_messages q next_part) end_messages
            ∙ rw (only.summary, kind-end summary_in done left decided (Cpc me conf), none-end {Y = Summary} done left decided) (append-nil (filter_map summary_in said)) ∙ summary;
        items = ap (filter_map item_in) all ∙ kind-three item_in said (part_messages q next_part) end_messages
            ∙ rw (part-said q next_part holds, kind-end item_in done left decided (Cpc me conf), none-end {Y = Item} done left decided, append-nil (part_items next_part)) (sym items);
        announcement = ap (filter_map announcer_in) all ∙ kind-three announcer_in said (part_messages q next_part) end_messages
            ∙ rw (announcement, only.announcement, kind-end announcer_in done left decided (Cpc me conf)) (one-end done left decided me ∙ rw (full, remains) refl);
        actions = λ no. ap (filter_map act_in) all ∙ kind-three act_in said (part_messages q next_part) end_messages
            ∙ rw (actions, only.actions, kind-end act_in done left decided (Cpc me conf)) (none-end done left decided);
      }
