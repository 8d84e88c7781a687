-- A green item that has a place in a configuration is no further than the order was: some member had that green as it told its summary.
use Rattle.std.proofs.Common.{◌≡◌, ℕ, zero, suc, ◌-◌, ◌<◌, ◌≤◌, true, List, [], ◌∷◌, map, flat_map, fold, length, Option, Some, None, IfSome, refl, sym, ap, subst, arith, slice_get}
use Rattle.std.specs.Option.{option_map_or}
use Rattle.std.proofs.lemmas.Bool.{and_parts}
use Rattle.cg_base.specs.EachLaws.{Each-append, Each-above, Each-front}
use Rattle.cg_base.specs.Lists.{above_up_to, Each}
use Rattle.cg_knowledge.specs.declared.summary.Summary.{Summary}
use Rattle.cg_knowledge.specs.Summaries.{most_updated}
use Rattle.cg_plan.specs.declared.parts.Item.{Item}
use Rattle.cg_plan.specs.declared.parts.Item.TheVariants.{Green, Red}
use Rattle.cg_plan.specs.declared.parts.Part.{Part}
use Rattle.cg_plan.specs.declared.parts.Part.TheVariants.{Greens, Reds}
use Rattle.cg_plan.specs.declared.parts.SentItem.{SentItem as PlanSent}
use Rattle.cg_plan.specs.declared.parts.SentPart.{SentPart}
use Rattle.cg_plan.specs.Items.{red_item, items_of, sent_by, items_of_turn, items_of_plan}
use Rattle.cg_plan.specs.Plan.{plan_of}
use Rattle.cg_plan.specs.Progress.{next_item, is_wanted}
use Rattle.cg_wire.specs.declared.message.Msg.{Msg}
use Rattle.cg_wire.specs.declared.message.Msg.TheVariants.{Action as ActionMsg, State as StateMsg, GreenItem, RedItem, Cpc}
use Rattle.cg_group.specs.State.{GroupState, Sent, configuration}
use Rattle.cg_states.specs.ExchangeActions.{progress}
use Rattle.cg_model.specs.World.{World}
use Rattle.cg_model.specs.Chronicle.{Told, Chronicle}
use Rattle.cg_model.specs.Looks.{told_in, members_in, ordered_in}
use Rattle.cg_model.specs.Talk.{Talk, no_talk, hears, hears_from, is_full, may_say, is_legal}
use Rattle.cg_model.specs.FactsTalk.{summaries_of, AreTold, whole_talk}
use Rattle.cg_model.specs.Played.{StandsBeside}
use Rattle.cg_agree.proofs.ExchangeThere.{next-due}
use Rattle.cg_agree_lemmas.specs.HandsContent.{IsTurnOf, led, plan-turns}

-- a summary of so many greens, and an item up to so many
abbrev pub IsSummaryWithin : ℕ → Summary → Type 0
IsSummaryWithin n s = s.green_count ≤ n

abbrev IsPlaceWithin : ℕ → Item → Type 0
IsPlaceWithin n (Green place) = place ≤ n
IsPlaceWithin n (Red id) = Unit {0}

abbrev pub IsItemWithin : ℕ → Msg → Type 0
IsItemWithin n (GreenItem at a) = at ≤ n
IsItemWithin n _ = Unit {0}

-- ---- the items of a plan

greens-within : (n low to : ℕ) (places : List ℕ) → to ≤ n → Each (λ k. (low < k) × (k ≤ to)) places → Each (IsPlaceWithin n) (map Green places)
greens-within n low to [] le each = tt
greens-within n low to (place ∷ places) le each = ((let here = each.0.1 in omega arith), greens-within n low to places le each.1)

reds-within : (n creator : ℕ) (indices : List ℕ) → Each (IsPlaceWithin n) (map (red_item creator) indices)
reds-within n creator [] = tt
reds-within n creator (i ∷ indices) = (tt, reds-within n creator indices)

part-within : (n : ℕ) (o : Option Summary) (turn : SentPart) (part : Part) → IfSome o (IsSummaryWithin n) → IsTurnOf o turn part → Each (IsPlaceWithin n) (items_of part)
part-within n None turn (Greens from to) bound is = absurd (is.1 refl)
part-within n (Some b) turn (Greens from to) bound is =
    let most : to ≡ b.green_count = is.0.1 in
    greens-within n (from - 1) to (above_up_to (from - 1) to) (omega arith) (Each-above (from - 1) to)
part-within n o turn (Reds creator from to) bound is = reds-within n creator (above_up_to (from - 1) to)

sent-within : (n sender : ℕ) (items : List Item) → Each (IsPlaceWithin n) items → Each (λ x. IsPlaceWithin n x.item) (map (sent_by sender) items)
sent-within n sender [] each = tt
sent-within n sender (i ∷ items) each = (each.0, sent-within n sender items each.1)

turns-within : (n : ℕ) (o : Option Summary) → IfSome o (IsSummaryWithin n) → (plan : List SentPart) → Each (λ turn. IsTurnOf o turn turn.part) plan → Each (λ x. IsPlaceWithin n x.item) (flat_map items_of_turn plan)
turns-within n o bound [] each = tt
turns-within n o bound (turn ∷ plan) each =
    Each-append (λ x. IsPlaceWithin n x.item) (items_of_turn turn) (flat_map items_of_turn plan)
    (sent-within n turn.sender (items_of turn.part) (part-within n o turn turn.part bound each.0)) (turns-within n o bound plan each.1)

best-within : (n : ℕ) (heard : List Summary) → Each (IsSummaryWithin n) heard → IfSome (most_updated heard) (IsSummaryWithin n)
unfolding most_updated
best-within n heard each = led (IsSummaryWithin n) heard None tt each

plan-within : (n : ℕ) (heard : List Summary) → Each (IsSummaryWithin n) heard → Each (λ x. IsPlaceWithin n x.item) (items_of_plan (plan_of heard))
unfolding items_of_plan
plan-within n heard each = turns-within n (most_updated heard) (best-within n heard each) (plan_of heard) (plan-turns heard)

each-slice : (P : PlanSent → Type 0) (xs : List PlanSent) (k : ℕ) (x : PlanSent) → Each P xs → slice_get xs k ≡ Some x → P x
each-slice P [] k x each e = absurd (let clash : None ≡ Some x = e in cc)
each-slice P (y ∷ xs) zero x each e = subst P (ap (λ o. option_map_or (λ z. z) o y) e) each.0
each-slice P (y ∷ xs) (suc k) x each e = each-slice P xs k x each.1 e

item-within : (n : ℕ) (heard : List Summary) (k from at : ℕ) → Each (IsSummaryWithin n) heard → is_wanted (next_item (progress heard k)) from (Green at) ≡ true → at ≤ n
item-within n heard k from at each wanted =
    let item = next-due heard k from (Green at) wanted in
    subst (IsPlaceWithin n) item.kind (each-slice (λ x. IsPlaceWithin n x.item) (items_of_plan (plan_of heard)) k item.sent (plan-within n heard each) item.here)

-- ---- what is said

-- who was heard before is among those heard behind
heard-before : (P : Summary → Type 0) (list : List (Sent Msg)) (t : Talk) → Each P (fold hears t list).heard → Each P t.heard
heard-before P [] t each = each
heard-before P (s ∷ list) t each = at s.message (heard-before P list (hears t s) each) where
  at : (m : Msg) → Each P (hears_from t s.from m).heard → Each P t.heard
  at (StateMsg x) is = Each-front P t.heard (x ∷ []) is
  at (GreenItem place a) is = is
  at (RedItem a) is = is
  at (Cpc id conf) is = is
  at (ActionMsg a) is = is

items-within : (set : List ℕ) (conf n : ℕ) (list : List (Sent Msg)) (t : Talk) → is_legal set conf t list ≡ true → Each (IsSummaryWithin n) (fold hears t list).heard → Each (λ s. IsItemWithin n s.message) list
items-within set conf n [] t legal each = tt
items-within set conf n (s ∷ list) t legal each =
    let parts = and_parts (may_say set conf t s.from s.message) (is_legal set conf (hears t s) list) legal in
    (at s.message parts.0, items-within set conf n list (hears t s) parts.1 each) where
      at : (m : Msg) → may_say set conf t s.from m ≡ true → IsItemWithin n m
      at (GreenItem place a) may =
          item-within n t.heard t.accepted s.from place (heard-before (IsSummaryWithin n) (s ∷ list) t each)
          (and_parts (is_full set t) (is_wanted (next_item (progress t.heard t.accepted)) s.from (Green place)) may).1
      at (StateMsg x) may = tt
      at (RedItem a) may = tt
      at (Cpc id conf) may = tt
      at (ActionMsg a) may = tt

-- ---- behind an event

module _ (c : Chronicle) (w : World) (stands : StandsBeside c w) where
  told-within : (conf : ℕ) (heard : List Summary) → AreTold c conf heard → Each (IsSummaryWithin (length w.order)) heard
  told-within conf [] are = tt
  told-within conf (s ∷ heard) are = (at (told_in c conf s.id) are.0 (stands.rests.order_book.told conf s.id), told-within conf heard are.1) where
    at : (o : Option Told) → summaries_of o ≡ s ∷ [] → IfSome o (λ t. t.summary.green_count ≤ length w.order) → IsSummaryWithin (length w.order) s
    at None e le = absurd (let clash : [] ≡ s ∷ [] = e in cc)
    at (Some t) e le = subst (IsSummaryWithin (length w.order)) (ap first e) le where
      first : List Summary → Summary
      first [] = s
      first (x ∷ xs) = x

  -- the messages that have a place
  pub placed-within : (conf : ℕ) → Each (λ s. IsItemWithin (length w.order) s.message) (configuration w.group conf).ordered
  placed-within conf =
      subst (λ (g : GroupState Msg). Each (λ s. IsItemWithin (length w.order) s.message) (configuration g conf).ordered) (sym stands.same.group)
      (items-within (members_in c conf) conf (length w.order) (ordered_in c conf) no_talk (stands.facts.talk.talk_legal.ordered conf)
      (told-within conf (whole_talk c conf).heard (stands.facts.talk.heard_is_told conf)))
