-- A member holds the actions of a part of a plan: greens above the discarded ones and up to its count, and a creator's reds above
-- what is green and up to what it knows.
use Rattle.std.proofs.Common.{◌≡◌, ℕ, ◌-◌, ◌<◌, ◌≤◌, Bool, true, false, cond, ◌&&◌, List, [], ◌∷◌, ◌++◌, length, map, find, Option, Some, None, is_some, option_map, refl, ap, ap₂, subst, ◌∙◌, ⊎_elim, arith}
use Rattle.std.specs.Prelude.{nat_lt, nat_le}
use Rattle.std.specs.List.{list_all}
use Rattle.std.proofs.lemmas.Bool.{cond-true, and_from, or_cases, lt-ltb, le-leb}
use Rattle.std.proofs.lemmas.List.{length-drop}
use Rattle.cg_base.specs.declared.action_id.ActionId.{ActionId}
use Rattle.cg_base.specs.declared.weighted.Weighted.{Weighted}
use Rattle.cg_base.specs.Cuts.{index_in}
use Rattle.cg_base.specs.Ids.{same_id, has_name}
use Rattle.cg_base.specs.Lists.{at_place, above_up_to, Each}
use Rattle.cg_action.specs.declared.action.Action.{Action}
use Rattle.cg_knowledge.specs.declared.summary.Summary.{Summary}
use Rattle.cg_plan.specs.declared.parts.Item.TheVariants.{Green}
use Rattle.cg_plan.specs.declared.parts.Part.{Part}
use Rattle.cg_plan.specs.declared.parts.Part.TheVariants.{Greens, Reds}
use Rattle.cg_plan.specs.declared.parts.SentPart.{SentPart}
use Rattle.cg_plan.specs.Items.{red_item}
use Rattle.cg_plan.specs.Plan.{plan_of}
use Rattle.cg_plan.specs.Progress.{turn_of}
use Rattle.cg_queue.specs.Queue.{names_of, action_of}
use Rattle.cg_wire.specs.declared.message.Msg.TheVariants.{GreenItem, RedItem}
use Rattle.cg_group.specs.LookupLaws.{eqb_comm}
use Rattle.cg_base.specs.EachLaws.{Each-above}
use Rattle.cg_group.specs.PlaceLaws.{at_place-within}
use Rattle.cg_client.specs.Replica.{Held}
use Rattle.cg_states.specs.ExchangeActions.{message_of}
use Rattle.cg_model.specs.FactsReplica.{IsMadeOf}
use Rattle.cg_agree_lemmas.specs.HandsContent.{turn-found}
use Rattle.cg_agree_lemmas.specs.HeldMarks.{IsOneself, rising-green}
use Rattle.cg_disk_records.specs.Holds.{cut_behind}
use Rattle.cg_disk_records.specs.RunMarkLaws.{run-names}
use Rattle.cg_model.specs.Total.{keeps_part}

-- how much of a part is held
abbrev pub HoldsPart : Held → List Action → Part → Type 0
HoldsPart h all (Greens from to) = (h.queue.white < from) × (to ≤ length all)
HoldsPart h all (Reds creator from to) = (index_in h.queue.green_cut creator < from) × (to ≤ index_in h.queue.red_cut creator)

-- a green at a place
green-held : (start : List Weighted) (h : Held) (all : List Action) (place : ℕ) → IsMadeOf start h all → h.queue.white < place → place ≤ length all → is_some (message_of h.queue (Green place)) ≡ true
green-held start h all place made above within =
    let w = h.queue.white in
    let long : length h.queue.greens ≡ length all - w = ap length made.kept ∙ length-drop w all in
    let found = at_place-within h.queue.greens (place - w) (omega arith) (omega arith) in
    mapped (at_place h.queue.greens (place - w)) found.0 found.1 where
      mapped : (o : Option Action) (a : Action) → o ≡ Some a → is_some (option_map (GreenItem place) o) ≡ true
      mapped None a e = absurd (let clash : None ≡ Some a = e in cc)
      mapped (Some x) a e = refl

-- a name of a red action is found
pub name-found : (xs ys : List Action) (id : ActionId) → has_name (names_of ys) id ≡ true → is_some (find (λ a. same_id a.id id) (xs ++ ys)) ≡ true
name-found [] [] id e = absurd (let clash : false ≡ true = e in cc)
name-found [] (y ∷ ys) id e = ⊎_elim
    (λ (here : same_id id y.id ≡ true).
    let mine : same_id y.id id ≡ true = turned id y.id ∙ here in
    ap (λ o. is_some o) (cond-true (same_id y.id id) (Some y) (find (λ a. same_id a.id id) ys) mine))
    (λ there. one (same_id y.id id) (Some y) (find (λ a. same_id a.id id) ys) refl (name-found [] ys id there))
    (or_cases (same_id id y.id) (has_name (names_of ys) id) e) where
      turned : (m n : ActionId) → same_id n m ≡ same_id m n
      turned m n = ap₂ (λ a b. a && b) (eqb_comm n.creator m.creator) (eqb_comm n.index m.index)

      one : (b : Bool) (o u : Option Action) → is_some o ≡ true → is_some u ≡ true → is_some (cond b o u) ≡ true
      one true o u e f = e
      one false o u e f = f
name-found (x ∷ xs) ys id e = one (same_id x.id id) (Some x) (find (λ a. same_id a.id id) (xs ++ ys)) refl (name-found xs ys id e) where
  one : (b : Bool) (o u : Option Action) → is_some o ≡ true → is_some u ≡ true → is_some (cond b o u) ≡ true
  one true o u e f = e
  one false o u e f = f

-- a red of a creator
red-held : (start : List Weighted) (h : Held) (all : List Action) (creator i : ℕ) → IsOneself start h all → index_in h.queue.green_cut creator < i → i ≤ index_in h.queue.red_cut creator →
    is_some (message_of h.queue (red_item creator i)) ≡ true
red-held start h all creator i is above within =
    let id : ActionId = record { creator = creator; index = i } in
    let named : has_name (names_of h.queue.reds) id ≡ true = run-names h.queue.green_cut (names_of h.queue.reds) id (rising-green start h all is) is.contiguous.reds
    ∙ and_from (nat_lt (index_in h.queue.green_cut creator) i) (nat_le i (index_in (cut_behind h.queue.green_cut (names_of h.queue.reds)) creator)) (lt-ltb (index_in h.queue.green_cut creator) i above)
    (le-leb i (index_in (cut_behind h.queue.green_cut (names_of h.queue.reds)) creator) (subst (λ cut. i ≤ index_in cut creator) is.made_of.red_cut within)) in
    mapped (action_of h.queue id) (name-found h.queue.greens h.queue.reds id named) where
      mapped : (o : Option Action) → is_some o ≡ true → is_some (option_map RedItem o) ≡ true
      mapped None e = e
      mapped (Some a) e = refl

-- what is held of a part is sent
pub part-held : (start : List Weighted) (h : Held) (all : List Action) (part : Part) → IsOneself start h all → HoldsPart h all part → keeps_part h.queue (Some part) ≡ true
part-held start h all (Greens from to) is holds = each (above_up_to (from - 1) to) (Each-above (from - 1) to) where
  each : (places : List ℕ) → Each (λ k. (from - 1 < k) × (k ≤ to)) places → list_all (λ item. is_some (message_of h.queue item)) (map Green places) ≡ true
  each [] within = refl
  each (k ∷ places) within =
      let low = within.0.0 in
      let high = within.0.1 in
      let above = holds.0 in
      let most = holds.1 in
      and_from (is_some (message_of h.queue (Green k))) (list_all (λ item. is_some (message_of h.queue item)) (map Green places))
      (green-held start h all k is.made_of (omega arith) (omega arith)) (each places within.1)
part-held start h all (Reds creator from to) is holds = each (above_up_to (from - 1) to) (Each-above (from - 1) to) where
  each : (indices : List ℕ) → Each (λ k. (from - 1 < k) × (k ≤ to)) indices → list_all (λ item. is_some (message_of h.queue item)) (map (red_item creator) indices) ≡ true
  each [] within = refl
  each (k ∷ indices) within =
      let low = within.0.0 in
      let high = within.0.1 in
      let above = holds.0 in
      let most = holds.1 in
      and_from (is_some (message_of h.queue (red_item creator k))) (list_all (λ item. is_some (message_of h.queue item)) (map (red_item creator) indices))
      (red-held start h all creator k is (omega arith) (omega arith)) (each indices within.1)

-- a member that holds each of its own parts of a plan holds the one that begins at a place
pub turn-held : (start : List Weighted) (h : Held) (all : List Action) (heard : List Summary) (me n : ℕ) → IsOneself start h all →
    Each (λ (turn : SentPart). turn.sender ≡ me → HoldsPart h all turn.part) (plan_of heard) → keeps_part h.queue (turn_of (plan_of heard) me n) ≡ true
turn-held start h all heard me n is each = at (turn_of (plan_of heard) me n) refl where
  at : (o : Option Part) → turn_of (plan_of heard) me n ≡ o → keeps_part h.queue o ≡ true
  at None e = refl
  at (Some part) e =
      let turn = turn-found (λ turn part. turn.sender ≡ me → HoldsPart h all part) (plan_of heard) me n part each e in
      part-held start h all part is (turn.2 turn.1)
