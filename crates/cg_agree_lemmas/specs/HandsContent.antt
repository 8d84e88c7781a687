-- A place that is handed keeps what is in messages: a green item that is sent is the one that its sender had as it came.
use Rattle.std.proofs.Common.{◌≡◌, ℕ, zero, suc, ◌+◌, ◌-◌, ◌≤◌, ◌<◌, cond, List, [], ◌∷◌, ◌++◌, Option, Some, None, IfSome, map, fold, flat_map, drop, max, length, refl, sym, ap, subst, ◌∙◌, ⊎_elim, arith, eqb-true, option_map, nat_lt}
use Rattle.std.specs.Prelude.{◌==◌}
use Rattle.std.specs.Option.{option_map_or, option_to_list}
use Rattle.std.proofs.lemmas.Bool.{cases_Bool, cases_lt, cond-true, cond-false, cond_both}
use Rattle.cg_base.specs.declared.weighted.Weighted.{Weighted}
use Rattle.cg_base.specs.Cuts.{index_in}
use Rattle.cg_base.specs.Lists.{at_place, above_up_to, Each}
use Rattle.cg_base.specs.Sets.{has}
use Rattle.cg_action.specs.declared.action.Action.{Action}
use Rattle.cg_queue.specs.Queue.{action_of}
use Rattle.cg_knowledge.specs.declared.summary.Summary.{Summary}
use Rattle.cg_knowledge.specs.Summaries.{leads, leader, most_updated, gone}
use Rattle.cg_knowledge.specs.Verdict.{decides}
use Rattle.cg_plan.specs.declared.parts.Item.{Item}
use Rattle.cg_plan.specs.declared.parts.Item.TheVariants.{Green, Red}
use Rattle.cg_plan.specs.declared.parts.Part.{Part}
use Rattle.cg_plan.specs.declared.parts.Part.TheVariants.{Greens, Reds}
use Rattle.cg_plan.specs.declared.parts.SentPart.{SentPart}
use Rattle.cg_plan.specs.Items.{items_of, red_item}
use Rattle.cg_plan.specs.Plan.{green_part, red_part, reds_of, creators, plan_of, least_greens, least_reds, farthest}
use Rattle.cg_plan.specs.Progress.{is_done, turn_of}
use Rattle.cg_wire.specs.declared.message.Msg.TheVariants.{GreenItem, RedItem, Cpc}
use Rattle.cg_base.specs.EachLaws.{Each-above, Each-append}
use Rattle.cg_group.specs.PlaceLaws.{at_place-append}
use Rattle.cg_client.specs.Replica.{Held, ExchangeActions}
use Rattle.cg_client.specs.Turn.{Turn, go_to}
use Rattle.cg_states.specs.ExchangeActions.{message_of, send_part, progress, go_on}
use Rattle.cg_states.specs.PlanEnd.{end_plan}
use Rattle.cg_model.specs.Fronts.{Front}
use Rattle.cg_model.specs.Chronicle.{Told, Chronicle}
use Rattle.cg_model.specs.Looks.{told_in}
use Rattle.cg_model.specs.FactsReplica.{IsMadeOf}
use Rattle.cg_model.specs.FactsTalk.{summaries_of, AreTold, AreContents}
use Rattle.cg_agree_lemmas.specs.FrontFacts.{split_by_Front}
use Rattle.cg_agree_lemmas.specs.HandSays.{part_messages, cpc_at_end, sent-part, sent-end}
use Rattle.cg_agree_lemmas.specs.NumbersSame.{contents-both}

-- ---- places in fronts

empty-at : {X : Type 0} (xs : List X) (n : ℕ) → xs ≡ [] → at_place xs n ≡ None
empty-at [] zero e = refl
empty-at [] (suc n) e = refl
empty-at (x ∷ xs) n e = absurd (let clash : x ∷ xs ≡ [] = e in cc)

at-drop : {X : Type 0} (w k : ℕ) (xs : List X) → 0 < k → at_place (drop w xs) k ≡ at_place xs (w + k)
at-drop zero k xs pos = (let e : k ≡ 0 + k = omega arith in ap (at_place xs) e)
at-drop (suc w) (suc k) [] pos = sym (empty-at [] (suc w + suc k) refl)
at-drop (suc w) (suc k) (x ∷ xs) pos =
    let e : w + suc k ≡ suc (w + k) = omega arith in
    let f : suc w + suc k ≡ suc (suc (w + k)) = omega arith in
    at-drop w (suc k) xs pos ∙ ap (at_place xs) e ∙ sym (ap (at_place (x ∷ xs)) f)
at-drop (suc w) zero xs pos = absurd (omega arith)

none-at : {X : Type 0} (xs : List X) → at_place xs 0 ≡ None
none-at xs = refl

-- what is kept at a place is what stands there among all
pub kept-at : (start : List Weighted) (h : Held) (all greens : List Action) (place : ℕ) (a : Action) → IsMadeOf start h all → Front greens all → place ≤ length greens →
    at_place h.queue.greens (place - h.queue.white) ≡ Some a → at_place greens place ≡ Some a
kept-at start h all greens place a made front within found =
    let w = h.queue.white in
    ⊎_elim
    (λ (lt : w < place).
    let k = place - w in
    let at : w + k ≡ place = omega arith in
    let whole : all ≡ greens ++ drop (length greens) all = split_by_Front greens all front in
    sym (at_place-append greens (drop (length greens) all) place within) ∙ ap (λ xs. at_place xs place) (sym whole) ∙ ap (at_place all) (sym at)
    ∙ sym (at-drop w k all (omega arith)) ∙ ap (λ xs. at_place xs k) (sym made.kept) ∙ found)
    (λ (le : place ≤ w).
    let none : place - w ≡ 0 = omega arith in
    absurd (let clash : None ≡ Some a = sym (none-at h.queue.greens) ∙ ap (at_place h.queue.greens) (sym none) ∙ found in cc))
    (cases_lt w place)

-- ---- the plan's greens are the most updated member's

-- a turn of a plan: where it is of greens, it is the most updated member's, up to its count
abbrev pub IsTurnOf : Option Summary → SentPart → Part → Type 0
IsTurnOf o turn (Greens from to) = IfSome o (λ b. (turn.sender ≡ b.id) × (to ≡ b.green_count)) × (o ≡ None → ⊥)
IsTurnOf o turn (Reds creator from to) = Unit {0}

green-turns : (o : Option Summary) (low : Option ℕ) → Each (λ turn. IsTurnOf o turn turn.part) (green_part o low)
green-turns None low = tt
green-turns (Some b) None = tt
green-turns (Some b) (Some low) =
    cond_both (nat_lt low b.green_count) (record { sender = b.id; part = Greens (suc low) b.green_count } ∷ []) [] (Each (λ turn. IsTurnOf (Some b) turn turn.part))
    (λ y. (((refl, refl), (λ e. (let clash : Some b ≡ None = e in cc))), tt)) (λ n. tt)

red-turns : (o : Option Summary) (creator : ℕ) (best holder : Option Summary) (low : Option ℕ) → Each (λ turn. IsTurnOf o turn turn.part) (red_part creator best holder low)
red-turns o creator None holder low = tt
red-turns o creator (Some best) None low = tt
red-turns o creator (Some best) (Some holder) None = tt
red-turns o creator (Some best) (Some holder) (Some low) =
    cond_both (nat_lt (max low (index_in best.green_cut creator)) (index_in holder.red_cut creator))
    (record { sender = holder.id; part = Reds creator (suc (max low (index_in best.green_cut creator))) (index_in holder.red_cut creator) } ∷ []) []
    (Each (λ turn. IsTurnOf o turn turn.part)) (λ y. (tt, tt)) (λ n. tt)

all-reds : (o : Option Summary) (heard : List Summary) (list : List ℕ) → Each (λ turn. IsTurnOf o turn turn.part) (flat_map (reds_of heard) list)
unfolding reds_of
all-reds o heard [] = tt
all-reds o heard (creator ∷ list) =
    Each-append (λ turn. IsTurnOf o turn turn.part) (reds_of heard creator) (flat_map (reds_of heard) list)
    (red-turns o creator (most_updated heard) (farthest heard creator) (least_reds heard creator)) (all-reds o heard list)

pub plan-turns : (heard : List Summary) → Each (λ turn. IsTurnOf (most_updated heard) turn turn.part) (plan_of heard)
unfolding plan_of
plan-turns heard =
    Each-append (λ turn. IsTurnOf (most_updated heard) turn turn.part) (green_part (most_updated heard) (least_greens heard)) (flat_map (reds_of heard) (creators heard))
    (green-turns (most_updated heard) (least_greens heard)) (all-reds (most_updated heard) heard (creators heard))

-- the part that begins at a place, where it is a member's
pub turn-found : (P : SentPart → Part → Type 0) (turns : List SentPart) (me n : ℕ) (part : Part) → Each (λ turn. P turn turn.part) turns → turn_of turns me n ≡ Some part →
    (turn : SentPart) × (turn.sender ≡ me) × P turn part
unfolding turn_of
turn-found P [] me n part each e = absurd (let clash : None ≡ Some part = e in cc)
turn-found P (turn ∷ turns) me zero part each e = ⊎_elim
    (λ y.
    let is : turn.part ≡ part = (let same : Some turn.part ≡ Some part = sym (cond-true (turn.sender == me) (Some turn.part) None y) ∙ e in ap (λ o. option_map_or (λ x. x) o turn.part) same) in
    (turn, eqb-true turn.sender me y, subst (P turn) is each.0))
    (λ f. absurd (let clash : None ≡ Some part = sym (cond-false (turn.sender == me) (Some turn.part) None f) ∙ e in cc))
    (cases_Bool (turn.sender == me))
turn-found P (turn ∷ turns) me (suc n) part each e =
    let size = length (items_of turn.part) in
    ⊎_elim
    (λ y. absurd (let clash : None ≡ Some part = sym (cond-true (nat_lt (suc n) size) None (turn_of turns me (suc n - size)) y) ∙ e in cc))
    (λ f. turn-found P turns me (suc n - size) part each.1 (sym (cond-false (nat_lt (suc n) size) None (turn_of turns me (suc n - size)) f) ∙ e))
    (cases_Bool (nat_lt (suc n) size))

-- ---- summaries that were told

pub led : (P : Summary → Type 0) (heard : List Summary) (o : Option Summary) → IfSome o P → Each P heard → IfSome (fold leader o heard) P
led P [] o first each = first
led P (s ∷ heard) None first each = led P heard (Some s) each.0 each.1
led P (s ∷ heard) (Some best) first each =
    led P heard (leader (Some best) s) (cond_both (leads s best) (Some s) (Some best) (λ o. IfSome o P) (λ y. each.0) (λ n. first)) each.1

-- the most updated member has told what was heard of it
abbrev pub IsTold : Chronicle → ℕ → Summary → Type 0
IsTold c conf s = summaries_of (told_in c conf s.id) ≡ s ∷ []

each-told : (c : Chronicle) (conf : ℕ) (heard : List Summary) → AreTold c conf heard → Each (IsTold c conf) heard
each-told c conf [] are = tt
each-told c conf (s ∷ heard) are = (are.0, each-told c conf heard are.1)

pub best-told : (c : Chronicle) (conf : ℕ) (heard : List Summary) → AreTold c conf heard → IfSome (most_updated heard) (IsTold c conf)
unfolding most_updated
best-told c conf heard are = led (IsTold c conf) heard None tt (each-told c conf heard are)

-- ---- what is sent

-- what is sent is content of these greens
abbrev AreOf : List Action → Turn → Type 0
AreOf greens t = AreContents greens t.sent

of-item : (start : List Weighted) (h : Held) (all greens : List Action) (item : Item) → IsMadeOf start h all → Front greens all →
    ((place : ℕ) → item ≡ Green place → place ≤ length greens) → AreContents greens (option_to_list (message_of h.queue item))
of-item start h all greens (Green place) made front within = at (at_place h.queue.greens (place - h.queue.white)) refl where
  at : (o : Option Action) → at_place h.queue.greens (place - h.queue.white) ≡ o → AreContents greens (option_to_list (option_map (GreenItem place) o))
  at None e = tt
  at (Some a) e = (kept-at start h all greens place a made front (within place refl) e, tt)
of-item start h all greens (Red id) made front within = at (action_of h.queue id) where
  at : (o : Option Action) → AreContents greens (option_to_list (option_map RedItem o))
  at None = tt
  at (Some a) = (tt, tt)

of-greens : (start : List Weighted) (h : Held) (all greens : List Action) (places : List ℕ) → IsMadeOf start h all → Front greens all → Each (λ k. k ≤ length greens) places →
    AreContents greens (flat_map (λ item. option_to_list (message_of h.queue item)) (map Green places))
of-greens start h all greens [] made front each = tt
of-greens start h all greens (k ∷ places) made front each =
    contents-both greens (option_to_list (message_of h.queue (Green k))) (flat_map (λ item. option_to_list (message_of h.queue item)) (map Green places))
    (of-item start h all greens (Green k) made front (λ place is. subst (λ x. x ≤ length greens) (green-place k place is) each.0)) (of-greens start h all greens places made front each.1) where
      green-place : (k place : ℕ) → Green k ≡ Green place → k ≡ place
      green-place k place e = cc

of-reds : (start : List Weighted) (h : Held) (all greens : List Action) (creator : ℕ) (indices : List ℕ) → IsMadeOf start h all → Front greens all →
    AreContents greens (flat_map (λ item. option_to_list (message_of h.queue item)) (map (red_item creator) indices))
of-reds start h all greens creator [] made front = tt
of-reds start h all greens creator (i ∷ indices) made front =
    contents-both greens (option_to_list (message_of h.queue (red_item creator i))) (flat_map (λ item. option_to_list (message_of h.queue item)) (map (red_item creator) indices))
    (of-item start h all greens (red_item creator i) made front (λ place is. absurd (let clash : red_item creator i ≡ Green place = is in cc))) (of-reds start h all greens creator indices made front)

-- a member's part of the plan
pub of-part : (c : Chronicle) (conf : ℕ) (t : Told) (h : Held) (all : List Action) (heard : List Summary) (n : ℕ) (o : Option Part) → IsMadeOf c.start h all → Front t.greens all →
    told_in c conf h.id ≡ Some t → t.summary.green_count ≡ length t.greens → AreTold c conf heard → turn_of (plan_of heard) h.id n ≡ o → AreContents t.greens (part_messages h.queue o)
of-part c conf t h all heard n None made front found count are e = tt
of-part c conf t h all heard n (Some (Reds creator from to)) made front found count are e = of-reds c.start h all t.greens creator (above_up_to (from - 1) to) made front
of-part c conf t h all heard n (Some (Greens from to)) made front found count are e =
    let turn = turn-found (IsTurnOf (most_updated heard)) (plan_of heard) h.id n (Greens from to) (plan-turns heard) e in
    of-greens c.start h all t.greens (above_up_to (from - 1) to) made front
    (each-within (above_up_to (from - 1) to) (bounded (most_updated heard) turn.0 turn.1 turn.2 (best-told c conf heard are)) (Each-above (from - 1) to)) where
      bounded : (b : Option Summary) (turn : SentPart) → turn.sender ≡ h.id → IsTurnOf b turn (Greens from to) → IfSome b (IsTold c conf) → to ≤ length t.greens
      bounded None turn sender is told = absurd (is.1 refl)
      bounded (Some b) turn sender is told =
          let id : b.id ≡ h.id = sym is.0.0 ∙ sender in
          let same : t.summary ∷ [] ≡ b ∷ [] = sym (ap summaries_of (ap (told_in c conf) id ∙ found)) ∙ told in
          let one : t.summary ≡ b = ap (λ xs. first xs b) same in
          let far : to ≡ length t.greens = is.0.1 ∙ ap (λ x. x.green_count) (sym one) ∙ count in
          omega arith where
            first : List Summary → Summary → Summary
            first [] x = x
            first (y ∷ xs) x = y

      each-within : (places : List ℕ) → to ≤ length t.greens → Each (λ k. (from - 1 < k) × (k ≤ to)) places → Each (λ k. k ≤ length t.greens) places
      each-within [] le each = tt
      each-within (k ∷ places) le each = ((let here = each.0.1 in omega arith), each-within places le each.1)

of-end : (greens : List Action) (conf : ℕ) (heard : List Summary) (me : ℕ) → AreContents greens (cpc_at_end conf heard me)
of-end greens conf heard me =
    cond_both (has (gone heard) me) [] (cond (decides heard) (Cpc me conf ∷ []) []) (AreContents greens) (λ y. tt)
    (λ n. cond_both (decides heard) (Cpc me conf ∷ []) [] (AreContents greens) (λ y. (tt, tt)) (λ f. tt))

-- as the plan goes on
pub of-go_on : (c : Chronicle) (conf at : ℕ) (t : Told) (v : Turn) (all : List Action) (heard : List Summary) (n : ℕ) → IsMadeOf c.start v.replica.held all → Front t.greens all →
    told_in c conf v.replica.held.id ≡ Some t → t.summary.green_count ≡ length t.greens → AreTold c conf heard → v.sent ≡ [] → AreContents t.greens (go_on v at heard n).sent
unfolding go_on
of-go_on c conf at t v all heard n made front found count are none =
    let w = go_to v (ExchangeActions at heard n) in
    let o = turn_of (plan_of heard) v.replica.held.id n in
    let part : AreContents t.greens (send_part w o).sent = subst (AreContents t.greens) (sym (sent-part w o ∙ ap (λ xs. xs ++ part_messages v.replica.held.queue o) none))
    (of-part c conf t v.replica.held all heard n o made front found count are refl) in
    cond_both (is_done (progress heard n)) (end_plan (send_part w o) at heard) (send_part w o) (AreOf t.greens)
    (λ y. subst (AreContents t.greens) (sym (sent-end (send_part w o) at heard)) (contents-both t.greens (send_part w o).sent (cpc_at_end at heard (send_part w o).replica.held.id) part (of-end t.greens at heard (send_part w o).replica.held.id)))
    (λ f. part)
