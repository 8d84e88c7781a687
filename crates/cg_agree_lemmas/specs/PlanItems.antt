-- The items of a plan at each place: first the greens, one after another, then the reds, of which each is the next of its creator
-- behind what all know, what the most updated member has green, and the items before it.
use Rattle.std.proofs.Common.{◌≡◌, ℕ, zero, suc, ◌+◌, ◌-◌, ◌<◌, ◌≤◌, Bool, true, false, cond, List, [], ◌∷◌, ◌++◌, length, map, max, fold, take, Option, Some, None, refl, sym, ap, ap₂, subst, ◌∙◌, ⊎_elim, arith, eq-eqb, eqb-true, length-append, append_assoc, append-nil}
use Rattle.std.specs.Prelude.{◌==◌, nat_lt, slice_get, flat_map}
use Rattle.std.specs.Option.{option_map_or}
use Rattle.std.proofs.lemmas.Bool.{cases_lt, cond-true, cond_both, or_cases, ltb-true, ltb-false}
use Rattle.cg_base.specs.Cuts.{index_in}
use Rattle.cg_base.specs.Lists.{greatest, count_up, above_up_to, Each}
use Rattle.cg_base.specs.Sets.{has}
use Rattle.cg_base.specs.EachLaws.{Each-append, Each-take}
use Rattle.cg_base.specs.ListLaws.{slice_get-behind, slice_get-front}
use Rattle.cg_knowledge.specs.declared.summary.Summary.{Summary}
use Rattle.cg_knowledge.specs.Summaries.{most_updated}
use Rattle.cg_plan.specs.declared.parts.Item.{Item}
use Rattle.cg_plan.specs.declared.parts.Item.TheVariants.{Green, Red}
use Rattle.cg_plan.specs.declared.parts.Part.TheVariants.{Greens, Reds}
use Rattle.cg_plan.specs.declared.parts.SentPart.{SentPart}
use Rattle.cg_plan.specs.declared.parts.SentItem.{SentItem as PlanSent}
use Rattle.cg_plan.specs.Items.{red_item, sent_by, items_of_turn, items_of_plan}
use Rattle.cg_plan.specs.Plan.{green_part, red_part, reds_of, creators, farthest, least_greens, least_reds, plan_of}
use Rattle.cg_model.specs.FactsExchange.{red_index, red_behind}
use Rattle.cg_agree_lemmas.specs.DueAll.{take-beyond, take-next}

-- ---- the greatest of some numbers

-- the greatest from a number on is the greater of that number and the greatest
fold-max : (ns : List ℕ) (m : ℕ) → fold max m ns ≡ max m (fold max 0 ns)
fold-max [] m = omega arith
fold-max (n ∷ ns) m = let a = fold-max ns (max m n) in let b = fold-max ns (max 0 n) in omega arith

-- the greatest with one more number before
greatest-cons : (n : ℕ) (ns : List ℕ) → greatest (n ∷ ns) ≡ max n (greatest ns)
greatest-cons n ns = let a = fold-max ns (max 0 n) in omega arith

-- the last index of a creator among items
abbrev pub reach_of : ℕ → List PlanSent → ℕ
reach_of creator list = greatest (map (λ s. red_index creator s.item) list)

-- it is the greater of the first item's and that of the rest
reach-cons : (creator : ℕ) (s : PlanSent) (list : List PlanSent) → reach_of creator (s ∷ list) ≡ max (red_index creator s.item) (reach_of creator list)
reach-cons creator s list = greatest-cons (red_index creator s.item) (map (λ (s : PlanSent). red_index creator s.item) list)

-- of two lists it is the greater one
reach-append : (creator : ℕ) (xs ys : List PlanSent) → reach_of creator (xs ++ ys) ≡ max (reach_of creator xs) (reach_of creator ys)
reach-append creator [] ys = omega arith
reach-append creator (x ∷ xs) ys =
    let a = reach-cons creator x (xs ++ ys) in
    let b = reach-cons creator x xs in
    let rest = reach-append creator xs ys in
    omega arith

-- it is no more than what each item is at most
reach-each : (creator n : ℕ) (list : List PlanSent) → Each (λ (s : PlanSent). red_index creator s.item ≤ n) list → reach_of creator list ≤ n
reach-each creator n [] each = omega arith
reach-each creator n (s ∷ list) each =
    let a = reach-cons creator s list in
    let here = each.0 in
    let rest = reach-each creator n list each.1 in
    omega arith

-- ---- reds that go on

-- what all that remain know of a creator's actions, or the most updated member has green
abbrev pub floor_of : List Summary → ℕ → ℕ
floor_of heard creator = max (option_map_or (λ n. n) (least_reds heard creator) 0) (option_map_or (λ (s : Summary). index_in s.green_cut creator) (most_updated heard) 0)

-- what some member knows of them
abbrev pub most_of : List Summary → ℕ → ℕ
most_of heard creator = option_map_or (λ (s : Summary). index_in s.red_cut creator) (farthest heard creator) 0

-- a red item, no farther than the next behind what is known, and known to some member
abbrev pub FitsItem : List Summary → (ℕ → ℕ) → Item → Type 0
FitsItem heard known (Green at) = ⊥
FitsItem heard known (Red id) = (id.index ≤ suc (known id.creator)) × (id.index ≤ most_of heard id.creator)

-- each item is a red one, no farther than the next behind what is known and those before it
abbrev Fits : List Summary → (ℕ → ℕ) → List PlanSent → Type 0
Fits heard known [] = Unit {0}
Fits heard known (s ∷ list) = FitsItem heard known s.item × Fits heard (λ creator. max (known creator) (red_index creator s.item)) list

module _ (heard : List Summary) where
  -- an item fits where more is known
  item-weaker : (known more : ℕ → ℕ) → ((creator : ℕ) → known creator ≤ more creator) → (item : Item) → FitsItem heard known item → FitsItem heard more item
  item-weaker known more le (Green at) fits = fits
  item-weaker known more le (Red id) fits = ((let a = fits.0 in let b = le id.creator in omega arith), fits.1)

  -- so do items
  fits-weaker : (known more : ℕ → ℕ) → ((creator : ℕ) → known creator ≤ more creator) → (list : List PlanSent) → Fits heard known list → Fits heard more list
  fits-weaker known more le [] fits = tt
  fits-weaker known more le (s ∷ list) fits = (
    item-weaker known more le s.item fits.0,
    fits-weaker (λ creator. max (known creator) (red_index creator s.item)) (λ creator. max (more creator) (red_index creator s.item)) (λ creator. (let a = le creator in omega arith)) list fits.1,
  )

  -- two lists of which each fits fit together
  fits-append : (known : ℕ → ℕ) (xs ys : List PlanSent) → Fits heard known xs → Fits heard known ys → Fits heard known (xs ++ ys)
  fits-append known [] ys a b = b
  fits-append known (x ∷ xs) ys a b = (
    a.0,
    fits-append (λ creator. max (known creator) (red_index creator x.item)) xs ys a.1
        (fits-weaker known (λ creator. max (known creator) (red_index creator x.item)) (λ creator. omega arith) ys b),
  )

  -- the item at a place fits behind those before it
  fits-get : (known : ℕ → ℕ) (xs : List PlanSent) (n : ℕ) (s : PlanSent) → Fits heard known xs → slice_get xs n ≡ Some s →
      FitsItem heard (λ creator. max (known creator) (reach_of creator (take n xs))) s.item
  fits-get known [] n s fits e = absurd (let clash : None ≡ Some s = e in cc)
  fits-get known (x ∷ xs) zero s fits e =
      item-weaker known (λ creator. max (known creator) 0) (λ creator. omega arith) s.item
      (subst (λ (y : PlanSent). FitsItem heard known y.item) (ap (λ o. option_map_or (λ y. y) o x) e) fits.0)
  fits-get known (x ∷ xs) (suc n) s fits e =
      item-weaker (λ creator. max (max (known creator) (red_index creator x.item)) (reach_of creator (take n xs))) (λ creator. max (known creator) (reach_of creator (x ∷ take n xs)))
      (λ creator. (let a = reach-cons creator x (take n xs) in omega arith)) s.item
      (fits-get (λ creator. max (known creator) (red_index creator x.item)) xs n s fits.1 e)

  -- an item that fits goes no farther than some member knows
  item-within : (known : ℕ → ℕ) (creator : ℕ) (item : Item) → FitsItem heard known item → red_index creator item ≤ most_of heard creator
  item-within known creator (Green at) fits = absurd fits
  item-within known creator (Red id) fits =
      cond_both (id.creator == creator) id.index 0 (λ n. n ≤ most_of heard creator)
      (λ y. subst (λ x. id.index ≤ most_of heard x) (eqb-true id.creator creator y) fits.1) (λ n. omega arith)

  -- so does each of the items
  fits-within : (known : ℕ → ℕ) (creator : ℕ) (list : List PlanSent) → Fits heard known list → Each (λ (s : PlanSent). red_index creator s.item ≤ most_of heard creator) list
  fits-within known creator [] fits = tt
  fits-within known creator (s ∷ list) fits = (item-within known creator s.item fits.0, fits-within (λ x. max (known x) (red_index x s.item)) creator list fits.1)

  -- the index of a creator's own item
  own-index : (creator n : ℕ) → red_index creator (red_item creator n) ≡ n
  own-index creator n = cond-true (creator == creator) n 0 (eq-eqb creator creator refl)

  -- the items of one part
  abbrev numbered : ℕ → ℕ → ℕ → ℕ → List PlanSent
  numbered sender creator first count = map (sent_by sender) (map (red_item creator) (count_up first count))

  -- indices that rise from the next one on fit
  fits-count : (known : ℕ → ℕ) (sender creator first count : ℕ) → first ≤ suc (known creator) → first + count ≤ suc (most_of heard creator) → Fits heard known (numbered sender creator first count)
  fits-count known sender creator first zero low high = tt
  fits-count known sender creator first (suc count) low high = (
    (low, omega arith),
    fits-count (λ x. max (known x) (red_index x (red_item creator first))) sender creator (suc first) count
        (let e = own-index creator first in omega arith) (omega arith),
  )

  -- they come to the last of them
  count-reaches : (sender creator first count : ℕ) → first + count ≤ reach_of creator (numbered sender creator first (suc count))
  count-reaches sender creator first zero =
      let a = reach-cons creator (sent_by sender (red_item creator first)) [] in let e = own-index creator first in omega arith
  count-reaches sender creator first (suc count) =
      let a = reach-cons creator (sent_by sender (red_item creator first)) (numbered sender creator (suc first) (suc count)) in
      let rest = count-reaches sender creator (suc first) count in
      omega arith

  -- the items of two lists of parts are those of both
  items-append : (xs ys : List SentPart) → items_of_plan (xs ++ ys) ≡ items_of_plan xs ++ items_of_plan ys
  unfolding items_of_plan
  items-append [] ys = refl
  items-append (x ∷ xs) ys = ap (λ zs. items_of_turn x ++ zs) (items-append xs ys) ∙ sym (append_assoc (items_of_turn x) (flat_map items_of_turn xs) (flat_map items_of_turn ys))

  -- the part of one creator
  abbrev part_items : ℕ → Summary → Summary → ℕ → List PlanSent
  part_items creator best holder low = items_of_plan (red_part creator (Some best) (Some holder) (Some low))

  -- a creator's part has the indices above the floor up to the most that is known
  part-is : (creator : ℕ) (best holder : Summary) (low : ℕ) →
      (let from = max low (index_in best.green_cut creator) in let to = index_in holder.red_cut creator in
      part_items creator best holder low ≡ cond (nat_lt from to) (numbered holder.id creator (suc from) (to - from)) [])
  unfolding items_of_plan
  part-is creator best holder low =
      let from = max low (index_in best.green_cut creator) in
      let to = index_in holder.red_cut creator in
      let e : suc from - 1 ≡ from = omega arith in
      at (nat_lt from to) (map (sent_by holder.id) (map (red_item creator) (above_up_to (suc from - 1) to)) ++ []) (numbered holder.id creator (suc from) (to - from))
      (append-nil (map (sent_by holder.id) (map (red_item creator) (above_up_to (suc from - 1) to)))
      ∙ ap (λ k. map (sent_by holder.id) (map (red_item creator) (above_up_to k to))) e)
      (record { sender = holder.id; part = Reds creator (suc from) to }) refl
    where
      at : (b : Bool) (xs ys : List PlanSent) → xs ≡ ys → (turn : SentPart) → flat_map items_of_turn (turn ∷ []) ≡ xs → flat_map items_of_turn (cond b (turn ∷ []) []) ≡ cond b ys []
      at true xs ys e turn is = is ∙ e
      at false xs ys e turn is = refl

  -- the part of a creator fits, and comes to what some member knows
  fits-part : (known : ℕ → ℕ) (creator : ℕ) (best holder : Option Summary) (low : Option ℕ) →
      max (option_map_or (λ n. n) low 0) (option_map_or (λ (s : Summary). index_in s.green_cut creator) best 0) ≤ known creator →
      option_map_or (λ (s : Summary). index_in s.red_cut creator) holder 0 ≤ most_of heard creator → Fits heard known (items_of_plan (red_part creator best holder low))
  unfolding items_of_plan
  fits-part known creator None holder low le high = tt
  fits-part known creator (Some best) None low le high = tt
  fits-part known creator (Some best) (Some holder) None le high = tt
  fits-part known creator (Some best) (Some holder) (Some low) le high =
      let from = max low (index_in best.green_cut creator) in
      let to = index_in holder.red_cut creator in
      subst (Fits heard known) (sym (part-is creator best holder low))
      (cond_both (nat_lt from to) (numbered holder.id creator (suc from) (to - from)) [] (Fits heard known)
      (λ y. (let lt = ltb-true from to y in fits-count known holder.id creator (suc from) (to - from) (omega arith) (omega arith))) (λ n. tt))

  -- with a creator's part all is known that some member knows
  part-reaches : (creator : ℕ) (best holder : Option Summary) (low : Option ℕ) → (best ≡ None → ⊥) → (low ≡ None → ⊥) →
      option_map_or (λ (s : Summary). index_in s.red_cut creator) holder 0 ≤
      max (max (option_map_or (λ n. n) low 0) (option_map_or (λ (s : Summary). index_in s.green_cut creator) best 0)) (reach_of creator (items_of_plan (red_part creator best holder low)))
  unfolding items_of_plan
  part-reaches creator None holder low some more = absurd (some refl)
  part-reaches creator (Some best) None low some more = omega arith
  part-reaches creator (Some best) (Some holder) None some more = absurd (more refl)
  part-reaches creator (Some best) (Some holder) (Some low) some more =
      let from = max low (index_in best.green_cut creator) in
      let to = index_in holder.red_cut creator in
      subst (λ xs. to ≤ max from (reach_of creator xs)) (sym (part-is creator best holder low))
      (cond_both (nat_lt from to) (numbered holder.id creator (suc from) (to - from)) [] (λ xs. to ≤ max from (reach_of creator xs))
      (λ y. (let lt = ltb-true from to y in filled (to - from) from to (omega arith) (omega arith)))
      (λ n. (let le = ltb-false from to n in omega arith)))
    where
      filled : (count from to : ℕ) → 0 < count → from + count ≡ to → to ≤ max from (reach_of creator (numbered holder.id creator (suc from) count))
      filled zero from to some e = absurd (omega arith)
      filled (suc count) from to some e = let le = count-reaches holder.id creator (suc from) count in omega arith

  -- the parts of all creators fit
  fits-reds : (list : List ℕ) → Fits heard (floor_of heard) (items_of_plan (flat_map (reds_of heard) list))
  unfolding reds_of items_of_plan
  fits-reds [] = tt
  fits-reds (creator ∷ list) =
      subst (Fits heard (floor_of heard)) (sym (items-append (red_part creator (most_updated heard) (farthest heard creator) (least_reds heard creator)) (flat_map (reds_of heard) list)))
      (fits-append (floor_of heard) (items_of_plan (red_part creator (most_updated heard) (farthest heard creator) (least_reds heard creator))) (items_of_plan (flat_map (reds_of heard) list))
      (fits-part (floor_of heard) creator (most_updated heard) (farthest heard creator) (least_reds heard creator) (omega arith) (omega arith)) (fits-reds list))

  -- with them all is known of a creator that is among them
  reds-reach : (list : List ℕ) (creator : ℕ) → (most_updated heard ≡ None → ⊥) → (least_reds heard creator ≡ None → ⊥) → has list creator ≡ true →
      most_of heard creator ≤ max (floor_of heard creator) (reach_of creator (items_of_plan (flat_map (reds_of heard) list)))
  unfolding reds_of items_of_plan
  reds-reach [] creator some more there = absurd (let clash : false ≡ true = there in cc)
  reds-reach (x ∷ list) creator some more there =
      let part = red_part x (most_updated heard) (farthest heard x) (least_reds heard x) in
      let whole = ap (reach_of creator) (items-append part (flat_map (reds_of heard) list)) ∙ reach-append creator (items_of_plan part) (items_of_plan (flat_map (reds_of heard) list)) in
      ⊎_elim
      (λ here. (let own : most_of heard creator ≤ max (floor_of heard creator) (reach_of creator (items_of_plan part)) =
      subst (λ y. most_of heard creator ≤ max (floor_of heard creator) (reach_of creator (items_of_plan (red_part y (most_updated heard) (farthest heard y) (least_reds heard y))))) (sym (eqb-true x creator here))
      (part-reaches creator (most_updated heard) (farthest heard creator) (least_reds heard creator) some more) in
      omega arith))
      (λ later. (let rest = reds-reach list creator some more later in omega arith))
      (or_cases (x == creator) (has list creator) there)

-- ---- the plan

-- the green items from a place on
green-list : ℕ → ℕ → ℕ → List PlanSent
green-list sender first count = map (sent_by sender) (map Green (count_up first count))

-- so many items they are
green-length : (sender first count : ℕ) → length (green-list sender first count) ≡ count
unfolding green-list
green-length sender first zero = refl
green-length sender first (suc count) = ap suc (green-length sender (suc first) count)

-- they have no red index
green-none : (sender creator first count : ℕ) → Each (λ (s : PlanSent). red_index creator s.item ≤ 0) (green-list sender first count)
unfolding green-list
green-none sender creator first zero = tt
green-none sender creator first (suc count) = (omega arith, green-none sender creator (suc first) count)

-- the green item at a place
green-get : (sender first count n : ℕ) (s : PlanSent) → slice_get (green-list sender first count) n ≡ Some s → s.item ≡ Green (first + n)
unfolding green-list
green-get sender first zero n s e = absurd (let clash : None ≡ Some s = e in cc)
green-get sender first (suc count) zero s e =
    let same : first ≡ first + 0 = omega arith in
    sym (ap (λ o. option_map_or (λ (y : PlanSent). y.item) o (Green first)) e) ∙ ap Green same
green-get sender first (suc count) (suc n) s e =
    let same : suc first + n ≡ first + suc n = omega arith in
    green-get sender (suc first) count n s e ∙ ap Green same

-- they come from one member
green-sender : (sender first count n : ℕ) (s : PlanSent) → slice_get (green-list sender first count) n ≡ Some s → s.sender ≡ sender
unfolding green-list
green-sender sender first zero n s e = absurd (let clash : None ≡ Some s = e in cc)
green-sender sender first (suc count) zero s e = sym (ap (λ o. option_map_or (λ (y : PlanSent). y.sender) o sender) e)
green-sender sender first (suc count) (suc n) s e = green-sender sender (suc first) count n s e

-- the greens of a plan are those above the least count
green-items : (best : Summary) (low : ℕ) → items_of_plan (green_part (Some best) (Some low)) ≡ green-list best.id (suc low) (best.green_count - low)
unfolding items_of_plan green-list
green-items best low =
    let e : suc low - 1 ≡ low = omega arith in
    at (nat_lt low best.green_count) refl
  where
    at : (b : Bool) → nat_lt low best.green_count ≡ b → flat_map items_of_turn (cond b (record { sender = best.id; part = Greens (suc low) best.green_count } ∷ []) []) ≡ map (sent_by best.id) (map Green (count_up (suc low) (best.green_count - low)))
    at true y =
        let e : suc low - 1 ≡ low = omega arith in
        append-nil (map (sent_by best.id) (map Green (above_up_to (suc low - 1) best.green_count))) ∙ ap (λ k. map (sent_by best.id) (map Green (above_up_to k best.green_count))) e
    at false n =
        let le = ltb-false low best.green_count n in
        let none : best.green_count - low ≡ 0 = omega arith in
        sym (ap (λ k. map (sent_by best.id) (map Green (count_up (suc low) k))) none)

-- what stands at a place of a plan
abbrev pub ItemAt : List Summary → ℕ → ℕ → Summary → Item → Type 0
ItemAt heard n low best (Green at) = (at ≡ suc low + n) × (at ≤ best.green_count)
ItemAt heard n low best (Red id) =
    (best.green_count - low ≤ n) × (id.index ≤ suc (max (floor_of heard id.creator) (red_behind heard n id.creator))) × (id.index ≤ most_of heard id.creator)

module _ (heard : List Summary) (best : Summary) (low : ℕ) (most : most_updated heard ≡ Some best) (least : least_greens heard ≡ Some low) where
  -- the greens of the plan
  abbrev greens : List PlanSent
  greens = green-list best.id (suc low) (best.green_count - low)

  -- the reds of the plan
  abbrev reds : List PlanSent
  reds = items_of_plan (flat_map (reds_of heard) (creators heard))

  -- a plan is its greens and then its reds
  plan-split : items_of_plan (plan_of heard) ≡ greens ++ reds
  unfolding plan_of
  plan-split =
      items-append heard (green_part (most_updated heard) (least_greens heard)) (flat_map (reds_of heard) (creators heard))
      ∙ ap (λ xs. xs ++ reds) (ap₂ (λ a b. items_of_plan (green_part a b)) most least ∙ green-items best low)

  -- so many greens it has
  size : length greens ≡ best.green_count - low
  size = green-length best.id (suc low) (best.green_count - low)

  -- what stands at a place of a plan
  pub plan-item : (n : ℕ) (s : PlanSent) → slice_get (items_of_plan (plan_of heard)) n ≡ Some s → ItemAt heard n low best s.item
  plan-item n s e =
      let here : slice_get (greens ++ reds) n ≡ Some s = ap (λ xs. slice_get xs n) (sym plan-split) ∙ e in
      ⊎_elim
      (λ (lt : n < length greens).
      let long = size in
      subst (ItemAt heard n low best) (sym (green-get best.id (suc low) (best.green_count - low) n s (sym (slice_get-front greens reds n lt) ∙ here))) (refl, omega arith))
      (λ (le : length greens ≤ n).
      at s.item le (fits-get heard (floor_of heard) reds (n - length greens) s (fits-reds heard (creators heard)) (sym (slice_get-behind greens reds n le) ∙ here)))
      (cases_lt n (length greens)) where
        at : (item : Item) → length greens ≤ n → FitsItem heard (λ creator. max (floor_of heard creator) (reach_of creator (take (n - length greens) reds))) item → ItemAt heard n low best item
        at (Green place) le fits = absurd fits
        at (Red id) le fits =
            let long = size in
            let whole : red_behind heard n id.creator ≡ max (reach_of id.creator greens) (reach_of id.creator (take (n - length greens) reds)) =
            ap (λ xs. reach_of id.creator (take n xs)) plan-split ∙ ap (reach_of id.creator) (take-beyond greens reds n le) ∙ reach-append id.creator greens (take (n - length greens) reds) in
            let next = fits.0 in
            (omega arith, omega arith, fits.1)

  -- a green item comes from the most updated member
  pub plan-sender : (n place : ℕ) (s : PlanSent) → slice_get (items_of_plan (plan_of heard)) n ≡ Some s → s.item ≡ Green place → s.sender ≡ best.id
  plan-sender n place s e kind =
      let here : slice_get (greens ++ reds) n ≡ Some s = ap (λ xs. slice_get xs n) (sym plan-split) ∙ e in
      ⊎_elim
      (λ (lt : n < length greens). green-sender best.id (suc low) (best.green_count - low) n s (sym (slice_get-front greens reds n lt) ∙ here))
      (λ (le : length greens ≤ n).
      absurd (subst (FitsItem heard (λ creator. max (floor_of heard creator) (reach_of creator (take (n - length greens) reds)))) kind
      (fits-get heard (floor_of heard) reds (n - length greens) s (fits-reds heard (creators heard)) (sym (slice_get-behind greens reds n le) ∙ here))))
      (cases_lt n (length greens))

  -- no item goes beyond what some member knows
  pub plan-within : (n creator : ℕ) → red_behind heard n creator ≤ most_of heard creator
  plan-within n creator =
      reach-each creator (most_of heard creator) (take n (items_of_plan (plan_of heard)))
      (Each-take (λ (s : PlanSent). red_index creator s.item ≤ most_of heard creator) n (items_of_plan (plan_of heard))
      (subst (Each (λ (s : PlanSent). red_index creator s.item ≤ most_of heard creator)) (sym plan-split)
      (Each-append (λ (s : PlanSent). red_index creator s.item ≤ most_of heard creator) greens reds
      (lift greens (green-none best.id creator (suc low) (best.green_count - low)))
      (fits-within heard (floor_of heard) creator reds (fits-reds heard (creators heard))))))
    where
      lift : (list : List PlanSent) → Each (λ (s : PlanSent). red_index creator s.item ≤ 0) list → Each (λ (s : PlanSent). red_index creator s.item ≤ most_of heard creator) list
      lift [] each = tt
      lift (s ∷ list) each = ((let le = each.0 in omega arith), lift list each.1)

  -- behind all items a creator's actions are known as far as some member knows them
  pub plan-reaches : (n creator : ℕ) → length (items_of_plan (plan_of heard)) ≤ n → (least_reds heard creator ≡ None → ⊥) → has (creators heard) creator ≡ true →
      most_of heard creator ≤ max (floor_of heard creator) (red_behind heard n creator)
  plan-reaches n creator all some there =
      let whole : red_behind heard n creator ≡ max (reach_of creator greens) (reach_of creator reds) =
      ap (reach_of creator) (take-all (items_of_plan (plan_of heard)) n all) ∙ ap (reach_of creator) plan-split ∙ reach-append creator greens reds in
      let le = reds-reach heard (creators heard) creator (λ none. (let clash : None ≡ Some best = sym none ∙ most in cc)) some there in
      omega arith
    where
      take-all : (xs : List PlanSent) (n : ℕ) → length xs ≤ n → take n xs ≡ xs
      take-all [] zero le = refl
      take-all [] (suc n) le = refl
      take-all (x ∷ xs) zero le = absurd (omega arith)
      take-all (x ∷ xs) (suc n) le = ap (λ ys. x ∷ ys) (take-all xs n (omega arith))

  -- where all items are behind, all greens are
  pub plan-greens : (n : ℕ) → length (items_of_plan (plan_of heard)) ≤ n → best.green_count - low ≤ n
  plan-greens n all = let long = size in let e = ap length plan-split ∙ length-append greens reds in omega arith

-- one more item
pub behind-next : (heard : List Summary) (n creator : ℕ) (s : PlanSent) → slice_get (items_of_plan (plan_of heard)) n ≡ Some s →
    red_behind heard (suc n) creator ≡ max (red_behind heard n creator) (red_index creator s.item)
behind-next heard n creator s e =
    let one = reach-cons creator s [] in
    let both = ap (reach_of creator) (take-next (items_of_plan (plan_of heard)) n s e) ∙ reach-append creator (take n (items_of_plan (plan_of heard))) (s ∷ []) in
    omega arith
