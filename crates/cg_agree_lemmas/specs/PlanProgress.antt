-- What a member that remains holds behind each item of a plan: the greens of the most updated member up to a place, and of each
-- creator what it knew, what is green, and the reds among the items. Each item leads on to the next.
use Rattle.std.proofs.Common.{◌⊎◌, inl, inr, ◌≡◌, ℕ, zero, suc, ◌+◌, ◌-◌, ◌<◌, ◌≤◌, true, false, cond, not, List, [], ◌∷◌, ◌++◌, length, min, max, take, Option, Some, None, IfSome, refl, sym, ap, subst, ◌∙◌, ⊎_elim, arith, eq-eqb}
use Rattle.std.specs.Prelude.{◌==◌, slice_get}
use Rattle.std.specs.Option.{option_map_or}
use Rattle.std.proofs.lemmas.Bool.{cases_eq, cases_lt, cond-true, cond-false, and_parts, and_from, ne_eqb}
use Rattle.cg_base.specs.declared.weighted.Weighted.{Weighted}
use Rattle.cg_base.specs.Cuts.{index_in, raise}
use Rattle.cg_base.specs.Lists.{at_place}
use Rattle.cg_action.specs.declared.action.Action.{Action}
use Rattle.cg_queue.specs.Queue.{names_of, green_count, marked_red}
use Rattle.cg_queue.specs.MarkLaws.{red-known, red-placed}
use Rattle.cg_knowledge.specs.declared.summary.Summary.{Summary}
use Rattle.cg_knowledge.specs.Summaries.{most_updated}
use Rattle.cg_plan.specs.declared.parts.Item.TheVariants.{Green, Red}
use Rattle.cg_plan.specs.declared.parts.SentItem.{SentItem as PlanSent}
use Rattle.cg_plan.specs.Items.{items_of_plan}
use Rattle.cg_plan.specs.Plan.{least_greens, least_reds, plan_of}
use Rattle.cg_client.specs.Replica.{Held}
use Rattle.cg_client.specs.Turn.{Turn}
use Rattle.cg_client.specs.Marks.{is_unmade, marked, mark_red, can_be_green, place_green, mark_green, mark_green_at, with_green}
use Rattle.cg_model.specs.Chronicle.{Told}
use Rattle.cg_model.specs.FactsExchange.{red_index, red_behind}
use Rattle.cg_disk_records.specs.Holds.{run_on, cut_behind}
use Rattle.cg_agree_lemmas.specs.HandNext.{take-next}
use Rattle.cg_agree_lemmas.specs.HeldMarks.{IsOneself, rising-green, rising-red, red-oneself, green-oneself}
use Rattle.cg_disk_records.specs.CutRaiseLaws.{index-same, index-other}
use Rattle.cg_disk_records.specs.RunLaws.{run_on-append}
use Rattle.cg_agree_lemmas.specs.FrontFacts.{Front-take, Front-map}
use Rattle.cg_agree_lemmas.specs.PlanItems.{ItemAt, plan-item, behind-next}
use Rattle.cg_agree_lemmas.specs.RunFronts.{run_on-front}
use Rattle.cg_disk_records.specs.RunMarkLaws.{run-head}
use Rattle.cg_disk_records.specs.HeldLaws.{names-behind}
use Rattle.cg_agree_lemmas.specs.TurnGreens.{made-count}
use Rattle.cg_disk_records.specs.HoldsMarkLaws.{known_by}

-- the most updated member and another one that remains, as they came: so many greens all that remain have
pub record AreBeside (heard : List Summary) (low : ℕ) (best mine : Told) : Type 0 where
  pub most : most_updated heard ≡ Some best.summary
  pub least : least_greens heard ≡ Some low
  pub count : best.summary.green_count ≡ length best.greens
  pub cut : best.summary.green_cut ≡ cut_behind [] (names_of best.greens)
  pub run : run_on [] (names_of best.greens) ≡ true
  pub above : low ≤ mine.summary.green_count
  pub below : mine.summary.green_count ≤ best.summary.green_count
  pub reds : (creator : ℕ) → IfSome (least_reds heard creator) (λ k. k ≤ index_in mine.summary.red_cut creator)

-- so many greens it has behind so many items
abbrev pub greens_there : ℕ → ℕ → Told → Told → ℕ
greens_there low n best mine = max mine.summary.green_count (low + min n (best.summary.green_count - low))

pub record IsBehind (start : List Weighted) (heard : List Summary) (low n : ℕ) (best mine : Told) (h : Held) : Type 0 where
  pub oneself : IsOneself start h (take (greens_there low n best mine) best.greens)
  pub red : (creator : ℕ) → index_in h.queue.red_cut creator ≡ max (index_in mine.summary.red_cut creator) (max (index_in h.queue.green_cut creator) (red_behind heard n creator))

-- ---- marks of what is held

-- an action becomes red that is the next of its creator
red-next : (t : Turn) (a : Action) → is_unmade t.replica.held a ≡ false → a.id.index ≡ suc (index_in t.replica.held.queue.red_cut a.id.creator) →
    (mark_red t a).replica.held ≡ known_by t.replica.held a
unfolding mark_red
red-next t a made next =
    let h = t.replica.held in
    ap (λ b. (cond b t (marked t a (marked_red h.queue a))).replica.held) made ∙ ap (λ m. (marked t a m).replica.held) (red-placed h.queue a next)

-- a known action changes nothing
red-there : (t : Turn) (a : Action) → is_unmade t.replica.held a ≡ false → a.id.index ≤ index_in t.replica.held.queue.red_cut a.id.creator →
    (mark_red t a).replica.held ≡ t.replica.held
unfolding mark_red
red-there t a made known =
    let h = t.replica.held in
    ap (λ b. (cond b t (marked t a (marked_red h.queue a))).replica.held) made ∙ ap (λ m. (marked t a m).replica.held) (red-known h.queue a known)

-- an action becomes green that is the next one
green-next : (t : Turn) (place : ℕ) (a : Action) → is_unmade t.replica.held a ≡ false → a.id.index ≡ suc (index_in t.replica.held.queue.green_cut a.id.creator) →
    place ≡ suc (green_count t.replica.held.queue) → (mark_green_at t place a).replica.held ≡ with_green t.replica.held a
unfolding mark_green can_be_green place_green
green-next t place a made next at =
    let h = t.replica.held in
    let can : can_be_green h a ≡ true = and_from (a.id.index == suc (index_in h.queue.green_cut a.id.creator)) (not (is_unmade h a)) (eq-eqb a.id.index (suc (index_in h.queue.green_cut a.id.creator)) next) (ap not made) in
    ap (λ (u : Turn). u.replica.held) (cond-true (place == suc (green_count h.queue)) (mark_green t a) t (eq-eqb place (suc (green_count h.queue)) at))
    ∙ ap (λ (u : Turn). u.replica.held) (cond-true (can_be_green h a) (place_green t a) t can)

-- an action at another place changes nothing
green-there : (t : Turn) (place : ℕ) (a : Action) → (place ≡ suc (green_count t.replica.held.queue) → ⊥) → (mark_green_at t place a).replica.held ≡ t.replica.held
green-there t place a apart =
    ap (λ (u : Turn). u.replica.held) (cond-false (place == suc (green_count t.replica.held.queue)) (mark_green t a) t (ne_eqb place (suc (green_count t.replica.held.queue)) apart))

-- a front of so many elements has so many
pub length-taken : {X : Type 0} (n : ℕ) (xs : List X) → n ≤ length xs → length (take n xs) ≡ n
length-taken zero xs le = refl
length-taken (suc n) [] le = absurd (omega arith)
length-taken (suc n) (x ∷ xs) le = ap suc (length-taken n xs (omega arith))

-- a front of no fewer elements is all
pub taken-all : {X : Type 0} (n : ℕ) (xs : List X) → length xs ≤ n → take n xs ≡ xs
taken-all zero [] le = refl
taken-all (suc n) [] le = refl
taken-all zero (x ∷ xs) le = absurd (omega arith)
taken-all (suc n) (x ∷ xs) le = ap (λ ys. x ∷ ys) (taken-all n xs (omega arith))

-- ---- items

module _ (start : List Weighted) (heard : List Summary) (low n : ℕ) (best mine : Told) (beside : AreBeside heard low best mine) (t : Turn)
    (is : IsBehind start heard low n best mine t.replica.held) (s : PlanSent) (here : slice_get (items_of_plan (plan_of heard)) n ≡ Some s) where
  -- what is held before the item
  abbrev h : Held
  h = t.replica.held

  -- so many greens there are before it
  abbrev k : ℕ
  k = greens_there low n best mine

  -- the greens before it
  abbrev all : List Action
  all = take k best.greens

  -- all greens of the most updated member
  total : best.summary.green_count ≡ length best.greens
  total = beside.count

  -- there are no more than those
  size : k ≤ length best.greens
  size = let c = beside.count in let b = beside.below in let a = beside.above in omega arith

  -- what stands at the place
  item : ItemAt heard n low best.summary s.item
  item = plan-item heard best.summary low beside.most beside.least n s here

  -- nothing is green or red anew
  stays : (new : Held) → new ≡ h → greens_there low (suc n) best mine ≡ k → ((creator : ℕ) → red_index creator s.item ≤ index_in h.queue.red_cut creator) →
      IsBehind start heard low (suc n) best mine new
  stays new same count le =
      subst (IsBehind start heard low (suc n) best mine) (sym same)
      (record {
        oneself = subst (λ x. IsOneself start h (take x best.greens)) (sym count) is.oneself;
        red = λ creator. (let e = is.red creator in let more = behind-next heard n creator s here in let high = le creator in omega arith);
      })

  -- a green item, at the next place or below it
  pub item-green : (place : ℕ) (a : Action) → s.item ≡ Green place → at_place best.greens place ≡ Some a → is_unmade h a ≡ false →
      IsBehind start heard low (suc n) best mine (mark_green_at t place a).replica.held
  item-green place a kind content made =
      let at : (place ≡ suc low + n) × (place ≤ best.summary.green_count) = subst (ItemAt heard n low best.summary) kind item in
      let first = at.0 in
      let last = at.1 in
      let c = beside.count in
      let b = beside.below in
      let low_is = beside.above in
      let count : green_count h.queue ≡ k = made-count start h all is.oneself.made_of ∙ length-taken k best.greens size in
      let none : (creator : ℕ) → red_index creator s.item ≡ 0 = λ creator. ap (red_index creator) kind in
      ⊎_elim
      (λ (next : place ≡ suc (green_count h.queue)).
      let there : slice_get best.greens k ≡ Some a = ap (at_place best.greens) (sym (next ∙ ap suc count)) ∙ content in
      let more : take (suc k) best.greens ≡ all ++ a ∷ [] = take-next best.greens k a there in
      let run : run_on [] (names_of (all ++ a ∷ [])) ≡ true =
      ap (λ xs. run_on [] (names_of xs)) (sym more) ∙ run_on-front [] (names_of (take (suc k) best.greens)) (names_of best.greens) (Front-map (λ (x : Action). x.id) (take (suc k) best.greens) best.greens (Front-take (suc k) best.greens)) beside.run in
      let both = and_parts (run_on [] (names_of all)) (run_on (cut_behind [] (names_of all)) (a.id ∷ []))
      (sym (run_on-append [] (names_of all) (a.id ∷ [])) ∙ ap (run_on []) (sym (names-behind all a)) ∙ run) in
      let index : a.id.index ≡ suc (index_in h.queue.green_cut a.id.creator) =
      run-head (cut_behind [] (names_of all)) a.id [] both.1 ∙ ap (λ cut. suc (index_in cut a.id.creator)) (sym is.oneself.made_of.green_cut) in
      let step : greens_there low (suc n) best mine ≡ suc k = omega arith in
      subst (IsBehind start heard low (suc n) best mine) (sym (green-next t place a made index next))
      (record {
        oneself = subst (IsOneself start (with_green h a)) (sym (ap (λ x. take x best.greens) step ∙ more)) (green-oneself start h all is.oneself a index);
        red = λ creator. (let rest = none creator in placed creator a.id.index rest
            (cases_eq a.id.creator creator));
      }))
      (λ apart. stays (mark_green_at t place a).replica.held (green-there t place a apart) (omega arith) (λ creator. (let e = none creator in omega arith)))
      (cases_eq place (suc (green_count h.queue)))
    where
      placed : (creator index : ℕ) → red_index creator s.item ≡ 0 → (a.id.creator ≡ creator) ⊎ (a.id.creator ≡ creator → ⊥) →
          index_in (raise h.queue.red_cut a.id) creator ≡ max (index_in mine.summary.red_cut creator) (max (index_in (raise h.queue.green_cut a.id) creator) (red_behind heard (suc n) creator))
      placed creator index rest (inl same) =
          let e = is.red creator in
          let more = behind-next heard n creator s here in
          let red = index-same h.queue.red_cut a.id (rising-red start h all is.oneself) creator same in
          let green = index-same h.queue.green_cut a.id (rising-green start h all is.oneself) creator same in
          omega arith
      placed creator index rest (inr other) =
          let e = is.red creator in
          let more = behind-next heard n creator s here in
          let red = index-other h.queue.red_cut a.id (rising-red start h all is.oneself) creator other in
          let green = index-other h.queue.green_cut a.id (rising-green start h all is.oneself) creator other in
          omega arith

  -- a red item, the next of its creator or known
  pub item-red : (a : Action) → s.item ≡ Red a.id → is_unmade h a ≡ false → IsBehind start heard low (suc n) best mine (mark_red t a).replica.held
  item-red a kind made =
      let at : ItemAt heard n low best.summary (Red a.id) = subst (ItemAt heard n low best.summary) kind item in
      let past = at.0 in
      let next = at.1 in
      let c = beside.count in
      let b = beside.below in
      let low_is = beside.above in
      let whole : all ≡ best.greens = taken-all k best.greens (omega arith) in
      let green : index_in h.queue.green_cut a.id.creator ≡ index_in best.summary.green_cut a.id.creator =
      ap (λ cut. index_in cut a.id.creator) (is.oneself.made_of.green_cut ∙ ap (λ xs. cut_behind [] (names_of xs)) whole ∙ sym beside.cut) in
      let top : option_map_or (λ (x : Summary). index_in x.green_cut a.id.creator) (most_updated heard) 0 ≡ index_in best.summary.green_cut a.id.creator =
      ap (λ o. option_map_or (λ (x : Summary). index_in x.green_cut a.id.creator) o 0) beside.most in
      let least = lowest (least_reds heard a.id.creator) (beside.reds a.id.creator) in
      let e = is.red a.id.creator in
      let near : a.id.index ≤ suc (index_in h.queue.red_cut a.id.creator) = omega arith in
      let step : greens_there low (suc n) best mine ≡ k = omega arith in
      let own : red_index a.id.creator s.item ≡ a.id.index = ap (red_index a.id.creator) kind ∙ cond-true (a.id.creator == a.id.creator) a.id.index 0 (eq-eqb a.id.creator a.id.creator refl) in
      ⊎_elim
      (λ (there : a.id.index < suc (index_in h.queue.red_cut a.id.creator)).
      stays (mark_red t a).replica.held (red-there t a made (omega arith)) step
      (λ creator. ⊎_elim
      (λ (same : a.id.creator ≡ creator). subst (λ x. red_index x s.item ≤ index_in h.queue.red_cut x) same (omega arith))
      (λ other. (let no : red_index creator s.item ≡ 0 = ap (red_index creator) kind ∙ cond-false (a.id.creator == creator) a.id.index 0 (ne_eqb a.id.creator creator other) in omega arith))
      (cases_eq a.id.creator creator)))
      (λ (far : suc (index_in h.queue.red_cut a.id.creator) ≤ a.id.index).
      let index : a.id.index ≡ suc (index_in h.queue.red_cut a.id.creator) = omega arith in
      subst (IsBehind start heard low (suc n) best mine) (sym (red-next t a made index))
      (record {
        oneself = subst (λ x. IsOneself start (known_by h a) (take x best.greens)) (sym step) (red-oneself start h all is.oneself a index);
        red = λ creator. placed creator (cases_eq a.id.creator creator);
      }))
      (cases_lt a.id.index (suc (index_in h.queue.red_cut a.id.creator)))
    where
      lowest : (o : Option ℕ) → IfSome o (λ k. k ≤ index_in mine.summary.red_cut a.id.creator) → option_map_or (λ n. n) o 0 ≤ index_in mine.summary.red_cut a.id.creator
      lowest None le = omega arith
      lowest (Some k) le = le

      placed : (creator : ℕ) → (a.id.creator ≡ creator) ⊎ (a.id.creator ≡ creator → ⊥) →
          index_in (raise h.queue.red_cut a.id) creator ≡ max (index_in mine.summary.red_cut creator) (max (index_in h.queue.green_cut creator) (red_behind heard (suc n) creator))
      placed creator (inl same) =
          let e = is.red creator in
          let more = behind-next heard n creator s here in
          let red = index-same h.queue.red_cut a.id (rising-red start h all is.oneself) creator same in
          let own : red_index creator s.item ≡ a.id.index = ap (red_index creator) kind ∙ cond-true (a.id.creator == creator) a.id.index 0 (eq-eqb a.id.creator creator same) in
          omega arith
      placed creator (inr other) =
          let e = is.red creator in
          let more = behind-next heard n creator s here in
          let red = index-other h.queue.red_cut a.id (rising-red start h all is.oneself) creator other in
          let no : red_index creator s.item ≡ 0 = ap (red_index creator) kind ∙ cond-false (a.id.creator == creator) a.id.index 0 (ne_eqb a.id.creator creator other) in
          omega arith
