-- Where each member has said all items that are due of it, the plan is through: the next item would be due of its sender.
use Rattle.std.proofs.Common.{◌≡◌, ℕ, zero, suc, ◌+◌, ◌-◌, ◌<◌, ◌≤◌, Bool, true, false, cond, ◌&&◌, List, [], ◌∷◌, ◌++◌, Option, Some, None, IfSome, length, map, filter_map, take, refl, sym, ap, ap₂, ◌∙◌, subst, arith, ⊎_elim, length-append, eq-eqb}
use Rattle.std.specs.Prelude.{◌==◌, nat_le, slice_get}
use Rattle.std.specs.List.{cons_option}
use Rattle.std.proofs.lemmas.Bool.{le-leb, cases_lt, cond-true}
use Rattle.std.proofs.lemmas.List.{length-take}
use Rattle.std.proofs.lemmas.List.Elements.{filter_map-append}
use Rattle.std.proofs.lemmas.Option.{slice_get_within}
use Rattle.cg_base.specs.Cuts.{index_in}
use Rattle.cg_knowledge.specs.declared.summary.Summary.{Summary}
use Rattle.cg_knowledge.specs.Summaries.{most_updated}
use Rattle.cg_plan.specs.declared.parts.Item.{Item}
use Rattle.cg_plan.specs.declared.parts.Part.{Part}
use Rattle.cg_plan.specs.declared.parts.Part.TheVariants.{Greens, Reds}
use Rattle.cg_plan.specs.declared.parts.SentItem.{SentItem as PlanSent}
use Rattle.cg_plan.specs.declared.parts.SentPart.{SentPart}
use Rattle.cg_plan.specs.Items.{items_of, items_of_turn, items_of_plan, sent_by}
use Rattle.cg_plan.specs.Plan.{plan_of, farthest, least_greens}
use Rattle.cg_plan.specs.PlanLaws.{length-items, length-turn, items-cons}
use Rattle.cg_plan.specs.Progress.{is_done}
use Rattle.cg_plan.specs.Parts.{size_of}
use Rattle.cg_base.specs.Lists.{Each}
use Rattle.cg_base.specs.EachLaws.{Each-weaker}
use Rattle.cg_base.specs.ListLaws.{slice_get-behind, slice_get-front}
use Rattle.cg_model.specs.Talk.{Talk, is_full, is_through, due_from, due_items}
use Rattle.cg_agree_lemmas.specs.DueAll.{item_by, items_by, by-sender, take-beyond}
use Rattle.cg_agree_lemmas.specs.EndCovers.{OfEach}
use Rattle.cg_agree.proofs.EndReached.{best-of}
use Rattle.cg_agree_lemmas.specs.HandsKept.{some-at}
use Rattle.cg_agree_lemmas.specs.KnownBounds.{farther-of}
use Rattle.cg_agree.proofs.PartsOwn.{IsPartOf, parts-of}
use Rattle.cg_agree_lemmas.specs.SaidSoFar.{items_so_far}

-- ---- lists

module _ {X : Type 0} where
  filter_map-fewer : {Y : Type 0} (f : X → Option Y) (xs : List X) → length (filter_map f xs) ≤ length xs
  filter_map-fewer f [] = omega arith
  filter_map-fewer f (x ∷ xs) = at (f x) (filter_map f xs) (filter_map-fewer f xs) where
    at : {Y : Type 0} (o : Option Y) (ys : List Y) → length ys ≤ length xs → length (cons_option o ys) ≤ suc (length xs)
    at None ys le = omega arith
    at (Some y) ys le = omega arith

-- ---- whose the parts of a plan are

module _ (M : ℕ → Type 0) (heard : List Summary) (each : OfEach (λ s. M s.id) heard) where
  farthest-in : (creator : ℕ) → IfSome (farthest heard creator) (λ s. M s.id)
  unfolding farthest
  farthest-in creator = farther-of (λ s. M s.id) creator heard None tt each

  sender-in : (sender : ℕ) (part : Part) → IsPartOf (most_updated heard) (farthest heard) (least_greens heard) sender part → M sender
  sender-in sender (Greens from to) is = greens (most_updated heard) (least_greens heard) refl refl is.0 where
    greens : (o : Option Summary) (l : Option ℕ) → most_updated heard ≡ o → least_greens heard ≡ l →
        IfSome o (λ b. IfSome l (λ low. (sender ≡ b.id) × (from ≡ suc low) × (to ≡ b.green_count))) → M sender
    greens None l e d parts = absurd (is.1 e)
    greens (Some b) None e d parts = absurd (is.2 d)
    greens (Some b) (Some low) e d parts = subst M (sym parts.0) (best-of (λ s. M s.id) heard b e each)
  sender-in sender (Reds creator from to) is = reds (most_updated heard) (farthest heard creator) refl refl is.0 (farthest-in creator) where
    reds : (o f : Option Summary) → most_updated heard ≡ o → farthest heard creator ≡ f →
        IfSome o (λ b. IfSome f (λ h. (sender ≡ h.id) × (index_in b.green_cut creator < from) × (to ≡ index_in h.red_cut creator))) → IfSome f (λ s. M s.id) → M sender
    reds None f e d parts in_f = absurd (is.1 e)
    reds (Some b) None e d parts in_f = absurd (is.2 d)
    reds (Some b) (Some h) e d parts in_f = subst M (sym parts.0) in_f

  pub senders-in : Each (λ (turn : SentPart). M turn.sender) (plan_of heard)
  senders-in =
      Each-weaker (λ (turn : SentPart). IsPartOf (most_updated heard) (farthest heard) (least_greens heard) turn.sender turn.part) (λ (turn : SentPart). M turn.sender)
      (λ turn is. sender-in turn.sender turn.part is) (plan_of heard) (parts-of heard)

-- ---- the next item

none-there : (k : ℕ) (s : PlanSent) → slice_get (items_of_plan []) k ≡ Some s → ⊥
unfolding items_of_plan
none-there k s there = let lt : k < 0 = slice_get_within [] k s there in omega arith

sender-there : (sender : ℕ) (items : List Item) (k : ℕ) (s : PlanSent) → slice_get (map (sent_by sender) items) k ≡ Some s → s.sender ≡ sender
sender-there sender [] k s there = absurd (let lt : k < 0 = slice_get_within [] k s there in omega arith)
sender-there sender (item ∷ items) zero s there = let same : sent_by sender item ≡ s = cc in ap (λ (x : PlanSent). x.sender) (sym same)
sender-there sender (item ∷ items) (suc k) s there = sender-there sender items k s there

module _ (turn : SentPart) (turns : List SentPart) (k : ℕ) (s : PlanSent) (there : slice_get (items_of_plan (turn ∷ turns)) k ≡ Some s) where
  joined : slice_get (items_of_turn turn ++ items_of_plan turns) k ≡ Some s
  joined = sym (ap (λ (xs : List PlanSent). slice_get xs k) (items-cons turn turns)) ∙ there

  pub of-first : k < size_of turn.part → s.sender ≡ turn.sender
  of-first few =
      let size = length-turn turn in
      sender-there turn.sender (items_of turn.part) k s (sym (slice_get-front (items_of_turn turn) (items_of_plan turns) k (omega arith)) ∙ joined)

  pub of-later : size_of turn.part ≤ k → slice_get (items_of_plan turns) (k - size_of turn.part) ≡ Some s
  of-later all =
      let size = length-turn turn in
      ap (λ n. slice_get (items_of_plan turns) (k - n)) (sym size) ∙ sym (slice_get-behind (items_of_turn turn) (items_of_plan turns) k (omega arith)) ∙ joined

-- an item of a plan is one of a part
item-in : (M : ℕ → Type 0) (turns : List SentPart) (k : ℕ) (s : PlanSent) → Each (λ (turn : SentPart). M turn.sender) turns → slice_get (items_of_plan turns) k ≡ Some s → M s.sender
item-in M [] k s each there = absurd (none-there k s there)
item-in M (turn ∷ turns) k s each there = ⊎_elim
    (λ few. subst M (sym (of-first turn turns k s there few)) each.0)
    (λ all. item-in M turns (k - size_of turn.part) s each.1 (of-later turn turns k s there all))
    (cases_lt k (size_of turn.part))

module _ (turn : SentPart) (turns : List SentPart) (start me k : ℕ) (s : PlanSent) (there : slice_get (items_of_plan (turn ∷ turns)) k ≡ Some s) where
  abbrev Fewer : Type 0
  Fewer = length (items_by me (take k (items_of_plan (turn ∷ turns)))) < length (due_from start (turn ∷ turns) me (start + k))

  fewer-first : s.sender ≡ me → k < size_of turn.part → Fewer
  fewer-first is few =
      let mine : turn.sender ≡ me = sym (of-first turn turns k s there few) ∙ is in
      let said : length (items_by me (take k (items_of_plan (turn ∷ turns)))) ≤ length (take k (items_of_plan (turn ∷ turns))) = filter_map-fewer (item_by me) (take k (items_of_plan (turn ∷ turns))) in
      let taken = length-take k (items_of_plan (turn ∷ turns)) in
      let rest = due_from (start + size_of turn.part) turns me (start + k) in
      let due : due_from start (turn ∷ turns) me (start + k) ≡ items_of turn.part ++ rest = rw (eq-eqb turn.sender me mine, le-leb start (start + k) (omega arith)) refl in
      let count : length (due_from start (turn ∷ turns) me (start + k)) ≡ length (items_of turn.part) + length rest = ap length due ∙ length-append (items_of turn.part) rest in
      let size = length-items turn.part in
      omega arith

  fewer-later : size_of turn.part ≤ k →
      length (items_by me (take (k - size_of turn.part) (items_of_plan turns))) < length (due_from (start + size_of turn.part) turns me (start + size_of turn.part + (k - size_of turn.part))) → Fewer
  fewer-later all rest =
      let size = length-turn turn in
      let later : k - length (items_of_turn turn) ≡ k - size_of turn.part = omega (arith, size) in
      let at : start + size_of turn.part + (k - size_of turn.part) ≡ start + k = omega arith in
      let here = cond (turn.sender == me) (items_of turn.part) [] in
      let said : items_by me (take k (items_of_plan (turn ∷ turns))) ≡ here ++ items_by me (take (k - size_of turn.part) (items_of_plan turns)) =
      ap (λ (xs : List PlanSent). items_by me (take k xs)) (items-cons turn turns)
      ∙ ap (items_by me) (take-beyond (items_of_turn turn) (items_of_plan turns) k (omega (arith, size)))
      ∙ filter_map-append (item_by me) (items_of_turn turn) (take (k - length (items_of_turn turn)) (items_of_plan turns))
      ∙ ap₂ (λ xs n. xs ++ items_by me (take n (items_of_plan turns))) (by-sender turn.sender me (items_of turn.part)) later in
      let said_count = ap length said ∙ length-append here (items_by me (take (k - size_of turn.part) (items_of_plan turns))) in
      let due : due_from start (turn ∷ turns) me (start + k) ≡ here ++ due_from (start + size_of turn.part) turns me (start + k) =
      ap (λ b. cond b (items_of turn.part) [] ++ due_from (start + size_of turn.part) turns me (start + k)) (and-whole (turn.sender == me) (nat_le start (start + k)) (le-leb start (start + k) (omega arith))) in
      let due_count = ap length due ∙ length-append here (due_from (start + size_of turn.part) turns me (start + k)) in
      let moved : length (items_by me (take (k - size_of turn.part) (items_of_plan turns))) < length (due_from (start + size_of turn.part) turns me (start + k)) =
      subst (λ n. length (items_by me (take (k - size_of turn.part) (items_of_plan turns))) < length (due_from (start + size_of turn.part) turns me n)) at rest in
      omega arith
    where
      and-whole : (a b : Bool) → b ≡ true → (a && b) ≡ a
      and-whole true b e = e
      and-whole false b e = refl

-- an item of a member is due of it behind the items before it, and isn't one of these
fewer : (turns : List SentPart) (start me k : ℕ) (s : PlanSent) → slice_get (items_of_plan turns) k ≡ Some s → s.sender ≡ me →
    length (items_by me (take k (items_of_plan turns))) < length (due_from start turns me (start + k))
fewer [] start me k s there is = absurd (none-there k s there)
fewer (turn ∷ turns) start me k s there is = ⊎_elim
    (λ few. fewer-first turn turns start me k s there is few)
    (λ all. fewer-later turn turns start me k s there all (fewer turns (start + size_of turn.part) me (k - size_of turn.part) s (of-later turn turns k s there all) is))
    (cases_lt k (size_of turn.part))

-- ---- the end

pub all-through : (M : ℕ → Type 0) (set : List ℕ) (t : Talk) → OfEach (λ s. M s.id) t.heard → is_full set t ≡ true → ((me : ℕ) → M me → items_so_far set t me ≡ due_items set t me) → is_through t ≡ true
unfolding is_done
all-through M set t each full said = ⊎_elim
    (λ few.
    let next = some-at (items_of_plan (plan_of t.heard)) t.accepted few in
    let me = next.0.sender in
    let mine : M me = item-in M (plan_of t.heard) t.accepted next.0 (senders-in M t.heard each) next.1 in
    let same : items_by me (take t.accepted (items_of_plan (plan_of t.heard))) ≡ due_from 0 (plan_of t.heard) me t.accepted =
    sym (cond-true (is_full set t) (items_by me (take t.accepted (items_of_plan (plan_of t.heard)))) [] full) ∙ said me mine
    ∙ cond-true (is_full set t) (due_from 0 (plan_of t.heard) me t.accepted) [] full in
    let count = ap length same in
    let zeroth : 0 + t.accepted ≡ t.accepted = omega arith in
    let lt : length (items_by me (take t.accepted (items_of_plan (plan_of t.heard)))) < length (due_from 0 (plan_of t.heard) me t.accepted) =
    subst (λ n. length (items_by me (take t.accepted (items_of_plan (plan_of t.heard)))) < length (due_from 0 (plan_of t.heard) me n)) zeroth (fewer (plan_of t.heard) 0 me t.accepted next.0 next.1 refl) in
    absurd (omega arith))
    (λ all. le-leb (length (items_of_plan (plan_of t.heard))) t.accepted all)
    (cases_lt t.accepted (length (items_of_plan (plan_of t.heard))))
