-- Following a plan item by item.
use Rattle.std.proofs.Common.{◌≡◌, ℕ, zero, suc, ◌+◌, ◌<◌, ◌≤◌, List, [], ◌∷◌, length, take, get_or, Some, true, eqb, refl, sym, ap, ◌∙◌, arith, inl, inr}
use Rattle.std.specs.Prelude.{slice_get, ◌↔◌}
use Rattle.std.proofs.lemmas.Bool.{eq-eqb, ne_eqb, and_from, le-leb, lt-leb, cases_eq}
use Rattle.std.proofs.lemmas.List.Sums.{fold_more}
use Rattle.cg_plan.specs.declared.parts.Item.{Item}
use Rattle.cg_plan.specs.declared.parts.SentPart.{SentPart}
use Rattle.cg_plan.specs.declared.parts.SentItem.{SentItem}
use Rattle.cg_plan.specs.Items.{items_of_plan}
use Rattle.cg_plan.specs.contracts.parts.ItemPartialEq.TheImpl.{ghosts as same_item}
use Rattle.cg_plan.specs.Progress.{PlanProgress, next_item, is_wanted, is_done}
use Rattle.cg_plan.specs.PlanLaws.{same_item-itself, same_item-is}
use Rattle.cg_plan.specs.Following.{begun, after_item, after_items}

pub same_item-tells : (a b : Item) → (same_item.eq a b ≡ true) ↔ (a ≡ b)
same_item-tells a b = (same_item-is a b, λ e. rw e (same_item-itself b))

wanted-itself : (s : SentItem) → is_wanted (Some s) s.sender s.item ≡ true
wanted-itself s = and_from (eqb s.sender s.sender) (same_item.eq s.item s.item) (eq-eqb s.sender s.sender refl) (same_item-itself s.item)

abbrev at : List SentPart → ℕ → PlanProgress
at plan n = record { turns = plan; accepted = n }

-- the item at its turn is accepted
after-next : (plan : List SentPart) (n : ℕ) (s : SentItem) → slice_get (items_of_plan plan) n ≡ Some s → after_item (at plan n) s.sender s.item ≡ at plan (n + 1)
unfolding next_item
after-next plan n s here = rw (here, wanted-itself s) refl

-- a list with a first element has one to read
some_item : (xs : List SentItem) (n : ℕ) → n < length xs → (s : SentItem) × (slice_get xs n ≡ Some s)
some_item [] n lt = absurd (omega arith)
some_item (x ∷ xs) zero lt = (x, refl)
some_item (x ∷ xs) (suc n) lt = some_item xs n (omega arith)

pub follows : (plan : List SentPart) (n : ℕ) → n ≤ length (items_of_plan plan) → after_items (begun plan) (take n (items_of_plan plan)) ≡ at plan n
follows plan zero le = refl
follows plan (suc n) le =
    let items = items_of_plan plan in
    let lt : n < length items = omega arith in
    let here = some_item items n lt in
    let s = here.0 in
    let before = follows plan n (omega arith) in
    let read : get_or items n s ≡ s = get_or_from items n s here.1 in
    let next : n + 1 ≡ suc n = omega arith in
    let step = fold_more (λ q t. after_item q t.sender t.item) (begun plan) items n s lt in
    ap (λ k. after_items (begun plan) (take k items)) (sym next) ∙ step ∙ rw (before, read) (after-next plan n s here.1) ∙ ap (at plan) next
  where
    get_or_from : (xs : List SentItem) (k : ℕ) (s : SentItem) → slice_get xs k ≡ Some s → get_or xs k s ≡ s
    get_or_from [] k s e = refl
    get_or_from (x ∷ xs) zero s e = cc
    get_or_from (x ∷ xs) (suc k) s e = get_or_from xs k s e

pub ends : (plan : List SentPart) (n : ℕ) → n ≤ length (items_of_plan plan) → is_done (at plan n) ≡ eqb n (length (items_of_plan plan))
unfolding is_done
ends plan n le = elim (cases_eq n (length (items_of_plan plan))) [
  | inl all ↦ le-leb _ _ (omega arith) ∙ sym (eq-eqb _ _ all)
  | inr less ↦ lt-leb _ _ (omega arith) ∙ sym (ne_eqb _ _ less)
]
