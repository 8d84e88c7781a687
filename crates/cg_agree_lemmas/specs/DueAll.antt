-- Where a part of a member begins, the items that it has said are all of its items before that part.
use Rattle.std.proofs.Common.{◌≡◌, ℕ, zero, suc, ◌+◌, ◌-◌, ◌<◌, ◌≤◌, Bool, true, false, cond, ◌&&◌, List, [], ◌∷◌, ◌++◌, Option, Some, None, length, map, filter_map, take, drop, refl, sym, ap, ap₂, ◌∙◌, arith, ⊎_elim, if◌then◌else◌, eqb-true}
use Rattle.std.specs.Prelude.{◌==◌, slice_get}
use Rattle.std.proofs.lemmas.Bool.{le-leb, cases_eq, cases_lt, cases_Bool, cond-true, cond-false}
use Rattle.std.proofs.lemmas.List.Elements.{filter_map-append}
use Rattle.std.proofs.lemmas.List.{drop_all}
use Rattle.cg_plan.specs.declared.parts.Item.{Item}
use Rattle.cg_plan.specs.declared.parts.Part.{Part}
use Rattle.cg_plan.specs.declared.parts.SentItem.{SentItem as PlanSent}
use Rattle.cg_plan.specs.declared.parts.SentPart.{SentPart}
use Rattle.cg_plan.specs.Items.{items_of, items_of_turn, items_of_plan, sent_by}
use Rattle.cg_plan.specs.Place.{AreFilled}
use Rattle.cg_plan.specs.Progress.{turn_of}
use Rattle.cg_plan.specs.PlanLaws.{length-items, length-turn, size-filled, items-cons, turn_of-none, turn_of-begun, turn_of-under_way}
use Rattle.cg_plan.specs.Parts.{size_of}
use Rattle.cg_model.specs.Talk.{due_from}
use Rattle.cg_agree_lemmas.specs.DueItems.{due-none, turn_of-beyond}

-- the items of a member among items with their senders
abbrev pub item_by : ℕ → PlanSent → Option Item
item_by me s = if s.sender == me then Some s.item else None

abbrev pub items_by : ℕ → List PlanSent → List Item
items_by me sents = filter_map (item_by me) sents

pub by-sender : (sender me : ℕ) (items : List Item) → items_by me (map (sent_by sender) items) ≡ cond (sender == me) items []
by-sender sender me items = ⊎_elim (λ is. all is items ∙ sym (cond-true (sender == me) items [] is)) (λ isnt. nobody isnt items ∙ sym (cond-false (sender == me) items [] isnt))
    (cases_Bool (sender == me)) where
      all : (sender == me) ≡ true → (items : List Item) → items_by me (map (sent_by sender) items) ≡ items
      all is [] = refl
      all is (item ∷ items) = rw is (ap (λ xs. item ∷ xs) (all is items))

      nobody : (sender == me) ≡ false → (items : List Item) → items_by me (map (sent_by sender) items) ≡ []
      nobody isnt [] = refl
      nobody isnt (item ∷ items) = rw isnt (nobody isnt items)

module _ {X : Type 0} where
  pub take-beyond : (xs ys : List X) (n : ℕ) → length xs ≤ n → take n (xs ++ ys) ≡ xs ++ take (n - length xs) ys
  take-beyond [] ys n le = let whole : n - 0 ≡ n = omega arith in rw whole refl
  take-beyond (x ∷ xs) ys zero le = absurd (omega arith)
  take-beyond (x ∷ xs) ys (suc n) le = let same : suc n - suc (length xs) ≡ n - length xs = omega arith in rw same (ap (λ zs. x ∷ zs) (take-beyond xs ys n (omega arith)))

  pub drop-beyond : (xs ys : List X) (n : ℕ) → length xs ≤ n → drop n (xs ++ ys) ≡ drop (n - length xs) ys
  drop-beyond [] ys n le = let whole : n - 0 ≡ n = omega arith in rw whole refl
  drop-beyond (x ∷ xs) ys zero le = absurd (omega arith)
  drop-beyond (x ∷ xs) ys (suc n) le = let same : suc n - suc (length xs) ≡ n - length xs = omega arith in rw same (drop-beyond xs ys n (omega arith))

  -- the element behind some, and what is behind it
  pub get-drop : (xs : List X) (n : ℕ) (x : X) (rest : List X) → drop n xs ≡ x ∷ rest → slice_get xs n ≡ Some x
  get-drop [] zero x rest e = absurd (let none : [] ≡ x ∷ rest = e in cc)
  get-drop [] (suc n) x rest e = absurd (let none : [] ≡ x ∷ rest = e in cc)
  get-drop (y ∷ xs) zero x rest e = let all : y ∷ xs ≡ x ∷ rest = e in cc
  get-drop (y ∷ xs) (suc n) x rest e = get-drop xs n x rest e

  pub next-drop : (xs : List X) (n : ℕ) (x : X) (rest : List X) → drop n xs ≡ x ∷ rest → drop (suc n) xs ≡ rest
  next-drop [] zero x rest e = absurd (let none : [] ≡ x ∷ rest = e in cc)
  next-drop [] (suc n) x rest e = absurd (let none : [] ≡ x ∷ rest = e in cc)
  next-drop (y ∷ xs) zero x rest e = let all : y ∷ xs ≡ x ∷ rest = e in cc
  next-drop (y ∷ xs) (suc n) x rest e = next-drop xs n x rest e

  pub take-next : (xs : List X) (n : ℕ) (x : X) → slice_get xs n ≡ Some x → take (suc n) xs ≡ take n xs ++ x ∷ []
  take-next [] n x e = absurd (let none : None ≡ Some x = e in cc)
  take-next (y ∷ xs) zero x e = let is : y ≡ x = cc in rw is refl
  take-next (y ∷ xs) (suc n) x e = ap (λ zs. y ∷ zs) (take-next xs n x e)

by-turn : (turn : SentPart) (me : ℕ) → items_by me (items_of_turn turn) ≡ cond (turn.sender == me) (items_of turn.part) []
by-turn turn me = by-sender turn.sender me (items_of turn.part)

nothing-there : {Z : Type 0} (turns : List SentPart) (me k : ℕ) (part : Part) → turn_of turns me k ≡ None → turn_of turns me k ≡ Some part → Z
nothing-there turns me k part isnt is = absurd (let clash : None ≡ Some part = sym isnt ∙ is in cc)

module _ (turn : SentPart) (turns : List SentPart) (start me n : ℕ) (part : Part) (filled : AreFilled (turn ∷ turns)) (le : start ≤ suc n)
    (begins : turn_of (turn ∷ turns) me (suc n - start) ≡ Some part) where
  abbrev DueAll : Type 0
  DueAll = due_from start (turn ∷ turns) me n ≡ items_by me (take (suc n - start) (items_of_plan (turn ∷ turns)))

  all-first : start ≡ suc n → DueAll
  all-first same =
      let zeroth : suc n - start ≡ 0 = omega arith in
      due-none (turn ∷ turns) start me n (omega arith) ∙ rw zeroth refl

  all-inside : start ≤ n → suc n - start < size_of turn.part → DueAll
  all-inside begun few = nothing-there (turn ∷ turns) me (suc n - start) part (turn_of-under_way turn turns me (suc n - start) (omega arith) few) begins

  all-beyond : start ≤ n → size_of turn.part ≤ suc n - start →
      (start + size_of turn.part ≤ suc n → turn_of turns me (suc n - (start + size_of turn.part)) ≡ Some part →
      due_from (start + size_of turn.part) turns me n ≡ items_by me (take (suc n - (start + size_of turn.part)) (items_of_plan turns))) → DueAll
  all-beyond begun all rest =
      let size = length-turn turn in
      let same : suc n - start - size_of turn.part ≡ suc n - (start + size_of turn.part) = omega arith in
      let later : suc n - start - length (items_of_turn turn) ≡ suc n - (start + size_of turn.part) = omega (arith, size) in
      let next = sym (turn_of-beyond turn turns me (suc n - start) (omega arith) all ∙ ap (turn_of turns me) same) ∙ begins in
      let right : items_by me (take (suc n - start) (items_of_plan (turn ∷ turns)))
      ≡ cond (turn.sender == me) (items_of turn.part) [] ++ items_by me (take (suc n - (start + size_of turn.part)) (items_of_plan turns)) =
      ap (λ xs. items_by me (take (suc n - start) xs)) (items-cons turn turns)
      ∙ ap (items_by me) (take-beyond (items_of_turn turn) (items_of_plan turns) (suc n - start) (omega (arith, size)))
      ∙ filter_map-append (item_by me) (items_of_turn turn) (take (suc n - start - length (items_of_turn turn)) (items_of_plan turns))
      ∙ ap₂ (λ xs k. xs ++ items_by me (take k (items_of_plan turns))) (by-turn turn me) later in
      let whole : (b : Bool) → (b && true) ≡ b = and-true in
      rw (le-leb start n begun, whole (turn.sender == me), rest (omega arith) next) (sym right)
    where
      and-true : (b : Bool) → (b && true) ≡ b
      and-true true = refl
      and-true false = refl

pub due-all : (turns : List SentPart) (start me n : ℕ) (part : Part) → AreFilled turns → start ≤ suc n → turn_of turns me (suc n - start) ≡ Some part →
    due_from start turns me n ≡ items_by me (take (suc n - start) (items_of_plan turns))
due-all [] start me n part filled le begins = nothing-there [] me (suc n - start) part (turn_of-none me (suc n - start)) begins
due-all (turn ∷ turns) start me n part filled le begins = ⊎_elim
    (λ same. all-first turn turns start me n part filled le begins same)
    (λ other. ⊎_elim
    (λ few. all-inside turn turns start me n part filled le begins (omega arith) few)
    (λ all. all-beyond turn turns start me n part filled le begins (omega arith) (omega arith)
    (λ more next. due-all turns (start + size_of turn.part) me n part filled.1 more next))
    (cases_lt (suc n - start) (size_of turn.part)))
    (cases_eq start (suc n))

-- ---- the items of a part that begins

pub record Begins (turns : List SentPart) (me k : ℕ) (part : Part) : Type 0 where
  pub rest : List PlanSent
  pub here : drop k (items_of_plan turns) ≡ map (sent_by me) (items_of part) ++ rest
  pub some : 1 ≤ length (items_of part)

begins-first : (b : Bool) (sender me : ℕ) (mine part : Part) → (sender == me) ≡ b → cond b (Some mine) None ≡ Some part → (sender ≡ me) × (mine ≡ part)
begins-first true sender me mine part is e = (eqb-true sender me is, (let same : Some mine ≡ Some part = e in cc))
begins-first false sender me mine part is e = absurd (let none : None ≡ Some part = e in cc)

pub begins : (turns : List SentPart) (me k : ℕ) (part : Part) → AreFilled turns → turn_of turns me k ≡ Some part → Begins turns me k part
begins [] me k part filled e = nothing-there [] me k part (turn_of-none me k) e
begins (turn ∷ turns) me zero part filled e =
    let here = begins-first (turn.sender == me) turn.sender me turn.part part refl (sym (turn_of-begun turn turns me) ∙ e) in
    record {
      rest = items_of_plan turns;
      here = items-cons turn turns ∙ ap₂ (λ p x. map (sent_by p) (items_of x) ++ items_of_plan turns) here.0 here.1;
      some = omega (arith, size-filled turn.part filled.0, length-items turn.part, ap (λ x. length (items_of x)) here.1);
    }
begins (turn ∷ turns) me (suc k) part filled e = ⊎_elim
    (λ few. nothing-there (turn ∷ turns) me (suc k) part (turn_of-under_way turn turns me (suc k) (omega arith) few) e)
    (λ all.
    let later = begins turns me (suc k - size_of turn.part) part filled.1 (sym (turn_of-beyond turn turns me (suc k) (omega arith) (omega arith)) ∙ e) in
    let behind : suc k - length (items_of_turn turn) ≡ suc k - size_of turn.part = omega (arith, length-turn turn) in
    record {
      rest = later.rest;
      here = ap (drop (suc k)) (items-cons turn turns) ∙ drop-beyond (items_of_turn turn) (items_of_plan turns) (suc k) (omega (arith, length-turn turn))
          ∙ ap (λ n. drop n (items_of_plan turns)) behind ∙ later.here;
      some = later.some;
    })
    (cases_lt (suc k) (size_of turn.part))

-- where a plan is through no part begins
pub none-begins : (turns : List SentPart) (me k : ℕ) → AreFilled turns → length (items_of_plan turns) ≤ k → turn_of turns me k ≡ None
none-begins turns me k filled le = at (turn_of turns me k) refl where
  nonempty : (items : List Item) (rest : List PlanSent) → 1 ≤ length items → [] ≡ map (sent_by me) items ++ rest → ⊥
  nonempty [] rest some e = omega arith
  nonempty (item ∷ items) rest some e = cc

  at : (o : Option Part) → turn_of turns me k ≡ o → o ≡ None
  at None e = refl
  at (Some part) e =
      let b = begins turns me k part filled e in
      absurd (nonempty (items_of part) b.rest b.some (sym (drop_all k (items_of_plan turns) le) ∙ b.here))
