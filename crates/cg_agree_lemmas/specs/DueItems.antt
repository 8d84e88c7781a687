-- The items that are due of a member behind one more item are those due before it, and those of the part that it begins.
use Rattle.std.proofs.Common.{◌≡◌, ℕ, zero, suc, ◌+◌, ◌-◌, ◌<◌, ◌≤◌, Bool, true, false, cond, ◌&&◌, List, [], ◌∷◌, ◌++◌, Option, Some, None, refl, sym, arith, ⊎_elim, append-nil}
use Rattle.std.specs.Prelude.{◌==◌, nat_le}
use Rattle.std.proofs.lemmas.Bool.{and_right, le-leb, lt-leb, le-ltb, cases_eq, cases_lt}
use Rattle.std.proofs.lemmas.List.{append_assoc}
use Rattle.cg_plan.specs.declared.parts.Item.{Item}
use Rattle.cg_plan.specs.declared.parts.Part.{Part}
use Rattle.cg_plan.specs.declared.parts.SentPart.{SentPart}
use Rattle.cg_plan.specs.Items.{items_of}
use Rattle.cg_plan.specs.Place.{AreFilled}
use Rattle.cg_plan.specs.Progress.{turn_of}
use Rattle.cg_plan.specs.PlanLaws.{length-items, size-filled, turn_of-none, turn_of-begun, turn_of-under_way}
use Rattle.cg_plan.specs.Parts.{size_of}
use Rattle.cg_model.specs.Talk.{due_from}

-- the items of a part, where there is one
abbrev pub part_items : Option Part → List Item
part_items None = []
part_items (Some part) = items_of part

-- no part that begins later is due
pub due-none : (turns : List SentPart) (start me n : ℕ) → n < start → due_from start turns me n ≡ []
due-none [] start me n lt = refl
due-none (turn ∷ turns) start me n lt =
    rw (and_right (turn.sender == me) (nat_le start n) (lt-leb start n lt), due-none turns (start + size_of turn.part) me n (omega arith)) refl

-- the parts behind the first one
pub turn_of-beyond : (turn : SentPart) (turns : List SentPart) (me made : ℕ) → 1 ≤ made → size_of turn.part ≤ made →
    turn_of (turn ∷ turns) me made ≡ turn_of turns me (made - size_of turn.part)
unfolding turn_of
turn_of-beyond turn turns me zero one le = absurd (omega arith)
turn_of-beyond turn turns me (suc made) one le =
    let size = length-items turn.part in
    rw size (rw (le-ltb (suc made) (size_of turn.part) le) refl)

begun-items : (b : Bool) (part : Part) → (cond (b && true) (items_of part) [] ++ []) ≡ part_items (cond b (Some part) None)
begun-items true part = append-nil (items_of part)
begun-items false part = refl

-- a part that isn't the next to begin: what is due is that of the first part, and what is due of the others
module _ (turn : SentPart) (turns : List SentPart) (start me n : ℕ) (filled : AreFilled (turn ∷ turns)) (le : start ≤ suc n) where
  abbrev DueStep : Type 0
  DueStep = due_from start (turn ∷ turns) me (suc n) ≡ due_from start (turn ∷ turns) me n ++ part_items (turn_of (turn ∷ turns) me (suc n - start))

  due-begins : start ≡ suc n → DueStep
  due-begins same =
      let some : 1 ≤ size_of turn.part = size-filled turn.part filled.0 in
      let zeroth : suc n - start ≡ 0 = omega arith in
      rw (
        zeroth,
        turn_of-begun turn turns me,
        le-leb start (suc n) le,
        due-none turns (start + size_of turn.part) me (suc n) (omega arith),
        and_right (turn.sender == me) (nat_le start n) (lt-leb start n (omega arith)),
        due-none turns (start + size_of turn.part) me n (omega arith),
      )
      (begun-items (turn.sender == me) turn.part)

  due-inside : start ≤ n → suc n - start < size_of turn.part → DueStep
  due-inside begun few =
      rw (
        turn_of-under_way turn turns me (suc n - start) (omega arith) few,
        le-leb start (suc n) le,
        le-leb start n begun,
        due-none turns (start + size_of turn.part) me (suc n) (omega arith),
        due-none turns (start + size_of turn.part) me n (omega arith),
      )
      (sym (append-nil (cond ((turn.sender == me) && true) (items_of turn.part) [] ++ [])))

  due-beyond : start ≤ n → size_of turn.part ≤ suc n - start →
      (start + size_of turn.part ≤ suc n → due_from (start + size_of turn.part) turns me (suc n)
      ≡ due_from (start + size_of turn.part) turns me n ++ part_items (turn_of turns me (suc n - (start + size_of turn.part)))) → DueStep
  due-beyond begun all rest =
      let same : suc n - start - size_of turn.part ≡ suc n - (start + size_of turn.part) = omega arith in
      rw (turn_of-beyond turn turns me (suc n - start) (omega arith) all, same, le-leb start (suc n) le, le-leb start n begun, rest (omega arith))
      (sym (append_assoc (cond ((turn.sender == me) && true) (items_of turn.part) []) (due_from (start + size_of turn.part) turns me n)
      (part_items (turn_of turns me (suc n - (start + size_of turn.part))))))

pub due-step : (turns : List SentPart) (start me n : ℕ) → AreFilled turns → start ≤ suc n →
    due_from start turns me (suc n) ≡ due_from start turns me n ++ part_items (turn_of turns me (suc n - start))
due-step [] start me n filled le = rw (turn_of-none me (suc n - start)) refl
due-step (turn ∷ turns) start me n filled le = ⊎_elim
    (λ same. due-begins turn turns start me n filled le same)
    (λ other. ⊎_elim
    (λ few. due-inside turn turns start me n filled le (omega arith) few)
    (λ all. due-beyond turn turns start me n filled le (omega arith) (omega arith) (λ more. due-step turns (start + size_of turn.part) me n filled.1 more))
    (cases_lt (suc n - start) (size_of turn.part)))
    (cases_eq start (suc n))

pub due-first : (turns : List SentPart) (me : ℕ) → AreFilled turns → due_from 0 turns me 0 ≡ part_items (turn_of turns me 0)
due-first [] me filled = rw (turn_of-none me 0) refl
due-first (turn ∷ turns) me filled =
    let some = size-filled turn.part filled.0 in
    rw (turn_of-begun turn turns me, due-none turns (0 + size_of turn.part) me 0 (omega arith)) (begun-items (turn.sender == me) turn.part)
