-- The items of a part, of a turn and of a plan, and whose turn it is.
use Rattle.std.proofs.Common.{◌≡◌, ℕ, zero, suc, ◌-◌, ◌<◌, ◌≤◌, List, [], ◌∷◌, ◌++◌, length, Some, None, true, cond, eqb, ltb, refl, ap, ◌∙◌, arith}
use Rattle.std.proofs.lemmas.Bool.{lt-ltb, eq-eqb, eqb-true, and_from, and_parts}
use Rattle.std.proofs.lemmas.List.{length-map}
use Rattle.std.proofs.lemmas.List.Concat.{flat_map-cons}
use Rattle.cg_base.specs.Lists.{above_up_to}
use Rattle.cg_base.specs.ListLaws.{length-count_up}
use Rattle.cg_plan.specs.declared.parts.Item.{Item}
use Rattle.cg_plan.specs.declared.parts.Item.TheVariants.{Green, Red}
use Rattle.cg_plan.specs.declared.parts.Part.{Part}
use Rattle.cg_plan.specs.declared.parts.Part.TheVariants.{Greens, Reds}
use Rattle.cg_plan.specs.declared.parts.SentPart.{SentPart}
use Rattle.cg_plan.specs.Items.{red_item, items_of, sent_by, items_of_turn, items_of_plan}
use Rattle.cg_plan.specs.contracts.parts.ItemPartialEq.TheImpl.{ghosts as same_item}
use Rattle.cg_plan.specs.Progress.{turn_of}
use Rattle.cg_plan.specs.Parts.{IsFilled, size_of}

-- ---- one item

pub same_item-itself : (i : Item) → same_item.eq i i ≡ true
same_item-itself (Green at) = eq-eqb at at refl
same_item-itself (Red id) =
    and_from (eqb id.creator id.creator) (eqb id.index id.index) (eq-eqb id.creator id.creator refl)
    (eq-eqb id.index id.index refl)

abbrev named : ℕ → ℕ → Item
named creator index = Red (record { creator = creator; index = index })

pub same_item-is : (a b : Item) → same_item.eq a b ≡ true → a ≡ b
same_item-is (Green at) (Green at') e = ap Green (eqb-true at at' e)
same_item-is (Green at) (Red id) e = absurd (cc)
same_item-is (Red id) (Green at) e = absurd (cc)
same_item-is (Red id) (Red id') e =
    let parts = and_parts (eqb id.creator id'.creator) (eqb id.index id'.index) e in
    ap (λ c. named c id.index) (eqb-true id.creator id'.creator parts.0)
    ∙ ap (named id'.creator) (eqb-true id.index id'.index parts.1)

-- ---- the items of one part

pub length-items : (part : Part) → length (items_of part) ≡ size_of part
length-items (Greens from to) = length-map (above_up_to (from - 1) to) Green
    ∙ length-count_up (suc (from - 1)) (to - (from - 1))
length-items (Reds creator from to) = length-map (above_up_to (from - 1) to) (red_item creator)
    ∙ length-count_up (suc (from - 1)) (to - (from - 1))

pub length-turn : (turn : SentPart) → length (items_of_turn turn) ≡ size_of turn.part
length-turn turn = length-map (items_of turn.part) (sent_by turn.sender) ∙ length-items turn.part

pub size-filled : (part : Part) → IsFilled part → 1 ≤ size_of part
size-filled (Greens from to) filled = let one : 1 ≤ from = filled.0 in let le : from ≤ to = filled.1 in omega arith
size-filled (Reds creator from to) filled = let one : 1 ≤ from = filled.0 in
    let le : from ≤ to = filled.1 in omega arith

-- ---- the items of a plan

pub items-cons : (turn : SentPart) (turns : List SentPart) →
    items_of_plan (turn ∷ turns) ≡ items_of_turn turn ++ items_of_plan turns
unfolding items_of_plan
items-cons turn turns = flat_map-cons items_of_turn turn turns

-- ---- whose turn it is

pub turn_of-none : (me made : ℕ) → turn_of [] me made ≡ None
unfolding turn_of
turn_of-none me made = refl

pub turn_of-begun : (turn : SentPart) (turns : List SentPart) (me : ℕ) →
    turn_of (turn ∷ turns) me 0 ≡ cond (eqb turn.sender me) (Some turn.part) None
unfolding turn_of
turn_of-begun turn turns me = refl

pub turn_of-under_way : (turn : SentPart) (turns : List SentPart) (me made : ℕ) → 1 ≤ made → made < size_of turn.part →
    turn_of (turn ∷ turns) me made ≡ None
unfolding turn_of
turn_of-under_way turn turns me zero some few = absurd (omega arith)
turn_of-under_way turn turns me (suc made) some few =
    let within : ltb (suc made) (length (items_of turn.part)) ≡ true =
    lt-ltb _ _ (omega (arith, length-items turn.part)) in
    rw within refl
