-- A place in a plan, and the items before and behind it.
use Rattle.std.proofs.Common.{◌≡◌, ℕ, zero, suc, ◌+◌, ◌-◌, ◌<◌, ◌≤◌, List, [], ◌∷◌, ◌++◌, length, map, take, drop, get_or, Some, None, false, eqb, ltb, leb, inl, inr, refl, sym, ap, ◌∙◌, arith, length-append}
use Rattle.std.specs.Prelude.{slice_get, Option, IsSome}
use Rattle.std.proofs.lemmas.Bool.{false≢true, le-ltb, lt-leb, le-leb, eq-eqb, ne_eqb, cases_lt}
use Rattle.std.proofs.lemmas.List.{length-map, append-nil, nil_from_length, drop_all}
use Rattle.cg_base.specs.Lists.{count_up}
use Rattle.cg_plan.specs.declared.parts.Item.TheVariants.{Green}
use Rattle.cg_plan.specs.declared.parts.Part.{Part}
use Rattle.cg_plan.specs.declared.parts.Part.TheVariants.{Greens, Reds}
use Rattle.cg_plan.specs.declared.parts.SentPart.{SentPart}
use Rattle.cg_plan.specs.Items.{red_item, items_of, sent_by, items_of_turn, items_of_plan}
use Rattle.cg_plan.specs.Place.{AreFilled, MadeFew, IsPlace, items_before}
use Rattle.cg_plan.specs.Progress.{PlanProgress, turn_of}
use Rattle.cg_plan.specs.PlanLaws.{length-items, length-turn, size-filled, items-cons}
use Rattle.cg_plan.specs.Following.{begun}
use Rattle.cg_plan.specs.Parts.{IsFilled, size_of, item_behind}
use Rattle.cg_base.specs.ListLaws.{slice_get-front}

-- ---- the parts from a place on

pub ended : (turns rest : List SentPart) (current : ℕ) → rest ≡ drop current turns → length rest ≡ 0 → drop current turns ≡ []
ended turns rest current is none = sym is ∙ nil_from_length rest none

first-is : {X : Type 0} (xs : List X) (x : X) → 1 ≤ length xs → x ≡ get_or xs 0 x → xs ≡ x ∷ drop 1 xs
first-is [] x some is = absurd (omega arith)
first-is (y ∷ xs) x some is = ap (λ z. z ∷ xs) (sym is)

pub opened : (turns rest : List SentPart) (current : ℕ) (turn : SentPart) → rest ≡ drop current turns → 1 ≤ length rest → turn ≡ get_or rest 0 turn → drop current turns ≡ turn ∷ drop 1 rest
opened turns rest current turn from some is = sym from ∙ first-is rest turn some is

-- ---- the items of one part

get-count_up : {X : Type 0} (f : ℕ → X) (n first k : ℕ) → k < n → slice_get (map f (count_up first n)) k ≡ Some (f (first + k))
get-count_up f zero first k lt = absurd (omega arith)
get-count_up f (suc n) first zero lt = let same : first + 0 ≡ first = omega arith in rw same refl
get-count_up f (suc n) first (suc k) lt =
    let same : suc first + k ≡ first + suc k = omega arith in
    get-count_up f n (suc first) k (omega arith) ∙ ap (λ m. Some (f m)) same

get-map : {X Y : Type 0} (f : X → Y) (xs : List X) (k : ℕ) (x : X) → slice_get xs k ≡ Some x → slice_get (map f xs) k ≡ Some (f x)
get-map f [] k x e = absurd (cc)
get-map f (y ∷ xs) zero x e = let same : y ≡ x = cc in rw same refl
get-map f (y ∷ xs) (suc k) x e = get-map f xs k x e

get-items : (part : Part) (made : ℕ) → IsFilled part → made < size_of part → slice_get (items_of part) made ≡ Some (item_behind part made)
get-items (Greens from to) made filled few =
    let one : 1 ≤ from = filled.0 in
    let same : suc (from - 1) + made ≡ from + made = omega arith in
    get-count_up Green (to - (from - 1)) (suc (from - 1)) made few ∙ ap (λ m. Some (Green m)) same
get-items (Reds creator from to) made filled few =
    let one : 1 ≤ from = filled.0 in
    let same : suc (from - 1) + made ≡ from + made = omega arith in
    get-count_up (red_item creator) (to - (from - 1)) (suc (from - 1)) made few ∙ ap (λ m. Some (red_item creator m)) same

-- ---- the items of all parts

items-none : items_of_plan [] ≡ []
unfolding items_of_plan
items-none = refl

get-append-right : {X : Type 0} (xs ys : List X) (k : ℕ) → slice_get (xs ++ ys) (length xs + k) ≡ slice_get ys k
get-append-right [] ys k = let same : 0 + k ≡ k = omega arith in rw same refl
get-append-right (x ∷ xs) ys k =
    let same : suc (length xs) + k ≡ suc (length xs + k) = omega arith in
    ap (slice_get (x ∷ xs ++ ys)) same ∙ get-append-right xs ys k

none_before : (made : ℕ) → length (items_of_plan []) + made ≡ made
none_before made = omega (arith, ap length items-none)

-- the item at a place is that of the parts from there on
pub get-place : (turns : List SentPart) (current made : ℕ) → slice_get (items_of_plan turns) (items_before turns current made) ≡ slice_get (items_of_plan (drop current turns)) made
unfolding items_before
get-place turns zero made = ap (slice_get (items_of_plan turns)) (none_before made)
get-place [] (suc current) made = ap (slice_get (items_of_plan [])) (none_before made)
get-place (turn ∷ turns) (suc current) made =
    let rest = get-place turns current made in
    let front = items_of_turn turn in
    let more = items_of_plan (take current turns) in
    let before : length (items_of_plan (turn ∷ take current turns)) + made ≡ length front + (length more + made) = omega (arith, ap length (items-cons turn (take current turns)), length-append front more) in
    ap (λ n. slice_get (items_of_plan (turn ∷ turns)) n) before
    ∙ ap (λ xs. slice_get xs (length front + (length more + made))) (items-cons turn turns)
    ∙ get-append-right front (items_of_plan turns) (length more + made)
    ∙ rest

-- no part is left
pub item-none : (turns : List SentPart) (current made : ℕ) → drop current turns ≡ [] → slice_get (items_of_plan turns) (items_before turns current made) ≡ None
item-none turns current made none = get-place turns current made ∙ rw (none, items-none) refl

-- the next item is one of the first part that is left
pub item-some : (turns more : List SentPart) (turn : SentPart) (current made : ℕ) → drop current turns ≡ turn ∷ more → IsFilled turn.part → made < size_of turn.part
    → slice_get (items_of_plan turns) (items_before turns current made) ≡ Some (sent_by turn.sender (item_behind turn.part made))
item-some turns more turn current made here filled few =
    let first = get-map (sent_by turn.sender) (items_of turn.part) made (item_behind turn.part made) (get-items turn.part made filled few) in
    get-place turns current made ∙ rw (here, items-cons turn more) (slice_get-front (items_of_turn turn) (items_of_plan more) made (omega (arith, length-turn turn)) ∙ first)

-- ---- what holds of the parts from a place on

pub AreFilled-drop : (turns : List SentPart) (current : ℕ) → AreFilled turns → AreFilled (drop current turns)
AreFilled-drop turns zero filled = filled
AreFilled-drop [] (suc current) filled = tt
AreFilled-drop (turn ∷ turns) (suc current) filled = AreFilled-drop turns current filled.1

pub filled-here : (turns more : List SentPart) (turn : SentPart) (current made : ℕ) → drop current turns ≡ turn ∷ more → IsPlace turns current made → IsFilled turn.part
filled-here turns more turn current made here place = let filled = AreFilled-drop turns current place.filled in (rw here at filled).0

pub few-here : (turns more : List SentPart) (turn : SentPart) (current made : ℕ) → drop current turns ≡ turn ∷ more → IsPlace turns current made → made < size_of turn.part
few-here turns more turn current made here place = let few = place.few in rw here at few

pub few-none : (turns : List SentPart) (current made : ℕ) → drop current turns ≡ [] → IsPlace turns current made → made ≡ 0
few-none turns current made none place = let few = place.few in rw none at few

-- ---- the part that begins at a place

turn_of-past : (turn : SentPart) (turns : List SentPart) (me n : ℕ) → 1 ≤ length (items_of turn.part) → turn_of (turn ∷ turns) me (length (items_of turn.part) + n) ≡ turn_of turns me n
unfolding turn_of
turn_of-past turn turns me n some = past (length (items_of turn.part)) some refl
  where
    past : (size : ℕ) → 1 ≤ size → size ≡ length (items_of turn.part) → turn_of (turn ∷ turns) me (size + n) ≡ turn_of turns me n
    past zero some is = absurd (omega arith)
    past (suc size) some is =
        let shape : suc size + n ≡ suc (size + n) = omega arith in
        let beyond : ltb (suc (size + n)) (length (items_of turn.part)) ≡ false = le-ltb _ _ (omega arith) in
        let left : suc (size + n) - length (items_of turn.part) ≡ n = omega arith in
        ap (turn_of (turn ∷ turns) me) shape ∙ rw (beyond, left) refl

pub turn_of-place : (turns : List SentPart) (me current made : ℕ) → AreFilled turns → turn_of turns me (items_before turns current made) ≡ turn_of (drop current turns) me made
unfolding items_before
turn_of-place turns me zero made filled = let same : 0 + made ≡ made = omega arith in rw (items-none, same) refl
turn_of-place [] me (suc current) made filled = let same : 0 + made ≡ made = omega arith in rw (items-none, same) refl
turn_of-place (turn ∷ turns) me (suc current) made filled =
    let rest = turn_of-place turns me current made filled.1 in
    let front = items_of turn.part in
    let more = items_of_plan (take current turns) in
    let size : length (items_of_turn turn) ≡ length front = length-map front (sent_by turn.sender) in
    let before : length (items_of_plan (turn ∷ take current turns)) + made ≡ length front + (length more + made) = omega (arith, ap length (items-cons turn (take current turns)), size, length-append (items_of_turn turn) more) in
    let some : 1 ≤ length front = omega (arith, length-items turn.part, size-filled turn.part filled.0) in
    ap (turn_of (turn ∷ turns) me) before ∙ turn_of-past turn turns me (length more + made) some ∙ rest

-- ---- the next place

take-suc : {X : Type 0} (xs more : List X) (x : X) (i : ℕ) → drop i xs ≡ x ∷ more → take (suc i) xs ≡ take i xs ++ x ∷ []
take-suc [] more x zero e = absurd (cc)
take-suc [] more x (suc i) e = absurd (cc)
take-suc (y ∷ xs) more x zero e = let same : y ≡ x = cc in rw same refl
take-suc (y ∷ xs) more x (suc i) e = ap (λ zs. y ∷ zs) (take-suc xs more x i e)

length-plan-push : (turns : List SentPart) (turn : SentPart) → length (items_of_plan (turns ++ turn ∷ [])) ≡ length (items_of_plan turns) + size_of turn.part
length-plan-push [] turn =
    rw (items-cons turn [], items-none, append-nil (items_of_turn turn)) (omega (arith, length-turn turn))
length-plan-push (t ∷ turns) turn =
    rw (items-cons t (turns ++ turn ∷ []), items-cons t turns)
    (omega (arith, length-append (items_of_turn t) (items_of_plan (turns ++ turn ∷ [])), length-append (items_of_turn t) (items_of_plan turns), length-plan-push turns turn))

-- behind the last item of a part stands the next part
pub before-next_part : (turns more : List SentPart) (turn : SentPart) (current made : ℕ) → drop current turns ≡ turn ∷ more → made + 1 ≡ size_of turn.part
    → items_before turns (current + 1) 0 ≡ items_before turns current made + 1
unfolding items_before
before-next_part turns more turn current made here last =
    let next : current + 1 ≡ suc current = omega arith in
    rw (next, take-suc turns more turn current here) (omega (arith, length-plan-push (take current turns) turn))

pub before-same_part : (turns : List SentPart) (current made : ℕ) → items_before turns current (made + 1) ≡ items_before turns current made + 1
unfolding items_before
before-same_part turns current made = omega arith

MadeFew-none : (turns : List SentPart) → AreFilled turns → MadeFew 0 turns
MadeFew-none [] filled = refl
MadeFew-none (turn ∷ turns) filled = size-filled turn.part filled.0

pub place-next_part : (turns : List SentPart) (current made : ℕ) → IsPlace turns current made → current < length turns → IsPlace turns (current + 1) 0
place-next_part turns current made place more =
    record { filled = place.filled; within = omega arith; few = MadeFew-none (drop (current + 1) turns) (AreFilled-drop turns (current + 1) place.filled) }

pub place-same_part : (turns more : List SentPart) (turn : SentPart) (current made : ℕ) → drop current turns ≡ turn ∷ more → IsPlace turns current made → made + 1 < size_of turn.part → IsPlace turns current (made + 1)
place-same_part turns more turn current made here place less =
    record { filled = place.filled; within = place.within; few = rw here less }

pub place-first : (turns : List SentPart) → AreFilled turns → IsPlace turns 0 0
place-first turns filled = record { filled = filled; within = omega arith; few = MadeFew-none turns filled }

pub before-first : (turns : List SentPart) → items_before turns 0 0 ≡ 0
unfolding items_before
before-first turns = rw items-none refl

-- ---- the end

-- at the end all items come before, and nowhere else
pub before-end : (turns : List SentPart) (current made : ℕ) → drop current turns ≡ [] → made ≡ 0 → items_before turns current made ≡ length (items_of_plan turns)
unfolding items_before
before-end turns zero made none zeroed = rw (none, items-none) (omega arith)
before-end [] (suc current) made none zeroed = rw items-none (omega arith)
before-end (turn ∷ turns) (suc current) made none zeroed =
    let rest = before-end turns current made none zeroed in
    rw (items-cons turn (take current turns), items-cons turn turns)
    (omega (arith, rest, length-append (items_of_turn turn) (items_of_plan (take current turns)), length-append (items_of_turn turn) (items_of_plan turns)))

pub before-less : (turns more : List SentPart) (turn : SentPart) (current made : ℕ) → drop current turns ≡ turn ∷ more → made < size_of turn.part → items_before turns current made < length (items_of_plan turns)
unfolding items_before
before-less turns more turn zero made here few =
    rw (here, items-none, items-cons turn more) (omega (arith, length-append (items_of_turn turn) (items_of_plan more), length-turn turn))
before-less [] more turn (suc current) made here few = absurd (cc)
before-less (t ∷ turns) more turn (suc current) made here few =
    let rest = before-less turns more turn current made here few in
    rw (items-cons t (take current turns), items-cons t turns)
    (omega (arith, rest, length-append (items_of_turn t) (items_of_plan (take current turns)), length-append (items_of_turn t) (items_of_plan turns)))

nothing_there : {X : Type 0} (o : Option X) → o ≡ None → IsSome o → ⊥
nothing_there None e some = false≢true some
nothing_there (Some x) e some = absurd (cc)

-- where an item is still to come, a part is left
pub within-next : (turns : List SentPart) (current made : ℕ) → IsSome (slice_get (items_of_plan turns) (items_before turns current made)) → current < length turns
within-next turns current made some = elim (cases_lt current (length turns)) [
  | inl lt ↦ lt
  | inr le ↦ absurd (nothing_there _ (item-none turns current made (drop_all current turns le)) some)
]

-- what stands at a place that is left
part_there : {X : Type 0} (xs : List X) (i : ℕ) → i < length xs → (x : X) × (more : List X) × (drop i xs ≡ x ∷ more)
part_there [] i lt = absurd (omega arith)
part_there (x ∷ xs) zero lt = (x, xs, refl)
part_there (x ∷ xs) (suc i) lt = part_there xs i (omega arith)

-- the place is behind the last part exactly where all items come before it
pub done-place : (turns : List SentPart) (current made : ℕ) → IsPlace turns current made → eqb current (length turns) ≡ leb (length (items_of_plan turns)) (items_before turns current made)
done-place turns current made place = elim (cases_lt current (length turns)) [
  | inl lt ↦
      let part = part_there turns current lt in
      let less = before-less turns part.1 part.0 current made part.2 (few-here turns part.1 part.0 current made part.2 place) in
      ne_eqb current (length turns) (λ e. omega arith) ∙ sym (lt-leb _ _ less)
  | inr le ↦
      let none = drop_all current turns le in
      let all = before-end turns current made none (few-none turns current made none place) in
      let within = place.within in
      eq-eqb current (length turns) (omega arith) ∙ sym (le-leb _ _ (omega (arith, all)))
]

abbrev at_place : List SentPart → ℕ → PlanProgress
at_place turns n = record { turns = turns; accepted = n }

-- a plan of which nothing was taken
pub begun-is : (turns plan : List SentPart) → turns ≡ plan → at_place turns (items_before turns 0 0) ≡ begun plan
begun-is turns plan e = rw (e, before-first plan) refl
