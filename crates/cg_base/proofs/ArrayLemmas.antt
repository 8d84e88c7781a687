-- What arrays of 32 slots hold, whole and as far as a loop has come.
use Rattle.std.proofs.Common.{◌≡◌, ℕ, zero, suc, ◌+◌, ◌-◌, ◌≤◌, ◌≢◌, List, [], ◌∷◌, ◌++◌, map, get_or, refl, sym, ap, ◌∙◌, arith, inl, inr}
use Rattle.std.proofs.lemmas.Bool.{cases_eq}
use Rattle.cg_base.specs.Sets.{with_member}
use Rattle.cg_base.specs.Slots.{held_from, held, array_slot}
use Rattle.cg_base.specs.SlotLaws.{held_from-empty, held_from-filled}
use Rattle.cg_base.specs.SetLaws.{with_member-later}

-- ---- one slot more

module _ {X : Type 0} (make : ℕ → ℕ → X) (slot : ℕ → ℕ) where
  pub held_from-more_empty : (count first next : ℕ) → next ≡ first + count → slot next ≡ 0 → held_from make slot (suc count) first ≡ held_from make slot count first
  unfolding held_from
  held_from-more_empty zero first next at_end empty =
      let here : slot first ≡ 0 = let same : next ≡ first = omega arith in sym (ap slot same) ∙ empty in
      held_from-empty make slot zero first here
  held_from-more_empty (suc count) first next at_end empty =
      let rest : held_from make slot (suc count) (suc first) ≡ held_from make slot count (suc first) = held_from-more_empty count (suc first) next (omega arith) empty in
      elim (cases_eq (slot first) 0) [
        | inl none ↦ held_from-empty make slot (suc count) first none ∙ rest ∙ sym (held_from-empty make slot count first none)
        | inr some ↦ held_from-filled make slot (suc count) first some ∙ ap (λ xs. make first (slot first) ∷ xs) rest ∙ sym (held_from-filled make slot count first some)
      ]

  pub held_from-more_filled : (count first next : ℕ) → next ≡ first + count → slot next ≢ 0
      → held_from make slot (suc count) first ≡ held_from make slot count first ++ make next (slot next) ∷ []
  unfolding held_from
  held_from-more_filled zero first next at_end filled =
      let same : next ≡ first = omega arith in
      held_from-filled make slot zero first (λ e. filled (ap slot same ∙ e)) ∙ ap (λ p. make p (slot p) ∷ []) (sym same)
  held_from-more_filled (suc count) first next at_end filled =
      let rest : held_from make slot (suc count) (suc first) ≡ held_from make slot count (suc first) ++ make next (slot next) ∷ [] =
      held_from-more_filled count (suc first) next (omega arith) filled in
      elim (cases_eq (slot first) 0) [
        | inl none ↦ held_from-empty make slot (suc count) first none ∙ rest ∙ ap (λ xs. xs ++ make next (slot next) ∷ []) (sym (held_from-empty make slot count first none))
        | inr some ↦ held_from-filled make slot (suc count) first some ∙ ap (λ xs. make first (slot first) ∷ xs) rest
            ∙ ap (λ xs. xs ++ make next (slot next) ∷ []) (sym (held_from-filled make slot count first some))
      ]

  -- the keys of what slots hold are made into it again
  pub map-held : (key : X → ℕ) → ((p n : ℕ) → key (make p n) ≡ p) → map (λ p. make p (slot p)) (map key (held make slot)) ≡ held make slot
  unfolding held held_from
  map-held key keyed = go 32 1
    where
      go : (count first : ℕ) → map (λ p. make p (slot p)) (map key (held_from make slot count first)) ≡ held_from make slot count first
      go zero first = refl
      go (suc count) first = elim (cases_eq (slot first) 0) [
        | inl none ↦ rw (held_from-empty make slot count first none) (go count (suc first))
        | inr some ↦ rw (held_from-filled make slot count first some, keyed first (slot first), go count (suc first))
      ]

-- a member above all others comes last
pub with_member-last : {X : Type 0} (make : ℕ → ℕ → X) (slot : ℕ → ℕ) (key : X → ℕ) → ((p n : ℕ) → key (make p n) ≡ p) → (count first p : ℕ) → first + count ≤ p
    → with_member (map key (held_from make slot count first)) p ≡ map key (held_from make slot count first) ++ p ∷ []
unfolding held_from
with_member-last make slot key keyed zero first p above = refl
with_member-last make slot key keyed (suc count) first p above =
    let rest : with_member (map key (held_from make slot count (suc first))) p ≡ map key (held_from make slot count (suc first)) ++ p ∷ [] =
    with_member-last make slot key keyed count (suc first) p (omega arith) in
    elim (cases_eq (slot first) 0) [
      | inl none ↦ rw (held_from-empty make slot count first none) rest
      | inr some ↦ rw (held_from-filled make slot count first some, keyed first (slot first))
          (with_member-later first (map key (held_from make slot count (suc first))) p (omega arith) ∙ ap (λ xs. first ∷ xs) rest)
    ]

pub map-append : {X Y : Type 0} (f : X → Y) (xs ys : List X) → map f (xs ++ ys) ≡ map f xs ++ map f ys
map-append f [] ys = refl
map-append f (x ∷ xs) ys = ap (λ zs. f x ∷ zs) (map-append f xs ys)

-- the keys as far as a loop has come, and at the next slot
pub keys-more_empty : {X : Type 0} (make : ℕ → ℕ → X) (slot : ℕ → ℕ) (key : X → ℕ) (count : ℕ) → slot (count + 1) ≡ 0
    → map key (held_from make slot count 1) ≡ map key (held_from make slot (count + 1) 1)
keys-more_empty make slot key count empty =
    let next : count + 1 ≡ suc count = omega arith in
    rw next (ap (map key) (sym (held_from-more_empty make slot count 1 (count + 1) (omega arith) empty)))

pub keys-more_filled : {X : Type 0} (make : ℕ → ℕ → X) (slot : ℕ → ℕ) (key : X → ℕ) → ((p n : ℕ) → key (make p n) ≡ p) → (count : ℕ) → slot (count + 1) ≢ 0
    → with_member (map key (held_from make slot count 1)) (count + 1) ≡ map key (held_from make slot (count + 1) 1)
keys-more_filled make slot key keyed count filled =
    let next : count + 1 ≡ suc count = omega arith in
    let grown : held_from make slot (suc count) 1 ≡ held_from make slot count 1 ++ make (count + 1) (slot (count + 1)) ∷ [] =
    held_from-more_filled make slot count 1 (count + 1) (omega arith) filled in
    with_member-last make slot key keyed count 1 (count + 1) (omega arith)
    ∙ ap (λ p. map key (held_from make slot count 1) ++ p ∷ []) (sym (keyed (count + 1) (slot (count + 1))))
    ∙ sym (map-append key (held_from make slot count 1) (make (count + 1) (slot (count + 1)) ∷ []))
    ∙ ap (map key) (sym grown)
    ∙ ap (λ n. map key (held_from make slot n 1)) (sym next)

-- ---- a slot, counted from 0

pub array_slot-at : (slots : List ℕ) (place : ℕ) → array_slot slots (place + 1) ≡ get_or slots place 0
array_slot-at slots place = let here : place + 1 - 1 ≡ place = omega arith in ap (λ n. get_or slots n 0) here

pub array_keys-empty : {X : Type 0} (make : ℕ → ℕ → X) (key : X → ℕ) (slots : List ℕ) (place : ℕ) → get_or slots place 0 ≡ 0
    → map key (held_from make (array_slot slots) place 1) ≡ map key (held_from make (array_slot slots) (place + 1) 1)
array_keys-empty make key slots place empty = keys-more_empty make (array_slot slots) key place (array_slot-at slots place ∙ empty)

pub array_keys-filled : {X : Type 0} (make : ℕ → ℕ → X) (key : X → ℕ) → ((p n : ℕ) → key (make p n) ≡ p) → (slots : List ℕ) (place : ℕ) → get_or slots place 0 ≢ 0
    → with_member (map key (held_from make (array_slot slots) place 1)) (place + 1) ≡ map key (held_from make (array_slot slots) (place + 1) 1)
array_keys-filled make key keyed slots place filled =
    keys-more_filled make (array_slot slots) key keyed place (λ e. filled (sym (array_slot-at slots place) ∙ e))

-- at the end of the array that is all that is held
pub held_from-all : {X : Type 0} (make : ℕ → ℕ → X) (slot : ℕ → ℕ) (places : ℕ) → places ≡ 32 → held_from make slot places 1 ≡ held make slot
unfolding held
held_from-all make slot places all = ap (λ n. held_from make slot n 1) all
