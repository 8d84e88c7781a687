-- Cuts: the index of a creator's last action after a change.
use Rattle.std.proofs.Common.{◌≡◌, ℕ, zero, suc, ◌-◌, ◌^◌, ◌<◌, ◌≤◌, ◌≢◌, List, [], ◌∷◌, map, filter, cond, Bool, not, true, false, eqb, min, max, set, refl, sym, ap, ◌∙◌, arith, inl, inr}
use Rattle.std.specs.Bool.{Decides}
use Rattle.std.specs.Cmp.Lexicographic.{pointwise, pointwise_decides}
use Rattle.std.proofs.lemmas.Bool.{cases_eq, cases_Bool, eq-eqb, ne_eqb, eqb-true, and_parts, and_from, false_from_ne_true}
use Rattle.std.proofs.lemmas.Slice.Eq.{bytes_eq-Decides}
use Rattle.cg_base.specs.declared.action_id.ActionId.{ActionId}
use Rattle.cg_base.specs.Ids.{same_id}
use Rattle.cg_base.specs.Sets.{IsId, Ascends}
use Rattle.cg_base.specs.Cuts.{index_in, raise, creators_in}
use Rattle.cg_base.specs.CutLimits.{IsCut, NameActions}
use Rattle.cg_base.specs.Calls.{lesser_top, least_cut}
use Rattle.cg_base.specs.Slots.{held_from, held, IsArray, top, array_slot, array_of}
use Rattle.cg_base.specs.SlotLaws.{held_from-empty, held_from-filled, indexes_tell, Ascends-held, index_in-value_in, index_in-held, array_of-indexes}
use Rattle.cg_base.proofs.Canonical.{EachMade, held-is}
use Rattle.cg_base.specs.SetLaws.{Ascends-below}
use Rattle.cg_base.specs.ArrayLaws.{zeros, array_slot-zeros, array_slot-set_same, array_slot-set_other}
use Rattle.cg_base.specs.CutLaws.{index_in-before, index_in-raise, IsCut-raise}

-- the tops that the slots of an array name
abbrev pub tops_of : List ℕ → List ActionId
tops_of slots = held top (array_slot slots)

-- ---- what the slots hold is a cut

NameActions-held_from : (slot : ℕ → ℕ) (count first : ℕ) → ((p : ℕ) → slot p < 2 ^ 64) → NameActions (held_from top slot count first)
unfolding held_from
NameActions-held_from slot zero first small = tt
NameActions-held_from slot (suc count) first small = elim (cases_eq (slot first) 0) [
  | inl none ↦ rw (held_from-empty top slot count first none) (NameActions-held_from slot count (suc first) small)
  | inr some ↦ rw (held_from-filled top slot count first some) (omega arith, small first, NameActions-held_from slot count (suc first) small)
]

pub IsCut-tops_of : (slots : List ℕ) → IsArray slots (2 ^ 64) → IsCut (tops_of slots)
unfolding held
IsCut-tops_of slots array = record {
  ascends = Ascends-held top (λ t. t.creator) (λ t. t.index) (array_slot slots) (indexes_tell (array_slot slots));
  named = NameActions-held_from (array_slot slots) 32 1 (λ p. array.small (p - 1));
}

pub each_made : (cut : List ActionId) → NameActions cut → EachMade top (λ t. t.creator) (λ t. t.index) cut
each_made [] named = tt
each_made (t ∷ cut) named = (refl, named.0, each_made cut named.2)

-- an array whose slots have a cut's indexes holds that cut
pub tops_of_is : (slots : List ℕ) (cut : List ActionId) → IsCut cut → ((p : ℕ) → 1 ≤ p → p ≤ 32 → array_slot slots p ≡ index_in cut p) → tops_of slots ≡ cut
tops_of_is slots cut is_cut same =
    held-is top (λ t. t.creator) (λ t. t.index) (array_slot slots) cut is_cut.ascends (each_made cut is_cut.named)
    (λ p low high. same p low high ∙ index_in-value_in cut p)

pub tops_of-zeros : tops_of (zeros 32) ≡ []
tops_of-zeros = tops_of_is (zeros 32) [] (record { ascends = tt; named = tt }) (λ p low high. array_slot-zeros p)

pub index_in-tops_of : (slots : List ℕ) (p : ℕ) → 1 ≤ p → p ≤ 32 → index_in (tops_of slots) p ≡ array_slot slots p
index_in-tops_of slots p low high = index_in-held (array_slot slots) p low high

-- ---- a cut that is raised

pub tops_of-set : (slots : List ℕ) (p n : ℕ) → IsArray slots (2 ^ 64) → IsId p → array_slot slots p < n → n < 2 ^ 64
    → tops_of (set slots (p - 1) n) ≡ raise (tops_of slots) (record { creator = p; index = n })
tops_of-set slots p n array is_id higher small =
    let id : ActionId = record { creator = p; index = n } in
    let is_cut = IsCut-tops_of slots array in
    tops_of_is (set slots (p - 1) n) (raise (tops_of slots) id) (IsCut-raise (tops_of slots) id is_id small is_cut)
    (λ k low high. sym (index_in-raise (tops_of slots) id k is_cut ∙ elim (cases_eq p k) [
      | inl same ↦
          let old : index_in (tops_of slots) k ≡ array_slot slots p = index_in-tops_of slots k low high ∙ ap (array_slot slots) (sym same) in
          rw (eq-eqb p k same, ← same) (let most : max (index_in (tops_of slots) p) n ≡ n = rw (index_in-tops_of slots p is_id.0 is_id.1) (omega arith) in most ∙ sym (array_slot-set_same slots (2 ^ 64) p n array is_id))
      | inr apart ↦ rw (ne_eqb p k apart) (index_in-tops_of slots k low high ∙ sym (array_slot-set_other slots p k n is_id.0 low (λ e. apart (sym e))))
    ]))

-- a cut that is as far already stays as it is
pub raise-same : (slots : List ℕ) (p n : ℕ) → IsArray slots (2 ^ 64) → IsId p → n ≤ array_slot slots p → n < 2 ^ 64
    → tops_of slots ≡ raise (tops_of slots) (record { creator = p; index = n })
raise-same slots p n array is_id lower small =
    let id : ActionId = record { creator = p; index = n } in
    let is_cut = IsCut-tops_of slots array in
    tops_of_is slots (raise (tops_of slots) id) (IsCut-raise (tops_of slots) id is_id small is_cut)
    (λ k low high. sym (index_in-raise (tops_of slots) id k is_cut ∙ elim (cases_eq p k) [
      | inl same ↦ rw (eq-eqb p k same, ← same, index_in-tops_of slots p is_id.0 is_id.1) (omega arith)
      | inr apart ↦ rw (ne_eqb p k apart) (index_in-tops_of slots k low high)
    ]))

-- ---- of two cuts

index_in-map_lesser : (c d : List ActionId) (p : ℕ) → index_in (map (lesser_top d) c) p ≡ min (index_in c p) (index_in d p)
index_in-map_lesser [] d p = omega arith
index_in-map_lesser (t ∷ c) d p = elim (cases_eq t.creator p) [
  | inl same ↦ rw (eq-eqb t.creator p same, same)
  | inr apart ↦ rw (ne_eqb t.creator p apart) (index_in-map_lesser c d p)
]

creators-map_lesser : (c d : List ActionId) → creators_in (map (lesser_top d) c) ≡ creators_in c
creators-map_lesser [] d = refl
creators-map_lesser (t ∷ c) d = ap (λ s. t.creator ∷ s) (creators-map_lesser c d)

-- the names whose index isn't 0
abbrev pub naming : List ActionId → List ActionId
naming cut = filter (λ t. not (eqb t.index 0)) cut

naming-drops : (t : ActionId) (cut : List ActionId) → t.index ≡ 0 → naming (t ∷ cut) ≡ naming cut
naming-drops t cut none = rw (eq-eqb t.index 0 none)

naming-keeps : (t : ActionId) (cut : List ActionId) → t.index ≢ 0 → naming (t ∷ cut) ≡ t ∷ naming cut
naming-keeps t cut some = rw (ne_eqb t.index 0 some)

index_in-naming : (cut : List ActionId) (low p : ℕ) → Ascends low (creators_in cut) → index_in (naming cut) p ≡ index_in cut p
index_in-naming [] low p ascends = refl
index_in-naming (t ∷ cut) low p ascends =
    let rest : index_in (naming cut) p ≡ index_in cut p = index_in-naming cut (suc t.creator) p ascends.2 in
    elim (cases_eq t.index 0) [
      | inl none ↦ rw (naming-drops t cut none) (elim (cases_eq t.creator p) [
        | inl same ↦
            let later : index_in cut p ≡ 0 = index_in-before cut (suc t.creator) p ascends.2 (omega arith) in
            rw (eq-eqb t.creator p same) (rest ∙ later ∙ sym none)
        | inr apart ↦ rw (ne_eqb t.creator p apart) rest
      ])
      | inr some ↦ rw (naming-keeps t cut some) (ap (λ n. cond (eqb t.creator p) t.index n) rest)
    ]

Ascends-naming : (cut : List ActionId) (low : ℕ) → Ascends low (creators_in cut) → Ascends low (creators_in (naming cut))
Ascends-naming [] low ascends = tt
Ascends-naming (t ∷ cut) low ascends = elim (cases_eq t.index 0) [
  | inl none ↦ rw (naming-drops t cut none)
      (let le : low ≤ t.creator = ascends.0 in Ascends-below (creators_in (naming cut)) (suc t.creator) low (omega arith) (Ascends-naming cut (suc t.creator) ascends.2))
  | inr some ↦ rw (naming-keeps t cut some) (ascends.0, ascends.1, Ascends-naming cut (suc t.creator) ascends.2)
]

NameActions-least : (c d : List ActionId) → NameActions c → NameActions (naming (map (lesser_top d) c))
NameActions-least [] d named = tt
NameActions-least (t ∷ c) d named =
    let high : t.index < 2 ^ 64 = named.1 in
    let rest : NameActions (naming (map (lesser_top d) c)) = NameActions-least c d named.2 in
    elim (cases_eq (lesser_top d t).index 0) [
      | inl none ↦ rw (naming-drops (lesser_top d t) (map (lesser_top d) c) none) rest
      | inr some ↦ rw (naming-keeps (lesser_top d t) (map (lesser_top d) c) some) (omega arith, omega arith, rest)
    ]

pub index_in-least_cut : (c d : List ActionId) (p : ℕ) → IsCut c → index_in (least_cut c d) p ≡ min (index_in c p) (index_in d p)
index_in-least_cut c d p is_cut =
    index_in-naming (map (lesser_top d) c) 1 p (rw (creators-map_lesser c d) is_cut.ascends) ∙ index_in-map_lesser c d p

pub IsCut-least_cut : (c d : List ActionId) → IsCut c → IsCut (least_cut c d)
IsCut-least_cut c d is_cut = record {
  ascends = Ascends-naming (map (lesser_top d) c) 1 (rw (creators-map_lesser c d) is_cut.ascends);
  named = NameActions-least c d is_cut.named;
}

pub tops_of-least : (a b m : List ℕ) → IsArray a (2 ^ 64) → ((p : ℕ) → 1 ≤ p → p ≤ 32 → array_slot m p ≡ min (array_slot a p) (array_slot b p))
    → tops_of m ≡ least_cut (tops_of a) (tops_of b)
tops_of-least a b m array lesser =
    let is_cut = IsCut-tops_of a array in
    tops_of_is m (least_cut (tops_of a) (tops_of b)) (IsCut-least_cut (tops_of a) (tops_of b) is_cut)
    (λ p low high. lesser p low high ∙ sym (index_in-least_cut (tops_of a) (tops_of b) p is_cut ∙ rw (index_in-tops_of a p low high, index_in-tops_of b p low high)))

-- ---- the same cut

pub same_id-Decides : (m n : ActionId) → Decides (same_id m n) (m ≡ n)
same_id-Decides m n = (
  (λ e. let parts = and_parts (eqb m.creator n.creator) (eqb m.index n.index) e in
      λ i. record { creator = eqb-true m.creator n.creator parts.0 i; index = eqb-true m.index n.index parts.1 i }),
  (λ e. and_from (eqb m.creator n.creator) (eqb m.index n.index) (eq-eqb m.creator n.creator (ap (λ x. x.creator) e)) (eq-eqb m.index n.index (ap (λ x. x.index) e))),
)

pub tops_of-same : (a b : List ℕ) (r : Bool) → IsArray a (2 ^ 64) → IsArray b (2 ^ 64) → r ≡ pointwise eqb a b → r ≡ pointwise same_id (tops_of a) (tops_of b)
tops_of-same a b r a_array b_array is =
    let items = bytes_eq-Decides a b in
    let held_items = pointwise_decides same_id-Decides (tops_of a) (tops_of b) in
    elim (cases_Bool (pointwise eqb a b)) [
      | inl same ↦ is ∙ same ∙ sym (held_items.1 (ap tops_of (items.0 same)))
      | inr differ ↦ is ∙ differ ∙ sym (false_from_ne_true (pointwise same_id (tops_of a) (tops_of b))
          (λ e. absurd (both (sym differ ∙ items.1 (sym (array_of-indexes a a_array) ∙ ap (λ cut. array_of (index_in cut)) (held_items.0 e) ∙ array_of-indexes b b_array)))))
    ]
  where
    both : false ≡ true → ⊥
    both e = cc
