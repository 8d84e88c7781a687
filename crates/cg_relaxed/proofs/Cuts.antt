-- Cuts by the indexes that they name: the greatest of two, and that the indexes are all there is to a cut.
use Rattle.std.proofs.Common.{◌≡◌, ℕ, suc, ◌<◌, ◌≤◌, List, [], ◌∷◌, fold, max, inl, inr, refl, sym, ap, ◌∙◌, arith}
use Rattle.std.proofs.lemmas.Bool.{cases_eq, cases_lt, cases_order, eq-eqb, ne_eqb}
use Rattle.cg_base.specs.declared.action_id.ActionId.{ActionId}
use Rattle.cg_base.specs.Sets.{IsId, Ascends}
use Rattle.cg_base.specs.Cuts.{index_in, raise, creators_in}
use Rattle.cg_base.specs.CutLimits.{IsCut, NameActions}
use Rattle.cg_base.specs.Calls.{greatest_cut}
use Rattle.cg_base.specs.CutLaws.{index_in-before, index_in-raise, IsCut-raise, AreNames, IsCut-raised, index_in-first}

are-names : (cut : List ActionId) (low : ℕ) → 1 ≤ low → Ascends low (creators_in cut) → NameActions cut → AreNames cut
are-names [] low one up named = tt
are-names (t ∷ cut) low one up named =
    let least : low ≤ t.creator = up.0 in
    let most : t.creator ≤ 32 = up.1 in
    ((omega arith, most), named.1, are-names cut (suc t.creator) (omega arith) up.2 named.2)

pub IsCut-greatest : (c d : List ActionId) → IsCut c → IsCut d → IsCut (greatest_cut c d)
IsCut-greatest c d one other = IsCut-raised c d one (are-names d 1 (omega arith) other.ascends other.named)

raised-at : (c d : List ActionId) (low p : ℕ) → IsCut c → 1 ≤ low → Ascends low (creators_in d) → NameActions d →
    index_in (fold raise c d) p ≡ max (index_in c p) (index_in d p)
raised-at c [] low p is_cut one up named = omega arith
raised-at c (t ∷ d) low p is_cut one up named =
    let least : low ≤ t.creator = up.0 in
    let most : t.creator ≤ 32 = up.1 in
    let id : IsId t.creator = (omega arith, most) in
    let rest = raised-at (raise c t) d (suc t.creator) p (IsCut-raise c t id named.1 is_cut) (omega arith) up.2 named.2 in
    let raised = index_in-raise c t p is_cut in
    elim (cases_eq t.creator p) [
      | inl here ↦
          let none : index_in d p ≡ 0 = index_in-before d (suc t.creator) p up.2 (omega arith) in
          let top : index_in (raise c t) p ≡ max (index_in c p) t.index = rw (eq-eqb t.creator p here) at raised in
          rw (eq-eqb t.creator p here) (omega arith)
      | inr apart ↦
          let same : index_in (raise c t) p ≡ index_in c p = rw (ne_eqb t.creator p apart) at raised in
          rw (ne_eqb t.creator p apart) (omega arith)
    ]

pub index_in-greatest : (c d : List ActionId) (p : ℕ) → IsCut c → IsCut d →
    index_in (greatest_cut c d) p ≡ max (index_in c p) (index_in d p)
index_in-greatest c d p one other = raised-at c d 1 p one (omega arith) other.ascends other.named

-- ---- the indexes are all there is to a cut

same-from : (c d : List ActionId) (low : ℕ) → Ascends low (creators_in c) → Ascends low (creators_in d) → NameActions c → NameActions d →
    ((p : ℕ) → index_in c p ≡ index_in d p) → c ≡ d
same-from [] [] low up also one other same = refl
same-from [] (t ∷ d) low up also one other same =
    let some : 1 ≤ t.index = other.0 in
    let none : 0 ≡ t.index = same t.creator ∙ index_in-first t d in
    absurd (omega arith)
same-from (s ∷ c) [] low up also one other same =
    let some : 1 ≤ s.index = one.0 in
    let none : 0 ≡ s.index = sym (same s.creator) ∙ index_in-first s c in
    absurd (omega arith)
same-from (s ∷ c) (t ∷ d) low up also one other same =
    let some : 1 ≤ s.index = one.0 in
    let others : 1 ≤ t.index = other.0 in
    elim (cases_order s.creator t.creator) [
      | inl creator ↦
          let index : s.index ≡ t.index = sym (index_in-first s c) ∙ same s.creator ∙ ap (λ p. index_in (t ∷ d) p) creator ∙ index_in-first t d in
          let lower : Ascends (suc s.creator) (creators_in d) = rw creator also.2 in
          let rest : (p : ℕ) → index_in c p ≡ index_in d p =
          λ p. behind s t c d p creator up.2 lower (same p) in
          λ i. record { creator = creator i; index = index i } ∷ same-from c d (suc s.creator) up.2 lower one.2 other.2 rest i
      | inr apart ↦ elim apart [
        | inl below ↦
            let least : t.creator ≤ t.creator = omega arith in
            let none : index_in (t ∷ d) s.creator ≡ 0 = index_in-before (t ∷ d) t.creator s.creator (least, also.1, also.2) below in
            let zero : s.index ≡ 0 = sym (index_in-first s c) ∙ same s.creator ∙ none in
            absurd (omega arith)
        | inr above ↦
            let least : s.creator ≤ s.creator = omega arith in
            let none : index_in (s ∷ c) t.creator ≡ 0 = index_in-before (s ∷ c) s.creator t.creator (least, up.1, up.2) above in
            let zero : t.index ≡ 0 = sym (index_in-first t d) ∙ sym (same t.creator) ∙ none in
            absurd (omega arith)
      ]
    ]
  where
    behind : (s t : ActionId) (c d : List ActionId) (p : ℕ) → s.creator ≡ t.creator → Ascends (suc s.creator) (creators_in c)
        → Ascends (suc s.creator) (creators_in d) → index_in (s ∷ c) p ≡ index_in (t ∷ d) p → index_in c p ≡ index_in d p
    behind s t c d p creator up also same = elim (cases_eq s.creator p) [
      | inl here ↦ index_in-before c (suc s.creator) p up (omega arith) ∙ sym (index_in-before d (suc s.creator) p also (omega arith))
      | inr apart ↦
          let other : t.creator ≡ p → ⊥ = λ e. apart (creator ∙ e) in
          rw (ne_eqb s.creator p apart, ne_eqb t.creator p other) at same
    ]

pub same-cut : (c d : List ActionId) → IsCut c → IsCut d → ((p : ℕ) → index_in c p ≡ index_in d p) → c ≡ d
same-cut c d one other same = same-from c d 1 one.ascends other.ascends one.named other.named same

pub greatest-commutes : (c d : List ActionId) → IsCut c → IsCut d → greatest_cut c d ≡ greatest_cut d c
greatest-commutes c d one other =
    same-cut (greatest_cut c d) (greatest_cut d c) (IsCut-greatest c d one other) (IsCut-greatest d c other one)
    (λ p.
    let left = index_in-greatest c d p one other in
    let right = index_in-greatest d c p other one in
    omega arith)

pub greatest-associates : (c d e : List ActionId) → IsCut c → IsCut d → IsCut e →
    greatest_cut c (greatest_cut d e) ≡ greatest_cut (greatest_cut c d) e
greatest-associates c d e one other third =
    let right = IsCut-greatest d e other third in
    let left = IsCut-greatest c d one other in
    same-cut (greatest_cut c (greatest_cut d e)) (greatest_cut (greatest_cut c d) e)
    (IsCut-greatest c (greatest_cut d e) one right) (IsCut-greatest (greatest_cut c d) e left third)
    (λ p.
    let a = index_in-greatest c (greatest_cut d e) p one right in
    let b = index_in-greatest d e p other third in
    let f = index_in-greatest (greatest_cut c d) e p left third in
    let g = index_in-greatest c d p one other in
    omega arith)

pub greatest-repeats : (c : List ActionId) → IsCut c → greatest_cut c c ≡ c
greatest-repeats c one =
    same-cut (greatest_cut c c) c (IsCut-greatest c c one one) one (λ p. let twice = index_in-greatest c c p one one in omega arith)

-- no other than a replica has an index
index-above : (cut : List ActionId) (low p : ℕ) → Ascends low (creators_in cut) → 32 < p → index_in cut p ≡ 0
index-above [] low p up above = refl
index-above (t ∷ cut) low p up above =
    let most : t.creator ≤ 32 = up.1 in
    rw (ne_eqb t.creator p (λ e. omega arith)) (index-above cut (suc t.creator) p up.2 above)

pub index-of-none : (cut : List ActionId) (p : ℕ) → IsCut cut → (IsId p → ⊥) → index_in cut p ≡ 0
index-of-none cut p is_cut none = elim (cases_lt 32 p) [
  | inl above ↦ index-above cut 1 p is_cut.ascends above
  | inr within ↦ index_in-before cut 1 p is_cut.ascends (below within)
]
  where
    below : p ≤ 32 → p < 1
    below within = elim (cases_lt p 1) [
      | inl less ↦ less
      | inr some ↦ absurd (none (some, within))
    ]
