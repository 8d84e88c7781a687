-- A cut that is raised: the index of each creator in it.
use Rattle.std.proofs.Common.{◌≡◌, ℕ, suc, ◌^◌, ◌<◌, ◌≤◌, ◌≢◌, List, [], ◌∷◌, fold, cond, eqb, max, refl, sym, ap, ◌∙◌, arith, inl, inr}
use Rattle.std.proofs.lemmas.Bool.{cases_eq, cases_order, eq-eqb, ne_eqb, lt-ltb, le-ltb}
use Rattle.cg_base.specs.declared.action_id.ActionId.{ActionId}
use Rattle.cg_base.specs.Sets.{IsId, Ascends, with_member}
use Rattle.cg_base.specs.Cuts.{index_in, with_top, raise, creators_in}
use Rattle.cg_base.specs.CutLimits.{IsCut, NameActions}
use Rattle.cg_base.specs.SetLaws.{Ascends-with_member}

pub index_in-first : (top : ActionId) (cut : List ActionId) → index_in (top ∷ cut) top.creator ≡ top.index
index_in-first top cut = rw (eq-eqb top.creator top.creator refl)

pub index_in-before : (cut : List ActionId) (low p : ℕ) → Ascends low (creators_in cut) → p < low → index_in cut p ≡ 0
index_in-before [] low p ascends lt = refl
index_in-before (t ∷ cut) low p ascends lt =
    let above : low ≤ t.creator = ascends.0 in
    rw (ne_eqb t.creator p (λ e. omega arith)) (index_in-before cut (suc t.creator) p ascends.2 (omega arith))

pub index_in-with_top : (cut : List ActionId) (id : ActionId) (low p : ℕ) → Ascends low (creators_in cut)
    → index_in (with_top cut id) p ≡ cond (eqb id.creator p) (max (index_in cut p) id.index) (index_in cut p)
index_in-with_top [] id low p ascends = elim (cases_eq id.creator p) [
  | inl same ↦ rw (eq-eqb id.creator p same) (omega arith)
  | inr apart ↦ rw (ne_eqb id.creator p apart)
]
index_in-with_top (t ∷ cut) id low p ascends = elim (cases_order id.creator t.creator) [
  | inl same ↦ rw (eq-eqb t.creator id.creator (sym same)) (elim (cases_eq id.creator p) [
    | inl here ↦ rw (eq-eqb id.creator p here, eq-eqb t.creator p (sym same ∙ here))
    | inr other ↦ rw (ne_eqb id.creator p other, ne_eqb t.creator p (λ e. other (same ∙ e)))
  ])
  | inr apart ↦ elim apart [
    | inl front ↦ rw (
      ne_eqb t.creator id.creator (λ e. omega arith),
      lt-ltb id.creator t.creator front,
    ) (elim (cases_eq id.creator p) [
      | inl here ↦
          let later : index_in cut p ≡ 0 = index_in-before cut (suc t.creator) p ascends.2 (omega arith) in
          rw (eq-eqb id.creator p here, ne_eqb t.creator p (λ e. omega arith)) (omega arith)
      | inr other ↦ rw (ne_eqb id.creator p other)
    ])
    | inr later ↦ rw (
      ne_eqb t.creator id.creator (λ e. omega arith),
      le-ltb id.creator t.creator (omega arith),
    ) (elim (cases_eq t.creator p) [
      | inl here ↦ rw (eq-eqb t.creator p here, ne_eqb id.creator p (λ e. omega arith))
      | inr other ↦ rw (ne_eqb t.creator p other) (index_in-with_top cut id (suc t.creator) p ascends.2)
    ])
  ]
]

pub creators_in-with_top : (cut : List ActionId) (id : ActionId) →
    creators_in (with_top cut id) ≡ with_member (creators_in cut) id.creator
creators_in-with_top [] id = refl
creators_in-with_top (t ∷ cut) id = elim (cases_order id.creator t.creator) [
  | inl same ↦ rw (eq-eqb t.creator id.creator (sym same), eq-eqb id.creator t.creator same)
  | inr apart ↦ elim apart [
    | inl front ↦ rw (
      ne_eqb t.creator id.creator (λ e. omega arith),
      ne_eqb id.creator t.creator (λ e. omega arith),
      lt-ltb id.creator t.creator front,
    )
    | inr later ↦ rw (
      ne_eqb t.creator id.creator (λ e. omega arith),
      ne_eqb id.creator t.creator (λ e. omega arith),
      le-ltb id.creator t.creator (omega arith),
    )
        (ap (λ s. t.creator ∷ s) (creators_in-with_top cut id))
  ]
]

NameActions-with_top : (cut : List ActionId) (id : ActionId) → 1 ≤ id.index → id.index < 2 ^ 64 → NameActions cut →
    NameActions (with_top cut id)
NameActions-with_top [] id some small named = (some, small, tt)
NameActions-with_top (t ∷ cut) id some small named =
    let low : 1 ≤ t.index = named.0 in
    let high : t.index < 2 ^ 64 = named.1 in
    elim (cases_order id.creator t.creator) [
      | inl same ↦ rw (eq-eqb t.creator id.creator (sym same)) (omega arith, omega arith, named.2)
      | inr apart ↦ elim apart [
        | inl front ↦ rw (
          ne_eqb t.creator id.creator (λ e. omega arith),
          lt-ltb id.creator t.creator front,
        ) (some, small, named)
        | inr later ↦ rw (ne_eqb t.creator id.creator (λ e. omega arith), le-ltb id.creator t.creator (omega arith))
            (low, high, NameActions-with_top cut id some small named.2)
      ]
    ]

pub raise-0 : (cut : List ActionId) (id : ActionId) → id.index ≡ 0 → raise cut id ≡ cut
raise-0 cut id none = rw (eq-eqb id.index 0 none)

pub raise-some : (cut : List ActionId) (id : ActionId) → id.index ≢ 0 → raise cut id ≡ with_top cut id
raise-some cut id some = rw (ne_eqb id.index 0 some)

-- it raises one creator's index, and never lowers one
pub index_in-raise : (cut : List ActionId) (id : ActionId) (p : ℕ) → IsCut cut →
    index_in (raise cut id) p ≡ cond (eqb id.creator p) (max (index_in cut p) id.index) (index_in cut p)
index_in-raise cut id p is_cut = elim (cases_eq id.index 0) [
  | inl none ↦ rw (raise-0 cut id none) (elim (cases_eq id.creator p) [
    | inl here ↦ rw (eq-eqb id.creator p here) (omega arith)
    | inr other ↦ rw (ne_eqb id.creator p other)
  ])
  | inr some ↦ rw (raise-some cut id some) (index_in-with_top cut id 1 p is_cut.ascends)
]

pub IsCut-raise : (cut : List ActionId) (id : ActionId) → IsId id.creator → id.index < 2 ^ 64 →
    IsCut cut → IsCut (raise cut id)
IsCut-raise cut id is_id small is_cut = elim (cases_eq id.index 0) [
  | inl none ↦ rw (raise-0 cut id none) is_cut
  | inr some ↦ rw (raise-some cut id some) (record {
    ascends = rw (creators_in-with_top cut id) (Ascends-with_member (creators_in cut) 1 id.creator is_id.0
        is_id.1 is_cut.ascends);
    named = NameActions-with_top cut id (omega arith) small is_cut.named;
  })
]

-- each name is one of a replica, and fits 64 bits
abbrev pub AreNames : List ActionId → Type 0
AreNames [] = Unit {0}
AreNames (id ∷ ids) = IsId id.creator × (id.index < 2 ^ 64) × AreNames ids

pub IsCut-raised : (cut ids : List ActionId) → IsCut cut → AreNames ids → IsCut (fold raise cut ids)
IsCut-raised cut [] is_cut are = is_cut
IsCut-raised cut (id ∷ ids) is_cut are = IsCut-raised (raise cut id) ids (IsCut-raise cut id are.0 are.1 is_cut) are.2
