-- Cuts that are raised by one action, and names behind a cut.
use Rattle.std.proofs.Common.{◌≡◌, ℕ, suc, ◌<◌, ◌≤◌, ◌≢◌, ◌||◌, ◌⊎◌, List, [], ◌∷◌, ◌++◌, filter, cond, max, Bool, not, true, false, refl, sym, ap, ◌∙◌, arith, inl, inr}
use Rattle.std.proofs.lemmas.Bool.{cases_eq, cases_lt, cases_Bool, eq-eqb, ne_eqb, le-ltb, or_from}
use Rattle.cg_base.specs.declared.action_id.ActionId.{ActionId}
use Rattle.cg_base.specs.Ids.{same_id, has_name}
use Rattle.cg_base.specs.Sets.{IsId}
use Rattle.cg_base.specs.Cuts.{index_in, raise}
use Rattle.cg_base.specs.CutLimits.{IsCut}
use Rattle.cg_base.specs.CutLaws.{index_in-raise}
use Rattle.cg_queue.specs.Body.{is_above, AreKnown}
use Rattle.cg_base.specs.IdLaws.{same_id-false, same_id-true}
use Rattle.cg_queue.specs.MarkLaws.{is_above-true}
use Rattle.cg_base.specs.BoolLaws.{or_true, or_false}

module _ (cut : List ActionId) (id : ActionId) (is_cut : IsCut cut) where
  pub raise-same : (p : ℕ) → id.creator ≡ p → index_in (raise cut id) p ≡ max (index_in cut p) id.index
  raise-same p same = index_in-raise cut id p is_cut ∙ ap (λ b. cond b (max (index_in cut p) id.index) (index_in cut p)) (eq-eqb id.creator p same)

  pub raise-other : (p : ℕ) → id.creator ≢ p → index_in (raise cut id) p ≡ index_in cut p
  raise-other p apart = index_in-raise cut id p is_cut ∙ ap (λ b. cond b (max (index_in cut p) id.index) (index_in cut p)) (ne_eqb id.creator p apart)

  pub raise-rises : (p : ℕ) → index_in cut p ≤ index_in (raise cut id) p
  raise-rises p = elim (cases_eq id.creator p) [
    | inl same ↦ let e = raise-same p same in omega arith
    | inr apart ↦ let e = raise-other p apart in omega arith
  ]

-- ---- names

pub names-more : (ids : List ActionId) (id x : ActionId) → has_name (ids ++ id ∷ []) x ≡ (has_name ids x || same_id x id)
names-more [] id x = or_false (same_id x id)
names-more (y ∷ ids) id x = ap (λ b. same_id x y || b) (names-more ids id x) ∙ or_inner (same_id x y) (has_name ids x) (same_id x id)
  where
    or_inner : (a b c : Bool) → (a || (b || c)) ≡ ((a || b) || c)
    or_inner true b c = refl
    or_inner false b c = refl

-- a name that is another one than that at the end
pub names-other : (ids : List ActionId) (id x : ActionId) → (x.creator ≢ id.creator) ⊎ (x.index ≢ id.index) → has_name ids x ≡ has_name (ids ++ id ∷ []) x
names-other ids id x apart = sym (names-more ids id x ∙ ap (λ b. has_name ids x || b) (same_id-false x id apart) ∙ or_false (has_name ids x))

pub names-last : (ids : List ActionId) (id x : ActionId) → x.creator ≡ id.creator → x.index ≡ id.index → true ≡ has_name (ids ++ id ∷ []) x
names-last ids id x creators indexes = sym (names-more ids id x ∙ ap (λ b. has_name ids x || b) (same_id-true x id creators indexes) ∙ or_true (has_name ids x))

-- ---- names that are known

pub AreKnown-rise : (cut more ids : List ActionId) → ((p : ℕ) → index_in cut p ≤ index_in more p) → AreKnown cut ids → AreKnown more ids
AreKnown-rise cut more [] rises known = tt
AreKnown-rise cut more (id ∷ ids) rises known =
    let here : id.index ≤ index_in cut id.creator = known.0 in
    let up = rises id.creator in
    (omega arith, known.1, AreKnown-rise cut more ids rises known.2)

pub AreKnown-more : (cut ids : List ActionId) (id : ActionId) → AreKnown cut ids → id.index ≤ index_in cut id.creator → IsId id.creator → AreKnown cut (ids ++ id ∷ [])
AreKnown-more cut [] id known le is_id = (le, is_id, tt)
AreKnown-more cut (y ∷ ids) id known le is_id = (known.0, known.1, AreKnown-more cut ids id known.2 le is_id)

pub AreKnown-filter : (cut : List ActionId) (test : ActionId → Bool) (ids : List ActionId) → AreKnown cut ids → AreKnown cut (filter test ids)
AreKnown-filter cut test [] known = tt
AreKnown-filter cut test (id ∷ ids) known = elim (cases_Bool (test id)) [
  | inl passes ↦ rw passes (known.0, known.1, AreKnown-filter cut test ids known.2)
  | inr fails ↦ rw fails (AreKnown-filter cut test ids known.2)
]

-- a name behind the cut stands in no list of known ones
pub names-unknown : (cut ids : List ActionId) (id : ActionId) → AreKnown cut ids → index_in cut id.creator < id.index → has_name ids id ≡ false
names-unknown cut [] id known above = refl
names-unknown cut (y ∷ ids) id known above =
    let here : y.index ≤ index_in cut y.creator = known.0 in
    or_from (same_id id y) (has_name ids id) (elim (cases_eq id.creator y.creator) [
      | inl same ↦ same_id-false id y (inr (λ e. let there : y.index ≤ index_in cut id.creator = rw (← same) at here in omega arith))
      | inr apart ↦ same_id-false id y (inl apart)
    ]) (names-unknown cut ids id known.2 above)

-- ---- names behind a cut

pub is_above-false : (cut : List ActionId) (id : ActionId) → id.index ≤ index_in cut id.creator → is_above cut id ≡ false
is_above-false cut id le = le-ltb (index_in cut id.creator) id.index le

-- a name up to the cut isn't one behind it
pub names-below : (cut ids : List ActionId) (id : ActionId) → is_above cut id ≡ false → has_name (filter (is_above cut) ids) id ≡ false
names-below cut [] id below = refl
names-below cut (y ∷ ids) id below = elim (cases_Bool (is_above cut y)) [
  | inl passes ↦ rw passes (or_from (same_id id y) (has_name (filter (is_above cut) ids) id) (other y passes) (names-below cut ids id below))
  | inr fails ↦ rw fails (names-below cut ids id below)
]
  where
    other : (y : ActionId) → is_above cut y ≡ true → same_id id y ≡ false
    other y passes = elim (cases_eq id.creator y.creator) [
      | inl same ↦ elim (cases_eq id.index y.index) [
        | inl equal ↦
            let there : is_above cut y ≡ false = rw (same, equal) at below in
            absurd (never (sym passes ∙ there))
        | inr differ ↦ same_id-false id y (inr differ)
      ]
      | inr apart ↦ same_id-false id y (inl apart)
    ]
      where
        never : true ≡ false → ⊥
        never e = cc

pub names-above : (cut ids : List ActionId) (id : ActionId) → is_above cut id ≡ true → has_name (filter (is_above cut) ids) id ≡ has_name ids id
names-above cut [] id above = refl
names-above cut (y ∷ ids) id above = elim (cases_Bool (is_above cut y)) [
  | inl passes ↦ rw passes (ap (λ b. same_id id y || b) (names-above cut ids id above))
  | inr fails ↦ rw fails (names-above cut ids id above ∙ ap (λ b. b || has_name ids id) (sym (other y fails)))
]
  where
    other : (y : ActionId) → is_above cut y ≡ false → same_id id y ≡ false
    other y fails = elim (cases_eq id.creator y.creator) [
      | inl same ↦ elim (cases_eq id.index y.index) [
        | inl equal ↦
            let there : is_above cut y ≡ true = rw (same, equal) at above in
            absurd (never (sym fails ∙ there))
        | inr differ ↦ same_id-false id y (inr differ)
      ]
      | inr apart ↦ same_id-false id y (inl apart)
    ]
      where
        never : false ≡ true → ⊥
        never e = cc

-- with the creator's next action in the cut, its name falls out of those behind it, and no other one
pub above-raised : (cut ids : List ActionId) (id : ActionId) → IsCut cut → id.index ≡ suc (index_in cut id.creator)
    → filter (is_above (raise cut id)) ids ≡ filter (λ y. not (same_id y id)) (filter (is_above cut) ids)
above-raised cut [] id is_cut next = refl
above-raised cut (y ∷ ids) id is_cut next =
    let rest = above-raised cut ids id is_cut next in
    elim (cases_eq id.creator y.creator) [
      | inl same ↦
          let top : index_in (raise cut id) y.creator ≡ max (index_in cut y.creator) id.index = raise-same cut id is_cut y.creator same in
          let now : id.index ≡ suc (index_in cut y.creator) = rw same at next in
          elim (cases_lt id.index y.index) [
            | inl later ↦
                rw (is_above-true (raise cut id) y (omega arith), is_above-true cut y (omega arith), same_id-false y id (inr (λ e. omega arith))) (ap (λ ys. y ∷ ys) rest)
            | inr le ↦ elim (cases_eq y.index id.index) [
              | inl equal ↦
                  rw (is_above-false (raise cut id) y (omega arith), is_above-true cut y (omega arith), same_id-true y id (sym same) equal) rest
              | inr lower ↦
                  rw (is_above-false (raise cut id) y (omega arith), is_above-false cut y (omega arith)) rest
            ]
          ]
      | inr apart ↦
          let top : index_in (raise cut id) y.creator ≡ index_in cut y.creator = raise-other cut id is_cut y.creator apart in
          elim (cases_lt (index_in cut y.creator) y.index) [
            | inl above ↦
                rw (is_above-true (raise cut id) y (omega arith), is_above-true cut y above, same_id-false y id (inl (λ e. apart (sym e)))) (ap (λ ys. y ∷ ys) rest)
            | inr le ↦ rw (is_above-false (raise cut id) y (omega arith), is_above-false cut y le) rest
          ]
    ]
