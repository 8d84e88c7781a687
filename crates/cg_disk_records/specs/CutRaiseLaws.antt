-- How a cut is raised, whatever names stand in it.
use Rattle.std.proofs.Common.{◌≡◌, ℕ, suc, ◌<◌, ◌≤◌, ◌≢◌, List, [], ◌∷◌, cond, eqb, max, refl, sym, ap, ◌∙◌, arith, inl, inr}
use Rattle.std.proofs.lemmas.Bool.{cases_eq, cases_order, eq-eqb, ne_eqb, lt-ltb, le-ltb}
use Rattle.cg_base.specs.declared.action_id.ActionId.{ActionId}
use Rattle.cg_base.specs.Cuts.{index_in, with_top, raise}
use Rattle.cg_disk_records.specs.Holds.{cut_behind, Rising}
use Rattle.cg_base.specs.CutLaws.{raise-0, raise-some}
use Rattle.cg_base.specs.IdLaws.{same_name}

abbrev top_at : ActionId → ℕ → ActionId
top_at t n = record t { index = n }

-- what a top does, by how its creator stands to the first one
with-here : (t x : ActionId) (cut : List ActionId) → x.creator ≡ t.creator →
    with_top (t ∷ cut) x ≡ top_at t (max t.index x.index) ∷ cut
with-here t x cut e = rw (eq-eqb t.creator x.creator (sym e)) refl

with-front : (t x : ActionId) (cut : List ActionId) → x.creator < t.creator → with_top (t ∷ cut) x ≡ x ∷ t ∷ cut
with-front t x cut lt = rw (ne_eqb t.creator x.creator (λ e. omega arith), lt-ltb x.creator t.creator lt) refl

with-later : (t x : ActionId) (cut : List ActionId) → t.creator < x.creator → with_top (t ∷ cut) x ≡ t ∷ with_top cut x
with-later t x cut lt = rw (
  ne_eqb t.creator x.creator (λ e. omega arith),
  le-ltb x.creator t.creator (omega arith),
) refl

-- two tops in either order
with-commute : (cut : List ActionId) (x y : ActionId) → with_top (with_top cut x) y ≡ with_top (with_top cut y) x
with-commute [] x y = elim (cases_order x.creator y.creator) [
  | inl same ↦
      with-here x y [] (sym same)
      ∙ ap (λ t. t ∷ []) (same_name (top_at x (max x.index y.index)) (top_at
      y (max y.index x.index)) same (omega arith))
      ∙ sym (with-here y x [] same)
  | inr apart ↦ elim apart [
    | inl lt ↦ with-later x y [] lt ∙ sym (with-front y x [] lt)
    | inr gt ↦ with-front x y [] gt ∙ sym (with-later y x [] gt)
  ]
]
with-commute (t ∷ cut) x y = elim (cases_order x.creator t.creator) [
  | inl x_here ↦
      let tx = top_at t (max t.index x.index) in
      let first : with_top (t ∷ cut) x ≡ tx ∷ cut = with-here t x cut x_here in
      elim (cases_order y.creator t.creator) [
        | inl y_here ↦
            let ty = top_at t (max t.index y.index) in
            ap (λ c. with_top c y) first ∙ with-here tx y cut y_here
            ∙ ap (λ n. top_at t n ∷ cut) (let same : max (max t.index x.index) y.index ≡
            max (max t.index y.index) x.index = omega arith in same)
            ∙ sym (ap (λ c. with_top c x) (with-here t y cut y_here) ∙ with-here ty x cut x_here)
        | inr y_apart ↦ elim y_apart [
          | inl y_front ↦
              ap (λ c. with_top c y) first ∙ with-front tx y cut y_front
              ∙ sym (ap (λ c. with_top c x) (with-front t y cut y_front) ∙ with-later y x (t ∷ cut) (omega arith)
              ∙ ap (λ c. y ∷ c) first)
          | inr y_later ↦
              ap (λ c. with_top c y) first ∙ with-later tx y cut y_later
              ∙ sym (ap (λ c. with_top c x) (with-later t y cut y_later) ∙ with-here t x (with_top cut y) x_here)
        ]
      ]
  | inr x_apart ↦ elim x_apart [
    | inl x_front ↦
        let first : with_top (t ∷ cut) x ≡ x ∷ t ∷ cut = with-front t x cut x_front in
        elim (cases_order y.creator t.creator) [
          | inl y_here ↦
              let ty = top_at t (max t.index y.index) in
              ap (λ c. with_top c y) first ∙ with-later x y (t ∷ cut) (omega arith)
              ∙ ap (λ c. x ∷ c) (with-here t y cut y_here)
              ∙ sym (ap (λ c. with_top c x) (with-here t y cut y_here) ∙ with-front ty x cut x_front)
          | inr y_apart ↦ elim y_apart [
            | inl y_front ↦
                let second : with_top (t ∷ cut) y ≡ y ∷ t ∷ cut = with-front t y cut y_front in
                ap (λ c. with_top c y) first ∙ elim (cases_order x.creator y.creator) [
                  | inl same ↦
                      with-here x y (t ∷ cut) (sym same)
                      ∙ ap (λ z. z ∷ t ∷ cut)
                      (same_name (top_at x (max x.index y.index)) (top_at
                      y (max y.index x.index)) same (omega arith))
                      ∙ sym (with-here y x (t ∷ cut) same)
                  | inr apart ↦ elim apart [
                    | inl lt ↦ with-later x y (t ∷ cut) lt ∙ ap (λ c. x ∷ c) second ∙ sym (with-front y x (t ∷ cut) lt)
                    | inr gt ↦ with-front x y (t ∷ cut) gt ∙ sym (with-later y x (t ∷ cut) gt ∙ ap (λ c. y ∷ c) first)
                  ]
                ] ∙ sym (ap (λ c. with_top c x) second)
            | inr y_later ↦
                ap (λ c. with_top c y) first ∙ with-later x y (t ∷ cut) (omega arith)
                ∙ ap (λ c. x ∷ c) (with-later t y cut y_later)
                ∙ sym (ap (λ c. with_top c x) (with-later t y cut y_later) ∙ with-front t x (with_top cut y) x_front)
          ]
        ]
    | inr x_later ↦
        let first : with_top (t ∷ cut) x ≡ t ∷ with_top cut x = with-later t x cut x_later in
        elim (cases_order y.creator t.creator) [
          | inl y_here ↦
              let ty = top_at t (max t.index y.index) in
              ap (λ c. with_top c y) first ∙ with-here t y (with_top cut x) y_here
              ∙ sym (ap (λ c. with_top c x) (with-here t y cut y_here) ∙ with-later ty x cut x_later)
          | inr y_apart ↦ elim y_apart [
            | inl y_front ↦
                ap (λ c. with_top c y) first ∙ with-front t y (with_top cut x) y_front
                ∙ sym (ap (λ c. with_top c x) (with-front t y cut y_front) ∙ with-later y x (t ∷ cut) (omega arith)
                ∙ ap (λ c. y ∷ c) first)
            | inr y_later ↦
                ap (λ c. with_top c y) first ∙ with-later t y (with_top cut x) y_later
                ∙ ap (λ c. t ∷ c) (with-commute cut x y)
                ∙ sym (ap (λ c. with_top c x) (with-later t y cut y_later) ∙ with-later t x (with_top cut y) x_later)
          ]
        ]
  ]
]

pub raise-commute : (cut : List ActionId) (x y : ActionId) → raise (raise cut x) y ≡ raise (raise cut y) x
raise-commute cut x y = elim (cases_eq x.index 0) [
  | inl none ↦ ap (λ c. raise c y) (raise-0 cut x none) ∙ sym (raise-0 (raise cut y) x none)
  | inr some ↦ elim (cases_eq y.index 0) [
    | inl none ↦ raise-0 (raise cut x) y none ∙ ap (λ c. raise c x) (sym (raise-0 cut y none))
    | inr other ↦
        raise-some (raise cut x) y other ∙ ap (λ c. with_top c y) (raise-some cut x some) ∙ with-commute cut x y
        ∙ sym (raise-some (raise cut y) x some ∙ ap (λ c. with_top c x) (raise-some cut y other))
  ]
]

-- it doesn't matter whether a name is raised before others or behind them
pub behind-raised : (cut ids : List ActionId) (id : ActionId) →
    cut_behind (raise cut id) ids ≡ raise (cut_behind cut ids) id
behind-raised cut [] id = refl
behind-raised cut (x ∷ ids) id = ap (λ c. cut_behind c ids) (raise-commute cut id x)
    ∙ behind-raised (raise cut x) ids id

-- ---- cuts by creator

pub index-before : (cut : List ActionId) (low p : ℕ) → Rising low cut → p < low → index_in cut p ≡ 0
index-before [] low p rising lt = refl
index-before (t ∷ cut) low p rising lt =
    let above : low ≤ t.creator = rising.0 in
    rw (ne_eqb t.creator p (λ e. omega arith)) (index-before cut (suc t.creator) p rising.1 (omega arith))

rising-with : (cut : List ActionId) (id : ActionId) (low : ℕ) → Rising low cut → low ≤ id.creator →
    Rising low (with_top cut id)
rising-with [] id low rising le = (le, tt)
rising-with (t ∷ cut) id low rising le = elim (cases_order id.creator t.creator) [
  | inl same ↦ rw (with-here t id cut same) rising
  | inr apart ↦ elim apart [
    | inl front ↦ rw (with-front t id cut front) (le, (omega arith, rising.1))
    | inr later ↦ rw (with-later t id cut later) (rising.0, rising-with cut id (suc t.creator) rising.1 (omega arith))
  ]
]

pub rising-raise : (cut : List ActionId) (id : ActionId) → Rising 0 cut → Rising 0 (raise cut id)
rising-raise cut id rising = elim (cases_eq id.index 0) [
  | inl none ↦ rw (raise-0 cut id none) rising
  | inr some ↦ rw (raise-some cut id some) (rising-with cut id 0 rising (omega arith))
]

pub rising-behind : (cut ids : List ActionId) → Rising 0 cut → Rising 0 (cut_behind cut ids)
rising-behind cut [] rising = rising
rising-behind cut (id ∷ ids) rising = rising-behind (raise cut id) ids (rising-raise cut id rising)

index-with : (cut : List ActionId) (id : ActionId) (low p : ℕ) → Rising low cut
    → index_in (with_top cut id) p ≡ cond (eqb id.creator p) (max (index_in cut p) id.index) (index_in cut p)
index-with [] id low p rising = elim (cases_eq id.creator p) [
  | inl same ↦ rw (eq-eqb id.creator p same) (omega arith)
  | inr apart ↦ rw (ne_eqb id.creator p apart)
]
index-with (t ∷ cut) id low p rising = elim (cases_order id.creator t.creator) [
  | inl same ↦ rw (eq-eqb t.creator id.creator (sym same)) (elim (cases_eq id.creator p) [
    | inl here ↦ rw (eq-eqb id.creator p here, eq-eqb t.creator p (sym same ∙ here))
    | inr other ↦ rw (ne_eqb id.creator p other, ne_eqb t.creator p (λ e. other (same ∙ e)))
  ])
  | inr apart ↦ elim apart [
    | inl front ↦ rw (
      ne_eqb t.creator id.creator (λ e. omega arith),
      lt-ltb id.creator t.creator front,
    ) (elim (cases_eq id.creator p) [
      | inl here ↦
          let later : index_in cut p ≡ 0 = index-before cut (suc t.creator) p rising.1 (omega arith) in
          rw (eq-eqb id.creator p here, ne_eqb t.creator p (λ e. omega arith)) (omega arith)
      | inr other ↦ rw (ne_eqb id.creator p other)
    ])
    | inr later ↦ rw (
      ne_eqb t.creator id.creator (λ e. omega arith),
      le-ltb id.creator t.creator (omega arith),
    ) (elim (cases_eq t.creator p) [
      | inl here ↦ rw (eq-eqb t.creator p here, ne_eqb id.creator p (λ e. omega arith))
      | inr other ↦ rw (ne_eqb t.creator p other) (index-with cut id (suc t.creator) p rising.1)
    ])
  ]
]

-- it raises one creator's index, and never lowers one
module _ (cut : List ActionId) (id : ActionId) (rising : Rising 0 cut) where
  pub index-same : (p : ℕ) → id.creator ≡ p → index_in (raise cut id) p ≡ max (index_in cut p) id.index
  index-same p same = elim (cases_eq id.index 0) [
    | inl none ↦ rw (raise-0 cut id none) (omega arith)
    | inr some ↦ rw (raise-some cut id some) (index-with cut id 0 p rising
        ∙ ap (λ b. cond b (max (index_in cut p) id.index) (index_in cut p)) (eq-eqb id.creator p same))
  ]

  pub index-other : (p : ℕ) → id.creator ≢ p → index_in (raise cut id) p ≡ index_in cut p
  index-other p apart = elim (cases_eq id.index 0) [
    | inl none ↦ rw (raise-0 cut id none) refl
    | inr some ↦ rw (raise-some cut id some) (index-with cut id 0 p rising
        ∙ ap (λ b. cond b (max (index_in cut p) id.index) (index_in cut p)) (ne_eqb id.creator p apart))
  ]

  pub index-rises : (p : ℕ) → index_in cut p ≤ index_in (raise cut id) p
  index-rises p = elim (cases_eq id.creator p) [
    | inl same ↦ rw (index-same p same) (omega arith)
    | inr apart ↦ rw (index-other p apart) (omega arith)
  ]

pub behind-rises : (cut ids : List ActionId) (p : ℕ) → Rising 0 cut → index_in cut p ≤ index_in (cut_behind cut ids) p
behind-rises cut [] p rising = omega arith
behind-rises cut (id ∷ ids) p rising =
    let one : index_in cut p ≤ index_in (raise cut id) p = index-rises cut id rising p in
    let more : index_in (raise cut id) p ≤ index_in (cut_behind (raise cut id) ids) p =
    behind-rises (raise cut id) ids p (rising-raise cut id rising) in
    omega arith

with-below : (cut : List ActionId) (id : ActionId) (low : ℕ) → Rising low cut → id.index ≢ 0 →
    id.index ≤ index_in cut id.creator → with_top cut id ≡ cut
with-below [] id low rising some le = absurd (some (omega arith))
with-below (t ∷ cut) id low rising some le = elim (cases_order id.creator t.creator) [
  | inl same ↦
      let below : id.index ≤ t.index = here same le in
      with-here t id cut same
      ∙ ap (λ n. top_at t n ∷ cut) (let most : max t.index id.index ≡ t.index = omega arith in most)
  | inr apart ↦ elim apart [
    | inl front ↦
        let none : index_in (t ∷ cut) id.creator ≡ 0 =
        index-before (t ∷ cut) (suc id.creator) id.creator (front, rising.1) (omega arith) in
        absurd (some (omega arith))
    | inr later ↦ with-later t id cut later
        ∙ ap (λ c. t ∷ c) (with-below cut id (suc t.creator) rising.1 some (there later le))
  ]
]
  where
    here : id.creator ≡ t.creator → id.index ≤ index_in (t ∷ cut) id.creator → id.index ≤ t.index
    here same h = rw (eq-eqb t.creator id.creator (sym same)) at h

    there : t.creator < id.creator → id.index ≤ index_in (t ∷ cut) id.creator → id.index ≤ index_in cut id.creator
    there later h = rw (ne_eqb t.creator id.creator (λ e. omega arith)) at h

-- a cut that is as far already stays as it is
pub raise-below : (cut : List ActionId) (id : ActionId) → Rising 0 cut →
    id.index ≤ index_in cut id.creator → raise cut id ≡ cut
raise-below cut id rising le = elim (cases_eq id.index 0) [
  | inl none ↦ raise-0 cut id none
  | inr some ↦ raise-some cut id some ∙ with-below cut id 0 rising some le
]
