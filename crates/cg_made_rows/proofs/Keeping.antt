-- The rows go on, and what is kept beside them is of their actions still.
use Rattle.std.proofs.Common.{◌≡◌, ◌⊎◌, ℕ, zero, suc, ◌+◌, ◌^◌, ◌<◌, ◌≤◌, Bool, true, false, not, get_or, List, [], ◌∷◌, ◌++◌, length, map, inl, inr, refl, sym, ap, subst, ◌∙◌, arith}
use Rattle.std.specs.Prelude.{All, Some, slice_get}
use Rattle.std.specs.Option.{unwrap_or}
use Rattle.std.specs.Cmp.Lexicographic.{pointwise}
use Rattle.std.proofs.lemmas.Bool.{cases_eq, and_parts}
use Rattle.std.proofs.lemmas.List.Elements.{All-weaker, All-push}
use Rattle.std.proofs.lemmas.Option.{same_Some, slice_get_read}
use Rattle.cg_base.specs.declared.action_id.ActionId.{ActionId}
use Rattle.cg_base.specs.Cuts.{index_in}
use Rattle.cg_base.specs.IdLaws.{same_id-is}
use Rattle.cg_base.specs.Ids.{same_id}
use Rattle.cg_base.specs.Lists.{row_at, count_up}
use Rattle.cg_base.specs.Replicas.{every_replica}
use Rattle.cg_action.specs.declared.action.Action.{Action}
use Rattle.cg_action.specs.ActionLimits.{IsAction}
use Rattle.cg_relaxed.specs.Cells.{sum_of, last_write}
use Rattle.cg_relaxed.specs.Laws.{StaysOfOneMap}
use Rattle.cg_relaxed.specs.Relaxed.{RelaxedView, nothing_known, with_action, first_of, IsOf}
use Rattle.cg_relaxed.specs.RelaxedState.{RelaxedState, seen}
use Rattle.cg_made_rows.specs.Kept.{no_action, made_in, IsPlaced, ArePlaced, IsFrom, AreKept}
use Rattle.cg_made_rows.specs.Rows.{with_made}
use Rattle.cg_made_rows.proofs.Cells.{name, index-within, flat_map-same}
use Rattle.cg_made_rows.specs.RowLaws.{row-same, row-other}

-- ---- one more in a row

get-push : {X : Type 0} (xs : List X) (x : X) (k : ℕ) (y : X) → slice_get (xs ++ x ∷ []) k ≡ Some y →
    (slice_get xs k ≡ Some y) ⊎ ((k ≡ length xs) × (x ≡ y))
get-push [] x zero y e = inr (refl, same_Some x y e)
get-push [] x (suc k) y e = absurd cc
get-push (z ∷ xs) x zero y e = inl e
get-push (z ∷ xs) x (suc k) y e = elim (get-push xs x k y e) [
  | inl there ↦ inl there
  | inr last ↦ inr (ap suc last.0, last.1)
]

get-front : {X : Type 0} (xs : List X) (x : X) (k : ℕ) → k < length xs → slice_get (xs ++ x ∷ []) k ≡ slice_get xs k
get-front [] x k small = absurd (omega arith)
get-front (z ∷ xs) x zero small = refl
get-front (z ∷ xs) x (suc k) small = get-front xs x k (omega arith)

-- the action is the next one of its creator
pub record IsNext (rows : List (List Action)) (a : Action) : Type 0 where
  pub index : a.id.index ≡ suc (length (row_at rows a.id.creator))
  pub small : a.id.index < 2 ^ 40
  pub action : IsAction a

module _ (rows : List (List Action)) (a : Action) (next : IsNext rows a) where
  abbrev after : List (List Action)
  after = with_made rows a.id.creator a

  placed-more : ArePlaced rows → ArePlaced after
  placed-more placed p k b e = elim (cases_eq p a.id.creator) [
    | inl here ↦
        let row : row_at after p ≡ row_at rows p ++ a ∷ [] =
        ap (λ q. row_at after q) here ∙ row-same rows a.id.creator a ∙ ap (λ q. row_at rows q ++ a ∷ []) (sym here) in
        elim (get-push (row_at rows p) a k b (ap (λ xs. slice_get xs k) (sym row) ∙ e)) [
          | inl there ↦ placed p k b there
          | inr last ↦
              let place : a.id.index ≡ suc k =
              next.index ∙ ap (λ q. suc (length (row_at rows q))) (sym here) ∙ ap suc (sym last.0) in
              subst (IsPlaced p (suc k)) last.1 record {
                name = λ i. record { creator = sym here i; index = place i };
                small = subst (λ n. n < 2 ^ 40) place next.small;
                action = next.action;
              }
        ]
    | inr apart ↦ placed p k b (ap (λ xs. slice_get xs k) (sym (row-other rows a.id.creator a p apart)) ∙ e)
  ]

  made-same : (p index : ℕ) → 0 < index → index ≤ length (row_at rows p) →
      made_in rows (name p index) ≡ made_in after (name p index)
  made-same p zero some within = absurd (omega arith)
  made-same p (suc k) some within = elim (cases_eq p a.id.creator) [
    | inl here ↦
        let row : row_at after p ≡ row_at rows p ++ a ∷ [] =
        ap (λ q. row_at after q) here ∙ row-same rows a.id.creator a ∙ ap (λ q. row_at rows q ++ a ∷ []) (sym here) in
        ap (λ o. unwrap_or o no_action) (sym (get-front (row_at rows p) a k (omega arith)) ∙ ap (λ xs. slice_get xs k)
        (sym row))
    | inr apart ↦
        ap (λ xs. unwrap_or (slice_get xs k) no_action) (sym (row-other rows a.id.creator a p apart))
  ]

-- ---- two maps that have the same actions under the names that are known

map-same : (f g : ℕ → Action) (from n : ℕ) → ((k : ℕ) → from ≤ k → k < from + n → f k ≡ g k) →
    map f (count_up from n) ≡ map g (count_up from n)
map-same f g from zero same = refl
map-same f g from (suc n) same =
    let here = same from (omega arith) (omega arith) in
    let rest = map-same f g (suc from) n (λ k above below. same k (omega arith) (omega arith)) in
    λ i. here i ∷ rest i

module _ (made other : ActionId → Action) (r : RelaxedView)
    (same : (p index : ℕ) → 0 < index → index ≤ index_in r.known p → made (name p index) ≡ other (name p index)) where
  first-same : (p : ℕ) → first_of made p (index_in r.known p) ≡ first_of other p (index_in r.known p)
  first-same p =
      map-same (λ index. made (name p index)) (λ index. other (name p index)) 1 (index_in r.known p)
      (λ k above below. same p k (omega arith) (omega arith))

  of-other : IsOf made r → IsOf other r
  of-other of = record {
    cut = of.cut;
    few = of.few;
    by_name = λ id some less.
        ap (λ (a : Action). a.id) (sym (same id.creator id.index some (omega arith))) ∙ of.by_name id some less;
    sums = λ key p. of.sums key p ∙ ap (λ actions. sum_of key actions) (first-same p);
    registers = λ key. of.registers key
        ∙ ap (λ actions. last_write key actions) (flat_map-same (λ p. first_of made p (index_in r.known p))
        (λ p. first_of other p (index_in r.known p)) first-same every_replica);
  }

-- ---- what is kept

from-more : (rows : List (List Action)) (a : Action) → IsNext rows a → (v : RelaxedState) → IsFrom rows v →
    IsFrom (with_made rows a.id.creator a) v
from-more rows a next v of =
    of-other (made_in rows) (made_in (with_made rows a.id.creator a)) (seen v)
    (λ p index some known.
    let within = index-within rows (seen v) p of in
    made-same rows a next p index some (omega arith)) of

pub kept-more : (rows : List (List Action)) (values : List RelaxedState) (a : Action) → IsNext rows a →
    AreKept rows values →
    AreKept (with_made rows a.id.creator a) values
kept-more rows values a next kept = record {
  placed = placed-more rows a next kept.placed;
  each = All-weaker (IsFrom rows) (IsFrom (with_made rows a.id.creator a)) (from-more rows a next) values kept.each;
}

-- ---- cuts that are compared

pub same-cuts : (c d : List ActionId) → pointwise same_id c d ≡ true → c ≡ d
same-cuts [] [] e = refl
same-cuts [] (t ∷ d) e = absurd cc
same-cuts (s ∷ c) [] e = absurd cc
same-cuts (s ∷ c) (t ∷ d) e =
    let parts = and_parts (same_id s t) (pointwise same_id c d) e in
    let first = same_id-is s t parts.0 in
    let rest = same-cuts c d parts.1 in
    λ i. first i ∷ rest i

pub same-known : (differ : Bool) (known cut own : List ActionId) → differ ≡ not (pointwise same_id known cut) →
    differ ≡ false →
    known ≡ own → own ≡ cut
same-known differ known cut own is same from = sym from ∙ same-cuts known cut
    (by (pointwise same_id known cut) (sym is ∙ same)) where
      by : (b : Bool) → not b ≡ false → b ≡ true
      by true e = refl
      by false e = absurd cc

-- ---- values that know nothing, and that take the next action in

pub from-nothing : StaysOfOneMap → (rows : List (List Action)) (v : RelaxedState) → seen v ≡ nothing_known →
    IsFrom rows v
from-nothing stays rows v is = subst (λ r. IsOf (made_in rows) r) (sym is) (stays.first (made_in rows))

pub kept-new : StaysOfOneMap → (rows : List (List Action)) (values grown : List RelaxedState) (v : RelaxedState) →
    seen v ≡ nothing_known → grown ≡ values ++ v ∷ [] → AreKept rows values → AreKept rows grown
kept-new stays rows values grown v is added kept = record {
  placed = kept.placed;
  each = subst (λ (vs : List RelaxedState). All (IsFrom rows) vs) (sym added)
      (All-push (IsFrom rows) values v kept.each (from-nothing stays rows v is));
}

pub from-next : StaysOfOneMap → (rows : List (List Action)) (v new : RelaxedState) (p k : ℕ) (a : Action)
    (row : List Action) →
    ArePlaced rows → IsFrom rows v → k ≡ index_in v.known p → row ≡ row_at rows p → k < length row →
    a ≡ get_or row k a →
    seen new ≡ with_action (seen v) a → IsFrom rows new
from-next stays rows v new p k a row placed from at there within is added =
    let stands : slice_get (row_at rows p) k ≡ Some a = rw (← there)
    (slice_get_read row (length row) k a refl within is) in
    let place = placed p k a stands in
    let creator : a.id.creator ≡ p = ap (λ (id : ActionId). id.creator) place.name in
    let index : a.id.index ≡ suc k = ap (λ (id : ActionId). id.index) place.name in
    let made : made_in rows a.id ≡ a = ap (λ id. made_in rows id) place.name ∙ ap (λ o. unwrap_or o no_action) stands in
    let next : a.id.index ≡ suc (index_in v.known a.id.creator) =
    index ∙ ap suc at ∙ ap (λ q. suc (index_in v.known q)) (sym creator) in
    let small : a.id.index < 2 ^ 40 = subst (λ n. n < 2 ^ 40) (sym index) place.small in
    subst (λ r. IsOf (made_in rows) r) (sym added)
    (stays.next (made_in rows) (seen v) a from made place.action.id.creator next small)
