-- What values of the rows' actions read: the cell of the actions that their cut names.
use Rattle.std.proofs.Common.{◌≡◌, ℕ, zero, suc, ◌+◌, ◌≤◌, List, [], ◌∷◌, ◌++◌, length, take, drop, get_or, map, inl, inr, refl, sym, ap, ◌∙◌, drop-cons, arith}
use Rattle.std.specs.Prelude.{flat_map, slice_get, Result, Ok, Err, IfOk}
use Rattle.std.specs.Option.{unwrap_or}
use Rattle.std.proofs.lemmas.Bool.{cases_lt}
use Rattle.std.proofs.lemmas.Option.{unwrap_or-slice_get}
use Rattle.cg_base.specs.declared.action_id.ActionId.{ActionId}
use Rattle.cg_base.specs.Calls.{greatest_cut}
use Rattle.cg_base.specs.Cuts.{index_in}
use Rattle.cg_base.specs.Lists.{at_place, row_at, count_up}
use Rattle.cg_base.specs.Replicas.{every_replica}
use Rattle.cg_action.specs.declared.action.Action.{Action}
use Rattle.cg_relaxed.specs.declared.cell.Cell.{Cell}
use Rattle.cg_relaxed.specs.Cells.{cell_of}
use Rattle.cg_relaxed.specs.Laws.{StaysOfOneMap, KnownDecides}
use Rattle.cg_relaxed.specs.Relaxed.{RelaxedView, joined, cell_in, first_of, named, IsOf}
use Rattle.cg_relaxed.specs.RelaxedState.{RelaxedState, seen}
use Rattle.cg_made_rows.specs.Kept.{no_action, made_in, IsFrom}
use Rattle.cg_made_rows.specs.Rows.{named_in, cell_at}
use Rattle.cg_base.specs.ListLaws.{at_place-past}

abbrev pub name : ℕ → ℕ → ActionId
name p index = record { creator = p; index = index }

-- ---- what a cut names stands in the rows

pub index-within : (rows : List (List Action)) (r : RelaxedView) (p : ℕ) → IsOf (made_in rows) r →
    index_in r.known p ≤ length (row_at rows p)
index-within rows r p of = elim (cases_lt (length (row_at rows p)) (index_in r.known p)) [
  | inl above ↦
      let n : ℕ = index_in r.known p in
      let none : made_in rows (name p n) ≡ no_action = ap (λ o. unwrap_or o no_action) (at_place-past (row_at rows p) n above) in
      let stands : (made_in rows (name p n)).id ≡ name p n = of.by_name (name p n) (omega arith) (omega arith) in
      let zero_is : 0 ≡ n = ap (λ (a : Action). a.id.index) (sym none) ∙ ap (λ (id : ActionId). id.index) stands in
      absurd (omega arith)
  | inr within ↦ within
]

front-of : (row : List Action) (k n : ℕ) → k + n ≤ length row →
    map (λ index. unwrap_or (at_place row index) no_action) (count_up (suc k) n) ≡ take n (drop k row)
front-of row k zero within = refl
front-of row k (suc n) within =
    let here : unwrap_or (slice_get row k) no_action ≡ get_or row k no_action = unwrap_or-slice_get row k no_action in
    let rest = front-of row (suc k) n (omega arith) in
    let cut : drop k row ≡ get_or row k no_action ∷ drop (suc k) row = drop-cons row k no_action (omega arith) in
    let both : unwrap_or (slice_get row k) no_action ∷ map (λ index. unwrap_or (at_place row index) no_action)
    (count_up (suc (suc k)) n)
    ≡ get_or row k no_action ∷ take n (drop (suc k) row) = λ i. here i ∷ rest i in
    both ∙ ap (λ xs. take (suc n) xs) (sym cut)

first-in : (rows : List (List Action)) (p n : ℕ) → n ≤ length (row_at rows p) →
    first_of (made_in rows) p n ≡ take n (row_at rows p)
first-in rows p n within = front-of (row_at rows p) 0 n (omega arith)

pub flat_map-same : (f g : ℕ → List Action) → ((p : ℕ) → f p ≡ g p) → (ps : List ℕ) → flat_map f ps ≡ flat_map g ps
flat_map-same f g same [] = refl
flat_map-same f g same (p ∷ ps) = λ i. same p i ++ flat_map-same f g same ps i

named-are : (rows : List (List Action)) (cut : List ActionId) → ((p : ℕ) → index_in cut p ≤ length (row_at rows p)) →
    named (made_in rows) cut ≡ named_in rows cut
named-are rows cut within =
    flat_map-same (λ p. first_of (made_in rows) p (index_in cut p)) (λ p. take (index_in cut p) (row_at rows p))
    (λ p. first-in rows p (index_in cut p) (within p)) every_replica

-- ---- what is read

pub read-one : KnownDecides → (rows : List (List Action)) (r : RelaxedView) (key : List ℕ) → IsOf (made_in rows) r →
    cell_in r key ≡ cell_at rows r.known key
read-one known rows r key of =
    known.read (made_in rows) r key of
    ∙ ap (λ actions. cell_of actions key) (named-are rows r.known (λ p. index-within rows r p of))

pub read-both : KnownDecides → StaysOfOneMap → (rows : List (List Action)) (r o : RelaxedView) (key : List ℕ) →
    IsOf (made_in rows) r → IsOf (made_in rows) o →
    cell_in (joined r o) key ≡ cell_at rows (greatest_cut r.known o.known) key
read-both known stays rows r o key one other =
    read-one known rows (joined r o) key (stays.union (made_in rows) r o one other)

if-ok : {X E : Type 0} (P Q : X → Type 0) (r : Result X E) → ((x : X) → P x → Q x) → IfOk r P → IfOk r Q
if-ok P Q (Ok x) goes is = goes x is
if-ok P Q (Err e) goes is = is

pub shown-one : {E : Type 0} → KnownDecides → (rows : List (List Action)) (v : RelaxedState) (cut : List ActionId)
    (key : List ℕ)
    (r : Result Cell E) → IsFrom rows v → v.known ≡ cut → IfOk r (λ cell. cell ≡ cell_in (seen v) key) →
    IfOk r (λ cell. cell ≡ cell_at rows cut key)
shown-one known rows v cut key r from is read =
    if-ok (λ cell. cell ≡ cell_in (seen v) key) (λ cell. cell ≡ cell_at rows cut key) r
    (λ cell e. e ∙ read-one known rows (seen v) key from ∙ ap (λ c. cell_at rows c key) is) read

pub shown-both : {E : Type 0} → KnownDecides → StaysOfOneMap → (rows : List (List Action)) (v w : RelaxedState)
    (cut other : List ActionId) (key : List ℕ) (r : Result Cell E) → IsFrom rows v → IsFrom rows w → v.known ≡ cut →
    w.known ≡ other → IfOk r (λ cell. cell ≡ cell_in (joined (seen v) (seen w)) key) →
    IfOk r (λ cell. cell ≡ cell_at rows (greatest_cut cut other) key)
shown-both known stays rows v w cut other key r from also is too read =
    if-ok (λ cell. cell ≡ cell_in (joined (seen v) (seen w)) key) (λ cell. cell ≡ cell_at rows (greatest_cut cut other) key) r
    (λ cell e. e ∙ read-both known stays rows (seen v) (seen w) key from also
    ∙ ap (λ c. cell_at rows (greatest_cut c w.known) key) is ∙ ap (λ c. cell_at rows (greatest_cut cut c) key) too) read
