-- Laws of lists: how long they are, and what stands at a place.
use Rattle.std.proofs.Common.{◌≡◌, ℕ, zero, suc, ◌+◌, ◌-◌, ◌<◌, ◌≤◌, max, Bool, true, false, not, List, [], ◌∷◌, ◌++◌, length, map, filter, fold, drop, Some, None, refl, ap, ap₂, ◌∙◌, arith}
use Rattle.std.specs.Prelude.{slice_get}
use Rattle.std.proofs.lemmas.Bool.{cond_both}
use Rattle.std.proofs.lemmas.Option.{same_Some}
use Rattle.cg_base.specs.Lists.{count_up, at_place, greatest, row_at}
use Rattle.cg_base.specs.Text.{is_nil}

pub length-count_up : (from n : ℕ) → length (count_up from n) ≡ n
length-count_up from zero = refl
length-count_up from (suc n) = ap suc (length-count_up (suc from) n)

-- ---- how long

pub length-more : {X : Type 0} (xs : List X) (x : X) → length (xs ++ x ∷ []) ≡ suc (length xs)
length-more [] x = refl
length-more (y ∷ xs) x = ap suc (length-more xs x)

pub length-filter : {X : Type 0} (test : X → Bool) (xs : List X) → length (filter test xs) ≤ length xs
length-filter test [] = omega arith
length-filter test (x ∷ xs) =
    let rest = length-filter test xs in
    cond_both (test x) (x ∷ filter test xs) (filter test xs) (λ ys. length ys ≤ suc (length xs))
    (λ here. omega arith) (λ later. omega arith)

pub length-dropped : {X : Type 0} (n : ℕ) (xs : List X) → n ≤ length xs → n + length (drop n xs) ≡ length xs
length-dropped zero xs le = omega arith
length-dropped (suc n) [] le = absurd (omega arith)
length-dropped (suc n) (x ∷ xs) le = let rest = length-dropped n xs (omega arith) in omega arith

pub is_nil-false : {X : Type 0} (xs : List X) → not (is_nil xs) ≡ false → xs ≡ []
is_nil-false [] e = refl
is_nil-false (x ∷ xs) e = absurd (let clash : true ≡ false = e in cc)

pub is_nil-none : {X : Type 0} (xs : List X) → is_nil xs ≡ true → 0 < length xs → ⊥
is_nil-none [] e some = omega arith
is_nil-none (x ∷ xs) e some = let clash : false ≡ true = e in cc

-- ---- what stands at a place

-- in the first of two lists, and in the second one
pub slice_get-front : {X : Type 0} (xs ys : List X) (i : ℕ) → i < length xs → slice_get (xs ++ ys) i ≡ slice_get xs i
slice_get-front [] ys i lt = absurd (omega arith)
slice_get-front (x ∷ xs) ys zero lt = refl
slice_get-front (x ∷ xs) ys (suc i) lt = slice_get-front xs ys i (omega arith)

pub slice_get-behind : {X : Type 0} (xs ys : List X) (i : ℕ) → length xs ≤ i →
    slice_get (xs ++ ys) i ≡ slice_get ys (i - length xs)
slice_get-behind [] ys i le = let e : i ≡ i - 0 = omega arith in ap (slice_get ys) e
slice_get-behind (x ∷ xs) ys zero le = absurd (omega arith)
slice_get-behind (x ∷ xs) ys (suc i) le =
    let e : i - length xs ≡ suc i - suc (length xs) = omega arith in
    slice_get-behind xs ys i (omega arith) ∙ ap (slice_get ys) e

-- what stands there, and what stands behind it
pub drop-at : {X : Type 0} (xs : List X) (i : ℕ) (x : X) → slice_get xs i ≡ Some x → drop i xs ≡ x ∷ drop (suc i) xs
drop-at [] i x is = absurd (let none : None ≡ Some x = is in cc)
drop-at (y ∷ xs) zero x is = ap (λ z. z ∷ xs) (same_Some y x is)
drop-at (y ∷ xs) (suc i) x is = drop-at xs i x is

-- of a map over numbers that count up
pub slice_get-count_up : {X : Type 0} (f : ℕ → X) (from n k : ℕ) → k < n →
    slice_get (map f (count_up from n)) k ≡ Some (f (from + k))
slice_get-count_up f from zero k lt = absurd (omega arith)
slice_get-count_up f from (suc n) zero lt = ap (λ m. Some (f m)) (omega arith)
slice_get-count_up f from (suc n) (suc k) lt =
    slice_get-count_up f (suc from) n k (omega arith) ∙ ap (λ m. Some (f m)) (omega arith)

-- no place has anything in an empty list, and none behind the last one
pub at_place-nil : {X : Type 0} (place : ℕ) → at_place {X = X} [] place ≡ None
at_place-nil zero = refl
at_place-nil (suc n) = refl

pub at_place-past : {X : Type 0} (xs : List X) (place : ℕ) → length xs < place → at_place xs place ≡ None
at_place-past xs zero past = absurd (omega arith)
at_place-past [] (suc n) past = refl
at_place-past (x ∷ xs) (suc zero) past = absurd (omega arith)
at_place-past (x ∷ xs) (suc (suc n)) past = at_place-past xs (suc n) (omega arith)

-- ---- two lists that are one

pub same_rest : {X : Type 0} (x : X) (xs ys : List X) → x ∷ xs ≡ x ∷ ys → xs ≡ ys
same_rest x xs ys e = ap (drop 1) e

pub same_cons : {X : Type 0} (x y : X) (xs ys : List X) → x ≡ y → xs ≡ ys → x ∷ xs ≡ y ∷ ys
same_cons x y xs ys here rest = ap₂ (λ z zs. z ∷ zs) here rest

-- ---- the greatest

pub fold_max-from : (n : ℕ) (ns : List ℕ) → n ≤ fold max n ns
fold_max-from n [] = omega arith
fold_max-from n (k ∷ ns) = omega (arith, fold_max-from (max n k) ns)

pub fold_max-is : (n : ℕ) (ns : List ℕ) → fold max n ns ≡ max n (greatest ns)
fold_max-is n [] = omega arith
fold_max-is n (k ∷ ns) =
    let here = fold_max-is (max n k) ns in
    let there = fold_max-is (max 0 k) ns in
    omega arith

pub greatest-append : (ms ns : List ℕ) → greatest (ms ++ ns) ≡ max (greatest ms) (greatest ns)
greatest-append [] ns = omega arith
greatest-append (m ∷ ms) ns =
    let whole = fold_max-is (max 0 m) (ms ++ ns) in
    let front = fold_max-is (max 0 m) ms in
    let rest = greatest-append ms ns in
    omega arith

-- nothing stands behind the last row
pub row_at-past : {X : Type 0} (rows : List (List X)) (k : ℕ) → length rows ≤ k → row_at rows k ≡ []
row_at-past [] k past = refl
row_at-past (row ∷ rows) zero past = absurd (omega arith)
row_at-past (row ∷ rows) (suc k) past = row_at-past rows k (omega arith)
