-- How far a member can reach, apart from the world: numbers of places and of actions, and fronts of a line.
use Rattle.std.proofs.Common.{◌≡◌, ℕ, zero, suc, ◌+◌, ◌-◌, ◌≤◌, ◌<◌, Bool, true, false, List, [], ◌∷◌, Option, Some, None, length, take, map, fold, refl, sym, ap, ap₂, ◌∙◌, ⊎_elim, subst, arith, eqb-true, eq-eqb}
use Rattle.std.specs.Prelude.{max, filter_map, ◌==◌}
use Rattle.std.specs.List.{prefix_len, cons_option}
use Rattle.std.proofs.lemmas.Bool.{cases_Bool, cases_eq, cases_lt, cond-true, cond-false, or_cases, or_left, or_right}
use Rattle.cg_base.specs.Lists.{count_up, above_up_to, greatest}
use Rattle.cg_base.specs.Sets.{has}
use Rattle.cg_base.specs.ListLaws.{fold_max-from}
use Rattle.cg_wire.specs.declared.message.Msg.{Msg}
use Rattle.cg_group.specs.State.{Sent}
use Rattle.cg_model.specs.Fronts.{Front}
use Rattle.cg_model.specs.Talk.{act_in, acts_in}
use Rattle.cg_agree_lemmas.specs.FrontFacts.{Front-takes, Front-length}

-- ---- places in a row

from-zero : (n : ℕ) → above_up_to 0 n ≡ count_up 1 n
from-zero n = let e : n - 0 ≡ n = omega arith in ap (count_up 1) e

-- each place of a row passes
passes-from : (t : ℕ → Bool) (low n k : ℕ) → low < k → k ≤ low + prefix_len t (count_up (suc low) n) → t k ≡ true
passes-from t low zero k above within = absurd (omega arith)
passes-from t low (suc n) k above within = ⊎_elim
    (λ y.
    let one = cond-true (t (suc low)) (1 + prefix_len t (count_up (suc (suc low)) n)) 0 y in
    ⊎_elim (λ (e : k ≡ suc low). ap t e ∙ y)
    (λ (ne : k ≡ suc low → ⊥). passes-from t (suc low) n k (later k low above ne) (shifted k low (prefix_len t (count_up (suc (suc low)) n)) (within_of one within)))
    (cases_eq k (suc low)))
    (λ f. let none = cond-false (t (suc low)) (1 + prefix_len t (count_up (suc (suc low)) n)) 0 f in absurd (nothing (within_of none within)))
    (cases_Bool (t (suc low))) where
      within_of : {x y : ℕ} → x ≡ y → k ≤ low + x → k ≤ low + y
      within_of e h = subst (λ z. k ≤ low + z) e h

      later : (k low : ℕ) → low < k → (k ≡ suc low → ⊥) → suc low < k
      later k low above ne = ⊎_elim (λ (lt : suc low < k). lt) (λ (ge : k ≤ suc low). absurd (ne (omega arith))) (cases_lt (suc low) k)

      shifted : (k low x : ℕ) → k ≤ low + (1 + x) → k ≤ suc low + x
      shifted k low x h = omega arith

      nothing : k ≤ low + 0 → ⊥
      nothing h = omega arith

pub passes : (t : ℕ → Bool) (n k : ℕ) → 0 < k → k ≤ prefix_len t (above_up_to 0 n) → t k ≡ true
passes t n k above within = passes-from t 0 n k above (subst (λ xs. k ≤ 0 + prefix_len t xs) (from-zero n) (let h : k ≤ 0 + prefix_len t (above_up_to 0 n) = omega (arith, within) in h))

-- a row is no shorter than the places that pass
reaches-from : (t : ℕ → Bool) (low n m : ℕ) → m ≤ n → ((k : ℕ) → low < k → k ≤ low + m → t k ≡ true) → m ≤ prefix_len t (count_up (suc low) n)
reaches-from t low n zero le each = omega arith
reaches-from t low zero (suc m) le each = absurd (omega arith)
reaches-from t low (suc n) (suc m) le each =
    let first = each (suc low) (omega arith) (omega arith) in
    let rest = reaches-from t (suc low) n m (omega arith) (λ k above within. each k (omega arith) (omega arith)) in
    subst (λ z. suc m ≤ z) (sym (cond-true (t (suc low)) (1 + prefix_len t (count_up (suc (suc low)) n)) 0 first)) (one-more rest) where
      one-more : {x : ℕ} → m ≤ x → suc m ≤ 1 + x
      one-more h = omega arith

pub reaches : (t : ℕ → Bool) (n m : ℕ) → m ≤ n → ((k : ℕ) → 0 < k → k ≤ m → t k ≡ true) → m ≤ prefix_len t (above_up_to 0 n)
reaches t n m le each = subst (λ xs. m ≤ prefix_len t xs) (sym (from-zero n)) (reaches-from t 0 n m le (λ k above within. each k above (omega (arith, within))))

row-within-from : (t : ℕ → Bool) (low n : ℕ) → prefix_len t (count_up low n) ≤ n
row-within-from t low zero = omega arith
row-within-from t low (suc n) = ⊎_elim
    (λ y. subst (λ z. z ≤ suc n) (sym (cond-true (t low) (1 + prefix_len t (count_up (suc low) n)) 0 y)) (one-more (row-within-from t (suc low) n)))
    (λ f. subst (λ z. z ≤ suc n) (sym (cond-false (t low) (1 + prefix_len t (count_up (suc low) n)) 0 f)) (omega arith))
    (cases_Bool (t low)) where
      one-more : {x : ℕ} → x ≤ n → 1 + x ≤ suc n
      one-more h = omega arith

pub row-within : (t : ℕ → Bool) (n : ℕ) → prefix_len t (above_up_to 0 n) ≤ n
row-within t n = subst (λ xs. prefix_len t xs ≤ n) (sym (from-zero n)) (row-within-from t 1 n)

-- A row doesn't grow where no place passes more than before, and where the first new place doesn't pass.
pub row-shrinks : (s t : ℕ → Bool) (n m : ℕ) → ((k : ℕ) → 0 < k → k ≤ n → t k ≡ true → s k ≡ true) → (n < m → t (suc n) ≡ false) →
    prefix_len t (above_up_to 0 m) ≤ prefix_len s (above_up_to 0 n)
row-shrinks s t n m fewer new = ⊎_elim
    (λ (lt : n < prefix_len t (above_up_to 0 m)).
    let less = row-within t m in
    absurd (let clash : false ≡ true = sym (new (omega arith)) ∙ passes t m (suc n) (omega arith) (omega arith) in cc))
    (λ (ge : prefix_len t (above_up_to 0 m) ≤ n). reaches s n (prefix_len t (above_up_to 0 m)) ge (λ k above within. fewer k above (omega arith) (passes t m k above within)))
    (cases_lt n (prefix_len t (above_up_to 0 m)))

-- ---- the greatest of some numbers

fold-max-mapped : (f : ℕ → ℕ) (set : List ℕ) (a n : ℕ) → a ≤ n → ((p : ℕ) → has set p ≡ true → f p ≤ n) → fold max a (map f set) ≤ n
fold-max-mapped f [] a n le each = le
fold-max-mapped f (q ∷ set) a n le each =
    let here = each q (or_left (q == q) (has set q) (eq-eqb q q refl)) in
    fold-max-mapped f set (max a (f q)) n (omega arith) (λ p is. each p (or_right (q == p) (has set p) is))

-- it is no more than what each of them is at most, and no less than each of them
pub greatest-least : (f : ℕ → ℕ) (set : List ℕ) (n : ℕ) → ((p : ℕ) → has set p ≡ true → f p ≤ n) → greatest (map f set) ≤ n
greatest-least f set n each = fold-max-mapped f set 0 n (omega arith) each

bounds-from : (f : ℕ → ℕ) (set : List ℕ) (a p : ℕ) → has set p ≡ true → f p ≤ fold max a (map f set)
bounds-from f [] a p is = absurd (let clash : false ≡ true = is in cc)
bounds-from f (q ∷ set) a p is = ⊎_elim
    (λ here. let e : f q ≡ f p = ap f (eqb-true q p here) in let le = fold_max-from (max a (f q)) (map f set) in omega arith)
    (λ there. bounds-from f set (max a (f q)) p there)
    (or_cases (q == p) (has set p) is)

pub greatest-bounds : (f : ℕ → ℕ) (set : List ℕ) (p : ℕ) → has set p ≡ true → f p ≤ greatest (map f set)
greatest-bounds f set p is = bounds-from f set 0 p is

-- it grows with the numbers and with the set
pub greatest-grows : (f g : ℕ → ℕ) (set more : List ℕ) → ((p : ℕ) → has set p ≡ true → (has more p ≡ true) × (f p ≤ g p)) →
    greatest (map f set) ≤ greatest (map g more)
greatest-grows f g set more each = greatest-least f set (greatest (map g more)) (λ p is. (let at = each p is in let le = greatest-bounds g more p at.0 in let own = at.1 in omega arith))

-- ---- actions in fronts of a talk

module _ {X Y : Type 0} (f : X → Option Y) where
  pub Front-filter_map : (xs ys : List X) → Front xs ys → Front (filter_map f xs) (filter_map f ys)
  Front-filter_map [] ys front = tt
  Front-filter_map (x ∷ xs) [] front = absurd front
  Front-filter_map (x ∷ xs) (y ∷ ys) front = rw (sym front.0) (at (f x) (Front-filter_map xs ys front.1)) where
    at : (o : Option Y) → Front (filter_map f xs) (filter_map f ys) → Front (cons_option o (filter_map f xs)) (cons_option o (filter_map f ys))
    at None rest = rest
    at (Some z) rest = (refl, rest)

pub acts-front : (xs ys : List (Sent Msg)) → Front xs ys → Front (acts_in xs) (acts_in ys)
acts-front xs ys front = Front-filter_map (λ (s : Sent Msg). act_in s.message) xs ys front

-- more places, no fewer actions
pub acts-more : (n m : ℕ) (xs : List (Sent Msg)) → n ≤ m → length (acts_in (take n xs)) ≤ length (acts_in (take m xs))
acts-more n m xs le = Front-length (acts_in (take n xs)) (acts_in (take m xs)) (acts-front (take n xs) (take m xs) (Front-takes n m xs le))

-- ---- fronts of a line

module _ {X : Type 0} where
  pub take-front : (n : ℕ) (xs ys : List X) → Front xs ys → n ≤ length xs → take n ys ≡ take n xs
  take-front zero xs ys front le = refl
  take-front (suc n) [] ys front le = absurd (omega arith)
  take-front (suc n) (x ∷ xs) [] front le = absurd front
  take-front (suc n) (x ∷ xs) (y ∷ ys) front le = ap₂ (λ a b. a ∷ b) (sym front.0) (take-front n xs ys front.1 (omega arith))

  -- who reaches no further, on a line that has only grown, reaches a front of what was reached
  pub reach-front : (n m : ℕ) (xs ys : List X) → Front xs ys → n ≤ m → m ≤ length xs → Front (take n ys) (take m xs)
  reach-front n m xs ys front le within = subst (λ zs. Front zs (take m xs)) (sym (take-front n xs ys front (omega arith))) (Front-takes n m xs le)
