-- What holds of each element of a list, by recursion; and lists made from it.
use Rattle.std.proofs.Common.{◌≡◌, ℕ, zero, suc, ◌+◌, ◌-◌, ◌<◌, ◌≤◌, Bool, true, false, ◌||◌, ◌&&◌, List, [], ◌∷◌, ◌++◌, IfSome, take, drop, filter, flat_map, refl, sym, ap₂, arith, subst, eq-eqb, eqb-true, true≢false, ⊎_elim}
use Rattle.std.specs.List.{list_any, list_all}
use Rattle.cg_base.specs.Lists.{count_up, above_up_to, Each}
use Rattle.std.specs.Prelude.{◌==◌, slice_get}
use Rattle.cg_base.specs.Sets.{has}
use Rattle.std.proofs.lemmas.Bool.{cond_both, and_parts, and_from, or_right, or_cases}

module _ {X : Type 0} where
  pub Each-weaker : (P Q : X → Type 0) → ((x : X) → P x → Q x) → (xs : List X) → Each P xs → Each Q xs
  Each-weaker P Q w [] e = tt
  Each-weaker P Q w (x ∷ xs) e = (w x e.0, Each-weaker P Q w xs e.1)

  pub Each-filter : (P : X → Type 0) (t : X → Bool) (xs : List X) → Each P xs → Each P (filter t xs)
  Each-filter P t [] e = tt
  Each-filter P t (x ∷ xs) e =
      cond_both (t x) (x ∷ filter t xs) (filter t xs) (Each P) (λ h. (e.0, Each-filter P t xs e.1))
      (λ h. Each-filter P t xs e.1)

  pub Each-append : (P : X → Type 0) (xs ys : List X) → Each P xs → Each P ys → Each P (xs ++ ys)
  Each-append P [] ys a b = b
  Each-append P (x ∷ xs) ys a b = (a.0, Each-append P xs ys a.1 b)

  -- of both parts of two lists
  pub Each-front : (P : X → Type 0) (xs ys : List X) → Each P (xs ++ ys) → Each P xs
  Each-front P [] ys e = tt
  Each-front P (x ∷ xs) ys e = (e.0, Each-front P xs ys e.1)

  pub Each-rest : (P : X → Type 0) (xs ys : List X) → Each P (xs ++ ys) → Each P ys
  Each-rest P [] ys e = e
  Each-rest P (x ∷ xs) ys e = Each-rest P xs ys e.1

  -- of a front, and of what is behind it
  pub Each-take : (P : X → Type 0) (n : ℕ) (xs : List X) → Each P xs → Each P (take n xs)
  Each-take P zero xs e = tt
  Each-take P (suc n) [] e = tt
  Each-take P (suc n) (x ∷ xs) e = (e.0, Each-take P n xs e.1)

  pub Each-drop : (P : X → Type 0) (n : ℕ) (xs : List X) → Each P xs → Each P (drop n xs)
  Each-drop P zero xs e = e
  Each-drop P (suc n) [] e = tt
  Each-drop P (suc n) (x ∷ xs) e = Each-drop P n xs e.1

  -- of what stands at a place
  pub Each-get : (P : X → Type 0) (xs : List X) (i : ℕ) → Each P xs → IfSome (slice_get xs i) P
  Each-get P [] i e = tt
  Each-get P (x ∷ xs) zero e = e.0
  Each-get P (x ∷ xs) (suc i) e = Each-get P xs i e.1

  pub flat_map_same : {Y : Type 0} (f g : X → List Y) (xs : List X) → Each (λ x. f x ≡ g x) xs →
      flat_map f xs ≡ flat_map g xs
  flat_map_same f g [] e = refl
  flat_map_same f g (x ∷ xs) e = ap₂ ◌++◌ e.0 (flat_map_same f g xs e.1)

  pub filter_same : (t u : X → Bool) (xs : List X) → Each (λ x. t x ≡ u x) xs → filter t xs ≡ filter u xs
  filter_same t u [] e = refl
  filter_same t u (x ∷ xs) e = rw (e.0, filter_same t u xs e.1) refl

  pub filter_none : (t : X → Bool) (xs : List X) → Each (λ x. t x ≡ false) xs → filter t xs ≡ []
  filter_none t [] e = refl
  filter_none t (x ∷ xs) e = rw e.0 (filter_none t xs e.1)

  pub list_any_same : (t u : X → Bool) (xs : List X) → Each (λ x. t x ≡ u x) xs → list_any t xs ≡ list_any u xs
  list_any_same t u [] e = refl
  list_any_same t u (x ∷ xs) e = ap₂ ◌||◌ e.0 (list_any_same t u xs e.1)

  pub list_all_same : (t u : X → Bool) → ((x : X) → t x ≡ u x) → (xs : List X) → list_all t xs ≡ list_all u xs
  list_all_same t u e [] = refl
  list_all_same t u e (x ∷ xs) = ap₂ ◌&&◌ (e x) (list_all_same t u e xs)

  pub list_all_kept_by : (t u : X → Bool) → ((x : X) → t x ≡ true → u x ≡ true) → (xs : List X) →
      list_all t xs ≡ true → list_all u xs ≡ true
  list_all_kept_by t u w [] e = refl
  list_all_kept_by t u w (x ∷ xs) e =
      and_from (u x) (list_all u xs) (w x (and_parts (t x) (list_all t xs) e).0) (list_all_kept_by t u w
      xs (and_parts (t x) (list_all t xs) e).1)

  pub list_any_nowhere : (t : X → Bool) (xs : List X) → Each (λ x. t x ≡ false) xs → list_any t xs ≡ false
  list_any_nowhere t [] e = refl
  list_any_nowhere t (x ∷ xs) e = rw e.0 (list_any_nowhere t xs e.1)

  pub Each-all : (P : X → Type 0) → ((x : X) → P x) → (xs : List X) → Each P xs
  Each-all P h [] = tt
  Each-all P h (x ∷ xs) = (h x, Each-all P h xs)

  pub Each-list_all : (t : X → Bool) (xs : List X) → list_all t xs ≡ true → Each (λ x. t x ≡ true) xs
  Each-list_all t [] e = tt
  Each-list_all t (x ∷ xs) e =
      ((and_parts (t x) (list_all t xs) e).0, Each-list_all t xs (and_parts (t x) (list_all t xs) e).1)

-- each member of a set is in it
pub Each-has : (set : List ℕ) → Each (λ q. has set q ≡ true) set
Each-has [] = tt
Each-has (p ∷ set) = (
  or_from_left (p == p) (has set p) (eq-eqb p p refl),
  Each-weaker (λ q. has set q ≡ true) (λ q. has (p ∷ set) q ≡
      true) (λ q h. or_right (p == q) (has set q) h) set (Each-has set),
)
  where
    or_from_left : (x y : Bool) → x ≡ true → (x || y) ≡ true
    or_from_left x y h = rw h refl

-- a member of a set is one of its elements
pub Each-at : (P : ℕ → Type 0) (set : List ℕ) (q : ℕ) → Each P set → has set q ≡ true → P q
Each-at P [] q e h = absurd (true≢false (sym h))
Each-at P (p ∷ set) q e h =
    ⊎_elim (λ here. subst P (eqb-true p q here) e.0) (λ there. Each-at P set q e.1 there)
    (or_cases (p == q) (has set q) h)

-- the numbers that are counted up are within their bounds
pub Each-count_up : (from n : ℕ) → Each (λ k. (from ≤ k) × (k < from + n)) (count_up from n)
Each-count_up from zero = tt
Each-count_up from (suc n) = (
  (omega arith, omega arith),
  Each-weaker (λ k. (suc from ≤ k) × (k < suc from + n)) (λ k. (from ≤ k)
      × (k < from + suc n)) (λ k h. (omega arith, omega arith)) (count_up (suc from) n) (Each-count_up (suc from) n),
)

pub Each-above : (low high : ℕ) → Each (λ k. (low < k) × (k ≤ high)) (above_up_to low high)
Each-above low high =
    Each-weaker (λ k. (suc low ≤ k) × (k < suc low + (high - low))) (λ k. (low < k)
    × (k ≤ high)) (λ k h. (omega arith, omega arith)) (above_up_to low high) (Each-count_up (suc low) (high - low))

pub count_up-add : (from n m : ℕ) → count_up from (n + m) ≡ count_up from n ++ count_up (from + n) m
count_up-add from zero m = ap₂ count_up (omega arith) (omega arith)
count_up-add from (suc n) m =
    let e : suc n + m ≡ suc (n + m) = omega arith in
    let e2 : suc from + n ≡ from + suc n = omega arith in
    rw (e, count_up-add (suc from) n m, e2) refl

pub above_up_to-add : (low mid high : ℕ) → low ≤ mid → mid ≤ high →
    above_up_to low high ≡ above_up_to low mid ++ above_up_to mid high
above_up_to-add low mid high h k =
    let e : high - low ≡ (mid - low) + (high - mid) = omega arith in
    let e2 : suc low + (mid - low) ≡ suc mid = omega arith in
    rw (e, count_up-add (suc low) (mid - low) (high - mid), e2) refl
