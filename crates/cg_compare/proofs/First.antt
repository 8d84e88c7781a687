-- Which of the numbers from one on is the first that has a value, or passes a test.
use Rattle.std.specs.Prelude.{◌≡◌, ◌<◌, ◌≤◌, ◌⊎◌, ◌+◌, ℕ, zero, suc, Bool, true, false, ◌∷◌, Option, Some, None, find, map, if◌then◌else◌}
use Rattle.std.proofs.Common.{refl, sym, ap, ◌∙◌, arith, ⊎_elim, inl, inr}
use Rattle.std.proofs.lemmas.Bool.{cases_eq, cases_Bool, cond-true, cond-false}
use Rattle.cg_base.specs.Lists.{count_up, first_some}
use Rattle.cg_base.specs.OptionLaws.{first_none}

pub some_is_none : {X : Type 0} {x : X} → ◌≡◌ {A = Option X} (Some x) None → ⊥
some_is_none e = cc

pub true_is_false : {b : Bool} → b ≡ true → b ≡ false → ⊥
true_is_false x y = let clash : true ≡ false = sym x ∙ y in cc

-- ---- values

-- x is the value of the first of n numbers that has one
pub record IsFirst {X : Type 0} (f : ℕ → Option X) (from n : ℕ) (x : X) : Type 0 where
  pub at : ℕ
  pub low : from ≤ at
  pub high : at < from + n
  pub value : f at ≡ Some x
  pub before : (q : ℕ) → from ≤ q → q < at → f q ≡ None

with_none : {X : Type 0} (f : ℕ → Option X) (from n : ℕ) (x : X) → f from ≡ None → IsFirst f (suc from) n x →
    IsFirst f from (suc n) x
with_none f from n x none r = record {
  at = r.at;
  low = omega (arith, r.low);
  high = omega (arith, r.high);
  value = r.value;
  before = λ q low below. ⊎_elim
      (λ (same : q ≡ from). ap f same ∙ none)
      (λ (apart : q ≡ from → ⊥). r.before q (omega (arith, low, apart)) below)
      (cases_eq q from);
}

at_head : {X : Type 0} (f : ℕ → Option X) (from n : ℕ) (x : X) (o : Option X) → f from ≡ o →
    first_some (o ∷ map f (count_up (suc from) n)) ≡ Some x →
    (first_some (map f (count_up (suc from) n)) ≡ Some x → IsFirst f (suc from) n x) → IsFirst f from (suc n) x
at_head f from n x None here e next = with_none f from n x here (next e)
at_head f from n x (Some y) here e next = record {
  at = from;
  low = omega arith;
  high = omega arith;
  value = here ∙ e;
  before = λ q low below. absurd (omega (arith, low, below));
}

-- where one is first of all
pub first_has : {X : Type 0} (f : ℕ → Option X) (from n : ℕ) (x : X) → first_some (map f (count_up from n)) ≡ Some x →
    IsFirst f from n x
first_has f from zero x e = absurd (some_is_none (sym e))
first_has f from (suc n) x e = at_head f from n x (f from) refl e (first_has f (suc from) n x)

-- the value of a number is first of all where none before it has one
pub is_first : {X : Type 0} (f : ℕ → Option X) (from n : ℕ) (x : X) (at : ℕ) → from ≤ at → at < from + n →
    f at ≡ Some x → ((q : ℕ) → from ≤ q → q < at → f q ≡ None) → first_some (map f (count_up from n)) ≡ Some x
is_first f from zero x at low high here before = absurd (omega (arith, low, high))
is_first f from (suc n) x at low high here before = ⊎_elim
    (λ (same : at ≡ from). ap (λ o. first_some (o ∷ map f (count_up (suc from) n))) (ap f (sym same) ∙ here))
    (λ (apart : at ≡ from → ⊥).
    ap (λ o. first_some (o ∷ map f (count_up (suc from) n))) (before from (omega arith) (omega (arith, low, apart)))
    ∙ is_first f (suc from) n x at (omega (arith, low, apart)) (omega (arith, high)) here
    (λ q above below. before q (omega (arith, above)) below))
    (cases_eq at from)

-- none is first of all just where none has a value
pub none_has : {X : Type 0} (f : ℕ → Option X) (from n : ℕ) → first_some (map f (count_up from n)) ≡ None →
    (q : ℕ) → from ≤ q → q < from + n → f q ≡ None
none_has f from zero e q low high = absurd (omega (arith, low, high))
none_has f from (suc n) e q low high =
    let parts = first_none (f from) (map f (count_up (suc from) n)) e in
    ⊎_elim
    (λ (same : q ≡ from). ap f same ∙ parts.0)
    (λ (apart : q ≡ from → ⊥). none_has f (suc from) n parts.1 q (omega (arith, low, apart)) (omega (arith, high)))
    (cases_eq q from)

pub none_first : {X : Type 0} (f : ℕ → Option X) (from n : ℕ) → ((q : ℕ) → from ≤ q → q < from + n → f q ≡ None) →
    first_some (map f (count_up from n)) ≡ None
none_first f from zero none = refl
none_first f from (suc n) none =
    ap (λ o. first_some (o ∷ map f (count_up (suc from) n))) (none from (omega arith) (omega arith))
    ∙ none_first f (suc from) n (λ q low high. none q (omega (arith, low)) (omega (arith, high)))

-- ---- tests

-- x is the first of n numbers that passes the test
pub record IsFound (t : ℕ → Bool) (from n x : ℕ) : Type 0 where
  pub low : from ≤ x
  pub high : x < from + n
  pub passes : t x ≡ true

some_same : {X : Type 0} {x y : X} → Some x ≡ Some y → x ≡ y
some_same e = cc

if_found : (b : Bool) (x : ℕ) (rest : Option ℕ) (y : ℕ) → (if b then Some x else rest) ≡ Some y →
    ((b ≡ true) × (x ≡ y)) ⊎ (rest ≡ Some y)
if_found true x rest y e = inl (refl, some_same e)
if_found false x rest y e = inr e

pub found_is : (t : ℕ → Bool) (from n x : ℕ) → find t (count_up from n) ≡ Some x → IsFound t from n x
found_is t from zero x e = absurd (some_is_none (sym e))
found_is t from (suc n) x e = ⊎_elim
    (λ (here : (t from ≡ true) × (from ≡ x)).
    record { low = omega (arith, here.1); high = omega (arith, here.1); passes = ap t (sym here.1) ∙ here.0 })
    (λ (there : find t (count_up (suc from) n) ≡ Some x).
    let r = found_is t (suc from) n x there in
    record { low = omega (arith, r.low); high = omega (arith, r.high); passes = r.passes })
    (if_found (t from) from (find t (count_up (suc from) n)) x e)

pub none_passes : (t : ℕ → Bool) (from n : ℕ) → find t (count_up from n) ≡ None →
    (q : ℕ) → from ≤ q → q < from + n → t q ≡ false
none_passes t from zero e q low high = absurd (omega (arith, low, high))
none_passes t from (suc n) e q low high = ⊎_elim
    (λ y. absurd (some_is_none (sym (cond-true (t from) (Some from) (find t (count_up (suc from) n)) y) ∙ e)))
    (λ f. ⊎_elim
    (λ (same : q ≡ from). ap t same ∙ f)
    (λ (apart : q ≡ from → ⊥).
    none_passes t (suc from) n (sym (cond-false (t from) (Some from) (find t (count_up (suc from) n)) f) ∙ e)
    q (omega (arith, low, apart)) (omega (arith, high)))
    (cases_eq q from))
    (cases_Bool (t from))

pub none_found : (t : ℕ → Bool) (from n : ℕ) → ((q : ℕ) → from ≤ q → q < from + n → t q ≡ false) →
    find t (count_up from n) ≡ None
none_found t from zero none = refl
none_found t from (suc n) none = rw (none from (omega arith) (omega arith))
    (none_found t (suc from) n (λ q low high. none q (omega (arith, low)) (omega (arith, high))))

-- the first that passes is the only one up to it
pub is_found : (t : ℕ → Bool) (from n x : ℕ) → from ≤ x → x < from + n → t x ≡ true →
    ((q : ℕ) → from ≤ q → q < x → t q ≡ false) → find t (count_up from n) ≡ Some x
is_found t from zero x low high here before = absurd (omega (arith, low, high))
is_found t from (suc n) x low high here before = ⊎_elim
    (λ (same : x ≡ from).
    cond-true (t from) (Some from) (find t (count_up (suc from) n)) (ap t (sym same) ∙ here) ∙ ap Some (sym same))
    (λ (apart : x ≡ from → ⊥).
    cond-false (t from) (Some from) (find t (count_up (suc from) n)) (before from (omega arith) (omega (arith, low, apart)))
    ∙ is_found t (suc from) n x (omega (arith, low, apart)) (omega (arith, high)) here
    (λ q above below. before q (omega (arith, above)) below))
    (cases_eq x from)
