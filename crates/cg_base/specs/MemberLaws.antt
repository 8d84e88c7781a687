-- What all members of a set pass, or one of them.
use Rattle.std.proofs.Common.{◌≡◌, ◌==◌, ℕ, zero, suc, ◌+◌, ◌<◌, ◌≤◌, Bool, true, false, List, [], ◌∷◌, refl, ap, ◌∙◌, arith, inl, inr, eqb-true, eq-eqb}
use Rattle.std.specs.List.{list_any, list_all}
use Rattle.std.proofs.lemmas.Bool.{cases_eq, or_cases, or_left, or_right, and_from}
use Rattle.cg_base.specs.Lists.{count_up}
use Rattle.cg_base.specs.Sets.{has, with_member, is_within}
use Rattle.cg_base.specs.SetLaws.{has-with_member}
use Rattle.cg_base.specs.EachLaws.{list_all_kept_by}

-- a member that passes a test
pub list_any_in : (test : ℕ → Bool) (set : List ℕ) (p : ℕ) → has set p ≡ true → test p ≡ true → list_any test set ≡ true
list_any_in test [] p member is = absurd (let clash : false ≡ true = member in cc)
list_any_in test (q ∷ set) p member is = elim (or_cases (q == p) (has set p) member) [
  | inl here ↦ or_left (test q) (list_any test set) (ap test (eqb-true q p here) ∙ is)
  | inr later ↦ or_right (test q) (list_any test set) (list_any_in test set p later is)
]

-- all pass a test that each member passes
pub list_all_in : (test : ℕ → Bool) (set : List ℕ) → ((p : ℕ) → has set p ≡ true → test p ≡ true) → list_all test set ≡ true
list_all_in test [] each = refl
list_all_in test (q ∷ set) each = and_from (test q) (list_all test set)
    (each q (or_left (q == q) (has set q) (eq-eqb q q refl)))
    (list_all_in test set (λ p there. each p (or_right (q == p) (has set p) there)))

-- one more member leaves a set within
pub is_within_more : (s t : List ℕ) (p : ℕ) → is_within s t ≡ true → is_within s (with_member t p) ≡ true
is_within_more s t p within = list_all_kept_by (has t) (has (with_member t p))
    (λ q there. has-with_member t p q ∙ or_left (has t q) (p == q) there) s within

-- a number between those that are counted up is one of them
pub has_count_up : (from n k : ℕ) → from ≤ k → k < from + n → has (count_up from n) k ≡ true
has_count_up from zero k low high = absurd (omega arith)
has_count_up from (suc n) k low high = elim (cases_eq from k) [
  | inl here ↦ or_left (from == k) (has (count_up (suc from) n) k) (eq-eqb from k here)
  | inr later ↦
      or_right (from == k) (has (count_up (suc from) n) k) (has_count_up (suc from) n k (omega arith) (omega arith))
]
