-- The order of texts by bytes: one of two comes first, or they are one.
use Rattle.std.proofs.Common.{◌≡◌, ℕ, Bool, true, false, List, refl, sym, ap, ◌∙◌, true≢false}
use Rattle.std.specs.declared.cmp.Ordering.{Ordering}
use Rattle.std.specs.declared.cmp.Ordering.TheVariants.{Less, Equal, Greater}
use Rattle.std.specs.Ordering.{is_lt, is_eq, ordering_reverse, nat_cmp}
use Rattle.std.specs.Cmp.Lexicographic.{slice_cmp, nat_list_cmp_total, texts_ties}
use Rattle.std.proofs.lemmas.Slice.Eq.{bytes_eq-Decides}
use Rattle.cg_text.specs.Order.{same_text, text_before}
use Rattle.cg_text.specs.OrderLaws.{same_text-is}

abbrev compared : List ℕ → List ℕ → Ordering
compared = slice_cmp nat_cmp

less_from : (o : Ordering) → is_lt o ≡ true → o ≡ Less
less_from Less e = refl
less_from Equal e = absurd cc
less_from Greater e = absurd cc

-- ---- the two are one

pub same-refl : (s : List ℕ) → same_text s s ≡ true
same-refl s = (bytes_eq-Decides s s).1 refl

same-sym_by : (s t : List ℕ) → same_text s t ≡ false → (c : Bool) → same_text t s ≡ c → c ≡ false
same-sym_by s t e true f = absurd (let yes : same_text s t ≡ true = rw (same_text-is t s f) (same-refl s) in
    true≢false (sym yes ∙ e))
same-sym_by s t e false f = refl

pub same-sym : (s t : List ℕ) (b : Bool) → same_text s t ≡ b → same_text t s ≡ b
same-sym s t true e = rw (same_text-is s t e) (same-refl t)
same-sym s t false e = same-sym_by s t e (same_text t s) refl

-- ---- one is before the other

pub before-trans : (s t u : List ℕ) → text_before s t ≡ true → text_before t u ≡ true → text_before s u ≡ true
before-trans s t u p q =
    ap is_lt (nat_list_cmp_total.trans s t u (less_from (compared s t) p) (less_from (compared t u) q))

reversed : (o : Ordering) → is_lt o ≡ true → is_lt (ordering_reverse o) ≡ false
reversed Less e = refl
reversed Equal e = absurd cc
reversed Greater e = absurd cc

pub before-back : (s t : List ℕ) → text_before s t ≡ true → text_before t s ≡ false
before-back s t p = ap is_lt (nat_list_cmp_total.antisymm t s) ∙ reversed (compared s t) p

apart : (o : Ordering) → is_lt o ≡ true → is_eq o ≡ false
apart Less e = refl
apart Equal e = absurd cc
apart Greater e = absurd cc

pub before-apart : (s t : List ℕ) → text_before s t ≡ true → same_text s t ≡ false
before-apart s t p = texts_ties s t ∙ apart (compared s t) p

third : (o : Ordering) → is_eq o ≡ false → is_lt o ≡ false → is_lt (ordering_reverse o) ≡ true
third Less e l = absurd cc
third Equal e l = absurd cc
third Greater e l = refl

pub before-other : (s t : List ℕ) → same_text s t ≡ false → text_before s t ≡ false → text_before t s ≡ true
before-other s t e l = ap is_lt (nat_list_cmp_total.antisymm t s) ∙ third (compared s t) (sym (texts_ties s t) ∙ e) l
