-- What the members of an exchange know together: the newest primary component is one that a summary has, and the bits of a record are
-- those of all that have it.
use Rattle.std.proofs.Common.{◌⊎◌, ◌≡◌, ℕ, ◌≤◌, true, false, cond, ◌||◌, List, [], ◌∷◌, map, filter, fold, max, Option, Some, None, refl, sym, ap, ◌∙◌, subst, inl, inr, arith, eqb-true, eq-eqb, if◌then◌else◌}
use Rattle.std.specs.Prelude.{◌==◌, nat_lt}
use Rattle.std.specs.Option.{option_map_or}
use Rattle.std.proofs.lemmas.Bool.{cases_Bool, cases_order, cond-true, cond-false, or_right, and_parts}
use Rattle.cg_base.specs.Sets.{has, union}
use Rattle.cg_base.specs.Lists.{greatest}
use Rattle.cg_base.specs.SetLaws.{has-union}
use Rattle.cg_records.specs.declared.vulnerable.Vulnerable.{Vulnerable}
use Rattle.cg_knowledge.specs.declared.summary.Summary.{Summary}
use Rattle.cg_knowledge.specs.Summaries.{senders, lower, lowest}
use Rattle.cg_knowledge.specs.Primary.{newest_index, knows_prim, newest, known_primary, no_prim}
use Rattle.cg_knowledge.specs.Vulnerable.{with_bits, all_bits, decided, is_cleared}
use Rattle.cg_agree_lemmas.specs.EndCovers.{OfEach, lowest-of}
use Rattle.cg_agree_lemmas.specs.EndCases.{has_bit, Witness, all-bits-of}
use Rattle.cg_agree_lemmas.specs.EndQuorum.{SentBy, senders-of}

-- ---- the newest index

bound-from : (heard : List Summary) (a : ℕ) → OfEach (λ s. s.prim.index ≤ fold max a (map (λ s. s.prim.index) heard)) heard × (a ≤ fold max a (map (λ s. s.prim.index) heard))
bound-from [] a = (tt, (omega arith))
bound-from (s ∷ heard) a =
    let rest = bound-from heard (max a s.prim.index) in
    let high = rest.1 in
    (((omega arith), rest.0), (omega arith))

-- no summary has a greater index
pub each-bounded : (heard : List Summary) → OfEach (λ s. s.prim.index ≤ newest_index heard) heard
unfolding newest_index
each-bounded heard = (bound-from heard 0).0

reached-from : (P : Summary → Type 0) (heard : List Summary) (a : ℕ) → OfEach P heard →
    (fold max a (map (λ s. s.prim.index) heard) ≡ a) ⊎ ((s : Summary) × P s × (s.prim.index ≡ fold max a (map (λ s. s.prim.index) heard)))
reached-from P [] a each = inl refl
reached-from P (s ∷ heard) a each = elim (reached-from P heard (max a s.prim.index) each.1) [
  | inl none ↦ elim (max-cases a s.prim.index) [
    | inl old ↦ inl (none ∙ old)
    | inr new ↦ inr (s, each.0, sym (none ∙ new))
  ]
  | inr some ↦ inr some
]
  where
    max-cases : (a n : ℕ) → (max a n ≡ a) ⊎ (max a n ≡ n)
    max-cases a n = elim (cases_order a n) [
      | inl same ↦ inl (omega arith)
      | inr apart ↦ elim apart [ inl lt ↦ inr (omega arith) | inr gt ↦ inl (omega arith) ]
    ]

-- ---- the known primary component

newest-each : (P : Summary → Type 0) (index : ℕ) (heard : List Summary) → OfEach P heard → OfEach (λ s. P s × (s.prim.index ≡ index)) (filter (knows_prim index) heard)
newest-each P index [] each = tt
newest-each P index (s ∷ heard) each = elim (cases_Bool (s.prim.index == index)) [
  | inl is ↦ subst (λ b. OfEach (λ s. P s × (s.prim.index ≡ index)) (cond b (s ∷ filter (knows_prim index) heard) (filter (knows_prim index) heard))) (sym is)
      ((each.0, eqb-true s.prim.index index is), newest-each P index heard each.1)
  | inr isnt ↦ subst (λ b. OfEach (λ s. P s × (s.prim.index ≡ index)) (cond b (s ∷ filter (knows_prim index) heard) (filter (knows_prim index) heard))) (sym isnt)
      (newest-each P index heard each.1)
]

lower-some : (list : List Summary) (s : Summary) → (low : Summary) × (fold lower (Some s) list ≡ Some low)
lower-some [] s = (s, refl)
lower-some (t ∷ list) s = elim (cases_Bool (nat_lt t.id s.id)) [
  | inl lt ↦ subst (λ b. (low : Summary) × (fold lower (cond b (Some t) (Some s)) list ≡ Some low)) (sym lt) (lower-some list t)
  | inr ge ↦ subst (λ b. (low : Summary) × (fold lower (cond b (Some t) (Some s)) list ≡ Some low)) (sym ge) (lower-some list s)
]

-- where a summary has the index, somebody is lowest among those that have it
some-newest : (index : ℕ) (heard : List Summary) → (OfEach (λ s. (s.prim.index == index) ≡ false) heard → ⊥) → (low : Summary) × (lowest (filter (knows_prim index) heard) ≡ Some low)
unfolding lowest
some-newest index [] some = absurd (some tt)
some-newest index (s ∷ heard) some = elim (cases_Bool (s.prim.index == index)) [
  | inl is ↦ subst (λ b. (low : Summary) × (fold lower None (cond b (s ∷ filter (knows_prim index) heard) (filter (knows_prim index) heard)) ≡ Some low)) (sym is)
      (lower-some (filter (knows_prim index) heard) s)
  | inr isnt ↦ subst (λ b. (low : Summary) × (fold lower None (cond b (s ∷ filter (knows_prim index) heard) (filter (knows_prim index) heard)) ≡ Some low)) (sym isnt)
      (some-newest index heard (λ rest. some (isnt, rest)))
]

-- it is what one of the members told, and that one's index is the greatest
pub record IsKnown (P : Summary → Type 0) (heard : List Summary) : Type 0 where
  pub who : Summary
  pub holds : P who
  pub prim : known_primary heard ≡ who.prim
  pub index : who.prim.index ≡ newest_index heard

index-zero : (heard : List Summary) (n : ℕ) → n ≡ 0 → OfEach (λ s. s.prim.index ≤ n) heard → OfEach (λ s. (s.prim.index == n) ≡ false) heard → heard ≡ []
index-zero [] n e low none = refl
index-zero (s ∷ heard) n e low none = absurd (let at : s.prim.index ≡ n = let le = low.0 in omega arith in let clash : true ≡ false = sym (eq-eqb s.prim.index n at) ∙ none.0 in cc)

attained : (heard : List Summary) → (heard ≡ [] → ⊥) → OfEach (λ s. (s.prim.index == newest_index heard) ≡ false) heard → ⊥
unfolding newest_index
attained heard some none = elim (reached-from (λ s. (s.prim.index == greatest (map (λ s. s.prim.index) heard)) ≡ false) heard 0 none) [
  | inl zero ↦ some (index-zero heard (greatest (map (λ s. s.prim.index) heard)) zero (each-bounded heard) none)
  | inr at ↦ let clash : true ≡ false = sym (eq-eqb at.0.prim.index (greatest (map (λ s. s.prim.index) heard)) at.2) ∙ at.1 in cc
]

pub known-of : (P : Summary → Type 0) (heard : List Summary) → (heard ≡ [] → ⊥) → OfEach P heard → IsKnown P heard
unfolding known_primary newest
known-of P heard some each =
    let low = some-newest (newest_index heard) heard (attained heard some) in
    let is = lowest-of (λ s. P s × (s.prim.index ≡ newest_index heard)) (filter (knows_prim (newest_index heard)) heard) low.0 low.1 (newest-each P (newest_index heard) heard each) in
    record { who = low.0; holds = is.0; prim = ap (λ (o : Option Summary). option_map_or (λ s. s.prim) o no_prim) low.1; index = is.1 }

-- ---- bits

bits-stay : (attempt : ℕ) (heard : List Summary) (bits : List ℕ) (r : ℕ) → has bits r ≡ true → has (fold (with_bits attempt) bits heard) r ≡ true
bits-stay attempt [] bits r is = is
bits-stay attempt (s ∷ heard) bits r is = bits-stay attempt heard (with_bits attempt bits s) r (at s.vulnerable) where
  at : (o : Option Vulnerable) → has (option_map_or (λ v. if v.attempt == attempt then union bits v.bits else bits) o bits) r ≡ true
  at None = is
  at (Some v) = elim (cases_Bool (v.attempt == attempt)) [
    | inl this ↦ subst (λ b. has (cond b (union bits v.bits) bits) r ≡ true) (sym this) (has-union bits v.bits r ∙ ap (λ b. b || has v.bits r) is)
    | inr other ↦ subst (λ b. has (cond b (union bits v.bits) bits) r ≡ true) (sym other) is
  ]

bits-here : (attempt : ℕ) (s : Summary) (bits : List ℕ) (r : ℕ) → has_bit attempt r s.vulnerable ≡ true → has (with_bits attempt bits s) r ≡ true
bits-here attempt s bits r e = at s.vulnerable e where
  at : (o : Option Vulnerable) → has_bit attempt r o ≡ true → has (option_map_or (λ v. if v.attempt == attempt then union bits v.bits else bits) o bits) r ≡ true
  at None e = absurd (let clash : false ≡ true = e in cc)
  at (Some v) e =
      let parts = and_parts (v.attempt == attempt) (has v.bits r) e in
      subst (λ b. has (cond b (union bits v.bits) bits) r ≡ true) (sym parts.0) (has-union bits v.bits r ∙ or_right (has bits r) (has v.bits r) parts.1)

bits-from : (attempt : ℕ) (heard : List Summary) (bits : List ℕ) → OfEach (λ s. (r : ℕ) → has_bit attempt r s.vulnerable ≡ true → has (fold (with_bits attempt) bits heard) r ≡ true) heard
bits-from attempt [] bits = tt
bits-from attempt (s ∷ heard) bits =
    ((λ r e. bits-stay attempt heard (with_bits attempt bits s) r (bits-here attempt s bits r e)), bits-from attempt heard (with_bits attempt bits s))

-- each bit of a member's record is there
pub bits-all : (heard : List Summary) (attempt : ℕ) → OfEach (λ s. (r : ℕ) → has_bit attempt r s.vulnerable ≡ true → has (all_bits heard attempt) r ≡ true) heard
unfolding all_bits
bits-all heard attempt = bits-from attempt heard []

-- and each bit that is there is one of a member's record
pub bits-witnessed : (P : Summary → Type 0) (heard : List Summary) (attempt r : ℕ) → has (all_bits heard attempt) r ≡ true → OfEach P heard → Witness P attempt r
unfolding all_bits
bits-witnessed P heard attempt r e each = elim (all-bits-of P attempt heard [] r e each) [
  | inl none ↦ absurd (let clash : false ≡ true = none in cc)
  | inr some ↦ some
]

-- ---- the summary of a sender

pub sender-told : (P : Summary → Type 0) (heard : List Summary) (p : ℕ) → has (senders heard) p ≡ true → OfEach P heard → SentBy P p
unfolding senders
sender-told P heard p e each = elim (senders-of P heard [] p e each) [
  | inl none ↦ absurd (let clash : false ≡ true = none in cc)
  | inr some ↦ some
]

-- somebody has told something where there is a sender
pub some-sender : (heard : List Summary) (p : ℕ) → has (senders heard) p ≡ true → heard ≡ [] → ⊥
unfolding senders
some-sender heard p e none = let clash : false ≡ true = sym (ap (λ (xs : List Summary). has (senders xs) p) none) ∙ e in cc

-- ---- what becomes of a record

-- a record that stays has all bits
pub data Becomes (heard : List Summary) (v : Vulnerable) : Type 0 where
  Cleared : (cleared : is_cleared heard v ≡ true) (none : decided heard (Some v) ≡ None) → Becomes heard v
  Kept : (kept : is_cleared heard v ≡ false) (same : decided heard (Some v) ≡ Some (record v { bits = all_bits heard v.attempt })) → Becomes heard v

pub becomes : (heard : List Summary) (v : Vulnerable) → Becomes heard v
becomes heard v = elim (cases_Bool (is_cleared heard v)) [
  | inl is ↦ Cleared is (cond-true (is_cleared heard v) None (Some (record v { bits = all_bits heard v.attempt })) is)
  | inr isnt ↦ Kept isnt (cond-false (is_cleared heard v) None (Some (record v { bits = all_bits heard v.attempt })) isnt)
]
