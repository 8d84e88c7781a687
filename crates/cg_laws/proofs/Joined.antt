-- Sets that grow: it doesn't matter which of two members, or of two sets, is joined to them first. They needn't ascend.
use Rattle.std.proofs.Common.{◌≡◌, ℕ, ◌<◌, Bool, true, false, cond, eqb, List, [], ◌∷◌, Option, Some, None, inl, inr, refl, sym, ap, ◌∙◌, arith}
use Rattle.std.specs.Option.{option_map_or}
use Rattle.std.proofs.lemmas.Bool.{cases_order}
use Rattle.cg_base.specs.Sets.{with_member, union}
use Rattle.cg_base.specs.SetLaws.{with_member-same, with_member-front, with_member-later}
use Rattle.cg_records.specs.declared.vulnerable.Vulnerable.{Vulnerable}
use Rattle.cg_knowledge.specs.Vulnerable.{with_bits}
use Rattle.cg_laws.proofs.Near.{Commutes}

-- ---- one more member

-- the lower of two is joined before the higher, or behind it
lower_first : (set : List ℕ) (p r : ℕ) → p < r → with_member (with_member set p) r ≡ with_member (with_member set r) p
lower_first [] p r lt = with_member-later p [] r lt ∙ sym (with_member-front r [] p lt)
lower_first (q ∷ set) p r lt = elim (cases_order p q) [
  | inl same ↦
      ap (λ s. with_member s r) (with_member-same q set p same) ∙ with_member-later q set r (omega arith)
      ∙ sym (ap (λ s. with_member s p) (with_member-later q set r (omega arith)) ∙ with_member-same q (with_member set r) p same)
  | inr other ↦ elim other [
    | inl front ↦
        ap (λ s. with_member s r) (with_member-front q set p front) ∙ with_member-later p (q ∷ set) r lt ∙ sym (in_front front)
    | inr later ↦
        ap (λ s. with_member s r) (with_member-later q set p later) ∙ with_member-later q (with_member set p) r (omega arith)
        ∙ ap (λ s. q ∷ s) (lower_first set p r lt)
        ∙ sym (ap (λ s. with_member s p) (with_member-later q set r (omega arith)) ∙ with_member-later q (with_member set r) p later)
  ]
]
  where
    in_front : p < q → with_member (with_member (q ∷ set) r) p ≡ p ∷ with_member (q ∷ set) r
    in_front front = elim (cases_order r q) [
      | inl alike ↦ rw (with_member-same q set r alike) (with_member-front q set p front)
      | inr other ↦ elim other [
        | inl before ↦ rw (with_member-front q set r before) (with_member-front r (q ∷ set) p lt)
        | inr behind ↦ rw (with_member-later q set r behind) (with_member-front q (with_member set r) p front)
      ]
    ]

pub with_member-swapped : (set : List ℕ) (p r : ℕ) → with_member (with_member set p) r ≡ with_member (with_member set r) p
with_member-swapped set p r = elim (cases_order p r) [
  | inl same ↦ ap (λ x. with_member (with_member set x) r) same ∙ ap (λ x. with_member (with_member set r) x) (sym same)
  | inr other ↦ elim other [ inl lower ↦ lower_first set p r lower | inr higher ↦ sym (lower_first set r p higher) ]
]

-- ---- one more set

member_behind : (s t : List ℕ) (p : ℕ) → union (with_member s p) t ≡ with_member (union s t) p
member_behind s [] p = refl
member_behind s (q ∷ t) p = ap (λ x. union x t) (with_member-swapped s p q) ∙ member_behind (with_member s q) t p

pub union-swapped : (s a b : List ℕ) → union (union s a) b ≡ union (union s b) a
union-swapped s [] b = refl
union-swapped s (p ∷ a) b = union-swapped (with_member s p) a b ∙ ap (λ x. union x a) (member_behind s b p)

-- ---- the bits of vulnerable members

-- the bits with others, where the test passes
chosen_bits-swapped : (x y : Bool) (bits a b : List ℕ)
    → cond y (union (cond x (union bits a) bits) b) (cond x (union bits a) bits) ≡ cond x (union (cond y (union bits b) bits) a) (cond y (union bits b) bits)
chosen_bits-swapped true true bits a b = union-swapped bits a b
chosen_bits-swapped true false bits a b = refl
chosen_bits-swapped false true bits a b = refl
chosen_bits-swapped false false bits a b = refl

abbrev bits_with : ℕ → List ℕ → Option Vulnerable → List ℕ
bits_with attempt bits o = option_map_or (λ v. cond (eqb v.attempt attempt) (union bits v.bits) bits) o bits

bits_with-swapped : (attempt : ℕ) (bits : List ℕ) (o p : Option Vulnerable) → bits_with attempt (bits_with attempt bits o) p ≡ bits_with attempt (bits_with attempt bits p) o
bits_with-swapped attempt bits None None = refl
bits_with-swapped attempt bits None (Some w) = refl
bits_with-swapped attempt bits (Some v) None = refl
bits_with-swapped attempt bits (Some v) (Some w) = chosen_bits-swapped (eqb v.attempt attempt) (eqb w.attempt attempt) bits v.bits w.bits

pub with_bits-commutes : (attempt : ℕ) → Commutes (with_bits attempt)
with_bits-commutes attempt s t apart bits = bits_with-swapped attempt bits s.vulnerable t.vulnerable
