-- Sums after one of them has changed, and with those of certain creators taken over.
use Rattle.std.proofs.Common.{◌≡◌, ℕ, Bool, true, false, cond, ◌&&◌, eqb, List, ◌∷◌, refl, sym, ap, ◌∙◌}
use Rattle.std.specs.Prelude.{Option, Some, ℤ, pos, ◌+ℤ◌}
use Rattle.std.specs.Option.{unwrap_or, option_or}
use Rattle.std.specs.Str.{bytes_eq}
use Rattle.std.specs.Map.{lookup}
use Rattle.std.specs.Cmp.Lexicographic.{bytes_decides, nat_list_eq_equiv}
use Rattle.std.proofs.lemmas.Bool.{and_parts, eqb-true}
use Rattle.std.proofs.lemmas.Cmp.{nat_eq_equiv}
use Rattle.cg_text.specs.Order.{same_text}
use Rattle.cg_relaxed.specs.declared.sum_key.SumKey.{SumKey}
use Rattle.cg_relaxed.specs.declared.write.Write.{Write}
use Rattle.cg_relaxed.specs.Writes.{later}
use Rattle.cg_relaxed.specs.RelaxedState.{same_part, part, sum_at, write_at, taken_over, merged}

pub same-is : (a b : SumKey) → same_part a b ≡ true → a ≡ b
same-is a b same =
    let parts = and_parts (eqb a.creator b.creator) (bytes_eq a.key b.key) same in
    let creator : a.creator ≡ b.creator = eqb-true a.creator b.creator parts.0 in
    let key : a.key ≡ b.key = (bytes_decides a.key b.key).0 parts.1 in
    λ i. record { creator = creator i; key = key i }

pub same-flipped : (a b : SumKey) → same_part a b ≡ same_part b a
same-flipped a b =
    ap (λ t. t && bytes_eq a.key b.key) (nat_eq_equiv.symm a.creator b.creator)
    ∙ ap (λ t. eqb b.creator a.creator && t) (nat_list_eq_equiv.symm a.key b.key)

-- a sum to which something was added
pub summed : (old new : List (SumKey × ℤ)) (k : SumKey) (by v : ℤ) →
    ((q : SumKey) → lookup (same_part q) new ≡ cond (same_part k q) (Some v) (lookup (same_part q) old)) →
    v ≡ sum_at old k.key k.creator +ℤ by → (key : List ℕ) (p : ℕ) →
    sum_at new key p ≡ cond (same_part (part key p) k) (sum_at old key p +ℤ by) (sum_at old key p)
summed old new k by v found is key p =
    let q = part key p in
    ap (λ o. unwrap_or o (pos 0)) (found q)
    ∙ ap (λ b. unwrap_or (cond b (Some v) (lookup (same_part q) old)) (pos 0)) (same-flipped k q)
    ∙ at (same_part q k) refl
  where
    at : (b : Bool) → same_part (part key p) k ≡ b →
        unwrap_or (cond b (Some v) (lookup (same_part (part key p)) old)) (pos 0) ≡ cond b (sum_at old key p +ℤ by) (sum_at old key p)
    at true same = is ∙ ap (λ x. sum_at old x.key x.creator +ℤ by) (sym (same-is (part key p) k same))
    at false apart = refl

-- one more sum is taken over, before the others
pub takes : (test : ℕ → Bool) (rest base old new : List (SumKey × ℤ)) (k : SumKey) (v : ℤ) (q : SumKey) → test k.creator ≡ true →
    lookup (same_part q) new ≡ cond (same_part k q) (Some v) (lookup (same_part q) old) →
    lookup (same_part q) old ≡ taken_over test rest base q →
    lookup (same_part q) new ≡ taken_over test ((k, v) ∷ rest) base q
takes test rest base old new k v q wanted found before =
    found ∙ ap (λ b. cond b (Some v) (lookup (same_part q) old)) (same-flipped k q) ∙ at (same_part q k) refl
  where
    at : (b : Bool) → same_part q k ≡ b →
        cond b (Some v) (lookup (same_part q) old)
        ≡ cond (test q.creator) (option_or (cond b (Some v) (lookup (same_part q) rest)) (lookup (same_part q) base)) (lookup (same_part q) base)
    at true same =
        let is : test q.creator ≡ true = ap (λ (x : SumKey). test x.creator) (same-is q k same) ∙ wanted in
        rw is refl
    at false apart = before

-- one is passed over
pub passes : (test : ℕ → Bool) (rest base old : List (SumKey × ℤ)) (k : SumKey) (v : ℤ) (q : SumKey) → test k.creator ≡ false →
    lookup (same_part q) old ≡ taken_over test rest base q → lookup (same_part q) old ≡ taken_over test ((k, v) ∷ rest) base q
passes test rest base old k v q unwanted before = before ∙ at (same_part q k) refl
  where
    at : (b : Bool) → same_part q k ≡ b →
        cond (test q.creator) (option_or (lookup (same_part q) rest) (lookup (same_part q) base)) (lookup (same_part q) base)
        ≡ cond (test q.creator) (option_or (cond b (Some v) (lookup (same_part q) rest)) (lookup (same_part q) base)) (lookup (same_part q) base)
    at true same =
        let is : test q.creator ≡ false = ap (λ (x : SumKey). test x.creator) (same-is q k same) ∙ unwanted in
        rw is refl
    at false apart = refl

-- one more register is merged, before the others
pub merges : (rest : List (List ℕ × Write)) (base old now : Option Write) (k : List ℕ) (v w : Write) (other : List ℕ → Option Write) (q : List ℕ) →
    now ≡ cond (same_text k q) (Some w) old → Some w ≡ later (other k) (Some v) →
    old ≡ merged (write_at rest q) (other q) base → now ≡ merged (write_at ((k, v) ∷ rest) q) (other q) base
merges rest base old now k v w other q found is before =
    found ∙ ap (λ b. cond b (Some w) old) (nat_list_eq_equiv.symm k q) ∙ at (same_text q k) refl
  where
    at : (b : Bool) → same_text q k ≡ b → cond b (Some w) old ≡ merged (cond b (Some v) (write_at rest q)) (other q) base
    at true same = is ∙ ap (λ x. later (other x) (Some v)) (sym ((bytes_decides q k).0 same))
    at false apart = before
