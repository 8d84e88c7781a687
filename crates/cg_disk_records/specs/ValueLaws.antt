-- Values that are found to be the same are one.
use Rattle.std.proofs.Common.{◌≡◌, ℕ, List, [], ◌∷◌, Bool, true, false, ◌&&◌, Option, Some, None, refl, ap, ap₂, eqb-true}
use Rattle.std.specs.Prelude.{◌==◌, nat_eq}
use Rattle.std.specs.Bool.{beq}
use Rattle.std.specs.Cmp.Lexicographic.{pointwise}
use Rattle.std.proofs.lemmas.Bool.{and_parts}
use Rattle.cg_base.specs.declared.weighted.Weighted.{Weighted}
use Rattle.cg_base.specs.Ids.{same_id}
use Rattle.cg_base.specs.Weights.{same_weighted}
use Rattle.cg_base.specs.IdLaws.{same_id-is}
use Rattle.cg_records.specs.declared.primary.Primary.{Primary}
use Rattle.cg_records.specs.declared.vulnerable.Vulnerable.{Vulnerable}
use Rattle.cg_records.specs.declared.yellow.Yellow.{Yellow}
use Rattle.std.specs.Option.{option_eq}
use Rattle.cg_records.specs.contracts.primary.PrimaryPartialEq.TheImpl.{ghosts as primary}
use Rattle.cg_records.specs.contracts.vulnerable.VulnerablePartialEq.TheImpl.{ghosts as vulnerable}
use Rattle.cg_records.specs.contracts.yellow.YellowPartialEq.TheImpl.{ghosts as yellow}
use Rattle.cg_client.specs.Replica.{Held, yellow_of}
use Rattle.cg_disk_records.specs.Commit.{same_values}

pub one-list : {A : Type 0} (eq : A → A → Bool) → ((x y : A) → eq x y ≡ true → x ≡ y) → (xs ys : List A) →
    pointwise eq xs ys ≡ true → xs ≡ ys
one-list eq exact [] [] e = refl
one-list eq exact [] (y ∷ ys) e = absurd (let clash : false ≡ true = e in cc)
one-list eq exact (x ∷ xs) [] e = absurd (let clash : false ≡ true = e in cc)
one-list eq exact (x ∷ xs) (y ∷ ys) e =
    let parts = and_parts (eq x y) (pointwise eq xs ys) e in
    ap₂ (λ z zs. z ∷ zs) (exact x y parts.0) (one-list eq exact xs ys parts.1)

pub one-number : (m n : ℕ) → nat_eq m n ≡ true → m ≡ n
one-number m n e = eqb-true m n e

pub one-weighted : (m n : Weighted) → same_weighted m n ≡ true → m ≡ n
one-weighted m n e =
    let parts = and_parts (m.id == n.id) (m.weight == n.weight) e in
    λ i. record { id = eqb-true m.id n.id parts.0 i; weight = eqb-true m.weight n.weight parts.1 i }

pub one-prim : (a b : Primary) → primary.eq a b ≡ true → a ≡ b
one-prim a b e =
    let first = and_parts (nat_eq a.index b.index) (nat_eq a.conf b.conf && pointwise same_weighted a.set b.set) e in
    let rest = and_parts (nat_eq a.conf b.conf) (pointwise same_weighted a.set b.set) first.1 in
    λ i. record {
      index = one-number a.index b.index first.0 i;
      conf = one-number a.conf b.conf rest.0 i;
      set = one-list same_weighted one-weighted a.set b.set rest.1 i;
    }

pub one-vulnerable : (a b : Vulnerable) → vulnerable.eq a b ≡ true → a ≡ b
one-vulnerable a b e =
    let first = and_parts (nat_eq a.attempt b.attempt) (nat_eq a.from b.from
    && (pointwise nat_eq a.set b.set && pointwise nat_eq a.bits b.bits)) e in
    let second = and_parts (nat_eq a.from b.from) (pointwise nat_eq a.set b.set
    && pointwise nat_eq a.bits b.bits) first.1 in
    let third = and_parts (pointwise nat_eq a.set b.set) (pointwise nat_eq a.bits b.bits) second.1 in
    λ i. record {
      attempt = one-number a.attempt b.attempt first.0 i;
      from = one-number a.from b.from second.0 i;
      set = one-list nat_eq one-number a.set b.set third.0 i;
      bits = one-list nat_eq one-number a.bits b.bits third.1 i;
    }

pub one-record : (a b : Option Vulnerable) → option_eq vulnerable.eq a b ≡ true → a ≡ b
one-record None None e = refl
one-record (Some a) (Some b) e = ap Some (one-vulnerable a b e)
one-record None (Some b) e = absurd (let clash : false ≡ true = e in cc)
one-record (Some a) None e = absurd (let clash : false ≡ true = e in cc)

pub one-bool : (a b : Bool) → beq a b ≡ true → a ≡ b
one-bool true true e = refl
one-bool false false e = refl
one-bool true false e = absurd (let clash : false ≡ true = e in cc)
one-bool false true e = absurd (let clash : false ≡ true = e in cc)

pub one-yellow : (a b : Yellow) → yellow.eq a b ≡ true → a ≡ b
one-yellow a b e =
    let parts = and_parts (beq a.valid b.valid) (pointwise same_id a.list b.list) e in
    λ i. record {
      valid = one-bool a.valid b.valid parts.0 i;
      list = one-list same_id same_id-is a.list b.list parts.1 i;
    }

-- the values of what a replica holds
pub record HaveOneValue (old new : Held) : Type 0 where
  pub prim : old.prim ≡ new.prim
  pub attempt_index : old.attempt_index ≡ new.attempt_index
  pub vulnerable : old.vulnerable ≡ new.vulnerable
  pub yellow : yellow_of old ≡ yellow_of new

pub one-value : (old new : Held) → same_values old new ≡ true → HaveOneValue old new
unfolding same_values
one-value old new e =
    let p = primary.eq old.prim new.prim in
    let n = old.attempt_index == new.attempt_index in
    let v = option_eq vulnerable.eq old.vulnerable new.vulnerable in
    let y = yellow.eq (yellow_of old) (yellow_of new) in
    let first = and_parts ((p && n) && v) y e in
    let second = and_parts (p && n) v first.0 in
    let third = and_parts p n second.0 in
    record {
      prim = one-prim old.prim new.prim third.0;
      attempt_index = eqb-true old.attempt_index new.attempt_index third.1;
      vulnerable = one-record old.vulnerable new.vulnerable second.1;
      yellow = one-yellow (yellow_of old) (yellow_of new) first.1;
    }
