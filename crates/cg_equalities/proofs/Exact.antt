-- Equalities that hold of equal values alone.
use Rattle.std.proofs.Common.{◌≡◌, Bool, true, false, ◌↔◌, ap, subst}
use Rattle.std.proofs.lemmas.Slice.Eq.{bytes_eq-Decides}
use Rattle.std.specs.Cmp.{signed_Decides}
use Rattle.cg_action.specs.declared.value.Value.{Value}
use Rattle.cg_action.specs.declared.value.Value.TheVariants.{Text, Int}
use Rattle.cg_action.specs.contracts.value.ValuePartialEq.TheImpl.{ghosts as value}
use Rattle.cg_action.specs.contracts.value.ValueEq.TheImpl.Laws.{laws-law as value_equals}
use Rattle.cg_records.specs.declared.primary.Primary.{Primary}
use Rattle.cg_records.specs.contracts.primary.PrimaryPartialEq.TheImpl.{ghosts as primary}
use Rattle.cg_records.specs.contracts.primary.PrimaryEq.TheImpl.Laws.{laws-law as primary_equals}
use Rattle.cg_records.specs.declared.vulnerable.Vulnerable.{Vulnerable}
use Rattle.cg_records.specs.contracts.vulnerable.VulnerablePartialEq.TheImpl.{ghosts as vulnerable}
use Rattle.cg_records.specs.contracts.vulnerable.VulnerableEq.TheImpl.Laws.{laws-law as vulnerable_equals}
use Rattle.cg_records.specs.declared.yellow.Yellow.{Yellow}
use Rattle.cg_records.specs.contracts.yellow.YellowPartialEq.TheImpl.{ghosts as yellow}
use Rattle.cg_records.specs.contracts.yellow.YellowEq.TheImpl.Laws.{laws-law as yellow_equals}
use Rattle.cg_report.specs.declared.line.Line.{Line}
use Rattle.cg_report.specs.contracts.line.LinePartialEq.TheImpl.{ghosts as line}
use Rattle.cg_disk_records.specs.ValueLaws.{one-prim, one-vulnerable, one-yellow}
use Rattle.cg_equalities.specs.LineLaws.{one-line, self-line}

-- an equality that holds of one value alone, and of each value and itself
exact : {A : Type 0} (eq : A → A → Bool) → ((a b : A) → eq a b ≡ true → a ≡ b) → ((a : A) → eq a a ≡ true) → (a b : A) → (eq a b ≡ true) ↔ (a ≡ b)
exact eq one self a b = (one a b, λ is. subst (λ x. eq a x ≡ true) is (self a))

one-value : (a b : Value) → value.eq a b ≡ true → a ≡ b
one-value (Text s) (Text t) e = ap Text ((bytes_eq-Decides s t).0 e)
one-value (Int m) (Int n) e = ap Int ((signed_Decides m n).0 e)
one-value (Text s) (Int n) e = absurd (let clash : false ≡ true = e in cc)
one-value (Int m) (Text t) e = absurd (let clash : false ≡ true = e in cc)

pub values-are-one : (a b : Value) → (value.eq a b ≡ true) ↔ (a ≡ b)
values-are-one = exact value.eq one-value value_equals.refl

pub primaries-are-one : (a b : Primary) → (primary.eq a b ≡ true) ↔ (a ≡ b)
primaries-are-one = exact primary.eq one-prim primary_equals.refl

pub records-are-one : (a b : Vulnerable) → (vulnerable.eq a b ≡ true) ↔ (a ≡ b)
records-are-one = exact vulnerable.eq one-vulnerable vulnerable_equals.refl

pub yellows-are-one : (a b : Yellow) → (yellow.eq a b ≡ true) ↔ (a ≡ b)
yellows-are-one = exact yellow.eq one-yellow yellow_equals.refl

pub lines-are-one : (a b : Line) → (line.eq a b ≡ true) ↔ (a ≡ b)
lines-are-one = exact line.eq one-line self-line
