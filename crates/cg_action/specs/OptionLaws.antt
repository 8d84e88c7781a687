-- An equality of values makes one of values or none.
use Rattle.std.proofs.Common.{◌≡◌, Bool, true, refl}
use Rattle.std.specs.Prelude.{Option, Some, None}
use Rattle.std.specs.Option.{option_eq}
use Rattle.std.specs.Cmp.{IsPartialEquivalence}

module _ {K : Type 0} {E : K → K → Bool} (e : IsPartialEquivalence E) where
  symm : (p q : Option K) → option_eq E p q ≡ option_eq E q p
  symm None None = refl
  symm None (Some y) = refl
  symm (Some x) None = refl
  symm (Some x) (Some y) = e.symm x y

  trans : (p q s : Option K) → option_eq E p q ≡ true → option_eq E q s ≡ true → option_eq E p s ≡ true
  trans None None s h k = k
  trans None (Some y) s h k = absurd cc
  trans (Some x) None s h k = absurd cc
  trans (Some x) (Some y) None h k = k
  trans (Some x) (Some y) (Some z) h k = e.trans x y z h k

  pub options_per : IsPartialEquivalence (option_eq E)
  options_per = record { symm = symm; trans = trans }
