-- When nothing is there, and that only one value is.
use Rattle.std.proofs.Common.{◌≡◌, true, false, List, ◌∷◌, Option, Some, None, refl, sym, ◌∙◌}
use Rattle.std.specs.Prelude.{is_some, option_map}
use Rattle.std.specs.Option.{option_or}
use Rattle.std.proofs.lemmas.Option.{same_Some}
use Rattle.cg_base.specs.Lists.{first_some}

pub option_map_none : {X Y : Type 0} (f : X → Y) (o : Option X) → option_map f o ≡ None → o ≡ None
option_map_none f None e = refl
option_map_none f (Some x) e = absurd (cc)

pub is_some_false : {X : Type 0} (o : Option X) → is_some o ≡ false → o ≡ None
is_some_false None e = refl
is_some_false (Some x) e = absurd (let clash : true ≡ false = e in cc)

pub option_or_none : {X : Type 0} (o : Option X) → option_or o None ≡ o
option_or_none None = refl
option_or_none (Some x) = refl

-- an option has one value
pub one_value : {X : Type 0} (o : Option X) (x y : X) → o ≡ Some x → o ≡ Some y → x ≡ y
one_value o x y here there = same_Some x y (sym here ∙ there)

-- where no first one is there, none of them is
pub first_none : {X : Type 0} (o : Option X) (rest : List (Option X)) → first_some (o ∷ rest) ≡ None →
    (o ≡ None) × (first_some rest ≡ None)
first_none None rest e = (refl, e)
first_none (Some x) rest e = absurd (cc)
