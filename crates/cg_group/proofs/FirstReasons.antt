-- The first reason that is there.
use Rattle.std.proofs.Common.{◌≡◌, List, [], ◌∷◌, Option, Some, None, refl, ap}
use Rattle.cg_base.specs.Lists.{first_some}

module _ {X : Type 0} where
  pub first_here : (o : Option X) (rest : List (Option X)) (x : X) → o ≡ Some x → first_some (o ∷ rest) ≡ Some x
  first_here o rest x e = ap (λ z. first_some (z ∷ rest)) e

  pub first_later : (o : Option X) (rest : List (Option X)) → o ≡ None → first_some (o ∷ rest) ≡ first_some rest
  first_later o rest e = ap (λ z. first_some (z ∷ rest)) e

  pub first_last : (o : Option X) → first_some (o ∷ []) ≡ o
  first_last None = refl
  first_last (Some x) = refl

  -- two tests in one
  pub first_two : (a b : Option X) (rest : List (Option X)) → first_some (a ∷ b ∷ rest) ≡ first_some (first_some (a ∷ b ∷ []) ∷ rest)
  first_two None None rest = refl
  first_two None (Some x) rest = refl
  first_two (Some x) b rest = refl
