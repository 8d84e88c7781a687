-- Where no test of two gives a reason, neither does.
use Rattle.std.proofs.Common.{◌≡◌, [], ◌∷◌, Option, Some, None, refl}
use Rattle.cg_base.specs.Lists.{first_some}
use Rattle.cg_group.specs.declared.reason.Reason.{Reason}

pub second-none : (a b : Option Reason) → first_some (a ∷ b ∷ []) ≡ None → b ≡ None
second-none None None is = refl
second-none None (Some reason) is = absurd cc
second-none (Some reason) b is = absurd cc
