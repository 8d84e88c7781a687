-- The first reason that is there stays the first before further tests.
use Rattle.std.proofs.Common.{◌≡◌, List, [], ◌∷◌, ◌++◌, Option, Some, None, Ok, Err, refl}
use Rattle.cg_base.specs.Lists.{first_some}
use Rattle.cg_group.specs.declared.reason.Reason.{Reason}
use Rattle.cg_group.specs.declared.error.GroupErr.TheVariants.{Refused}
use Rattle.cg_world_events.specs.Happening.{admits}

pub first_before : {X : Type 0} (tests more : List (Option X)) (x : X) → first_some tests ≡ Some x → first_some (tests ++ more) ≡ Some x
first_before [] more x e = absurd (let clash : None ≡ Some x = e in cc)
first_before (None ∷ tests) more x e = first_before tests more x e
first_before (Some y ∷ tests) more x e = e

-- where an event is admitted there is no reason
pub admitted : (o : Option Reason) (x : Unit {0}) → Ok x ≡ admits o → o ≡ None
admitted None x e = refl
admitted (Some reason) x e = absurd (let clash : Ok x ≡ Err (Refused reason) = e in cc)
