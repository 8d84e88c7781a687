-- What is known where a call or a test succeeded.
use Rattle.std.proofs.Common.{◌≡◌, Bool, true, false, cond, refl}
use Rattle.std.specs.Prelude.{Result, Ok, Err, IsOk, OnOk}

-- what a call that succeeded ensures
pub OnOk_then : {X E : Type 0} (r : Result X E) {P : Type 0} → IsOk r → OnOk r P → P
OnOk_then (Ok x) ok p = p
OnOk_then (Err e) ok p = absurd (cc)

-- a test that was passed, where the other way is a fault
pub cond_ok : {X E : Type 0} (b : Bool) (x y : X) (fault : E) → cond b (Ok x) (Err fault) ≡ Ok y → (b ≡ true) × (x ≡ y)
cond_ok true x y fault e = (refl, cc)
cond_ok false x y fault e = absurd (cc)
