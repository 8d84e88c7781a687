-- What `&&`, `||` and a choice come to where a side of them is known.
use Rattle.std.proofs.Common.{◌≡◌, Bool, true, false, cond, ◌&&◌, ◌||◌, refl}

pub and_false : (b : Bool) → (b && false) ≡ false
and_false true = refl
and_false false = refl

pub or_true : (b : Bool) → (b || true) ≡ true
or_true true = refl
or_true false = refl

pub or_false : (b : Bool) → (b || false) ≡ b
or_false true = refl
or_false false = refl

pub or_assoc : (a b c : Bool) → ((a || b) || c) ≡ (a || (b || c))
or_assoc true b c = refl
or_assoc false b c = refl

-- where the first doesn't hold, the second does
pub or_else : (a b : Bool) → a ≡ false → (a || b) ≡ true → b ≡ true
or_else true b is either = absurd (let clash : true ≡ false = is in cc)
or_else false b is either = either

-- a choice within the same choice
pub cond_twice : {X : Type 0} (b : Bool) (x y z : X) → cond b x (cond b y z) ≡ cond b x z
cond_twice true x y z = refl
cond_twice false x y z = refl

-- what isn't so
pub impossible : {A : Type 0} → false ≡ true → A
impossible e = absurd (let clash : false ≡ true = e in cc)

pub or_comm : (a b : Bool) → (a || b) ≡ (b || a)
or_comm true true = refl
or_comm true false = refl
or_comm false true = refl
or_comm false false = refl
