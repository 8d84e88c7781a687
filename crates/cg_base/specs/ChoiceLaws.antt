-- What is found by its name behind a change of one thing.
use Rattle.std.proofs.Common.{◌≡◌, Bool, true, false, cond, refl}

-- what is picked with the new thing in its place: a says that the old one is changed, b that the new one stands in front of it, x and y that
-- the one looked for is the old one, or the new one
pub chosen : {X : Type 0} (a b x y : Bool) (new old rest with_new : X) → (a ≡ true → x ≡ y) →
    (a ≡ false → x ≡ true → y ≡ false) →
    with_new ≡ cond y new rest →
    cond a (cond y new rest) (cond b (cond y new (cond x old rest)) (cond x old with_new)) ≡
    cond y new (cond x old rest)
chosen true b x true new old rest with_new s o e = refl
chosen true b true false new old rest with_new s o e = absurd (let clash : true ≡ false = s refl in cc)
chosen true b false false new old rest with_new s o e = refl
chosen false true x y new old rest with_new s o e = refl
chosen false false true true new old rest with_new s o e = absurd (let clash : true ≡ false = o refl refl in cc)
chosen false false true false new old rest with_new s o e = refl
chosen false false false y new old rest with_new s o e = e
