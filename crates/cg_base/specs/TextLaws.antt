-- What stands at the front of a text that grows, and in a text that is put together.
use Rattle.std.proofs.Common.{◌≡◌, ℕ, false, List, [], ◌∷◌, ◌++◌, length, take, ap, ◌∙◌, refl, subst, arith, ◌<◌, append_assoc}
use Rattle.std.specs.Prelude.{Result, Ok, Err, OnErr, codes}
use Rattle.std.specs.Str.{IsUtf8, is_utf8}
use Rattle.std.proofs.lemmas.Bool.{false_from_ne_true}
use Rattle.std.proofs.lemmas.Str.{IsUtf8-from_is_utf8, IsUtf8-append, IsUtf8-encode, encode_ascii}
use lib.Utf8.{low_scalar}
use Rattle.std.proofs.Math.Seq.{take-append_seam}
use Rattle.cg_base.specs.Fronts.{KeepsFront}

-- what holds in any case holds where a call failed
pub OnErr_from : {T E : Type 0} (r : Result T E) {P : Type 0} → P → OnErr r P
OnErr_from (Ok x) p = tt
OnErr_from (Err e) p = p

pub KeepsFront-grown : (before more : List ℕ) → KeepsFront before (before ++ more)
KeepsFront-grown before more = take-append_seam before more

pub KeepsFront-through : (a b c : List ℕ) → KeepsFront a b → KeepsFront b c → KeepsFront a c
KeepsFront-through [] b c ab bc = refl
KeepsFront-through (x ∷ a) [] c ab bc = absurd (cc)
KeepsFront-through (x ∷ a) (y ∷ b) [] ab bc = absurd (cc)
KeepsFront-through (x ∷ a) (y ∷ b) (z ∷ c) ab bc =
    let first : y ≡ x = cc in
    let second : z ≡ y = cc in
    let rest : take (length a) b ≡ a = cc in
    let more : take (length b) c ≡ b = cc in
    ap (λ n. n ∷ take (length a) c) (second ∙ first) ∙ ap (λ s. x ∷ s) (KeepsFront-through a b c rest more)

-- a text that keeps a longer front keeps a shorter one
pub KeepsFront-less : (before more now : List ℕ) → KeepsFront (before ++ more) now → KeepsFront before now
KeepsFront-less before more now keeps =
    KeepsFront-through before (before ++ more) now (KeepsFront-grown before more) keeps

pub KeepsFront-is : (a b more : List ℕ) → b ≡ a ++ more → KeepsFront a b
KeepsFront-is a b more is = rw is (KeepsFront-grown a more)

-- a text that grew twice
pub grown_twice : (before x one y two : List ℕ) → one ≡ before ++ x → two ≡ one ++ y → two ≡ before ++ (x ++ y)
grown_twice before x one y two first second = second ∙ ap (λ s. s ++ y) first ∙ append_assoc before x y

-- what is no text fails the test
pub is_utf8-otherwise : (bs : List ℕ) → ¬ (IsUtf8 bs) → is_utf8 bs ≡ false
is_utf8-otherwise bs none = false_from_ne_true (is_utf8 bs) (λ test. none (IsUtf8-from_is_utf8 bs test))

-- a byte of ASCII in front of a text
pub ascii_then : (byte : ℕ) (bytes : List ℕ) → byte < 128 → IsUtf8 bytes → IsUtf8 (byte ∷ bytes)
ascii_then byte bytes small utf8 =
    IsUtf8-append (byte ∷ []) bytes
    (subst IsUtf8 (encode_ascii byte small) (IsUtf8-encode byte (low_scalar byte (omega arith)))) utf8

-- two parts with a blank behind each, and what follows them
pub blank_parts : (p q rest : List ℕ) →
    (((p ++ codes " ") ++ q) ++ codes " ") ++ rest ≡ p ++ 32 ∷ ((q ++ codes " ") ++ rest)
blank_parts p q rest =
    ap (λ t. t ++ rest) (append_assoc (p ++ codes " ") q (codes " "))
    ∙ append_assoc (p ++ codes " ") (q ++ codes " ") rest
    ∙ append_assoc p (codes " ") ((q ++ codes " ") ++ rest)
