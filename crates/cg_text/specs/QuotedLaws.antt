-- Bytes that stand between quotes as they are.
use Rattle.std.proofs.Common.{◌≡◌, ◌≢◌, ℕ, suc, ◌<◌, ◌≤◌, List, [], ◌∷◌, ◌++◌, length, get_or, refl, ap₂, arith}
use Rattle.std.specs.List.{flat_map}
use Rattle.std.proofs.lemmas.Bool.{ne_eqb}
use Rattle.cg_text.specs.Quoted.{escaped}

pub escaped_plain : (byte : ℕ) → byte ≢ 34 → byte ≢ 92 → escaped byte ≡ byte ∷ []
escaped_plain byte quote backslash = rw (ne_eqb byte 34 quote, ne_eqb byte 92 backslash) refl

-- bytes that are no characters by themselves stand as they are
pub escaped-high : (bytes : List ℕ) → ((k : ℕ) → k < length bytes → 128 ≤ get_or bytes k 0) → flat_map escaped bytes ≡ bytes
escaped-high [] high = refl
escaped-high (byte ∷ bytes) high =
    let first : 128 ≤ byte = high 0 (omega arith) in
    ap₂ (λ (a b : List ℕ). a ++ b) (escaped_plain byte (λ e. absurd (omega arith)) (λ e. absurd (omega arith))) (escaped-high bytes (λ k below. high (suc k) (omega arith)))
