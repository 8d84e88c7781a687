-- A step of the loop over pairs of digits.
use Rattle.std.proofs.Common.{◌≡◌, ℕ, List, [], ◌∷◌, ◌++◌, Some, Result, ap, ◌∙◌}
use Rattle.cg_schedule.specs.declared.fault.LineFault.{LineFault}
use Rattle.cg_schedule.specs.Part.{hex_digit, hex_byte, hex_bytes, if_byte}

-- behind a pair that was read the reading goes on
pub hex_bytes-pair : (taken now rest behind others : List ℕ) (high low byte : ℕ) (total : Result (List ℕ) LineFault) → rest ≡ high ∷ behind → behind ≡ low ∷ others
    → hex_byte (hex_digit high) (hex_digit low) ≡ Some byte → now ≡ taken ++ byte ∷ [] → hex_bytes taken rest ≡ total → hex_bytes now others ≡ total
hex_bytes-pair taken now rest behind others high low byte total first second read grown so_far =
    let whole : rest ≡ high ∷ low ∷ others = first ∙ ap (λ (t : List ℕ). high ∷ t) second in
    let pair : if_byte (hex_byte (hex_digit high) (hex_digit low)) (λ b. hex_bytes (taken ++ b ∷ []) others) ≡ total = rw whole at so_far in
    rw grown (rw read at pair)
