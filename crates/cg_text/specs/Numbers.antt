-- The numbers that digits spell: plain decimal, without leading zeros.
use Rattle.std.specs.Prelude.{ℕ, zero, suc, ◌-◌, ◌+◌, ◌*◌, ◌^◌, ◌==◌, nat_lt, nat_le, Bool, false, ◌&&◌, List, [], ◌∷◌, length, Option, Some, None, Result, fold, ℤ, pos, negsuc, option_map, option_and_then, if◌then◌else◌}
use Rattle.std.specs.List.{list_all}
use Rattle.cg_base.specs.Ascii.{HYPHEN, ZERO, NINE}
use Rattle.cg_text.specs.declared.fault.TextFault.{TextFault}
use Rattle.cg_text.specs.declared.fault.TextFault.TheVariants.{NotANumber, TooLarge}
use Rattle.cg_text.specs.Fault.{fitting}

-- the byte is a digit
abbrev pub is_digit : ℕ → Bool
is_digit byte = nat_le ZERO byte && nat_le byte NINE

-- the number that digits spell behind others
abbrev pub with_digit : ℕ → ℕ → ℕ
with_digit n digit = n * 10 + (digit - ZERO)

-- the number that digits spell
abbrev pub value_of_digits : List ℕ → ℕ
value_of_digits digits = fold with_digit 0 digits

-- 0 alone, or digits of which the first isn't 0
abbrev pub is_plain : List ℕ → Bool
is_plain [] = false
is_plain (digit ∷ digits) = if digit == ZERO then length digits == 0 else list_all is_digit (digit ∷ digits)

-- the number that bytes spell
abbrev pub plain_number : List ℕ → Option ℕ
plain_number bytes = if is_plain bytes then Some (value_of_digits bytes) else None

-- a number below 0 by what stands behind its sign; there is no -0
abbrev pub negative : ℕ → Option ℤ
negative zero = None
negative (suc n) = Some (negsuc n)

-- the number that bytes spell, with a - in front where it is below 0
abbrev pub plain_integer : List ℕ → Option ℤ
plain_integer [] = None
plain_integer (byte ∷ bytes) = if byte == HYPHEN then option_and_then negative (plain_number bytes)
    else option_map pos (plain_number (byte ∷ bytes))

-- the number has room in 64 bits, and so has the number with its sign
abbrev pub fits_u64 : ℕ → Bool
fits_u64 n = nat_lt n (2 ^ 64)

abbrev pub fits_i64 : ℤ → Bool
fits_i64 (pos n) = nat_lt n (2 ^ 63)
fits_i64 (negsuc n) = nat_lt n (2 ^ 63)

-- what bytes are as a number of 64 bits
abbrev pub read_u64 : List ℕ → Result ℕ TextFault
read_u64 bytes = fitting NotANumber TooLarge fits_u64 (plain_number bytes)

abbrev pub read_i64 : List ℕ → Result ℤ TextFault
read_i64 bytes = fitting NotANumber TooLarge fits_i64 (plain_integer bytes)
