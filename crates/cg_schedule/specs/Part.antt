-- What one token of a line may be.
use Rattle.std.specs.Prelude.{ℕ, ◌+◌, ◌-◌, ◌*◌, ◌==◌, nat_lt, nat_le, Bool, false, ◌&&◌, ◌||◌, List, [], ◌∷◌, ◌++◌, Option, Some, None, Result, Ok, Err, ℤ, pos, negsuc, codes, length, if◌then◌else◌}
use Rattle.cg_base.specs.Ascii.{QUOTE, ZERO, SMALL_A, SMALL_F}
use Rattle.cg_base.specs.declared.weighted.Weighted.{Weighted}
use Rattle.cg_base.specs.Text.{pieces_of}
use Rattle.cg_text.specs.declared.fault.TextFault.{TextFault}
use Rattle.cg_text.specs.Order.{same_text}
use Rattle.cg_text.specs.Numbers.{is_digit, read_u64, read_i64}
use Rattle.cg_text.specs.Quoted.{read_quoted}
use Rattle.cg_action.specs.declared.value.Value.{Value}
use Rattle.cg_action.specs.declared.value.Value.TheVariants.{Text, Int}
use Rattle.cg_schedule.specs.declared.fault.LineFault.{LineFault}
use Rattle.cg_schedule.specs.Fault.{bad_number, bad_text}
use Rattle.cg_schedule.specs.Reading.{Reading, part}

-- a number that was read, where it is in its range
abbrev pub in_range : ℕ → ℕ → Result ℕ TextFault → Result ℕ LineFault
in_range low high (Ok n) = if nat_le low n && nat_le n high then Ok n else Err bad_number
in_range low high (Err fault) = Err bad_number

-- a number in a range
unfoldable pub number : ℕ → ℕ → List ℕ → Result ℕ LineFault
number low high token = in_range low high (read_u64 token)

-- a number with its sign that was read
abbrev pub signed : Result ℤ TextFault → Result ℤ LineFault
signed (Ok n) = Ok n
signed (Err fault) = Err bad_number

-- a number with its sign
unfoldable pub integer : List ℕ → Result ℤ LineFault
integer token = signed (read_i64 token)

-- an amount: a number of 0 or more
abbrev pub not_negative : Result ℤ LineFault → Result ℤ LineFault
not_negative (Ok (pos n)) = Ok (pos n)
not_negative (Ok (negsuc n)) = Err bad_number
not_negative (Err fault) = Err fault

unfoldable pub amount : List ℕ → Result ℤ LineFault
amount token = not_negative (integer token)

-- the weight behind a star, of 2 or more; 1 where no star stands
abbrev pub weight_of : List (List ℕ) → Result ℕ LineFault
weight_of [] = Ok 1
weight_of (weight ∷ []) = number 2 255 weight
weight_of (weight ∷ piece ∷ pieces) = Err bad_number

-- an identifier and its weight, each where it was read
abbrev pub with_weight : Result ℕ LineFault → Result ℕ LineFault → Result Weighted LineFault
with_weight (Ok id) (Ok weight) = Ok (record { id = id; weight = weight })
with_weight (Ok id) (Err fault) = Err fault
with_weight (Err fault) weight = Err fault

abbrev pub weighted_of : List (List ℕ) → Result Weighted LineFault
weighted_of [] = Err bad_number
weighted_of (id ∷ pieces) = with_weight (number 1 32 id) (weight_of pieces)

-- an identifier alone, or with a star and a weight
unfoldable pub weighted : List ℕ → Result Weighted LineFault
weighted token = weighted_of (pieces_of 42 token)

-- a text that was read, where it isn't too short
abbrev pub long_enough : ℕ → Result (List ℕ) TextFault → Result (List ℕ) LineFault
long_enough low (Ok t) = if nat_le low (length t) then Ok t else Err bad_text
long_enough low (Err fault) = Err bad_text

-- a quoted text with a length in a range
unfoldable pub text : ℕ → ℕ → List ℕ → Result (List ℕ) LineFault
text low high token = long_enough low (read_quoted high token)

-- the token begins with a quote
abbrev pub is_quoted : List ℕ → Bool
is_quoted [] = false
is_quoted (byte ∷ bytes) = byte == QUOTE

abbrev pub text_value : Result (List ℕ) LineFault → Result Value LineFault
text_value (Ok t) = Ok (Text t)
text_value (Err fault) = Err fault

abbrev pub number_value : Result ℤ LineFault → Result Value LineFault
number_value (Ok n) = Ok (Int n)
number_value (Err fault) = Err fault

-- a value: a quoted text, or a number with its sign
unfoldable pub value : List ℕ → Result Value LineFault
value token = if is_quoted token then text_value (text 0 1024 token) else number_value (integer token)

abbrev pub some_value : Result Value LineFault → Result (Option Value) LineFault
some_value (Ok v) = Ok (Some v)
some_value (Err fault) = Err fault

-- a value, or the word absent
unfoldable pub want : List ℕ → Result (Option Value) LineFault
want token = if same_text token (codes "absent") then Ok None else some_value (value token)

-- the value of a hexadecimal digit
abbrev pub hex_digit : ℕ → Option ℕ
hex_digit byte =
    if is_digit byte then Some (byte - ZERO)
    else if nat_le SMALL_A byte && nat_le byte SMALL_F then Some (byte - 87)
    else None

-- the byte of two digits
abbrev pub hex_byte : Option ℕ → Option ℕ → Option ℕ
hex_byte (Some high) (Some low) = Some (16 * high + low)
hex_byte (Some high) None = None
hex_byte None low = None

-- what is done with a byte, where it was read
abbrev pub if_byte : Option ℕ → (ℕ → Result (List ℕ) LineFault) → Result (List ℕ) LineFault
if_byte (Some byte) next = next byte
if_byte None next = Err bad_text

-- the bytes of pairs of digits, behind those that were taken
abbrev pub hex_bytes : List ℕ → List ℕ → Result (List ℕ) LineFault
hex_bytes taken [] = Ok taken
hex_bytes taken (digit ∷ []) = Err bad_text
hex_bytes taken (high ∷ low ∷ digits) =
    if_byte (hex_byte (hex_digit high) (hex_digit low)) (λ byte. hex_bytes (taken ++ byte ∷ []) digits)

-- bytes, two digits each, at most 4096 of them, or a hyphen for none
unfoldable pub fill : List ℕ → Result (List ℕ) LineFault
fill token =
    if same_text token (codes "-") then Ok []
    else if (length token == 0) || nat_lt 8192 (length token) then Err bad_text
    else hex_bytes [] token

-- the parts of a line that are one token
unfoldable pub number_part : ℕ → ℕ → Reading ℕ
number_part low high left = part (number low high) left

unfoldable pub id_part : Reading ℕ
id_part left = part (number 1 32) left

unfoldable pub count_part : Reading ℕ
count_part left = part (number 1 1000000) left

unfoldable pub integer_part : Reading ℤ
integer_part left = part integer left

unfoldable pub amount_part : Reading ℤ
amount_part left = part amount left

unfoldable pub weighted_part : Reading Weighted
weighted_part left = part weighted left

unfoldable pub text_part : ℕ → ℕ → Reading (List ℕ)
text_part low high left = part (text low high) left

unfoldable pub value_part : Reading Value
value_part left = part value left

unfoldable pub want_part : Reading (Option Value)
want_part left = part want left

unfoldable pub fill_part : Reading (List ℕ)
fill_part left = part fill left
