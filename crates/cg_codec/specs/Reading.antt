-- How fields are read from the left: the value and what is left behind it, or the first fault with its offset.
use Rattle.std.specs.Prelude.{ℕ, zero, suc, ◌+◌, Bool, nat_lt, nat_le, ◌==◌, ◌&&◌, if◌then◌else◌, List, [], ◌∷◌, ◌++◌, length, take, drop, ℤ, Option, Some, None, Result, Ok, Err}
use Rattle.std.specs.Int.{Width, w32, w64, byte_len, from_be_bytes, cast_signed}
use Rattle.std.specs.Str.{is_utf8}
use Rattle.cg_codec.specs.declared.fault.CodecFault.{CodecFault}
use Rattle.cg_codec.specs.declared.fault.CodecFault.TheVariants.{Short, Bad, Rest}

-- the bytes that are still to be read, and the offset of the first of them
pub record Unread : Type 0 where
  pub at : ℕ
  pub bytes : List ℕ

-- what is left behind the next n bytes
abbrev pub behind : ℕ → Unread → Unread
behind n left = record { at = left.at + n; bytes = drop n left.bytes }

-- a way of reading a value
abbrev pub Reading : Type 0 → Type 0
Reading X = Unread → Result (X × Unread) CodecFault

-- what is done with the value that was read and what is left behind it, where there was no fault
abbrev pub go_on : {X Y : Type 0} → Result (X × Unread) CodecFault → (X → Reading Y) → Result (Y × Unread) CodecFault
go_on (Ok x) next = next x.0 x.1
go_on (Err fault) next = Err fault

-- one field and then the next ones, which may depend on its value
infixl 10 ◌>>=◌
abbrev pub ◌>>=◌ : {X Y : Type 0} → Reading X → (X → Reading Y) → Reading Y
reading >>= next = λ left. go_on (reading left) next

-- nothing is left to read: this is the value
abbrev pub done : {X : Type 0} → X → Reading X
done x left = Ok (x, left)

-- a field that has only the values that pass a test: another value is bad, at the field's first byte
abbrev pub passed : {X : Type 0} → (X → Bool) → ℕ → Result (X × Unread) CodecFault → Result (X × Unread) CodecFault
passed test at (Ok x) = if test x.0 then Ok x else Err (Bad at)
passed test at (Err fault) = Err fault

abbrev pub only : {X : Type 0} → (X → Bool) → Reading X → Reading X
only test reading left = passed test left.at (reading left)

-- one byte
abbrev pub byte_of : ℕ → List ℕ → Result (ℕ × Unread) CodecFault
byte_of at [] = Err (Short at)
byte_of at (byte ∷ bytes) = Ok (byte, record { at = at + 1; bytes = bytes })

unfoldable pub take_u8 : Reading ℕ
take_u8 left = byte_of left.at left.bytes

-- a byte from low to high
abbrev pub is_between : ℕ → ℕ → ℕ → Bool
is_between low high n = nat_le low n && nat_le n high

unfoldable pub byte_between : ℕ → ℕ → Reading ℕ
byte_between low high left = only (is_between low high) take_u8 left

-- a number of so many bytes, the highest first
abbrev pub take_number : Width → Reading ℕ
take_number w left =
    if nat_lt (length left.bytes) (byte_len w) then Err (Short left.at)
    else Ok (from_be_bytes w (take (byte_len w) left.bytes), behind (byte_len w) left)

unfoldable pub take_u32 : Reading ℕ
take_u32 left = take_number w32 left

unfoldable pub take_u64 : Reading ℕ
take_u64 left = take_number w64 left

-- a number with a sign
unfoldable pub take_i64 : Reading ℤ
take_i64 left = (take_u64 >>= λ n. done (cast_signed w64 n)) left

-- a truth value
unfoldable pub take_truth : Reading Bool
take_truth left = (only (λ n. nat_lt n 2) take_u8 >>= λ n. done (n == 1)) left

-- how many items follow, at most so many
unfoldable pub take_count : ℕ → Reading ℕ
take_count max left = only (λ n. nat_le n max) take_u32 left

-- the next n bytes as a text, in a field that begins at an offset
abbrev pub text_bytes : ℕ → ℕ → Reading (List ℕ)
text_bytes at n left =
    if nat_lt (length left.bytes) n then Err (Short at)
    else if is_utf8 (take n left.bytes) then Ok (take n left.bytes, behind n left)
    else Err (Bad at)

-- a text of at most so many bytes
unfoldable pub take_text : ℕ → Reading (List ℕ)
take_text max left = (take_count max >>= text_bytes left.at) left

-- a value that may be absent
abbrev pub take_optional : {X : Type 0} → Reading X → Reading (Option X)
take_optional item = take_truth >>= λ present. if present then (item >>= λ x. done (Some x)) else done None

-- so many more items; how one is read may depend on those before it
unfoldable pub take_items : {X : Type 0} → (List X → Reading X) → ℕ → List X → Reading (List X)
take_items item zero taken = done taken
take_items item (suc n) taken = item taken >>= λ x. take_items item n (taken ++ x ∷ [])

-- a list of at most so many items
abbrev pub take_list : {X : Type 0} → ℕ → (List X → Reading X) → Reading (List X)
take_list max item = take_count max >>= λ n. take_items item n []

-- the value that all of the bytes are
abbrev pub ended : {X : Type 0} → Result (X × Unread) CodecFault → Result X CodecFault
ended (Ok x) = if length x.1.bytes == 0 then Ok x.0 else Err (Rest x.1.at)
ended (Err fault) = Err fault

abbrev pub whole : {X : Type 0} → Reading X → List ℕ → Result X CodecFault
whole reading bytes = ended (reading (record { at = 0; bytes = bytes }))
