-- How values are spelled in bytes. Numbers are big-endian, and each value has one spelling.
use Rattle.std.specs.Prelude.{ℕ, Bool, List, [], ◌∷◌, ◌++◌, Option, Some, None, flat_map, length, ℤ, if◌then◌else◌}
use Rattle.std.specs.Int.{to_be_bytes, cast_unsigned, w32, w64}
use Rattle.cg_base.specs.declared.action_id.ActionId.{ActionId}

-- one byte
unfoldable pub byte : ℕ → List ℕ
byte n = n ∷ []

-- a number of four bytes
unfoldable pub number32 : ℕ → List ℕ
number32 n = to_be_bytes w32 n

-- a number of eight bytes
unfoldable pub number64 : ℕ → List ℕ
number64 n = to_be_bytes w64 n

-- a number with a sign, as its two's complement
unfoldable pub signed64 : ℤ → List ℕ
signed64 z = number64 (cast_unsigned w64 z)

-- a truth value: 1 or 0
unfoldable pub truth : Bool → List ℕ
truth b = byte (if b then 1 else 0)

-- a text: how many bytes it has, and these
unfoldable pub text : List ℕ → List ℕ
text t = number32 (length t) ++ t

-- a list: how many items it has, and these
abbrev pub list : {X : Type 0} → (X → List ℕ) → List X → List ℕ
list item xs = number32 (length xs) ++ flat_map item xs

-- a value that may be absent
abbrev pub optional : {X : Type 0} → (X → List ℕ) → Option X → List ℕ
optional item None = byte 0
optional item (Some x) = byte 1 ++ item x

-- a name of an action: its creator and its index
abbrev pub spelled_id : ActionId → List ℕ
spelled_id id = byte id.creator ++ number64 id.index
