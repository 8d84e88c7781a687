-- The records of a side of a disk, and of both sides.
use Rattle.std.specs.Prelude.{◌≡◌, ◌≢◌, ℕ, zero, suc, ◌+◌, ◌<◌, ◌==◌, nat_lt, List, [], ◌∷◌, ◌++◌, length, codes, take, drop, Option, Some, None, if◌then◌else◌}
use Rattle.std.specs.Option.{option_map}
use Rattle.std.specs.Int.{from_be_bytes, w32}
use Rattle.std.specs.Str.{bytes_eq}
use Rattle.cg_base.specs.declared.limits.TheConstants.{LIST_LIMIT}
use Rattle.cg_codec.specs.Fields.{number32}
use Rattle.cg_disk.specs.Sides.{Image}
use Rattle.cg_disk.specs.declared.disk.Side.{Side}
use Rattle.cg_disk.specs.declared.disk.Side.TheVariants.{A, B}

-- the eight bytes at the front of a side
abbrev pub header : List ℕ
header = codes "CGRUITY2"

-- the number that the first four bytes spell
unfoldable pub number_at : List ℕ → ℕ
number_at bytes = from_be_bytes w32 (take 4 bytes)

-- a record as it stands behind its own gate: its length, its body, and the closed gate of the next record
abbrev pub framed : List ℕ → List ℕ
framed body = number32 (length body) ++ body ++ 0 ∷ []

-- a record as it stands there
pub record IsFramed (bytes : List ℕ) : Type 0 where
  pub body : List ℕ
  pub is : bytes ≡ framed body
  pub short : length body < LIST_LIMIT

-- open records
abbrev pub spelled : List (List ℕ) → List ℕ
spelled [] = []
spelled (body ∷ bodies) = 1 ∷ (number32 (length body) ++ body ++ spelled bodies)

-- each body has a length of four bytes
abbrev pub AreShort : List (List ℕ) → Type 0
AreShort [] = Unit {0}
AreShort (body ∷ bodies) = (length body < LIST_LIMIT) × AreShort bodies

-- a side has these records and no others: the header, the open records, and a gate that isn't open, just before `end`;
-- what stands behind it doesn't count
pub record HasRecords (side : List ℕ) (end : ℕ) (bodies : List (List ℕ)) : Type 0 where
  pub gate : ℕ
  pub rest : List ℕ
  pub spelled_out : side ≡ header ++ (spelled bodies ++ gate ∷ rest)
  pub closed : gate ≢ 1
  pub short : AreShort bodies
  pub ends : end ≡ 9 + length (spelled bodies)

-- a body of this size behind its length, where it and the gate behind it fit, and what follows from that gate on
abbrev pub body_and : ℕ → List ℕ → (List ℕ → Option (List (List ℕ))) → Option (List (List ℕ))
body_and size bytes more =
    if nat_lt (4 + size) (length bytes)
    then option_map (λ bodies. take size (drop 4 bytes) ∷ bodies) (more (drop (4 + size) bytes)) else None

-- the bodies of the records from a gate on, up to the first gate that isn't open; nothing where one of them doesn't fit
abbrev pub bodies_from : ℕ → List ℕ → Option (List (List ℕ))
bodies_from zero bytes = None
bodies_from (suc fuel) [] = None
bodies_from (suc fuel) (gate ∷ bytes) = if gate == 1
    then body_and (number_at bytes) bytes (bodies_from fuel) else Some []

-- the bodies of a side's records; nothing where it isn't the side of a journal
unfoldable pub bodies_of : List ℕ → Option (List (List ℕ))
bodies_of side = if bytes_eq (take 8 side) header then bodies_from (length side) (drop 8 side) else None

-- the bodies of the records of both sides
pub record Records : Type 0 where
  pub a : List (List ℕ)
  pub b : List (List ℕ)

abbrev pub both : Option (List (List ℕ)) → Option (List (List ℕ)) → Option Records
both (Some a) (Some b) = Some (record { a = a; b = b })
both (Some a) None = None
both None b = None

-- the records of a disk with these bytes; nothing where it isn't a journal
abbrev pub records : Image → Option Records
records image = both (bodies_of image.a) (bodies_of image.b)

-- the records with one more on a side
abbrev pub added : Side → List ℕ → Records → Records
added A body r = record { a = r.a ++ body ∷ []; b = r.b }
added B body r = record { a = r.a; b = r.b ++ body ∷ [] }

-- the records with none on a side
abbrev pub emptied : Side → Records → Records
emptied A r = record { a = []; b = r.b }
emptied B r = record { a = r.a; b = [] }

-- the bodies of one side
abbrev pub on_side : Side → Records → List (List ℕ)
on_side A r = r.a
on_side B r = r.b
