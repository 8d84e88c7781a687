-- The sides of a disk of either format, as they are found.
use Rattle.std.specs.Prelude.{ℕ, zero, suc, ◌==◌, nat_lt, ◌&&◌, List, [], length, codes, take, drop, Option, Some, None, if◌then◌else◌}
use Rattle.std.specs.Option.{option_map}
use Rattle.std.specs.Str.{bytes_eq}
use Rattle.cg_disk.specs.Sides.{Image, bytes_of}
use Rattle.cg_disk.specs.declared.disk.Side.{Side}
use Rattle.cg_disk.specs.declared.disk.Side.TheVariants.{A, B}
use Rattle.cg_journal.specs.Records.{header, bodies_from}
use Rattle.cg_journal.specs.declared.open.SideRecords.{SideRecords}

-- the eight bytes at the front of a side of the older format
abbrev pub old_header : List ℕ
old_header = codes "CGRUITY1"

-- which format eight bytes name: 2 the newer one, 1 the older one, and 0 none
abbrev pub version_of : List ℕ → ℕ
version_of front = if bytes_eq front header then 2 else if bytes_eq front old_header then 1 else 0

-- the eight bytes at the front of a side
abbrev pub front_on : Side → Image → List ℕ
front_on side image = take 8 (bytes_of side image)

-- a side without records
abbrev pub blank : ℕ → SideRecords
blank version = record { version = version; bodies = [] }

-- the records of a side of a format; where it has none nothing is looked for
abbrev pub found_as : ℕ → List ℕ → Option SideRecords
found_as zero side = Some (blank 0)
found_as (suc v) side =
    option_map (λ bodies. record { version = suc v; bodies = bodies }) (bodies_from (length side) (drop 8 side))

-- what is found on a side of nine bytes or more, where its records fit
unfoldable pub found_on : List ℕ → Option SideRecords
found_on side = if nat_lt (length side) 9 then None else found_as (version_of (take 8 side)) side

-- what is found on both sides
pub record Sides : Type 0 where
  pub a : SideRecords
  pub b : SideRecords

-- one of them at least has a format
abbrev pub known : SideRecords → SideRecords → Option Sides
known a b = if (a.version == 0) && (b.version == 0) then None else Some (record { a = a; b = b })

abbrev pub both_found : Option SideRecords → Option SideRecords → Option Sides
both_found (Some a) (Some b) = known a b
both_found (Some a) None = None
both_found None b = None

-- what is found on a disk with these bytes; nothing where it is no journal
abbrev pub sides : Image → Option Sides
sides image = both_found (found_on image.a) (found_on image.b)

abbrev pub found_at : Side → Sides → SideRecords
found_at A s = s.a
found_at B s = s.b

abbrev pub with_found : Side → SideRecords → Sides → Sides
with_found A r s = record { a = r; b = s.b }
with_found B r s = record { a = s.a; b = r }
