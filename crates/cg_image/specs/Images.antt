-- The image of a replica's disk in bytes: the replica, and each side behind its length.
use Rattle.std.specs.Prelude.{◌≡◌, ℕ, ◌^◌, ◌<◌, nat_le, ◌&&◌, List, [], ◌∷◌, ◌++◌, drop, length, option_and_then, take, Option, Some, None, if◌then◌else◌}
use Rattle.std.specs.Option.{option_map}
use Rattle.std.specs.Int.{from_be_bytes, w64}
use Rattle.cg_base.specs.Sets.{IsId}
use Rattle.cg_codec.specs.Fields.{byte, number64}
use Rattle.cg_codec.specs.Laws.{AreBytes}
use Rattle.cg_disk.specs.Sides.{Image}

-- a side behind its length
abbrev pub side_text : List ℕ → List ℕ
side_text side = number64 (length side) ++ side

-- the image of a replica's disk
abbrev pub image_text : ℕ → Image → List ℕ
image_text p image = byte p ++ side_text image.a ++ side_text image.b

-- ---- the image that bytes are

-- what stands behind a length of so many bytes, and the bytes behind it, where there are so many
abbrev pub cut_side : ℕ → List ℕ → Option (List ℕ × List ℕ)
cut_side size bytes = if nat_le size (length bytes) then Some (take size bytes, drop size bytes) else None

-- a side behind its length, and the bytes behind it
abbrev pub side_in : List ℕ → Option (List ℕ × List ℕ)
side_in bytes = if nat_le 8 (length bytes) then cut_side (from_be_bytes w64 (take 8 bytes)) (drop 8 bytes) else None

-- the image of both sides, where nothing stands behind them
abbrev pub if_last : List ℕ → List ℕ → List ℕ → Option Image
if_last a b [] = Some (record { a = a; b = b })
if_last a b (byte ∷ bytes) = None

-- both sides, the second one behind the first
abbrev pub sides_in : List ℕ → Option Image
sides_in bytes = option_and_then (λ a. option_and_then (λ b. if_last a.0 b.0 b.1) (side_in a.1)) (side_in bytes)

-- a replica, and the image of its disk
pub record Imaged : Type 0 where
  pub id : ℕ
  pub image : Image

-- what bytes are an image of, where they are one
abbrev pub image_in : List ℕ → Option Imaged
image_in [] = None
image_in (p ∷ bytes) =
    if nat_le 1 p && nat_le p 32 then option_map (λ image. record { id = p; image = image }) (sides_in bytes) else None

-- ---- what is written is read

-- each length has eight bytes
pub record IsShort (image : Image) : Type 0 where
  pub a : length image.a < 2 ^ 64
  pub b : length image.b < 2 ^ 64

-- an image is read again as itself, and whatever is read is written so
pub record ImagesAreRead : Type 0 where
  pub again : (p : ℕ) (image : Image) → IsId p → IsShort image →
      image_in (image_text p image) ≡ Some (record { id = p; image = image })
  pub found : (bytes : List ℕ) (i : Imaged) → AreBytes bytes → image_in bytes ≡ Some i →
      IsId i.id × IsShort i.image × (bytes ≡ image_text i.id i.image)
