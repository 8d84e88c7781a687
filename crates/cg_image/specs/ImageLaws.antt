-- An image that is written is read again, and whatever is read is written so.
use Rattle.std.proofs.Common.{◌≡◌, ◌+◌, ◌<◌, ◌≤◌, ◌^◌, ◌&&◌, ℕ, suc, Bool, true, false, cond, ltb, leb, List, [], ◌∷◌, ◌++◌, Option, Some, None, Ok, length, take, drop, refl, sym, subst, ap, ap₂, ◌∙◌, arith, append_assoc}
use Rattle.std.specs.Prelude.{option_and_then}
use Rattle.std.specs.Option.{option_map}
use Rattle.std.specs.Int.{from_be_bytes, w64}
use Rattle.std.proofs.Math.Seq.{take-append_seam, drop-append_seam}
use Rattle.std.proofs.lemmas.Bool.{le-leb, leb-true, ltb-false, le-ltb, and_parts}
use Rattle.std.proofs.lemmas.Option.{cond_some, option_and_then_some, same_Some}
use Rattle.std.proofs.NetLemmas.Options.{map_some}
use Rattle.std.proofs.lemmas.List.{append-nil, length-append, length-take, take-append-drop}
use Rattle.cg_base.specs.Sets.{IsId}
use Rattle.cg_codec.specs.declared.fault.CodecFault.TheVariants.{Short}
use Rattle.cg_codec.specs.Fields.{byte, number64}
use Rattle.cg_codec.specs.FieldLaws.{guarded, Took-bytes}
use Rattle.cg_codec.specs.Laws.{AreBytes, Took}
use Rattle.cg_codec.specs.PlainLaws.{u64_field}
use Rattle.cg_codec.specs.Reading.{Unread, behind, take_u64}
use Rattle.cg_disk.specs.Sides.{Image}
use Rattle.cg_image.specs.Images.{side_text, image_text, cut_side, side_in, if_last, sides_in, Imaged, IsShort, image_in, ImagesAreRead}

-- ---- what is written is read

-- a length that is read is the one in front of a side
length_read : (bytes : List ℕ) (n : ℕ) (new : Unread) → take_u64 (record { at = 0; bytes = bytes }) ≡ Ok (n, new) →
    side_in bytes ≡ cut_side n new.bytes
unfolding take_u64
length_read bytes n new e =
    let g = guarded (ltb (length bytes) 8) (Short 0) (from_be_bytes w64 (take 8 bytes))
    n (behind 8 (record { at = 0; bytes = bytes })) new e in
    let long : leb 8 (length bytes) ≡ true = le-leb 8 (length bytes) (ltb-false _ _ g.0) in
    rw long (ap₂ cut_side g.1 (ap (λ (left : Unread). left.bytes) g.2))

cut_again : (side rest : List ℕ) → cut_side (length side) (side ++ rest) ≡ Some (side, rest)
cut_again side rest =
    let within : leb (length side) (length (side ++ rest)) ≡ true =
    le-leb (length side) (length (side ++ rest)) (omega (arith, length-append side rest)) in
    rw within (ap₂ (λ x y. Some (x, y)) (take-append_seam side rest) (drop-append_seam side rest))

side_again : (side rest : List ℕ) → length side < 2 ^ 64 → side_in (side_text side ++ rest) ≡ Some (side, rest)
side_again side rest short =
    let n = length side in
    ap side_in (append_assoc (number64 n) side rest)
    ∙ length_read (number64 n ++ (side ++ rest)) n _ (u64_field.again n 0 (side ++ rest) short)
    ∙ cut_again side rest

last_side_again : (side : List ℕ) → length side < 2 ^ 64 → side_in (side_text side) ≡ Some (side, [])
last_side_again side short = ap side_in (sym (append-nil (side_text side))) ∙ side_again side [] short

sides_again : (a b : List ℕ) → length a < 2 ^ 64 → length b < 2 ^ 64 →
    sides_in (side_text a ++ side_text b) ≡ Some (record { a = a; b = b })
sides_again a b short_a short_b = rw (side_again a (side_text b) short_a) (rw (last_side_again b short_b) refl)

image_again : (p : ℕ) (image : Image) → IsId p → IsShort image →
    image_in (image_text p image) ≡ Some (record { id = p; image = image })
unfolding byte
image_again p image id short =
    rw (le-leb 1 p id.0) (rw (le-leb p 32 id.1) (ap (option_map (λ i. record { id = p; image = i }))
    (sides_again image.a image.b short.a short.b)))

-- ---- what is read is written so

-- a value that a test let through
let_through : {A : Type 0} (b : Bool) (x : Option A) (y : A) → cond b x None ≡ Some y → (b ≡ true) × (x ≡ Some y)
let_through true x y e = (refl, e)
let_through false x y e = absurd cc

-- a side in front of bytes: short, and spelled there
record IsInFront (bytes side rest : List ℕ) : Type 0 where
  short : length side < 2 ^ 64
  spelled : bytes ≡ side_text side ++ rest
  fit : AreBytes rest

cut_found : (size : ℕ) (bytes side rest : List ℕ) → cut_side size bytes ≡ Some (side, rest) →
    (length side ≡ size) × (bytes ≡ side ++ rest)
cut_found size bytes side rest e =
    let g = cond_some (leb size (length bytes)) (take size bytes, drop size bytes) (side, rest) e in
    let within : size ≤ length bytes = leb-true size (length bytes) g.0 in
    let front : take size bytes ≡ side = ap (λ (p : List ℕ × List ℕ). p.0) g.1 in
    let left : drop size bytes ≡ rest = ap (λ (p : List ℕ × List ℕ). p.1) g.1 in (
      ap length (sym front) ∙ omega (arith, length-take size bytes),
      sym (take-append-drop size bytes) ∙ ap₂ (λ (x y : List ℕ). x ++ y) front left,
    )

side_found : (bytes side rest : List ℕ) → AreBytes bytes → side_in bytes ≡ Some (side, rest) → IsInFront bytes side rest
unfolding take_u64
side_found bytes side rest fits e =
    let old : Unread = record { at = 0; bytes = bytes } in
    let new : Unread = behind 8 old in
    let n = from_be_bytes w64 (take 8 bytes) in
    let g = let_through (leb 8 (length bytes)) (cut_side n (drop 8 bytes)) (side, rest) e in
    let long : ltb (length bytes) 8 ≡ false = le-ltb (length bytes) 8 (leb-true 8 (length bytes) g.0) in
    let read : take_u64 old ≡ Ok (n, new) = rw long refl in
    let found = u64_field.found n old new fits read in
    let cut = cut_found n (drop 8 bytes) side rest g.1 in
    let after : Took new side (record { at = 8 + length side; bytes = rest }) = record { bytes = cut.1; at = refl } in
    record {
      short = omega (arith, cut.0, found.has);
      spelled = found.took.bytes ∙ ap₂ (λ x (y : List ℕ). number64 x ++ y) (sym cut.0) cut.1
          ∙ sym (append_assoc (number64 (length side)) side rest);
      fit = Took-bytes new side (record { at = 8 + length side; bytes = rest }) after
          (Took-bytes old (number64 n) new found.took fits);
    }

last_found : (a b rest : List ℕ) (image : Image) → if_last a b rest ≡ Some image →
    (rest ≡ []) × (image ≡ record { a = a; b = b })
last_found a b [] image e = (refl, same_Some image (record { a = a; b = b }) (sym e))
last_found a b (byte ∷ bytes) image e = absurd cc

-- both sides, the second one behind the first, and nothing behind it
both_found : (bytes : List ℕ) (a b : List ℕ × List ℕ) (image : Image) → IsInFront bytes a.0 a.1 →
    IsInFront a.1 b.0 b.1 → if_last a.0 b.0 b.1 ≡ Some image →
    IsShort image × (bytes ≡ side_text image.a ++ side_text image.b)
both_found bytes a b image in_a in_b e =
    let last = last_found a.0 b.0 b.1 image e in
    let behind_a : a.1 ≡ side_text b.0 =
    in_b.spelled ∙ ap (λ (rest : List ℕ). side_text b.0 ++ rest) last.0 ∙ append-nil (side_text b.0) in
    let spelled : bytes ≡ side_text a.0 ++ side_text b.0 =
    in_a.spelled ∙ ap (λ (rest : List ℕ). side_text a.0 ++ rest) behind_a in
    subst (λ (i : Image). IsShort i × (bytes ≡ side_text i.a ++ side_text i.b)) (sym last.1)
    (record { a = in_a.short; b = in_b.short }, spelled)

sides_found : (bytes : List ℕ) (image : Image) → AreBytes bytes → sides_in bytes ≡ Some image →
    IsShort image × (bytes ≡ side_text image.a ++ side_text image.b)
sides_found bytes image fits e =
    option_and_then_some (λ a. option_and_then (λ b. if_last a.0 b.0 b.1) (side_in a.1)) (side_in bytes) image e
    (λ a first behind_a. let in_a = side_found bytes a.0 a.1 fits first in
    option_and_then_some (λ b. if_last a.0 b.0 b.1) (side_in a.1) image behind_a
    (λ b second last. both_found bytes a b image in_a (side_found a.1 b.0 b.1 in_a.fit second) last))

abbrev imaged : ℕ → Image → Imaged
imaged p image = record { id = p; image = image }

image_found : (bytes : List ℕ) (i : Imaged) → AreBytes bytes → image_in bytes ≡ Some i →
    IsId i.id × IsShort i.image × (bytes ≡ image_text i.id i.image)
unfolding byte
image_found [] i fits e = absurd cc
image_found (p ∷ bytes) i fits e =
    let g = let_through (leb 1 p && leb p 32) (option_map (imaged p) (sides_in bytes)) i e in
    let id = and_parts (leb 1 p) (leb p 32) g.0 in
    map_some (imaged p) (sides_in bytes) i g.1
    (λ image read is. let sides = sides_found bytes image (λ k. fits (suc k)) read in
    subst (λ (i : Imaged). IsId i.id × IsShort i.image × (p ∷ bytes ≡ image_text i.id i.image)) is
    ((leb-true 1 p id.0, leb-true p 32 id.1), sides.0, ap (λ (rest : List ℕ). p ∷ rest) sides.1))

pub images_are_read : ImagesAreRead
images_are_read = record { again = image_again; found = image_found }
