-- What is found on the sides of a disk.
use Rattle.std.proofs.Common.{◌≡◌, ◌≢◌, ℕ, zero, suc, ◌==◌, ◌≤◌, nat_lt, Bool, true, false, ◌&&◌, List, [], ◌∷◌, length, get_or, take, drop, Option, Some, None, refl, ◌∙◌, ap, arith, length-drop}
use Rattle.std.specs.Option.{option_map}
use Rattle.std.specs.Bool.{if◌then◌else◌}
use Rattle.std.specs.Str.{bytes_eq}
use Rattle.std.proofs.lemmas.Bool.Decides.{nat_tests}
use Rattle.std.proofs.lemmas.List.{drop_more}
use Rattle.std.proofs.lemmas.Slice.Eq.{bytes_eq-Decides}
use Rattle.cg_disk.specs.Sides.{Image, bytes_of, opposite}
use Rattle.cg_disk.specs.declared.disk.Side.{Side}
use Rattle.cg_disk.specs.declared.disk.Side.TheVariants.{A, B}
use Rattle.cg_journal.specs.Records.{header, number_at, body_and, bodies_from, bodies_of, Records, records, both}
use Rattle.cg_journal.specs.Found.{old_header, found_on, found_as, version_of, blank, Sides, sides, known, both_found, found_at, with_found, front_on}
use Rattle.cg_journal.specs.declared.open.SideRecords.{SideRecords}

-- ---- a side of the newer format

abbrev pub as_newer : List (List ℕ) → SideRecords
as_newer bodies = record { version = 2; bodies = bodies }

abbrev pub as_sides : Records → Sides
as_sides r = record { a = as_newer r.a; b = as_newer r.b }

no_bodies : (bodies : List (List ℕ)) → None ≡ Some bodies → ⊥
no_bodies bodies e = cc

not_empty : (fuel : ℕ) (bytes : List ℕ) (bodies : List (List ℕ)) → bodies_from fuel bytes ≡ Some bodies → 1 ≤ length bytes
not_empty zero bytes bodies is = absurd (no_bodies bodies is)
not_empty (suc fuel) [] bodies is = absurd (no_bodies bodies is)
not_empty (suc fuel) (gate ∷ bytes) bodies is = omega arith

-- what is found on a side that the newer format reads
pub record IsNewer (side : List ℕ) (bodies : List (List ℕ)) : Type 0 where
  pub found : found_on side ≡ Some (as_newer bodies)
  pub front : take 8 side ≡ header

pub reads_newer : (side : List ℕ) (bodies : List (List ℕ)) → bodies_of side ≡ Some bodies → IsNewer side bodies
unfolding bodies_of found_on
reads_newer side bodies is = at (bytes_eq (take 8 side) header) refl is
  where
    at : (b : Bool) → bytes_eq (take 8 side) header ≡ b → (if b then bodies_from (length side) (drop 8 side) else None) ≡ Some bodies → IsNewer side bodies
    at false e read = absurd (no_bodies bodies read)
    at true e read =
        let long : nat_lt (length side) 9 ≡ false = grind (arith, nat_tests, not_empty (length side) (drop 8 side) bodies read, length-drop 8 side) in
        let two : version_of (take 8 side) ≡ 2 = λ i. if e i then 2 else if bytes_eq (take 8 side) old_header then 1 else 0 in
        record {
          found = (λ i. if long i then None else found_as (two i) side) ∙ ap (option_map as_newer) read;
          front = (bytes_eq-Decides (take 8 side) header).0 e;
        }

-- ---- both sides

none_is : (s : Sides) → None ≡ Some s → ⊥
none_is s e = cc

-- what is found on each of them
known_is : (a b : SideRecords) (s : Sides) → known a b ≡ Some s → (a ≡ s.a) × (b ≡ s.b)
known_is a b s is = at ((a.version == 0) && (b.version == 0)) is
  where
    pair : Sides
    pair = record { a = a; b = b }

    same : Some pair ≡ Some s → pair ≡ s
    same e = cc

    at : (t : Bool) → (if t then None else Some pair) ≡ Some s → (a ≡ s.a) × (b ≡ s.b)
    at true e = absurd (none_is s e)
    at false e = (ap (λ (x : Sides). x.a) (same e), ap (λ (x : Sides). x.b) (same e))

both_are : (a b : Option SideRecords) (s : Sides) → both_found a b ≡ Some s → (a ≡ Some s.a) × (b ≡ Some s.b)
both_are (Some a) (Some b) s is = let each = known_is a b s is in (ap Some each.0, ap Some each.1)
both_are (Some a) None s is = absurd (none_is s is)
both_are None b s is = absurd (none_is s is)

pub sides_on : (side : Side) (c : Image) (s : Sides) → sides c ≡ Some s → found_on (bytes_of side c) ≡ Some (found_at side s)
sides_on A c s is = (both_are (found_on c.a) (found_on c.b) s is).0
sides_on B c s is = (both_are (found_on c.a) (found_on c.b) s is).1

abbrev unless : Bool → Sides → Option Sides
unless true s = None
unless false s = Some s

known_is_unless : (t : Bool) (s : Sides) → (if t then None else Some s) ≡ unless t s
known_is_unless true s = refl
known_is_unless false s = refl

no_version : (n : ℕ) → n ≢ 0 → (n == 0) ≡ false
no_version n some = grind (arith, nat_tests)

known_a : (a b : SideRecords) → a.version ≢ 0 → known a b ≡ Some (record { a = a; b = b })
known_a a b some = known_is_unless ((a.version == 0) && (b.version == 0)) (record { a = a; b = b })
    ∙ (λ i. unless (no_version a.version some i && (b.version == 0)) (record { a = a; b = b }))

known_b : (a b : SideRecords) → b.version ≢ 0 → known a b ≡ Some (record { a = a; b = b })
known_b a b some = known_is_unless ((a.version == 0) && (b.version == 0)) (record { a = a; b = b })
    ∙ (λ i. unless ((a.version == 0) && no_version b.version some i) (record { a = a; b = b }))
    ∙ at (a.version == 0)
  where
    at : (t : Bool) → unless (t && false) (record { a = a; b = b }) ≡ Some (record { a = a; b = b })
    at true = refl
    at false = refl

-- this on one side, and what was found on the other one, which has a format
pub sides_with : (side : Side) (c : Image) (s : Sides) (r : SideRecords) → found_on (bytes_of side c) ≡ Some r → found_on (bytes_of (opposite side) c) ≡ Some (found_at (opposite side) s)
    → (found_at (opposite side) s).version ≢ 0 → sides c ≡ Some (with_found side r s)
sides_with A c s r this other some = (λ i. both_found (this i) (other i)) ∙ known_b r s.b some
sides_with B c s r this other some = (λ i. both_found (other i) (this i)) ∙ known_a s.a r some

-- ---- a disk with the newer header on both sides

both_read : (a b : Option (List (List ℕ))) (r : Records) → both a b ≡ Some r → (a ≡ Some r.a) × (b ≡ Some r.b)
both_read (Some a) (Some b) r is = (ap Some (ap (λ (x : Records). x.a) same), ap Some (ap (λ (x : Records). x.b) same))
  where
    pair : Records
    pair = record { a = a; b = b }

    same : pair ≡ r
    same = cc
both_read (Some a) None r is = cc
both_read None b r is = cc

pub sides_newer : (image : Image) (r : Records) → records image ≡ Some r → sides image ≡ Some (as_sides r)
sides_newer image r is =
    let each = both_read (bodies_of image.a) (bodies_of image.b) r is in
    λ i. both_found ((reads_newer image.a r.a each.0).found i) ((reads_newer image.b r.b each.1).found i)

pub front_newer : (side : Side) (image : Image) (r : Records) → records image ≡ Some r → front_on side image ≡ header
front_newer A image r is = (reads_newer image.a r.a (both_read (bodies_of image.a) (bodies_of image.b) r is).0).front
front_newer B image r is = (reads_newer image.b r.b (both_read (bodies_of image.a) (bodies_of image.b) r is).1).front

-- ---- a side whose first gate is closed

shut_gate : (gate : ℕ) → gate ≢ 1 → (gate == 1) ≡ false
shut_gate gate shut = grind (arith, nat_tests)

none_behind : (fuel : ℕ) (gate : ℕ) (rest : List ℕ) → gate ≢ 1 → 1 ≤ fuel → bodies_from fuel (gate ∷ rest) ≡ Some []
none_behind zero gate rest shut some = absurd (omega arith)
none_behind (suc fuel) gate rest shut some = λ i. if shut_gate gate shut i then body_and (number_at rest) rest (bodies_from fuel) else Some []

pub shut_found : (side : List ℕ) → 9 ≤ length side → get_or side 8 0 ≢ 1 → found_on side ≡ Some (blank (version_of (take 8 side)))
unfolding found_on
shut_found side long shut = (λ i. if enough i then None else found_as (version_of (take 8 side)) side) ∙ at (version_of (take 8 side))
  where
    enough : nat_lt (length side) 9 ≡ false
    enough = grind (arith, nat_tests)

    behind : bodies_from (length side) (drop 8 side) ≡ Some []
    behind = ap (bodies_from (length side)) (drop_more side 8 0 (omega arith)) ∙ none_behind (length side) (get_or side 8 0) (drop 9 side) shut (omega arith)

    at : (v : ℕ) → found_as v side ≡ Some (blank v)
    at zero = refl
    at (suc v) = ap (option_map (λ bodies. record { version = suc v; bodies = bodies })) behind
