-- What is found on sides, by their versions.
use Rattle.std.proofs.Common.{◌≡◌, ◌≢◌, ℕ, zero, suc, nat_lt, Bool, true, false, List, [], length, take, drop, Option, Some, None, refl, sym, ◌∙◌, ap, arith}
use Rattle.std.specs.Option.{option_map}
use Rattle.std.specs.Bool.{if◌then◌else◌}
use Rattle.std.specs.Str.{bytes_eq}
use Rattle.std.proofs.lemmas.Slice.Eq.{bytes_eq-Decides}
use Rattle.cg_disk.specs.Sides.{Image, bytes_of, opposite}
use Rattle.cg_disk.specs.declared.disk.Side.{Side}
use Rattle.cg_disk.specs.declared.disk.Side.TheVariants.{A, B}
use Rattle.cg_journal.specs.Records.{header, bodies_from, bodies_of, Records, records, both}
use Rattle.cg_journal.specs.Found.{old_header, version_of, front_on, blank, found_as, found_on, Sides, sides, found_at}
use Rattle.cg_journal.specs.FoundLaws.{sides_on}
use Rattle.cg_journal.specs.declared.open.SideRecords.{SideRecords}
use Rattle.cg_store.specs.Stands.{Live, OnDisk, Stands, live_on, stands_for, chosen}
use Rattle.cg_store.specs.Formats.{live_with, live_as, chosen_in}
use Rattle.cg_store.specs.FormatLaws.{on_side}
use Rattle.cg_store.specs.NewerLaws.{same_live}
use Rattle.std.proofs.lemmas.Option.{same_Some}

-- ---- the front of a side

abbrev version_by : Bool → Bool → ℕ
version_by b c = if b then 2 else if c then 1 else 0

pub two_is : (front : List ℕ) → version_of front ≡ 2 → bytes_eq front header ≡ true
two_is front is = at (bytes_eq front header) (bytes_eq front old_header) is
  where
    at : (b c : Bool) → version_by b c ≡ 2 → b ≡ true
    at true c e = refl
    at false true e = absurd (omega (arith, e))
    at false false e = absurd (omega (arith, e))

pub not_two : (front : List ℕ) → version_of front ≢ 2 → bytes_eq front header ≡ false
not_two front isnt = at (bytes_eq front header) (bytes_eq front old_header) isnt
  where
    at : (b c : Bool) → version_by b c ≢ 2 → b ≡ false
    at true c e = absurd (e refl)
    at false c e = refl

pub one_is : (front : List ℕ) → version_of front ≡ 1 → front ≡ old_header
one_is front is = (bytes_eq-Decides front old_header).0 (at (bytes_eq front header) (bytes_eq front old_header) is)
  where
    at : (b c : Bool) → version_by b c ≡ 1 → c ≡ true
    at true c e = absurd (omega (arith, e))
    at false true e = refl
    at false false e = absurd (omega (arith, e))

pub else_two : (front : List ℕ) → version_of front ≢ 1 → version_of front ≢ 0 → version_of front ≡ 2
else_two front not_one not_none = at (bytes_eq front header) (bytes_eq front old_header) not_one not_none
  where
    at : (b c : Bool) → version_by b c ≢ 1 → version_by b c ≢ 0 → version_by b c ≡ 2
    at true c one none = refl
    at false true one none = absurd (one refl)
    at false false one none = absurd (none refl)

-- ---- one side

none_found : (r : SideRecords) → None ≡ Some r → ⊥
none_found r e = cc

abbrev as_version : ℕ → List (List ℕ) → SideRecords
as_version v bodies = record { version = v; bodies = bodies }

as_found : (v : ℕ) (bytes : List ℕ) (r : SideRecords) → found_as v bytes ≡ Some r → r.version ≡ v
as_found zero bytes r is = sym (ap (λ (x : SideRecords). x.version) (same_Some (blank 0) r is))
as_found (suc v) bytes r is = at (bodies_from (length bytes) (drop 8 bytes)) is
  where
    at : (found : Option (List (List ℕ))) → option_map (as_version (suc v)) found ≡ Some r → r.version ≡ suc v
    at None e = absurd (none_found r e)
    at (Some bodies) e = sym (ap (λ (x : SideRecords). x.version) (same_Some (as_version (suc v) bodies) r e))

found_long : (bytes : List ℕ) (r : SideRecords) → found_on bytes ≡ Some r → found_as (version_of (take 8 bytes)) bytes ≡ Some r
unfolding found_on
found_long bytes r is = at (nat_lt (length bytes) 9) is
  where
    at : (short : Bool) → (if short then None else found_as (version_of (take 8 bytes)) bytes) ≡ Some r → found_as (version_of (take 8 bytes)) bytes ≡ Some r
    at true e = absurd (none_found r e)
    at false e = e

pub found_version : (bytes : List ℕ) (r : SideRecords) → found_on bytes ≡ Some r → r.version ≡ version_of (take 8 bytes)
found_version bytes r is = as_found (version_of (take 8 bytes)) bytes r (found_long bytes r is)

-- a side without a format has no records
pub found_none : (bytes : List ℕ) (r : SideRecords) → found_on bytes ≡ Some r → r.version ≡ 0 → r.bodies ≡ []
found_none bytes r is zeroth =
    let none : version_of (take 8 bytes) ≡ 0 = sym (found_version bytes r is) ∙ zeroth in
    let blank_is : Some (blank 0) ≡ Some r = sym (ap (λ v. found_as v bytes) none) ∙ found_long bytes r is in
    sym (ap (λ (x : SideRecords). x.bodies) (same_Some (blank 0) r blank_is))

-- a side of the newer format is read as one
pub found_two : (bytes : List ℕ) (r : SideRecords) → found_on bytes ≡ Some r → r.version ≡ 2 → bodies_of bytes ≡ Some r.bodies
unfolding bodies_of
found_two bytes r is second = (λ i. if two_is (take 8 bytes) two i then bodies_from (length bytes) (drop 8 bytes) else None) ∙ at (bodies_from (length bytes) (drop 8 bytes)) read
  where
    two : version_of (take 8 bytes) ≡ 2
    two = sym (found_version bytes r is) ∙ second

    read : option_map (as_version 2) (bodies_from (length bytes) (drop 8 bytes)) ≡ Some r
    read = sym (ap (λ v. found_as v bytes) two) ∙ found_long bytes r is

    at : (found : Option (List (List ℕ))) → option_map (as_version 2) found ≡ Some r → found ≡ Some r.bodies
    at None e = absurd (none_found r e)
    at (Some bodies) e = ap (λ (x : SideRecords). Some x.bodies) (same_Some (as_version 2 bodies) r e)

-- ---- both sides

pub front_version : (side : Side) (c : Image) (s : Sides) → sides c ≡ Some s → (found_at side s).version ≡ version_of (front_on side c)
front_version side c s is = found_version (bytes_of side c) (found_at side s) (sides_on side c s is)

-- both are of the newer format
abbrev records_in : Sides → Records
records_in s = record { a = s.a.bodies; b = s.b.bodies }

pub both_newer : (c : Image) (s : Sides) → sides c ≡ Some s → s.a.version ≡ 2 → s.b.version ≡ 2 → records c ≡ Some (records_in s)
both_newer c s is a b = λ i. both (found_two c.a s.a (sides_on A c s is) a i) (found_two c.b s.b (sides_on B c s is) b i)

pub sides_newer_too : (side : Side) (c : Image) (s : Sides) → sides c ≡ Some s → (found_at side s).version ≡ 2 → (found_at (opposite side) s).version ≡ 2 → records c ≡ Some (records_in s)
sides_newer_too A c s is one other = both_newer c s is one other
sides_newer_too B c s is one other = both_newer c s is other one

live_newer : (id : ℕ) (r : SideRecords) → r.version ≡ 2 → live_as id r ≡ live_on id r.bodies
live_newer id r two = ap (λ v. live_with id v r.bodies) two ∙ sym (same_live id r.bodies)

both_stand : (id : ℕ) (c : Image) (s : Sides) (u : OnDisk) → sides c ≡ Some s → s.a.version ≡ 2 → s.b.version ≡ 2 → chosen_in id s ≡ Some u → Stands id c u
both_stand id c s u is a b stands =
    ap (stands_for id) (both_newer c s is a b)
    ∙ (λ i. chosen (sym (live_newer id s.a a) i) (sym (live_newer id s.b b) i))
    ∙ stands

pub stands_in_newer : (side : Side) (id : ℕ) (c : Image) (s : Sides) (u : OnDisk) → sides c ≡ Some s → (found_at side s).version ≡ 2 → (found_at (opposite side) s).version ≡ 2 → chosen_in id s ≡ Some u → Stands id c u
stands_in_newer A id c s u is one other stands = both_stand id c s u is one other stands
stands_in_newer B id c s u is one other stands = both_stand id c s u is other one stands

-- ---- the side in use has a format

none_on : (u : OnDisk) → None ≡ Some u → ⊥
none_on u e = cc

a_isnt_b : A ≡ B → ⊥
a_isnt_b e = cc

only_b : (b : Option Live) (u : OnDisk) → chosen None b ≡ Some u → u.side ≡ B
only_b None u is = absurd (none_on u is)
only_b (Some l) u is = (on_side B l u is).side_is

only_a : (a : Option Live) (u : OnDisk) → chosen a None ≡ Some u → u.side ≡ A
only_a None u is = absurd (none_on u is)
only_a (Some l) u is = (on_side A l u is).side_is

without_bodies : (id : ℕ) (r : SideRecords) → r.bodies ≡ [] → live_as id r ≡ None
without_bodies id r none = ap (live_with id r.version) none

pub in_use : (id : ℕ) (c : Image) (s : Sides) (u : OnDisk) (side : Side) → sides c ≡ Some s → chosen_in id s ≡ Some u → u.side ≡ side → (found_at side s).version ≢ 0
in_use id c s u A is stands on zeroth =
    a_isnt_b (sym on ∙ only_b (live_as id s.b) u (ap (λ l. chosen l (live_as id s.b)) (sym (without_bodies id s.a (found_none c.a s.a (sides_on A c s is) zeroth))) ∙ stands))
in_use id c s u B is stands on zeroth =
    a_isnt_b (sym (only_a (live_as id s.a) u (ap (chosen (live_as id s.a)) (sym (without_bodies id s.b (found_none c.b s.b (sides_on B c s is) zeroth))) ∙ stands)) ∙ on)

-- it isn't of the older format, so it is of the newer one
pub in_use_newer : (id : ℕ) (c : Image) (s : Sides) (u : OnDisk) (side : Side) → sides c ≡ Some s → chosen_in id s ≡ Some u → u.side ≡ side → (found_at side s).version ≢ 1 → (found_at side s).version ≡ 2
in_use_newer id c s u side is stands on not_one =
    let front = front_version side c s is in
    front ∙ else_two (front_on side c) (λ one. not_one (front ∙ one)) (λ none. in_use id c s u side is stands on (front ∙ none))
