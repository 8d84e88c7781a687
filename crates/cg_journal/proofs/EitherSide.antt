-- A side of either format read as one of the newer format.
use Rattle.std.proofs.Common.{◌≡◌, ◌≢◌, inl, inr, ⊎_elim, ◌⊎◌, ℕ, ◌^◌, ◌≤◌, ◌<◌, ◌==◌, nat_lt, Bool, true, false, List, [], ◌∷◌, ◌++◌, length, get_or, take, drop, Some, None, refl, sym, ◌∙◌, ap, subst, arith, take-append-drop, length-append, length-drop}
use Rattle.std.specs.Bool.{if◌then◌else◌}
use Rattle.std.specs.Prelude.{slice_set}
use Rattle.std.specs.Option.{option_map}
use Rattle.std.specs.Str.{bytes_eq}
use Rattle.std.proofs.lemmas.Grind.{get_or_default_zero}  -- moves a read of a list of numbers to the default 0, which clauses write
use Rattle.std.proofs.lemmas.Bool.Decides.{nat_tests}
use Rattle.std.proofs.lemmas.Slice.Eq.{bytes_eq-Decides}
use Rattle.cg_journal.specs.Records.{header, HasRecords, bodies_of}
use Rattle.cg_journal.specs.Found.{old_header, version_of, found_on, found_as, blank}
use Rattle.cg_journal.specs.Heads.{IsHead}
use Rattle.cg_journal.specs.Held.{EndsAt}
use Rattle.cg_journal.specs.declared.open.SideRecords.{SideRecords}
use Rattle.cg_journal.proofs.Adding.{end_within}

abbrev pub of_version : ℕ → List (List ℕ) → SideRecords
of_version v bodies = record { version = v; bodies = bodies }

-- a side of the older format, from the same side with the newer header
long_enough : (rest : List ℕ) → 1 ≤ length rest → nat_lt (length (old_header ++ rest)) 9 ≡ false
long_enough rest some = grind (arith, nat_tests, length-append old_header rest)

found_old_as : (rest : List ℕ) → 1 ≤ length rest → found_on (old_header ++ rest) ≡ option_map (of_version 1) (bodies_of (header ++ rest))
unfolding found_on bodies_of
found_old_as rest some = λ i. if long_enough rest some i then None else found_as 1 (old_header ++ rest)

found_new_as : (rest : List ℕ) → 1 ≤ length rest → found_on (header ++ rest) ≡ option_map (of_version 2) (bodies_of (header ++ rest))
unfolding found_on bodies_of
found_new_as rest some = λ i. if long_new i then None else found_as 2 (header ++ rest)
  where
    long_new : nat_lt (length (header ++ rest)) 9 ≡ false
    long_new = grind (arith, nat_tests, length-append header rest)

pub found_old : (rest : List ℕ) (bodies : List (List ℕ)) → bodies_of (header ++ rest) ≡ Some bodies → found_on (old_header ++ rest) ≡ Some (of_version 1 bodies)
unfolding bodies_of
found_old [] bodies is = absurd (let none : None ≡ Some bodies = is in cc)
found_old (gate ∷ rest) bodies is = found_old_as (gate ∷ rest) (omega arith) ∙ ap (option_map (of_version 1)) is

-- ---- a side that is read

pub too_short : (side : List ℕ) → length side < 9 → found_on side ≡ None
unfolding found_on
too_short side short = let less : nat_lt (length side) 9 ≡ true = grind (arith, nat_tests) in λ i. if less i then None else found_as (version_of (take 8 side)) side

pub no_format : (side : List ℕ) → 9 ≤ length side → version_of (take 8 side) ≡ 0 → found_on side ≡ Some (blank 0)
unfolding found_on
no_format side long none = let more : nat_lt (length side) 9 ≡ false = grind (arith, nat_tests) in λ i. if more i then None else found_as (none i) side

-- the front of a side that has a format
FrontOf : List ℕ → Type 0
FrontOf front = ((front ≡ header) × (version_of front ≡ 2)) ⊎ ((front ≡ old_header) × (version_of front ≡ 1))

front_of : (front : List ℕ) → version_of front ≢ 0 → FrontOf front
unfolding FrontOf
front_of front some = at (bytes_eq front header) refl
  where
    older : (b : Bool) → bytes_eq front header ≡ false → bytes_eq front old_header ≡ b → ((front ≡ header) × (version_of front ≡ 2)) ⊎ ((front ≡ old_header) × (version_of front ≡ 1))
    older true not_new e = inr ((bytes_eq-Decides front old_header).0 e, λ i. if not_new i then 2 else if e i then 1 else 0)
    older false not_new e = absurd (some (λ i. if not_new i then 2 else if e i then 1 else 0))

    at : (b : Bool) → bytes_eq front header ≡ b → ((front ≡ header) × (version_of front ≡ 2)) ⊎ ((front ≡ old_header) × (version_of front ≡ 1))
    at true e = inl ((bytes_eq-Decides front header).0 e, λ i. if e i then 2 else if bytes_eq front old_header then 1 else 0)
    at false e = older (bytes_eq front old_header) e refl

split : (side front : List ℕ) → take 8 side ≡ front → side ≡ front ++ drop 8 side
split side front is = sym (take-append-drop 8 side) ∙ ap (λ (l : List ℕ). l ++ drop 8 side) is

-- the side with the newer header
pub renamed_is : (side : List ℕ) → version_of (take 8 side) ≢ 0 → slice_set side 7 50 ≡ header ++ drop 8 side
unfolding FrontOf
renamed_is side some = ⊎_elim
    (λ new. ap (λ (l : List ℕ). slice_set l 7 50) (split side header new.0))
    (λ old. ap (λ (l : List ℕ). slice_set l 7 50) (split side old_header old.0))
    (front_of (take 8 side) some)

pub read_as : (side : List ℕ) → 9 ≤ length side → version_of (take 8 side) ≢ 0 → found_on side ≡ option_map (of_version (version_of (take 8 side))) (bodies_of (header ++ drop 8 side))
unfolding FrontOf
read_as side long some =
    let rest : 1 ≤ length (drop 8 side) = omega (arith, long, length-drop 8 side) in
    ⊎_elim
    (λ new. ap found_on (split side header new.0) ∙ found_new_as (drop 8 side) rest ∙ ap (λ v. option_map (of_version v) (bodies_of (header ++ drop 8 side))) (sym new.1))
    (λ old. ap found_on (split side old_header old.0) ∙ found_old_as (drop 8 side) rest ∙ ap (λ v. option_map (of_version v) (bodies_of (header ++ drop 8 side))) (sym old.1))
    (front_of (take 8 side) some)

pub read_some : (side : List ℕ) (bodies : List (List ℕ)) → 9 ≤ length side → version_of (take 8 side) ≢ 0 → bodies_of (slice_set side 7 50) ≡ Some bodies → found_on side ≡ Some (of_version (version_of (take 8 side)) bodies)
read_some side bodies long some is = read_as side long some ∙ ap (λ l. option_map (of_version (version_of (take 8 side))) (bodies_of l)) (sym (renamed_is side some)) ∙ ap (option_map (of_version (version_of (take 8 side)))) is

pub read_none : (side : List ℕ) → 9 ≤ length side → version_of (take 8 side) ≢ 0 → bodies_of (slice_set side 7 50) ≡ None → found_on side ≡ None
read_none side long some is = read_as side long some ∙ ap (λ l. option_map (of_version (version_of (take 8 side))) (bodies_of l)) (sym (renamed_is side some)) ∙ ap (option_map (of_version (version_of (take 8 side)))) is

-- ---- where the records of a side of the newer format end

pub newer_ends : (side : List ℕ) (end : ℕ) (bodies : List (List ℕ)) → take 8 side ≡ header → HasRecords (slice_set side 7 50) end bodies → length side < 2 ^ 63 → EndsAt side end
newer_ends side end bodies front has short =
    let some : version_of (take 8 side) ≢ 0 = (λ none. absurd (let two = sym (ap version_of front) ∙ none in cc)) in
    let same : slice_set side 7 50 ≡ side = renamed_is side some ∙ sym (split side header front) in
    let on : HasRecords side end bodies = subst (λ (l : List ℕ). HasRecords l end bodies) same has in
    record { bodies = bodies; has = on; short = omega (arith, end_within side end bodies on, short) }

-- ---- its head

pub head_of : (side : List ℕ) (gate end : ℕ) (bodies : List (List ℕ)) → 9 ≤ length side → gate ≡ get_or side 8 gate → HasRecords (slice_set side 7 50) end bodies → length side < 2 ^ 63 → IsHead side (record { is_open = gate == 1; end = end })
head_of side gate end bodies long is has short = record {
  long = long;
  gate = ap (λ n. n == 1) (is ∙ get_or_default_zero side 8 gate (omega (arith, long)));
  ends = λ front. newer_ends side end bodies front has short;
}
