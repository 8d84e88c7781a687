-- The fields of one value each.
use Rattle.std.proofs.Common.{◌≡◌, ℕ, zero, suc, ◌+◌, ◌^◌, ◌<◌, ◌≤◌, Bool, true, false, cond, ltb, List, [], ◌∷◌, ◌++◌, length, take, Result, Ok, Err, refl, sym, subst, append_assoc, length-append, arith, inl, inr}
use Rattle.std.specs.Int.{Width, w32, w64, byte_len, from_be_bytes, to_be_bytes, cast_signed, cast_unsigned}
use Rattle.std.specs.Prelude.{ℤ, ◌==◌, nat_lt, nat_le, if◌then◌else◌}
use Rattle.std.specs.Str.{IsUtf8, is_utf8}
use Rattle.std.proofs.Math.Facts.{sfits_to_z, Fits-of_z}
use Rattle.std.proofs.lemmas.Int.{of_z-to_z, to_z-of_z}
use Rattle.std.proofs.lemmas.Str.{IsUtf8-from_is_utf8, is_utf8-from_IsUtf8}
use mir.Val.{SFits}
use Rattle.std.proofs.lemmas.Bool.{cases_lt, ltb-true, ltb-false, le-ltb, leb-true, le-leb, and_parts, and_from}
use Rattle.std.proofs.lemmas.List.{take_at, drop_at, take-append-drop, length-take, get_or-take, get_or_past}
use Rattle.std.proofs.lemmas.Nat.{be_bytes_4, be_bytes_8, from_be_bytes-to_be_bytes_4, from_be_bytes-to_be_bytes_8}
use Rattle.cg_codec.specs.declared.fault.CodecFault.{CodecFault}
use Rattle.cg_codec.specs.declared.fault.CodecFault.TheVariants.{Short, Bad}
use Rattle.cg_codec.specs.Fields.{byte, number32, number64, signed64, truth, text}
use Rattle.cg_codec.specs.Reading.{Unread, behind, byte_of, take_number, take_u8, take_u32, take_u64, take_i64, take_truth, take_count, take_text, text_bytes, only, is_between, byte_between}
use Rattle.cg_codec.specs.Laws.{AreBytes, Took, Found, IsField}
use Rattle.cg_codec.specs.FieldLaws.{Took-then, same_pair, go_on-ok, given, guarded, gives, field_has, field_only, field_map}

abbrev pub IsBelow : ℕ → ℕ → Type 0
IsBelow limit n = n < limit

-- ---- one byte

byte_found : (x : ℕ) (at : ℕ) (bytes : List ℕ) (new : Unread) → AreBytes bytes → byte_of at bytes ≡ Ok (x, new) →
    Found (IsBelow 256) byte x (record { at = at; bytes = bytes }) new
unfolding byte
byte_found x at [] new fits e = absurd cc
byte_found x at (b ∷ bytes) new fits e =
    let g = given b x (record { at = at + 1; bytes = bytes }) new e in
    rw (← g.0, ← g.1) record { has = fits 0; took = record { bytes = refl; at = refl } }

pub u8_field : IsField (IsBelow 256) byte take_u8
unfolding byte take_u8
u8_field = record {
  again = λ x at rest has. refl;
  found = λ x old new fits e. byte_found x old.at old.bytes new fits e;
}

-- a byte from low to high
pub between_field : (low high : ℕ) → high < 256 → IsField (λ n. (low ≤ n) × (n ≤ high)) byte (byte_between low high)
unfolding byte_between
between_field low high small =
    field_has (λ n. (n < 256) × (is_between low high n ≡ true)) (λ n. (low ≤ n) × (n ≤ high))
    byte (byte_between low high)
    (λ n has. is_between-true low high n has.1) (λ n has. (omega arith, between-true low high n has.0 has.1))
    (field_only (λ n. n < 256) byte take_u8 (is_between low high) u8_field)
  where
    is_between-true : (low high n : ℕ) → is_between low high n ≡ true → (low ≤ n) × (n ≤ high)
    is_between-true low high n e = let both = and_parts (nat_le low n) (nat_le n high) e in
        (leb-true low n both.0, leb-true n high both.1)

    between-true : (low high n : ℕ) → low ≤ n → n ≤ high → is_between low high n ≡ true
    between-true low high n l h = and_from (nat_le low n) (nat_le n high) (le-leb low n l) (le-leb n high h)

-- ---- numbers

AreBytes-take : (n : ℕ) (bytes : List ℕ) → AreBytes bytes → AreBytes (take n bytes)
AreBytes-take n bytes fits i =
    elim (cases_lt i n) [
      | inl lt ↦ rw (get_or-take n bytes i 0 lt) (fits i)
      | inr le ↦ rw (get_or_past (take n bytes) i 0 (omega (arith, length-take n bytes))) (omega arith)
    ]

-- what a width's bytes and numbers have to do with each other
record IsWide (w : Width) (limit : ℕ) : Type 0 where
  len : (n : ℕ) → length (to_be_bytes w n) ≡ byte_len w
  back : (bytes : List ℕ) → length bytes ≡ byte_len w → AreBytes bytes → to_be_bytes w (from_be_bytes w bytes) ≡ bytes
  again : (n : ℕ) → n < limit → from_be_bytes w (to_be_bytes w n) ≡ n
  below : (bytes : List ℕ) → AreBytes bytes → from_be_bytes w bytes < limit

wide32 : IsWide w32 (2 ^ 32)
wide32 = record {
  len = λ n. refl;
  back = λ bytes len fits. be_bytes_4 bytes _ len fits refl;
  again = λ n lt. from_be_bytes-to_be_bytes_4 n lt;
  below = λ bytes fits. omega (arith, fits 0, fits 1, fits 2, fits 3);
}

wide64 : IsWide w64 (2 ^ 64)
wide64 = record {
  len = λ n. refl;
  back = λ bytes len fits. be_bytes_8 bytes _ len fits refl;
  again = λ n lt. from_be_bytes-to_be_bytes_8 n lt;
  below = λ bytes fits. omega (arith, fits 0, fits 1, fits 2, fits 3, fits 4, fits 5, fits 6, fits 7);
}

number_again : (w : Width) (limit : ℕ) (wide : IsWide w limit) (n at : ℕ) (rest : List ℕ) → n < limit
    → take_number w (record { at = at; bytes = to_be_bytes w n ++ rest }) ≡
    Ok (n, record { at = at + length (to_be_bytes w n); bytes = rest })
number_again w limit wide n at rest lt =
    let len = wide.len n in
    let long : ltb (length (to_be_bytes w n ++ rest)) (byte_len w) ≡ false =
    le-ltb _ _ (omega (arith, length-append (to_be_bytes w n) rest)) in
    rw (
      long,
      take_at (to_be_bytes w n) rest (byte_len w) len,
      drop_at (to_be_bytes w n) rest (byte_len w) len,
      wide.again n lt,
      len,
    ) refl

number_found : (w : Width) (limit : ℕ) (wide : IsWide w limit) (n : ℕ) (old new : Unread) → AreBytes old.bytes →
    take_number w old ≡ Ok (n, new) → Found (IsBelow limit) (to_be_bytes w) n old new
number_found w limit wide n old new fits e =
    let front = take (byte_len w) old.bytes in
    let g = guarded (ltb (length old.bytes) (byte_len w)) (Short old.at) (from_be_bytes w front)
    n (behind (byte_len w) old) new e in
    let long : byte_len w ≤ length old.bytes = ltb-false _ _ g.0 in
    let len : length front ≡ byte_len w = omega (arith, length-take (byte_len w) old.bytes) in
    let bytes_fit = AreBytes-take (byte_len w) old.bytes fits in
    let spelled : to_be_bytes w n ≡ front = rw (← g.1) (wide.back front len bytes_fit) in
    let left : new ≡ behind (byte_len w) old = sym g.2 in
    record {
      has = rw (← g.1) (wide.below front bytes_fit);
      took = rw (spelled, left) record { bytes = sym (take-append-drop (byte_len w) old.bytes); at = rw len refl };
    }

pub u32_field : IsField (IsBelow (2 ^ 32)) number32 take_u32
unfolding number32 take_u32
u32_field = record {
  again = λ x at rest has. number_again w32 (2 ^ 32) wide32 x at rest has;
  found = λ x old new fits e. number_found w32 (2 ^ 32) wide32 x old new fits e;
}

pub u64_field : IsField (IsBelow (2 ^ 64)) number64 take_u64
unfolding number64 take_u64
u64_field = record {
  again = λ x at rest has. number_again w64 (2 ^ 64) wide64 x at rest has;
  found = λ x old new fits e. number_found w64 (2 ^ 64) wide64 x old new fits e;
}

-- the number that a two's complement is, and back
signed_of : (n : ℕ) → n < 2 ^ 64 → SFits w64 (cast_signed w64 n) × (cast_unsigned w64 (cast_signed w64 n) ≡ n)
signed_of n lt = (sfits_to_z (record { fits = lt }), of_z-to_z w64 n lt)

unsigned_of : (z : ℤ) → SFits w64 z → (cast_unsigned w64 z < 2 ^ 64) × (cast_signed w64 (cast_unsigned w64 z) ≡ z)
unsigned_of z fits = ((Fits-of_z fits).fits, to_z-of_z w64 z fits)

pub i64_field : IsField (SFits w64) signed64 take_i64
unfolding signed64 take_i64
i64_field = field_map (cast_signed w64) (cast_unsigned w64) (IsBelow (2 ^ 64)) number64 take_u64 (SFits w64)
    unsigned_of signed_of u64_field

-- ---- truth values

abbrev bit : Bool → ℕ
bit b = if b then 1 else 0

abbrev is_bit : ℕ → Bool
is_bit n = nat_lt n 2

bit_back : (b : Bool) → Unit {0} → ((bit b < 256) × (is_bit (bit b) ≡ true)) × ((bit b == 1) ≡ b)
bit_back true u = ((omega arith, refl), refl)
bit_back false u = ((omega arith, refl), refl)

bit_is : (n : ℕ) → (n < 256) × (is_bit n ≡ true) → Unit {0} × (bit (n == 1) ≡ n)
bit_is zero has = (tt, refl)
bit_is (suc zero) has = (tt, refl)
bit_is (suc (suc n)) has = absurd (omega (arith, ltb-true (suc (suc n)) 2 has.1))

pub truth_field : IsField (λ (b : Bool). Unit {0}) truth take_truth
unfolding truth take_truth
truth_field = field_map (λ n. n == 1) bit (λ n. (n < 256) × (is_bit n ≡ true))
    byte (only is_bit take_u8) (λ b. Unit {0}) bit_back bit_is (field_only (IsBelow 256) byte take_u8 is_bit u8_field)

-- ---- counts and texts

pub count_field : (max : ℕ) → max < 2 ^ 32 → IsField (λ n. n ≤ max) number32 (take_count max)
unfolding take_count
count_field max small =
    field_has (λ n. (n < 2 ^ 32) × (nat_le n max ≡ true)) (λ n. n ≤ max) number32 (only (λ n. nat_le n max) take_u32)
    (λ n has. leb-true n max has.1) (λ n has. (omega arith, le-leb n max has))
    (field_only (IsBelow (2 ^ 32)) number32 take_u32 (λ n. nat_le n max) u32_field)

-- a fault that did not come
unless : {R : Type 0} (b : Bool) (fault : CodecFault) (r : Result R CodecFault) (y : R) → cond b (Err fault) r ≡ Ok y →
    (b ≡ false) × (r ≡ Ok y)
unless true fault r y e = absurd cc
unless false fault r y e = (refl, e)

-- a test that was passed
provided : {R : Type 0} (b : Bool) (fault : CodecFault) (r : Result R CodecFault) (y : R) →
    cond b r (Err fault) ≡ Ok y → (b ≡ true) × (r ≡ Ok y)
provided true fault r y e = (refl, e)
provided false fault r y e = absurd cc

-- a text of so many bytes, by the two tests that it passed
text_bytes-ok : (at n : ℕ) (t : List ℕ) (old new : Unread) → text_bytes at n old ≡ Ok (t, new) → (n ≤ length old.bytes)
    × (is_utf8 (take n old.bytes) ≡ true) × (gives (take n old.bytes, behind n old) ≡ Ok (t, new))
text_bytes-ok at n t old new e =
    let long = unless (nat_lt (length old.bytes) n) (Short at)
    (cond (is_utf8 (take n old.bytes)) (gives (take n old.bytes, behind n old)) (Err (Bad at))) (t, new) e in
    let utf8 = provided (is_utf8 (take n old.bytes)) (Bad at) (gives (
      take n old.bytes,
      behind n old,
    )) (t, new) long.1 in
    (ltb-false _ _ long.0, utf8.0, utf8.1)

pub text_field : (max : ℕ) → max < 2 ^ 32 → IsField (λ t. IsUtf8 t × (length t ≤ max)) text (take_text max)
unfolding text take_text
text_field max small = record {
  again = λ t at rest has.
      let one = (count_field max small).again (length t) at (t ++ rest) has.1 in
      let grouped : (number32 (length t) ++ t) ++ rest ≡ number32 (length t) ++ (t ++ rest) =
      append_assoc (number32 (length t)) t rest in
      let long : nat_lt (length (t ++ rest)) (length t) ≡ false = le-ltb _ _ (omega (arith, length-append t rest)) in
      let count : at + length (number32 (length t)) + length t ≡ at + length (number32 (length t) ++ t) =
      omega (arith, length-append (number32 (length t)) t) in
      rw (
        grouped,
        one,
        long,
        take_at t rest (length t) refl,
        is_utf8-from_IsUtf8 t has.0,
        drop_at t rest (length t) refl,
        count,
      ) refl;
  found = λ t old new fits e.
      let step = go_on-ok (take_count max old) (text_bytes old.at) t new e in
      let n = step.0 in
      let mid = step.1 in
      let one = (count_field max small).found n old mid fits step.2 in
      let g = text_bytes-ok old.at n t mid new step.3 in
      let len : length (take n mid.bytes) ≡ n = omega (arith, length-take n mid.bytes, g.0) in
      let rest : Took mid (take n mid.bytes) (behind n mid) =
      record { bytes = sym (take-append-drop n mid.bytes); at = rw len refl } in
      let both = Took-then old (number32 n) mid (take n mid.bytes) (behind n mid) one.took rest in
      let counted : Took old (number32 (length (take n mid.bytes)) ++ take n mid.bytes) (behind n mid) = rw len both in
      let found : Found (λ t. IsUtf8 t × (length t ≤ max)) text (take n mid.bytes) old (behind n mid) =
      record { has = (IsUtf8-from_is_utf8 _ g.1, omega (arith, one.has)); took = counted } in
      subst (λ (p : List ℕ × Unread). Found (λ t. IsUtf8 t × (length t ≤ max)) text p.0 old p.1)
      (same_pair (take n mid.bytes, behind n mid) (t, new) g.2) found;
}

pub length-number32 : (n : ℕ) → length (number32 n) ≡ 4
unfolding number32
length-number32 n = refl
