-- The bytes of a stop are read as they are spelled.
use Rattle.std.proofs.Common.{◌≡◌, ℕ, ◌+◌, ◌-◌, ◌*◌, ◌/◌, ◌%◌, ◌<◌, Bool, true, false, cond, eqb, ltb, List, [], ◌∷◌, ◌++◌, length, Option, Some, None, Result, Ok, Err, refl, sym, ap, ◌∙◌, arith, codes, append_assoc}
use Rattle.std.specs.Prelude.{◌&&◌, ◌||◌, nat_le, nat_eq}
use Rattle.std.specs.List.{flat_map}
use Rattle.std.proofs.lemmas.Bool.{ne_eqb, leb-true, le-leb, lt-leb, lt-ltb, le-ltb, ltb-true, ltb-false, and_parts, and_right, or_parts}
use Rattle.std.proofs.lemmas.List.{append-nil}
use Rattle.cg_text.specs.Order.{same_text}
use Rattle.cg_text.specs.Numbers.{is_digit}
use Rattle.cg_schedule.specs.declared.fault.LineFault.{LineFault}
use Rattle.cg_schedule.specs.Fault.{bad_text}
use Rattle.cg_schedule.specs.Part.{hex_digit, hex_byte, if_byte, hex_bytes, fill}
use Rattle.cg_schedule.specs.Print.{hex_glyph, hex_text, fill_text}
use Rattle.cg_schedule.specs.Limits.{AreBytes, IsFill}
use Rattle.cg_schedule.specs.PartLaws.{IsToken}
use Rattle.std.proofs.lemmas.Option.{same_Some}
use Rattle.cg_text.specs.OrderLaws.{same_text-is}

-- ---- digits

hex_digit-glyph : (n : ℕ) → n < 16 → hex_digit (hex_glyph n) ≡ Some n
hex_digit-glyph n small = by_size (ltb n 10) refl where
  by_size : (b : Bool) → ltb n 10 ≡ b → hex_digit (cond b (48 + n) (87 + n)) ≡ Some n
  by_size true e =
      let below = ltb-true n 10 e in
      let back : 48 + n - 48 ≡ n = omega arith in
      rw (le-leb 48 (48 + n) (omega arith), le-leb (48 + n) 57 (omega arith), back) refl
  by_size false e =
      let above = ltb-false n 10 e in
      let back : 87 + n - 87 ≡ n = omega arith in
      rw (le-leb 48 (87 + n) (omega arith), lt-leb (87 + n) 57 (omega arith), le-leb 97 (87 + n) (omega arith), le-leb (87 + n) 102 (omega arith), back) refl

glyph-hex_digit : (byte n : ℕ) → hex_digit byte ≡ Some n → (n < 16) × (byte ≡ hex_glyph n)
glyph-hex_digit byte n e = by_digit (is_digit byte) refl e where
  by_letter : (b : Bool) → (nat_le 97 byte && nat_le byte 102) ≡ b → cond b (Some (byte - 87)) None ≡ Some n → (n < 16) × (byte ≡ hex_glyph n)
  by_letter true l f =
      let parts = and_parts (nat_le 97 byte) (nat_le byte 102) l in
      let low = leb-true 97 byte parts.0 in
      let high = leb-true byte 102 parts.1 in
      let is : byte - 87 ≡ n = same_Some (byte - 87) n f in
      (omega arith, rw (le-ltb n 10 (omega arith)) (omega arith))
  by_letter false l f = absurd cc

  by_digit : (b : Bool) → is_digit byte ≡ b → cond b (Some (byte - 48)) (cond (nat_le 97 byte && nat_le byte 102) (Some (byte - 87)) None) ≡ Some n → (n < 16) × (byte ≡ hex_glyph n)
  by_digit true d f =
      let parts = and_parts (nat_le 48 byte) (nat_le byte 57) d in
      let low = leb-true 48 byte parts.0 in
      let high = leb-true byte 57 parts.1 in
      let is : byte - 48 ≡ n = same_Some (byte - 48) n f in
      (omega arith, rw (lt-ltb n 10 (omega arith)) (omega arith))
  by_digit false d f = by_letter (nat_le 97 byte && nat_le byte 102) refl f

hex_byte-ok : (a b : Option ℕ) (byte : ℕ) → hex_byte a b ≡ Some byte → (high : ℕ) × (low : ℕ) × (a ≡ Some high) × (b ≡ Some low) × (16 * high + low ≡ byte)
hex_byte-ok (Some high) (Some low) byte e = (high, low, refl, refl, same_Some (16 * high + low) byte e)
hex_byte-ok (Some high) None byte e = absurd cc
hex_byte-ok None low byte e = absurd cc

-- ---- bytes

pair-again : (byte : ℕ) → byte < 256 → hex_byte (hex_digit (hex_glyph (byte / 16))) (hex_digit (hex_glyph (byte % 16))) ≡ Some byte
pair-again byte small =
    let back : 16 * (byte / 16) + byte % 16 ≡ byte = omega arith in
    rw (hex_digit-glyph (byte / 16) (omega arith), hex_digit-glyph (byte % 16) (omega arith), back) refl

hex_bytes-again : (taken bytes : List ℕ) → AreBytes bytes → hex_bytes taken (flat_map hex_text bytes) ≡ Ok (taken ++ bytes)
hex_bytes-again taken [] are = rw (append-nil taken) refl
hex_bytes-again taken (byte ∷ bytes) are =
    rw (pair-again byte are.0) (hex_bytes-again (taken ++ byte ∷ []) bytes are.1 ∙ ap (λ (t : List ℕ). Ok t) (append_assoc taken (byte ∷ []) bytes))

-- digits that bytes were read from
record HexFound (taken digits bytes : List ℕ) : Type 0 where
  more : List ℕ
  grown : bytes ≡ taken ++ more
  are : AreBytes more
  spelled : digits ≡ flat_map hex_text more

pair-found : (high low byte : ℕ) → hex_byte (hex_digit high) (hex_digit low) ≡ Some byte → (byte < 256) × (high ≡ hex_glyph (byte / 16)) × (low ≡ hex_glyph (byte % 16))
pair-found high low byte e =
    let g = hex_byte-ok (hex_digit high) (hex_digit low) byte e in
    let a = glyph-hex_digit high g.0 g.2 in
    let b = glyph-hex_digit low g.1 g.3 in
    let is : 16 * g.0 + g.1 ≡ byte = g.4 in
    let front : g.0 ≡ byte / 16 = omega (arith, a.0, b.0) in
    let back : g.1 ≡ byte % 16 = omega (arith, a.0, b.0) in
    (omega (arith, a.0, b.0), a.1 ∙ ap hex_glyph front, b.1 ∙ ap hex_glyph back)

if_byte-ok : (o : Option ℕ) (next : ℕ → Result (List ℕ) LineFault) (bytes : List ℕ) → if_byte o next ≡ Ok bytes → (byte : ℕ) × (o ≡ Some byte) × (next byte ≡ Ok bytes)
if_byte-ok (Some byte) next bytes e = (byte, refl, e)
if_byte-ok None next bytes e = absurd cc

same_Ok : (a b : List ℕ) → hex_bytes a [] ≡ Ok b → a ≡ b
same_Ok a b e = cc

three : (high low x y : ℕ) (digits z : List ℕ) → high ≡ x → low ≡ y → digits ≡ z → high ∷ low ∷ digits ≡ x ∷ y ∷ z
three high low x y digits z a b c = cc

hex_bytes-found : (taken digits bytes : List ℕ) → hex_bytes taken digits ≡ Ok bytes → HexFound taken digits bytes
hex_bytes-found taken [] bytes e = record { more = []; grown = sym (same_Ok taken bytes e) ∙ sym (append-nil taken); are = tt; spelled = refl }
hex_bytes-found taken (digit ∷ []) bytes e = absurd cc
hex_bytes-found taken (high ∷ low ∷ digits) bytes e =
    let g = if_byte-ok (hex_byte (hex_digit high) (hex_digit low)) (λ byte. hex_bytes (taken ++ byte ∷ []) digits) bytes e in
    let pair = pair-found high low g.0 g.1 in
    let rest = hex_bytes-found (taken ++ g.0 ∷ []) digits bytes g.2 in
    record {
      more = g.0 ∷ rest.more;
      grown = rest.grown ∙ append_assoc taken (g.0 ∷ []) rest.more;
      are = (pair.0, rest.are);
      spelled = three high low (hex_glyph (g.0 / 16)) (hex_glyph (g.0 % 16)) digits (flat_map hex_text rest.more) pair.1 pair.2 rest.spelled;
    }

-- two digits a byte
length-hex : (bytes : List ℕ) → length (flat_map hex_text bytes) ≡ 2 * length bytes
length-hex [] = refl
length-hex (byte ∷ bytes) = let more = length-hex bytes in omega arith

-- bytes don't spell a hyphen
no_hyphen : (byte : ℕ) (bytes : List ℕ) → same_text (flat_map hex_text (byte ∷ bytes)) (codes "-") ≡ false
no_hyphen byte bytes = and_right (nat_eq (hex_glyph (byte / 16)) 45) false refl

both_cond : {X : Type 0} (b : Bool) (fault : LineFault) (r : Result X LineFault) (x : X) → cond b (Err fault) r ≡ Ok x → (b ≡ false) × (r ≡ Ok x)
both_cond true fault r x e = absurd cc
both_cond false fault r x e = (refl, e)

pub fill_token : IsToken IsFill fill_text fill
unfolding fill
fill_token = record { again = again; found = λ bytes token e. found bytes token (same_text token (codes "-")) refl e } where
  again : (bytes : List ℕ) → IsFill bytes → fill (fill_text bytes) ≡ Ok bytes
  again [] has = refl
  again (byte ∷ bytes) has =
      let token = flat_map hex_text (byte ∷ bytes) in
      let long = length-hex (byte ∷ bytes) in
      let some : eqb (length token) 0 ≡ false = ne_eqb (length token) 0 (λ none. absurd (omega arith)) in
      let few : ltb 8192 (length token) ≡ false = le-ltb 8192 (length token) (omega (arith, has.1)) in
      rw (no_hyphen byte bytes, some, few) (hex_bytes-again [] (byte ∷ bytes) has.0)

  spelled_by : (more : List ℕ) (token : List ℕ) → eqb (length token) 0 ≡ false → token ≡ flat_map hex_text more → token ≡ fill_text more
  spelled_by [] token some e = absurd (none (rw e at some)) where
    none : eqb 0 0 ≡ false → ⊥
    none f = cc
  spelled_by (byte ∷ more) token some e = e

  found : (bytes token : List ℕ) (b : Bool) → same_text token (codes "-") ≡ b → cond b (Ok []) (cond (eqb (length token) 0 || ltb 8192 (length token)) (Err bad_text) (hex_bytes [] token)) ≡ Ok bytes → IsFill bytes × (token ≡ fill_text bytes)
  found bytes token true same e =
      let none : [] ≡ bytes = same_Ok [] bytes e in
      rw (← none) ((tt, omega arith), same_text-is token (codes "-") same)
  found bytes token false same e =
      let g = both_cond (eqb (length token) 0 || ltb 8192 (length token)) bad_text (hex_bytes [] token) bytes e in
      let tests = or_parts (eqb (length token) 0) (ltb 8192 (length token)) g.0 in
      let f = hex_bytes-found [] token bytes g.1 in
      let few = ltb-false 8192 (length token) tests.1 in
      let long : length token ≡ 2 * length f.more = ap length f.spelled ∙ length-hex f.more in
      rw f.grown ((f.are, omega arith), spelled_by f.more token tests.0 f.spelled)
