-- Each part that is one token is read as it is spelled.
use Rattle.std.proofs.Common.{◌≡◌, ℕ, ◌^◌, ◌<◌, ◌≤◌, Bool, true, false, cond, List, [], ◌∷◌, length, Option, Some, None, Result, Ok, Err, refl, ap, arith, codes}
use Rattle.std.specs.Prelude.{ℤ, pos, negsuc, ◌≤ℤ◌, nat_le, decimal, FitsSigned}
use Rattle.std.specs.Fmt.{signed_decimal}
use Rattle.std.specs.Int.{w64}
use Rattle.std.specs.Str.{IsUtf8}
use Rattle.std.proofs.lemmas.Bool.{ne_eqb, leb-true, le-leb}
use Rattle.std.proofs.lemmas.Int.{ints}
use Rattle.cg_text.specs.declared.fault.TextFault.{TextFault}
use Rattle.cg_text.specs.Fault.{IsSpelling}
use Rattle.cg_text.specs.Order.{same_text}
use Rattle.cg_text.specs.Numbers.{read_u64, read_i64}
use Rattle.cg_text.specs.Quoted.{quoted, read_quoted}
use Rattle.cg_text.specs.Printable.{is_printable}
use Rattle.cg_action.specs.declared.value.Value.{Value}
use Rattle.cg_action.specs.declared.value.Value.TheVariants.{Text, Int}
use Rattle.cg_action.specs.Limits.{IsValueOf, IsWantOf}
use Rattle.cg_action.specs.Print.{value_text, want_text}
use Rattle.cg_schedule.specs.declared.fault.LineFault.{LineFault}
use Rattle.cg_schedule.specs.Fault.{bad_text}
use Rattle.cg_schedule.specs.Part.{number, signed, integer, not_negative, amount, long_enough, text, is_quoted, text_value, number_value, value, some_value, want}
use Rattle.cg_schedule.specs.Limits.{IsWithin, IsPrintable}
use Rattle.cg_schedule.specs.PartLaws.{IsToken}
use Rattle.cg_base.specs.ResultLaws.{cond_ok}
use Rattle.cg_text.specs.OrderLaws.{same_text-is}
use Rattle.cg_schedule.specs.NumberLaws.{in_range-ok}

-- what is known of the spelling of numbers and texts
pub record TextFacts : Type 0 where
  pub unsigned : IsSpelling (λ n. n < 2 ^ 64) decimal read_u64
  pub signed : IsSpelling (FitsSigned w64) signed_decimal read_i64
  pub quotes : (max : ℕ) → IsSpelling (λ t. IsUtf8 t × (is_printable t ≡ true) × (length t ≤ max)) quoted (read_quoted max)

-- ---- numbers

pub number_token : TextFacts → (low high : ℕ) → high < 2 ^ 64 → IsToken (IsWithin low high) decimal (number low high)
unfolding number
number_token facts low high small = record {
  again = λ n has. rw (facts.unsigned.again n (omega arith), le-leb low n has.0, le-leb n high has.1) refl;
  found = λ n token e.
      let g = in_range-ok low high (read_u64 token) n e in
      (g.1, (facts.unsigned.found token n g.0).1);
}

signed-ok : (r : Result ℤ TextFault) (n : ℤ) → signed r ≡ Ok n → r ≡ Ok n
signed-ok (Ok m) n e = ap (λ (k : ℤ). Ok k) (same m n e) where
  same : (a b : ℤ) → signed (Ok a) ≡ Ok b → a ≡ b
  same a b f = cc
signed-ok (Err fault) n e = absurd cc

pub integer_token : TextFacts → IsToken (FitsSigned w64) signed_decimal integer
unfolding integer
integer_token facts = record {
  again = λ n has. rw (facts.signed.again n has) refl;
  found = λ n token e. facts.signed.found token n (signed-ok (read_i64 token) n e);
}

-- a number of 0 or more
abbrev pub IsAmount : ℤ → Type 0
IsAmount n = FitsSigned w64 n × (pos 0 ≤ℤ n)

not_negative-ok : (r : Result ℤ LineFault) (n : ℤ) → not_negative r ≡ Ok n → (r ≡ Ok n) × (pos 0 ≤ℤ n)
not_negative-ok (Ok (pos m)) n e =
    let same : pos m ≡ n = cc in
    (ap (λ (k : ℤ). Ok k) same, rw (← same) (omega (arith, ints)))
not_negative-ok (Ok (negsuc m)) n e = absurd cc
not_negative-ok (Err fault) n e = absurd cc

pub amount_token : TextFacts → IsToken IsAmount signed_decimal amount
unfolding amount
amount_token facts = record {
  again = again;
  found = λ n token e.
      let g = not_negative-ok (integer token) n e in
      let f = (integer_token facts).found n token g.0 in
      ((f.0, g.1), f.1);
}
  where
    again : (n : ℤ) → IsAmount n → amount (signed_decimal n) ≡ Ok n
    again (pos m) has = rw ((integer_token facts).again (pos m) has.0) refl
    again (negsuc m) has = absurd (omega (arith, ints, has.1))

-- ---- texts and values

long_enough-ok : (low : ℕ) (r : Result (List ℕ) TextFault) (t : List ℕ) → long_enough low r ≡ Ok t → (r ≡ Ok t) × (low ≤ length t)
long_enough-ok low (Ok s) t e =
    let g = cond_ok (nat_le low (length s)) s t bad_text e in
    (ap (λ (k : List ℕ). Ok k) g.1, rw (← g.1) (leb-true low (length s) g.0))
long_enough-ok low (Err fault) t e = absurd cc

pub text_token : TextFacts → (low high : ℕ) → IsToken (IsPrintable low high) quoted (text low high)
unfolding text
text_token facts low high = record {
  again = λ t has. rw ((facts.quotes high).again t (has.0, has.1, has.3), le-leb low (length t) has.2) refl;
  found = λ t token e.
      let g = long_enough-ok low (read_quoted high token) t e in
      let f = (facts.quotes high).found token t g.0 in
      ((f.0.0, f.0.1, g.1, f.0.2), f.1);
}

-- a number isn't quoted
no_quote : (token : List ℕ) (n : ℤ) → integer token ≡ Ok n → is_quoted token ≡ false
unfolding integer
no_quote [] n e = refl
no_quote (byte ∷ bytes) n e = ne_eqb byte 34 (λ quote. refused (rw quote at e)) where
  refused : integer (34 ∷ bytes) ≡ Ok n → ⊥
  refused f = cc

text_value-ok : (r : Result (List ℕ) LineFault) (v : Value) → text_value r ≡ Ok v → (t : List ℕ) × (r ≡ Ok t) × (Text t ≡ v)
text_value-ok (Ok t) v e = (t, refl, cc)
text_value-ok (Err fault) v e = absurd cc

number_value-ok : (r : Result ℤ LineFault) (v : Value) → number_value r ≡ Ok v → (n : ℤ) × (r ≡ Ok n) × (Int n ≡ v)
number_value-ok (Ok n) v e = (n, refl, cc)
number_value-ok (Err fault) v e = absurd cc

abbrev pub IsValue : Value → Type 0
IsValue = IsValueOf IsPrintable

pub value_token : TextFacts → IsToken IsValue value_text value
unfolding value
value_token facts = record { again = again; found = λ v token e. found v token (is_quoted token) refl e } where
  again : (v : Value) → IsValue v → value (value_text v) ≡ Ok v
  again (Text t) has = rw ((text_token facts 0 1024).again t has) refl
  again (Int n) has =
      let read = (integer_token facts).again n has in
      rw (no_quote (signed_decimal n) n read, read) refl

  found : (v : Value) (token : List ℕ) (b : Bool) → is_quoted token ≡ b → cond b (text_value (text 0 1024 token)) (number_value (integer token)) ≡ Ok v → IsValue v × (token ≡ value_text v)
  found v token true q e =
      let g = text_value-ok (text 0 1024 token) v e in
      rw (← g.2) ((text_token facts 0 1024).found g.0 token g.1)
  found v token false q e =
      let g = number_value-ok (integer token) v e in
      rw (← g.2) ((integer_token facts).found g.0 token g.1)

-- a value isn't the word absent
no_absent : (token : List ℕ) (v : Value) → value token ≡ Ok v → (b : Bool) → same_text token (codes "absent") ≡ b → b ≡ false
unfolding value integer
no_absent token v e false same = refl
no_absent token v e true same = absurd (refused (rw (same_text-is token (codes "absent") same) at e)) where
  refused : value (codes "absent") ≡ Ok v → ⊥
  refused f = cc

some_value-ok : (r : Result Value LineFault) (o : Option Value) → some_value r ≡ Ok o → (v : Value) × (r ≡ Ok v) × (Some v ≡ o)
some_value-ok (Ok v) o e = (v, refl, cc)
some_value-ok (Err fault) o e = absurd cc

abbrev pub IsWant : Option Value → Type 0
IsWant = IsWantOf IsPrintable

pub want_token : TextFacts → IsToken IsWant want_text want
unfolding want
want_token facts = record { again = again; found = λ o token e. found o token (same_text token (codes "absent")) refl e } where
  again : (o : Option Value) → IsWant o → want (want_text o) ≡ Ok o
  again None has = refl
  again (Some v) has =
      let read = (value_token facts).again v has in
      rw (no_absent (value_text v) v read (same_text (value_text v) (codes "absent")) refl, read) refl

  found : (o : Option Value) (token : List ℕ) (b : Bool) → same_text token (codes "absent") ≡ b → cond b (Ok None) (some_value (value token)) ≡ Ok o → IsWant o × (token ≡ want_text o)
  found o token true same e =
      let none : None ≡ o = cc in
      rw (← none) (tt, same_text-is token (codes "absent") same)
  found o token false same e =
      let g = some_value-ok (value token) o e in
      rw (← g.2) ((value_token facts).found g.0 token g.1)
