-- The last line of a run is one line: no line feed stands in it.
use Rattle.std.proofs.Common.{◌≡◌, ℕ, zero, suc, ◌+◌, ◌/◌, ◌%◌, true, false, not, ◌==◌, List, [], ◌∷◌, ◌++◌, codes, decimal, Option, Some, None, nat_lt, refl, arith}
use Rattle.std.specs.Fmt.{digit_glyph, digits_onto, digits}
use Rattle.std.specs.List.{list_all}
use Rattle.std.specs.Option.{option_map_or}
use Rattle.std.proofs.lemmas.Bool.{cond_both, ne_eqb, not-true}
use Rattle.cg_base.specs.Lists.{Each}
use Rattle.cg_group.specs.declared.reason.Reason.{Reason}
use Rattle.cg_group.specs.Reasons.{reason_numbers}
use Rattle.cg_outcome.specs.declared.status.Limit.{Limit}
use Rattle.cg_outcome.specs.declared.status.Limit.TheVariants as limit
use Rattle.cg_outcome.specs.declared.status.Status.{Status}
use Rattle.cg_outcome.specs.declared.status.Status.TheVariants as status
use Rattle.cg_outcome.specs.Status.{limit_text, refused_text, tail_line, tail_text}
use Rattle.cg_laws.specs.Told.{IsTail}
use Rattle.cg_laws.proofs.Separating.{left_true, right_true}

-- no line feed stands in it
abbrev IsPlain : List ℕ → Type 0
IsPlain bytes = Each (λ byte. (byte == 10) ≡ false) bytes

plain-append : (xs ys : List ℕ) → IsPlain xs → IsPlain ys → IsPlain (xs ++ ys)
plain-append [] ys are there = there
plain-append (x ∷ xs) ys are there = (are.0, plain-append xs ys are.1 there)

-- a word without a line feed, by looking
looked : (bytes : List ℕ) → list_all (λ byte. not (byte == 10)) bytes ≡ true → IsPlain bytes
looked [] all = tt
looked (x ∷ xs) all =
    let rest = list_all (λ byte. not (byte == 10)) xs in
    (not-true (x == 10) (left_true (not (x == 10)) rest all), looked xs (right_true (not (x == 10)) rest all))

-- ---- numbers

glyph-plain : (d : ℕ) → (digit_glyph false d == 10) ≡ false
glyph-plain d =
    cond_both (nat_lt d 10) (48 + d) (87 + d) (λ g. (g == 10) ≡ false)
    (λ below. ne_eqb (48 + d) 10 (λ e. omega (arith, e))) (λ above. ne_eqb (87 + d) 10 (λ e. omega (arith, e)))

digits-plain : (k n : ℕ) (behind : List ℕ) → IsPlain behind → IsPlain (digits_onto k 10 false n behind)
digits-plain zero n behind are = are
digits-plain (suc k) n behind are =
    let all = digit_glyph false (n % 10) ∷ behind in
    cond_both (n / 10 == 0) all (digits_onto k 10 false (n / 10) all) IsPlain
    (λ last. (glyph-plain (n % 10), are)) (λ more. digits-plain k (n / 10) all (glyph-plain (n % 10), are))

decimal-plain : (n : ℕ) → IsPlain (decimal n)
unfolding digits
decimal-plain n = digits-plain 64 n [] tt

numbered : (word : List ℕ) (n : ℕ) → IsPlain word → IsPlain (word ++ decimal n)
numbered word n are = plain-append word (decimal n) are (decimal-plain n)

-- ---- tails

limit-plain : (what : Limit) → IsPlain (limit_text what)
limit-plain limit.Line = looked (codes "line") refl
limit-plain limit.Input = looked (codes "input") refl
limit-plain limit.Lines = looked (codes "lines") refl
limit-plain limit.Steps = looked (codes "steps") refl

value-plain : (value : Option ℕ) → IsPlain (option_map_or (λ n. codes " " ++ decimal n) value [])
value-plain None = tt
value-plain (Some n) = numbered (codes " ") n (refl, tt)

refused-plain : (reason : Reason) → IsPlain (refused_text reason)
refused-plain reason =
    let numbers = reason_numbers reason in
    plain-append (codes " " ++ decimal numbers.0) (option_map_or (λ n. codes " " ++ decimal n) numbers.1 [])
    (numbered (codes " ") numbers.0 (refl, tt)) (value-plain numbers.1)

line-plain : (st : Status) (steps lines : ℕ) → IsPlain (tail_line st steps lines)
line-plain status.Done steps lines = numbered (codes "end ") steps (looked (codes "end ") refl)
line-plain status.Usage steps lines = looked (tail_line status.Usage steps lines) refl
line-plain (status.Syntax line reason) steps lines =
    numbered (codes "syntax " ++ decimal line ++ codes " ") reason
    (plain-append (codes "syntax " ++ decimal line) (codes " ") (numbered (codes "syntax ") line (looked (codes "syntax ") refl)) (refl, tt))
line-plain (status.Refused line reason) steps lines =
    plain-append (codes "refused " ++ decimal line) (refused_text reason)
    (numbered (codes "refused ") line (looked (codes "refused ") refl)) (refused-plain reason)
line-plain status.ReadFault steps lines = numbered (codes "read fault ") lines (looked (codes "read fault ") refl)
line-plain (status.Limit line what) steps lines =
    plain-append (codes "limit " ++ decimal line ++ codes " ") (limit_text what)
    (plain-append (codes "limit " ++ decimal line) (codes " ") (numbered (codes "limit ") line (looked (codes "limit ") refl)) (refl, tt))
    (limit-plain what)
line-plain (status.NoEnd all) steps lines = numbered (codes "no end ") all (looked (codes "no end ") refl)
line-plain status.WriteFault steps lines = tt
line-plain status.NoMemory steps lines = tt
line-plain status.NotAnImage steps lines = looked (codes "not an image") refl
line-plain status.NotAStore steps lines = looked (codes "not a store") refl

pub tail-is : (st : Status) (steps lines : ℕ) → IsTail (tail_text st steps lines)
tail-is st steps lines = record { line = tail_line st steps lines; whole = refl; alone = line-plain st steps lines }
