-- The limits, each at its last number and behind it, and which of two is told: that of the line's length before the input's,
-- and that before the count of lines. A step is refused by its event's test before the steps are counted. First the tests
-- alone; then inputs that reach the limits, with all that is put of them.
use Rattle.std.specs.Prelude.{◌≡◌, ℕ, zero, suc, ◌+◌, ◌-◌, ◌*◌, ◌<◌, ◌≤◌, ◌==◌, nat_eq, Bool, true, false, List, [], ◌∷◌, ◌++◌, Some, None, codes, length, take, replicate, if◌then◌else◌}
use Rattle.std.specs.List.{ends_with}
use Prim.Native.String.{String}
use Rattle.std.proofs.Common.{refl, ap, ap₂, ◌∙◌, arith, suc-mul, zero-mul}
use Rattle.std.proofs.lemmas.Bool.{lt-ltb}
use Rattle.std.proofs.lemmas.List.Elements.{All-from_recursion, All-nil, All-cons, All-replicate}
use Rattle.std.proofs.lemmas.List.Splits.{slice_split_none, slice_split_at, length-slice_split}
use Rattle.cg_base.specs.Text.{pieces_of}
use Rattle.cg_group.specs.declared.reason.Reason.TheVariants.{EmptySet}
use Rattle.cg_schedule.specs.declared.event.Event.TheVariants.{Start}
use Rattle.cg_outcome.specs.Outcome.{Ending, Ended, Open, limit_of, unless_passed, without_return, line_outcome, whole_line, cut_line, replayed}
use Rattle.cg_items.specs.declared.companion.Companion.TheVariants.{Alone}
use Rattle.cg_outcome.specs.Produced.{Progress, Produced, before_all, went_on, ended_with, and_then, prepend, text_of, status_of, one_step}
use Rattle.cg_items.specs.declared.report.Report.TheVariants.{Whole}
use Rattle.cg_outcome.specs.declared.status.Limit.{Limit}
use Rattle.cg_outcome.specs.declared.status.Limit.TheVariants as limit
use Rattle.cg_outcome.specs.declared.status.Status.TheVariants as status
use Rattle.cg_outcome.specs.Streaming.{IsUnended}
use Rattle.cg_run_cases.specs.Replaying.{utf8, written, put_of}
use Rattle.cg_run_cases.specs.Computing.{cases_compute}
use Rattle.cg_outcome.specs.LimitLaws.{limit_of-none}

all_at_their_last : limit_of 200000 32768 8388608 ≡ None
all_at_their_last = refl

line_too_long : limit_of 1 32769 32770 ≡ Some limit.Line
line_too_long = refl

line_before_input : limit_of 200001 32769 8388609 ≡ Some limit.Line
line_before_input = refl

input_too_long : limit_of 200000 32768 8388609 ≡ Some limit.Input
input_too_long = refl

input_before_lines : limit_of 200001 1 8388609 ≡ Some limit.Input
input_before_lines = refl

too_many_lines : limit_of 200001 1 2 ≡ Some limit.Lines
too_many_lines = refl

-- so many steps were made before
abbrev behind : ℕ → Progress
behind count = record (before_all Alone) { count = count }

last_step : status_of (one_step 3 None (Start (record { id = 1; weight = 1 } ∷ [])) (behind 1999999)) ≡ None
unfolding cases_compute
last_step = refl

one_step_more : status_of (one_step 3 None (Start (record { id = 1; weight = 1 } ∷ [])) (behind 2000000)) ≡ Some (status.Limit 3 limit.Steps)
unfolding cases_compute
one_step_more = refl

refused_first : status_of (one_step 3 None (Start []) (behind 2000000)) ≡ Some (status.Refused 3 EmptySet)
unfolding cases_compute
refused_first = refl

-- ---- inputs of any length

-- what is put of a schedule of these bytes
abbrev put : List ℕ → Ending → List ℕ
put bytes how = put_of ("replay" ∷ []) bytes how

-- what bytes come to from line n on, which begins at a place of the input
abbrev lines_from : ℕ → ℕ → List ℕ → Ending → Progress → Produced
lines_from n at bytes how s = replayed n at (pieces_of 10 bytes) how s

put_is : (bytes : List ℕ) (how : Ending) → put bytes how ≡ text_of Whole (lines_from 1 0 bytes how (before_all Alone))
unfolding cases_compute
put_is bytes how = refl

-- a line that has its end, and the lines behind it
line_and_more : (n at : ℕ) (line rest : List ℕ) (how : Ending) (s : Progress) → IsUnended line
    → lines_from n at (line ++ 10 ∷ rest) how s ≡ and_then (whole_line n at line s) (lines_from (n + 1) (at + length line + 1) rest how)
line_and_more n at line rest how s is =
    ap (λ pieces. replayed n at pieces how s) (slice_split_at (λ b. b == 10) line 10 rest is refl) ∙ behind (pieces_of 10 rest) _ (length-slice_split (λ b. b == 10) rest) where
      behind : (pieces : List (List ℕ)) (count : ℕ) → length pieces ≡ count + 1
          → replayed n at (line ∷ pieces) how s ≡ and_then (whole_line n at line s) (replayed (n + 1) (at + length line + 1) pieces how)
      behind [] count some = absurd (omega arith)
      behind (next ∷ pieces) count some = refl

-- a line that passes a limit ends the run, whatever stands behind it
passes_limit : (n at : ℕ) (line rest : List ℕ) (how : Ending) (s : Progress) (what : Limit) → IsUnended line → limit_of n (length line) (at + length line + 1) ≡ Some what
    → lines_from n at (line ++ 10 ∷ rest) how s ≡ ended_with (status.Limit n what) n s
passes_limit n at line rest how s what is passed =
    line_and_more n at line rest how s is
    ∙ ap (λ found. and_then (unless_passed found n s (line_outcome n (without_return line) s)) (lines_from (n + 1) (at + length line + 1) rest how)) passed

-- so does what stands behind the last end
rest_passes_limit : (n at b : ℕ) (bs : List ℕ) (how : Ending) (s : Progress) (what : Limit) → IsUnended (b ∷ bs) → limit_of n (length (b ∷ bs)) (at + length (b ∷ bs)) ≡ Some what
    → lines_from n at (b ∷ bs) how s ≡ ended_with (status.Limit n what) n s
rest_passes_limit n at b bs how s what is passed =
    ap (λ pieces. replayed n at pieces how s) (slice_split_none (λ b. b == 10) (b ∷ bs) is) ∙ ap (λ found. unless_passed found n s (cut_line n (b ∷ bs) how s)) passed

limit-line : (n len end : ℕ) → 32768 < len → limit_of n len end ≡ Some limit.Line
limit-line n len end long = rw (lt-ltb 32768 len long) refl

-- ---- lines that are passed over

-- a comment, which may end in a carriage return
comment_outcome : (n : ℕ) (bytes : List ℕ) → line_outcome n (without_return (35 ∷ bytes)) (before_all Alone) ≡ went_on (before_all Alone)
unfolding cases_compute
comment_outcome n [] = refl
comment_outcome n (b ∷ bytes) = by_test (ends_with nat_eq (35 ∷ b ∷ bytes) (codes "\r")) where
  shorter : line_outcome n (take (length (35 ∷ b ∷ bytes) - 1) (35 ∷ b ∷ bytes)) (before_all Alone) ≡ went_on (before_all Alone)
  shorter = let one : length (35 ∷ b ∷ bytes) - 1 ≡ suc (length bytes) = omega arith in
      ap (λ k. line_outcome n (take k (35 ∷ b ∷ bytes)) (before_all Alone)) one

  by_test : (t : Bool) → line_outcome n (if t then take (length (35 ∷ b ∷ bytes) - 1) (35 ∷ b ∷ bytes) else 35 ∷ b ∷ bytes) (before_all Alone)
      ≡ went_on (before_all Alone)
  by_test true = shorter
  by_test false = refl

-- a line that is passed over wherever it stands
abbrev IsPassedOver : List ℕ → Type 0
IsPassedOver line = (n : ℕ) → line_outcome n (without_return line) (before_all Alone) ≡ went_on (before_all Alone)

empty_line : IsPassedOver []
unfolding cases_compute
empty_line n = refl

-- so many lines that are all this one, and the rest behind them
many : ℕ → List ℕ → List ℕ → List ℕ
many zero line rest = rest
many (suc m) line rest = line ++ 10 ∷ many m line rest

behind_many : (line : List ℕ) → IsUnended line → length line ≤ 32768 → IsPassedOver line
    → (m n at : ℕ) (rest : List ℕ) (how : Ending) → n + m ≤ 200001 → at + m * suc (length line) ≤ 8388608
    → lines_from n at (many m line rest) how (before_all Alone) ≡ lines_from (n + m) (at + m * suc (length line)) rest how (before_all Alone)
unfolding many
behind_many line is short over zero n at rest how few within =
    let count : n ≡ n + 0 = omega arith in
    let place : at ≡ at + 0 * suc (length line) = omega (arith, zero-mul (suc (length line))) in
    ap₂ (λ n at. lines_from n at rest how (before_all Alone)) count place
behind_many line is short over (suc m) n at rest how few within =
    let more : Progress → Produced = lines_from (n + 1) (at + length line + 1) (many m line rest) how in
    let times : suc m * suc (length line) ≡ suc (length line) + m * suc (length line) = omega (arith, suc-mul m (suc (length line))) in
    let none : limit_of n (length line) (at + length line + 1) ≡ None = limit_of-none n (length line) (at + length line + 1) short (omega (arith, times)) (omega arith) in
    let count : n + 1 + m ≡ n + suc m = omega arith in
    let place : at + length line + 1 + m * suc (length line) ≡ at + suc m * suc (length line) = omega (arith, times) in
    line_and_more n at line (many m line rest) how (before_all Alone) is
    ∙ ap (λ found. and_then (unless_passed found n (before_all Alone) (line_outcome n (without_return line) (before_all Alone))) more) none
    ∙ ap (λ p. and_then p more) (over n)
    ∙ behind_many line is short over m (n + 1) (at + length line + 1) rest how (omega arith) (omega (arith, times))
    ∙ ap₂ (λ n at. lines_from n at rest how (before_all Alone)) count place

-- a comment of so many bytes
abbrev comment : ℕ → List ℕ
comment k = replicate k 35

comment_unended : (k : ℕ) → IsUnended (comment k)
comment_unended k = All-replicate (λ b. (b == 10) ≡ false) k 35 refl

empty_unended : IsUnended []
empty_unended = All-nil (λ b. (b == 10) ≡ false)

-- ---- the line

-- the first line has more than 32,768 bytes, whatever they are and whatever stands behind it
long_line_put : (line rest : List ℕ) (how : Ending) → IsUnended line → 32768 < length line → put (line ++ 10 ∷ rest) how ≡ written ("limit 1 line" ∷ [])
unfolding cases_compute
long_line_put line rest how is long =
    put_is (line ++ 10 ∷ rest) how ∙ ap (text_of Whole) (passes_limit 1 0 line rest how (before_all Alone) limit.Line is (limit-line 1 (length line) (0 + length line + 1) long))

-- so has one without its end, however the taking ended
long_rest_put : (b : ℕ) (bs : List ℕ) (how : Ending) → IsUnended (b ∷ bs) → 32768 < length (b ∷ bs) → put (b ∷ bs) how ≡ written ("limit 1 line" ∷ [])
unfolding cases_compute
long_rest_put b bs how is long =
    put_is (b ∷ bs) how ∙ ap (text_of Whole) (rest_passes_limit 1 0 b bs how (before_all Alone) limit.Line is (limit-line 1 (length (b ∷ bs)) (0 + length (b ∷ bs)) long))

-- a line of 32,768 bytes is gone through: a comment
longest_line_put : (bytes : List ℕ) → IsUnended bytes → length bytes ≡ 32767 → put (35 ∷ bytes ++ 10 ∷ []) Ended ≡ written ("no end 1" ∷ [])
unfolding cases_compute
longest_line_put bytes is long =
    let line : List ℕ = 35 ∷ bytes in
    let none : limit_of 1 (length line) (0 + length line + 1) ≡ None = limit_of-none 1 (length line) (0 + length line + 1) (omega (arith, long)) (omega (arith, long)) (omega arith) in
    let at_end : Progress → Produced = lines_from 2 (0 + length line + 1) [] Ended in
    put_is (line ++ 10 ∷ []) Ended
    ∙ ap (text_of Whole) (
    line_and_more 1 0 line [] Ended (before_all Alone) (All-cons (λ b. (b == 10) ≡ false) 35 bytes refl is)
    ∙ ap (λ found. and_then (unless_passed found 1 (before_all Alone) (line_outcome 1 (without_return line) (before_all Alone))) at_end) none
    ∙ ap (λ p. and_then p at_end) (comment_outcome 1 bytes))

start_unended : IsUnended (utf8 "start 1")
unfolding cases_compute
start_unended = All-from_recursion (λ b. (b == 10) ≡ false) (utf8 "start 1") (refl, (refl, (refl, (refl, (refl, (refl, (refl, tt)))))))

-- the second line is too long: the step of the first is put before the tail
long_line_behind_a_step : (line rest : List ℕ) (how : Ending) → IsUnended line → 32768 < length line
    → put (written ("start 1" ∷ []) ++ line ++ 10 ∷ rest) how ≡ written ("= 1" ∷ "1 NonPrim - g0 w0 p0@0{1} a0 v- y- r[] o[] x{} b0" ∷ "limit 2 line" ∷ [])
unfolding cases_compute
long_line_behind_a_step line rest how is long =
    let start : List ℕ = utf8 "start 1" in
    let more : List ℕ = line ++ 10 ∷ rest in
    let begun = whole_line 1 0 start (before_all Alone) in
    put_is (start ++ 10 ∷ more) how
    ∙ ap (text_of Whole) (
    line_and_more 1 0 start more how (before_all Alone) start_unended
    ∙ ap (prepend begun.items) (passes_limit 2 8 line rest how begun.progress limit.Line is (limit-line 2 (length line) (8 + length line + 1) long)))

-- ---- the input

-- 131,072 lines of 64 bytes are 8,388,608
full_input : (rest : List ℕ) (how : Ending) → put (many 131072 (comment 63) rest) how ≡ text_of Whole (lines_from 131073 8388608 rest how (before_all Alone))
full_input rest how =
    put_is (many 131072 (comment 63) rest) how
    ∙ ap (text_of Whole) (behind_many (comment 63) (comment_unended 63) (omega arith) (λ n. comment_outcome n (comment 62)) 131072 1 0 rest how (omega arith) (omega arith))

-- an input of so many bytes is gone through
full_input_put : put (many 131072 (comment 63) []) Ended ≡ written ("no end 131072" ∷ [])
unfolding cases_compute
full_input_put = full_input [] Ended

-- one of a byte more isn't: the byte ends a line, or begins one
line_past_the_input : (rest : List ℕ) (how : Ending) → put (many 131072 (comment 63) (10 ∷ rest)) how ≡ written ("limit 131073 input" ∷ [])
unfolding cases_compute
line_past_the_input rest how = full_input (10 ∷ rest) how ∙ ap (text_of Whole) (passes_limit 131073 8388608 [] rest how (before_all Alone) limit.Input empty_unended refl)

rest_past_the_input : (how : Ending) → put (many 131072 (comment 63) (comment 1)) how ≡ written ("limit 131073 input" ∷ [])
unfolding cases_compute
rest_past_the_input how = full_input (comment 1) how ∙ ap (text_of Whole) (rest_passes_limit 131073 8388608 35 [] how (before_all Alone) limit.Input (comment_unended 1) refl)

-- a line that passes both limits is told as too long
long_line_past_the_input : (line rest : List ℕ) (how : Ending) → IsUnended line → 32768 < length line → put (many 131072 (comment 63) (line ++ 10 ∷ rest)) how ≡ written ("limit 131073 line" ∷ [])
unfolding cases_compute
long_line_past_the_input line rest how is long =
    full_input (line ++ 10 ∷ rest) how
    ∙ ap (text_of Whole) (passes_limit 131073 8388608 line rest how (before_all Alone) limit.Line is (limit-line 131073 (length line) (8388608 + length line + 1) long))

-- ---- the lines

-- 200,000 lines, each empty
all_lines : (rest : List ℕ) (how : Ending) → put (many 200000 [] rest) how ≡ text_of Whole (lines_from 200001 200000 rest how (before_all Alone))
all_lines rest how = put_is (many 200000 [] rest) how ∙ ap (text_of Whole) (behind_many [] empty_unended (omega arith) empty_line 200000 1 0 rest how (omega arith) (omega arith))

-- so many lines are gone through
all_lines_put : put (many 200000 [] []) Ended ≡ written ("no end 200000" ∷ [])
unfolding cases_compute
all_lines_put = all_lines [] Ended

-- one more isn't: it has its end, or hasn't
one_line_more : (rest : List ℕ) (how : Ending) → put (many 200000 [] (10 ∷ rest)) how ≡ written ("limit 200001 lines" ∷ [])
unfolding cases_compute
one_line_more rest how = all_lines (10 ∷ rest) how ∙ ap (text_of Whole) (passes_limit 200001 200000 [] rest how (before_all Alone) limit.Lines empty_unended refl)

one_piece_more : (how : Ending) → put (many 200000 [] (comment 1)) how ≡ written ("limit 200001 lines" ∷ [])
unfolding cases_compute
one_piece_more how = all_lines (comment 1) how ∙ ap (text_of Whole) (rest_passes_limit 200001 200000 35 [] how (before_all Alone) limit.Lines (comment_unended 1) refl)

-- one that passes both limits is told as too long
long_line_past_the_lines : (line rest : List ℕ) (how : Ending) → IsUnended line → 32768 < length line → put (many 200000 [] (line ++ 10 ∷ rest)) how ≡ written ("limit 200001 line" ∷ [])
unfolding cases_compute
long_line_past_the_lines line rest how is long =
    all_lines (line ++ 10 ∷ rest) how
    ∙ ap (text_of Whole) (passes_limit 200001 200000 line rest how (before_all Alone) limit.Line is (limit-line 200001 (length line) (200000 + length line + 1) long))

-- a line past the input's limit and that of lines is told as past the input's: 188,608 lines of 42 bytes and 11,392 of 41
-- are 8,388,608 bytes in 200,000 lines
input_before_the_lines : (rest : List ℕ) (how : Ending) → put (many 188608 (comment 41) (many 11392 (comment 40) (10 ∷ rest))) how ≡ written ("limit 200001 input" ∷ [])
unfolding cases_compute
input_before_the_lines rest how =
    let others : List ℕ = many 11392 (comment 40) (10 ∷ rest) in
    put_is (many 188608 (comment 41) others) how
    ∙ ap (text_of Whole) (
    behind_many (comment 41) (comment_unended 41) (omega arith) (λ n. comment_outcome n (comment 40)) 188608 1 0 others how (omega arith) (omega arith)
    ∙ behind_many (comment 40) (comment_unended 40) (omega arith) (λ n. comment_outcome n (comment 39)) 11392 188609 7921536 (10 ∷ rest) how (omega arith) (omega arith)
    ∙ passes_limit 200001 8388608 [] rest how (before_all Alone) limit.Input empty_unended refl)

-- ---- the steps

-- behind a start, where so many steps had been made
abbrev behind_start : ℕ → Progress
behind_start count = record (lines_from 1 0 (written ("start 1" ∷ [])) Open (before_all Alone)).progress { count = count }

-- what is put of the lines behind it
abbrev put_behind : ℕ → List String → List ℕ
put_behind count lines = text_of Whole (lines_from 2 8 (written lines) Ended (behind_start count))

-- step 2,000,000 is put
all_steps_put : put_behind 1999999 ("show 1" ∷ "end" ∷ []) ≡ written ("= 2000000" ∷ "greens 1 []" ∷ "db 1" ∷ "end 2000000" ∷ [])
unfolding cases_compute
all_steps_put = refl

-- the next one isn't, and ends the run at its line
one_step_more_put : put_behind 1999999 ("show 1" ∷ "show 1" ∷ "end" ∷ []) ≡ written ("= 2000000" ∷ "greens 1 []" ∷ "db 1" ∷ "limit 3 steps" ∷ [])
unfolding cases_compute
one_step_more_put = refl

-- so does one among the steps of a line
one_pass_more_put : put_behind 1999999 ("rounds 2" ∷ "end" ∷ []) ≡ written ("limit 2 steps" ∷ [])
unfolding cases_compute
one_pass_more_put = refl
