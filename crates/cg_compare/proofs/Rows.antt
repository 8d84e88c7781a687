-- Small logs, their lines, and what is told of them.
use Rattle.std.specs.Prelude.{◌≡◌, ℕ, List, [], ◌∷◌, Some, None, Ok, Err, codes, true, false, ⊤}
use Rattle.std.specs.Fmt.{digits}
use Rattle.std.specs.Str.{chars, is_utf8}
use Rattle.std.specs.Char.{encode_utf8}
use Rattle.std.proofs.Common.{refl}
use Rattle.cg_base.specs.declared.action_id.ActionId.{ActionId}
use Rattle.cg_text.specs.Tokens.{tokens_from}
use Rattle.cg_schedule.specs.Part.{number, number_part}
use Rattle.cg_schedule.specs.Fault.{unknown_word, missing_part, extra_part, bad_number, misplaced}
use Rattle.cg_compare.specs.declared.log.Log.{Log}
use Rattle.cg_compare.specs.declared.log_line.LogLine.TheVariants as line
use Rattle.cg_compare.specs.Join.{join_logs}
use Rattle.cg_compare.specs.JoinText.{joined_text}
use Rattle.cg_compare.specs.Lines.{word_of, opening, read_ids, ids_part, log_reading, line_reading, reading}

unfoldable logs_compute : ⊤
unfolding digits chars is_utf8 encode_utf8 tokens_from number number_part word_of opening read_ids ids_part log_reading line_reading
logs_compute = tt

abbrev id : ℕ → ℕ → ActionId
id p n = record { creator = p; index = n }

abbrev log : ℕ → ℕ → List ActionId → Log
log line white list = record { line = line; white = white; list = list }

-- ---- logs

two_agree : joined_text (join_logs (log 1 0 (id 1 1 ∷ id 2 1 ∷ []) ∷ log 2 1 (id 2 1 ∷ id 1 2 ∷ []) ∷ [])) ≡ codes "agree 3 [1:1,2:1,1:2]"
unfolding logs_compute
two_agree = refl

two_differ : joined_text (join_logs (log 1 0 (id 1 1 ∷ id 2 1 ∷ []) ∷ log 2 1 (id 1 2 ∷ []) ∷ [])) ≡ codes "differ 2 1 2:1 2 1:2"
unfolding logs_compute
two_differ = refl

one_twice : joined_text (join_logs (log 1 0 (id 1 1 ∷ []) ∷ log 2 2 (id 1 1 ∷ []) ∷ [])) ≡ codes "twice 1:1 1 3"
unfolding logs_compute
one_twice = refl

-- no log covers a place, wherever the empty one stands
no_place : joined_text (join_logs (log 4 7 [] ∷ [])) ≡ codes "agree 0 []"
unfolding logs_compute
no_place = refl

a_gap : joined_text (join_logs (log 1 3 (id 2 1 ∷ []) ∷ log 2 0 (id 1 1 ∷ []) ∷ [])) ≡ codes "agree 4 [1:1,-,-,2:1]"
unfolding logs_compute
a_gap = refl

-- the least place decides, and there the first line and the first that differs from it; a name twice comes after that
least_place : joined_text (join_logs (log 1 1 (id 1 2 ∷ id 1 3 ∷ []) ∷ log 3 2 (id 1 4 ∷ []) ∷ log 4 0 (id 1 1 ∷ id 1 2 ∷ []) ∷ log 6 1 (id 1 5 ∷ id 1 5 ∷ []) ∷ log 7 0 (id 9 1 ∷ []) ∷ [])) ≡ codes "differ 1 4 1:1 7 9:1"
unfolding logs_compute
least_place = refl

-- the least second place decides
least_second : joined_text (join_logs (log 1 0 (id 1 1 ∷ id 1 2 ∷ id 1 3 ∷ id 1 2 ∷ id 1 1 ∷ []) ∷ [])) ≡ codes "twice 1:2 2 4"
unfolding logs_compute
least_second = refl

-- ---- lines

reads_log : reading false (codes "log 12 [1:1,32:4611686018427387903]") ≡ Ok (Some (line.Log 12 (id 1 1 ∷ id 32 4611686018427387903 ∷ [])))
unfolding logs_compute
reads_log = refl

reads_empty : reading false (codes " \tlog 0 [] ") ≡ Ok (Some (line.Log 0 []))
unfolding logs_compute
reads_empty = refl

reads_end : reading false (codes "end") ≡ Ok (Some line.End)
unfolding logs_compute
reads_end = refl

passes_comment : reading true (codes "  # log") ≡ Ok None
unfolding logs_compute
passes_comment = refl

refuses_after_end : reading true (codes "log 0 x") ≡ Err misplaced
unfolding logs_compute
refuses_after_end = refl

refuses_word : reading true (codes "Log 0 []") ≡ Err unknown_word
unfolding logs_compute
refuses_word = refl

refuses_missing : reading false (codes "log 0") ≡ Err missing_part
unfolding logs_compute
refuses_missing = refl

refuses_more : reading false (codes "end 1") ≡ Err extra_part
unfolding logs_compute
refuses_more = refl

refuses_white : reading false (codes "log 1000001 []") ≡ Err bad_number
unfolding logs_compute
refuses_white = refl

refuses_index : reading false (codes "log 0 [1:4611686018427387904]") ≡ Err bad_number
unfolding logs_compute
refuses_index = refl

refuses_none : reading false (codes "log 0 [1:0]") ≡ Err bad_number
unfolding logs_compute
refuses_none = refl

refuses_creator : reading false (codes "log 0 [33:1]") ≡ Err bad_number
unfolding logs_compute
refuses_creator = refl

refuses_comma : reading false (codes "log 0 [1:1,]") ≡ Err bad_number
unfolding logs_compute
refuses_comma = refl

refuses_bracket : reading false (codes "log 0 [") ≡ Err bad_number
unfolding logs_compute
refuses_bracket = refl

refuses_blank : reading false (codes "log 0 [1:1, 2:1]") ≡ Err bad_number
unfolding logs_compute
refuses_blank = refl
