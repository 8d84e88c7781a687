-- Cases of cases/ with their whole reports, which `.ci/theorems` writes down here.
use Rattle.std.specs.Prelude.{◌≡◌, [], ◌∷◌}
use mathlib.Core.Path.{refl}
use Rattle.cg_run_cases.specs.Replaying.{put_by, written}
use Rattle.cg_run_cases.specs.Computing.{cases_compute}

-- A difference is shown before an action at two places, wherever they stand.
compare_difference_before_twice :
    put_by "compare" (
    "log 0 [1:1,1:1]" ∷
    "log 5 [2:1]" ∷
    "log 5 [3:1]" ∷
    "end" ∷
    [])
    ≡ written (
    "differ 6 2 2:1 3 3:1" ∷
    [])
unfolding cases_compute
compare_difference_before_twice = refl

-- A line that is refused hides the difference before it.
compare_finding_after_a_difference :
    put_by "compare" (
    "log 0 [1:1]" ∷
    "log 0 [2:1]" ∷
    "log 0 [3:1] 4" ∷
    "end" ∷
    [])
    ≡ written (
    "syntax 3 4" ∷
    [])
unfolding cases_compute
compare_finding_after_a_difference = refl

-- The first line that covers the place stands against the first that differs from it; remarks count as lines.
compare_first_lines_that_differ :
    put_by "compare" (
    "# logs" ∷
    "log 1 [2:1]" ∷
    "" ∷
    "log 0 [1:1,2:1]" ∷
    "log 0 [1:1,3:1]" ∷
    "log 1 [4:1]" ∷
    "end" ∷
    [])
    ≡ written (
    "differ 2 2 2:1 5 3:1" ∷
    [])
unfolding cases_compute
compare_first_lines_that_differ = refl

-- Places that no log covers are shown as holes.
compare_holes :
    put_by "compare" (
    "log 3 [1:1]" ∷
    "log 6 [2:1,1:2]" ∷
    "log 0 []" ∷
    "end" ∷
    [])
    ≡ written (
    "agree 8 [-,-,-,1:1,-,-,2:1,1:2]" ∷
    [])
unfolding cases_compute
compare_holes = refl

-- Two actions of one creator differ by their index alone.
compare_index_alone_differs :
    put_by "compare" (
    "log 0 [1:1]" ∷
    "log 0 [1:4611686018427387903]" ∷
    "end" ∷
    [])
    ≡ written (
    "differ 1 1 1:1 2 1:4611686018427387903" ∷
    [])
unfolding cases_compute
compare_index_alone_differs = refl

-- Of several differences the one at the least place is shown, though it comes in a later line.
compare_least_place_that_differs :
    put_by "compare" (
    "log 0 [1:1,2:1,3:1,4:1]" ∷
    "log 3 [4:2]" ∷
    "log 1 [2:1,3:2]" ∷
    "log 2 [3:3]" ∷
    "end" ∷
    [])
    ≡ written (
    "differ 3 1 3:1 3 3:2" ∷
    [])
unfolding cases_compute
compare_least_place_that_differs = refl

-- Three logs with their white counts cover one list, in any order of lines.
compare_logs_of_three_replicas :
    put_by "compare" (
    "log 2 [3:1,1:2,2:2]" ∷
    "log 0 [1:1,2:1,3:1,1:2]" ∷
    "log 3 [1:2]" ∷
    "log 5 [32:1]" ∷
    "log 0 [1:1]" ∷
    "end" ∷
    [])
    ≡ written (
    "agree 6 [1:1,2:1,3:1,1:2,2:2,32:1]" ∷
    [])
unfolding cases_compute
compare_logs_of_three_replicas = refl

-- Logs end with end; a difference before is not shown.
compare_no_end :
    put_by "compare" (
    "log 0 [1:1]" ∷
    "log 0 [2:1]" ∷
    [])
    ≡ written (
    "no end 2" ∷
    [])
unfolding cases_compute
compare_no_end = refl

-- No logs at all agree.
compare_no_logs :
    put_by "compare" (
    "end" ∷
    [])
    ≡ written (
    "agree 0 []" ∷
    [])
unfolding cases_compute
compare_no_logs = refl

-- A log after the end is misplaced, whatever its parts; an unknown word is unknown there too.
compare_syntax_after_the_end_whatever_it_is :
    put_by "compare" (
    "end" ∷
    "log" ∷
    [])
    ≡ written (
    "syntax 2 9" ∷
    [])
unfolding cases_compute
compare_syntax_after_the_end_whatever_it_is = refl

-- Nothing but remarks follows end.
compare_syntax_after_the_end :
    put_by "compare" (
    "end" ∷
    "# log" ∷
    "log 0 []" ∷
    [])
    ≡ written (
    "syntax 3 9" ∷
    [])
unfolding cases_compute
compare_syntax_after_the_end = refl

-- A list has no comma at its end.
compare_syntax_comma_at_the_end :
    put_by "compare" (
    "log 0 [1:1,]" ∷
    "end" ∷
    [])
    ≡ written (
    "syntax 1 5" ∷
    [])
unfolding cases_compute
compare_syntax_comma_at_the_end = refl

-- Creators are 1 to 32.
compare_syntax_creator_past_its_range :
    put_by "compare" (
    "log 0 [33:1]" ∷
    "end" ∷
    [])
    ≡ written (
    "syntax 1 5" ∷
    [])
unfolding cases_compute
compare_syntax_creator_past_its_range = refl

-- Nothing follows end.
compare_syntax_end_with_a_number :
    put_by "compare" (
    "log 0 []" ∷
    "end 0" ∷
    [])
    ≡ written (
    "syntax 2 4" ∷
    [])
unfolding cases_compute
compare_syntax_end_with_a_number = refl

-- A word of a schedule is none here.
compare_syntax_event_word :
    put_by "compare" (
    "start 1" ∷
    "end" ∷
    [])
    ≡ written (
    "syntax 1 2" ∷
    [])
unfolding cases_compute
compare_syntax_event_word = refl

-- A log has no holes.
compare_syntax_hole_in_a_list :
    put_by "compare" (
    "log 0 [1:1,-,2:1]" ∷
    "end" ∷
    [])
    ≡ written (
    "syntax 1 5" ∷
    [])
unfolding cases_compute
compare_syntax_hole_in_a_list = refl

-- Indexes count from one.
compare_syntax_index_of_zero :
    put_by "compare" (
    "log 0 [1:1,2:0]" ∷
    "end" ∷
    [])
    ≡ written (
    "syntax 1 5" ∷
    [])
unfolding cases_compute
compare_syntax_index_of_zero = refl

-- An index of 2 to the 62nd is refused.
compare_syntax_index_past_its_range :
    put_by "compare" (
    "log 0 [1:4611686018427387904]" ∷
    "end" ∷
    [])
    ≡ written (
    "syntax 1 5" ∷
    [])
unfolding cases_compute
compare_syntax_index_past_its_range = refl

-- A list stands in one token; its first part is none by itself.
compare_syntax_list_in_two_tokens :
    put_by "compare" (
    "log 0 [1:1, 2:1]" ∷
    "end" ∷
    [])
    ≡ written (
    "syntax 1 5" ∷
    [])
unfolding cases_compute
compare_syntax_list_in_two_tokens = refl

-- A quoted list is none.
compare_syntax_quoted_list :
    put_by "compare" (
    "log 0 \"[]\"" ∷
    "end" ∷
    [])
    ≡ written (
    "syntax 1 5" ∷
    [])
unfolding cases_compute
compare_syntax_quoted_list = refl

-- A quoted word is none.
compare_syntax_quoted_word :
    put_by "compare" (
    "\"log\" 0 []" ∷
    "end" ∷
    [])
    ≡ written (
    "syntax 1 2" ∷
    [])
unfolding cases_compute
compare_syntax_quoted_word = refl

-- Nothing follows the list.
compare_syntax_two_lists :
    put_by "compare" (
    "log 0 [1:1] [1:2]" ∷
    "end" ∷
    [])
    ≡ written (
    "syntax 1 4" ∷
    [])
unfolding cases_compute
compare_syntax_two_lists = refl

-- An unknown word after the end is unknown first.
compare_syntax_unknown_word_after_the_end :
    put_by "compare" (
    "end" ∷
    "logs" ∷
    [])
    ≡ written (
    "syntax 2 2" ∷
    [])
unfolding cases_compute
compare_syntax_unknown_word_after_the_end = refl

-- A white count has no leading zero.
compare_syntax_white_count_with_a_leading_zero :
    put_by "compare" (
    "log 00 []" ∷
    "end" ∷
    [])
    ≡ written (
    "syntax 1 5" ∷
    [])
unfolding cases_compute
compare_syntax_white_count_with_a_leading_zero = refl

-- A log has a list.
compare_syntax_without_a_list :
    put_by "compare" (
    "log 0" ∷
    "end" ∷
    [])
    ≡ written (
    "syntax 1 3" ∷
    [])
unfolding cases_compute
compare_syntax_without_a_list = refl

-- A log has a white count.
compare_syntax_without_a_white_count :
    put_by "compare" (
    "log" ∷
    "end" ∷
    [])
    ≡ written (
    "syntax 1 3" ∷
    [])
unfolding cases_compute
compare_syntax_without_a_white_count = refl

-- The word log is in small letters.
compare_syntax_word_in_capitals :
    put_by "compare" (
    "Log 0 []" ∷
    "end" ∷
    [])
    ≡ written (
    "syntax 1 2" ∷
    [])
unfolding cases_compute
compare_syntax_word_in_capitals = refl

-- An action twice in one log is shown.
compare_twice_in_one_log :
    put_by "compare" (
    "log 7 [2:2,3:3,2:2,3:3]" ∷
    "end" ∷
    [])
    ≡ written (
    "twice 2:2 8 10" ∷
    [])
unfolding cases_compute
compare_twice_in_one_log = refl

-- An action at three places is shown with the two least.
compare_twice_with_its_two_least_places :
    put_by "compare" (
    "log 8 [5:5]" ∷
    "log 4 [5:5]" ∷
    "log 2 [5:5]" ∷
    "end" ∷
    [])
    ≡ written (
    "twice 5:5 3 5" ∷
    [])
unfolding cases_compute
compare_twice_with_its_two_least_places = refl

-- Of several actions at two places the one with the least second place is shown.
compare_twice_with_the_least_second_place :
    put_by "compare" (
    "log 0 [1:1,2:1,3:1]" ∷
    "log 5 [1:1]" ∷
    "log 3 [3:1,2:1]" ∷
    "end" ∷
    [])
    ≡ written (
    "twice 3:1 3 4" ∷
    [])
unfolding cases_compute
compare_twice_with_the_least_second_place = refl

-- Compare: the logs agree.
generated_compare_agree_a :
    put_by "compare" (
    "log 2 [19:1,12:1]" ∷
    "log 3 [12:1]" ∷
    "log 0 [28:1,3:1,19:1,12:1]" ∷
    "log 4 []" ∷
    "log 1 [3:1,19:1]" ∷
    "log 0 [28:1,3:1]" ∷
    "end" ∷
    [])
    ≡ written (
    "agree 4 [28:1,3:1,19:1,12:1]" ∷
    [])
unfolding cases_compute
generated_compare_agree_a = refl

-- Compare: the logs agree.
generated_compare_agree_b :
    put_by "compare" (
    "log 0 []" ∷
    "log 0 [1:1]" ∷
    "log 0 [1:1]" ∷
    "log 0 [1:1]" ∷
    "end" ∷
    [])
    ≡ written (
    "agree 1 [1:1]" ∷
    [])
unfolding cases_compute
generated_compare_agree_b = refl

-- Compare: the logs differ.
generated_compare_differ_a :
    put_by "compare" (
    "log 0 []" ∷
    "log 0 []" ∷
    "log 0 [1:2]" ∷
    "log 0 [1:1]" ∷
    "log 0 [1:1]" ∷
    "end" ∷
    [])
    ≡ written (
    "differ 1 3 1:2 4 1:1" ∷
    [])
unfolding cases_compute
generated_compare_differ_a = refl

-- Compare: the logs differ.
generated_compare_differ_b :
    put_by "compare" (
    "log 0 [25:1,6:1]" ∷
    "log 0 []" ∷
    "log 0 [25:1]" ∷
    "log 0 [25:1,6:1]" ∷
    "log 0 []" ∷
    "log 0 []" ∷
    "log 0 []" ∷
    "log 0 []" ∷
    "log 0 [25:1,6:1]" ∷
    "log 0 []" ∷
    "log 0 [25:1,6:1]" ∷
    "log 0 [25:1,6:1]" ∷
    "log 0 [25:1,6:1,25:2]" ∷
    "log 0 []" ∷
    "log 0 [25:1,6:1]" ∷
    "log 0 [25:1,6:1,25:2]" ∷
    "log 0 []" ∷
    "log 0 []" ∷
    "log 0 [20:8,25:1,6:1,25:2]" ∷
    "log 0 [25:1,6:1]" ∷
    "log 0 []" ∷
    "log 0 [25:1,6:1]" ∷
    "log 0 [25:1,6:1]" ∷
    "log 0 [25:1,6:1]" ∷
    "log 0 []" ∷
    "log 0 [25:1,6:1]" ∷
    "log 0 [25:1,26:2,6:1,25:2]" ∷
    "log 0 [25:1,6:1]" ∷
    "log 0 [25:1,6:1]" ∷
    "log 0 []" ∷
    "end" ∷
    [])
    ≡ written (
    "differ 1 1 25:1 19 20:8" ∷
    [])
unfolding cases_compute
generated_compare_differ_b = refl

-- Compare: places are not covered.
generated_compare_holes_a :
    put_by "compare" (
    "log 6 []" ∷
    "log 5 [1:4]" ∷
    "log 3 []" ∷
    "log 6 []" ∷
    "end" ∷
    [])
    ≡ written (
    "agree 6 [-,-,-,-,-,1:4]" ∷
    [])
unfolding cases_compute
generated_compare_holes_a = refl

-- Compare: the input has an odd line.
generated_compare_odd_b :
    put_by "compare" (
    "log 0 [] []" ∷
    "log 8 [1:8,15:1]" ∷
    "log 1 [2:4611686018427387903,19:1,1:3,1:4,1:5,1:6,1:7]" ∷
    "end" ∷
    [])
    ≡ written (
    "syntax 1 4" ∷
    [])
unfolding cases_compute
generated_compare_odd_b = refl

-- Compare: the logs are of one replay.
generated_compare_replay_a :
    put_by "compare" (
    "log 0 []" ∷
    "log 0 []" ∷
    "log 0 []" ∷
    "log 0 []" ∷
    "log 0 []" ∷
    "log 0 []" ∷
    "log 0 []" ∷
    "log 0 []" ∷
    "log 0 []" ∷
    "log 0 []" ∷
    "log 0 []" ∷
    "log 0 []" ∷
    "log 0 []" ∷
    "log 0 []" ∷
    "log 0 []" ∷
    "log 0 []" ∷
    "end" ∷
    [])
    ≡ written (
    "agree 0 []" ∷
    [])
unfolding cases_compute
generated_compare_replay_a = refl

-- Compare: the logs are of one replay, and one is damaged.
generated_compare_replay_damaged_a :
    put_by "compare" (
    "log 0 []" ∷
    "log 0 []" ∷
    "log 0 []" ∷
    "log 0 []" ∷
    "log 0 []" ∷
    "log 0 []" ∷
    "log 0 []" ∷
    "log 0 []" ∷
    "log 0 []" ∷
    "log 0 []" ∷
    "log 0 []" ∷
    "log 0 []" ∷
    "log 0 []" ∷
    "log 0 []" ∷
    "log 0 []" ∷
    "log 0 []" ∷
    "log 0 []" ∷
    "log 0 []" ∷
    "log 0 []" ∷
    "log 0 []" ∷
    "log 0 []" ∷
    "log 0 []" ∷
    "log 0 []" ∷
    "end" ∷
    [])
    ≡ written (
    "agree 0 []" ∷
    [])
unfolding cases_compute
generated_compare_replay_damaged_a = refl

-- Compare: the logs are of one replay, and one is damaged.
generated_compare_replay_damaged_b :
    put_by "compare" (
    "log 0 [21:1,30:1]" ∷
    "log 0 [21:1,30:1]" ∷
    "log 0 [21:1,30:1]" ∷
    "log 0 [21:1,30:1]" ∷
    "log 0 [21:1,30:1]" ∷
    "log 0 [21:1,30:1]" ∷
    "" ∷
    "log 0 [21:1,30:1]" ∷
    "end" ∷
    [])
    ≡ written (
    "agree 2 [21:1,30:1]" ∷
    [])
unfolding cases_compute
generated_compare_replay_damaged_b = refl

-- Compare: an action stands twice.
generated_compare_twice_a :
    put_by "compare" (
    "log 3 [1:2,18:1]" ∷
    "log 1 [2:1]" ∷
    "log 2 [9:1]" ∷
    "log 4 []" ∷
    "log 1 [2:1]" ∷
    "log 0 [2:1,2:1]" ∷
    "end" ∷
    [])
    ≡ written (
    "twice 2:1 1 2" ∷
    [])
unfolding cases_compute
generated_compare_twice_a = refl

-- Compare: an action stands twice.
generated_compare_twice_b :
    put_by "compare" (
    "log 2 [3:1,1:2,1:1]" ∷
    "log 2 [3:1,1:2,1:1,17:1]" ∷
    "log 2 [3:1]" ∷
    "log 2 [3:1,1:2,1:1]" ∷
    "log 0 [20:1,1:1,3:1,1:2,1:1]" ∷
    "log 2 [3:1,1:2,1:1]" ∷
    "end" ∷
    [])
    ≡ written (
    "twice 1:1 2 5" ∷
    [])
unfolding cases_compute
generated_compare_twice_b = refl

-- One action at two places is shown.
log_with_an_action_twice :
    put_by "compare" (
    "log 0 [1:1]" ∷
    "log 2 [1:1]" ∷
    "end" ∷
    [])
    ≡ written (
    "twice 1:1 1 3" ∷
    [])
unfolding cases_compute
log_with_an_action_twice = refl

-- Two logs that agree are joined.
logs_that_agree :
    put_by "compare" (
    "log 0 [1:1,2:1]" ∷
    "log 1 [2:1,1:2]" ∷
    "end" ∷
    [])
    ≡ written (
    "agree 3 [1:1,2:1,1:2]" ∷
    [])
unfolding cases_compute
logs_that_agree = refl

-- Two logs with two actions at one place differ.
logs_that_differ :
    put_by "compare" (
    "log 0 [1:1,2:1]" ∷
    "log 1 [1:2]" ∷
    "end" ∷
    [])
    ≡ written (
    "differ 2 1 2:1 2 1:2" ∷
    [])
unfolding cases_compute
logs_that_differ = refl
