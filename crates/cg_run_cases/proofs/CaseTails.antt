-- How a run ends that finds no end: the words are no command, nothing is taken, a take fails between two lines or inside one,
-- the last line has no end of its own, a line can't be read, or its event isn't admitted.
use Rattle.std.specs.Prelude.{◌≡◌, [], ◌∷◌, ◌++◌}
use mathlib.Core.Path.{refl}
use Rattle.cg_outcome.specs.Outcome.{Ended, Failed, Open}
use Rattle.cg_run_cases.specs.Replaying.{utf8, put_of, replayed_text, written}
use Rattle.cg_run_cases.specs.Computing.{cases_compute}

no_words : put_of [] [] Open ≡ written ("usage: congruity replay | check | generate SEED REPLICAS LINES | trial SEED REPLICAS LINES | follow | relaxed | sessions | compare | image P | inspect | json" ∷ [])
unfolding cases_compute
no_words = refl

a_word_more : put_of ("replay" ∷ "first" ∷ []) [] Open ≡ written ("usage: congruity replay | check | generate SEED REPLICAS LINES | trial SEED REPLICAS LINES | follow | relaxed | sessions | compare | image P | inspect | json" ∷ [])
unfolding cases_compute
a_word_more = refl

another_word : put_of ("Replay" ∷ []) [] Open ≡ written ("usage: congruity replay | check | generate SEED REPLICAS LINES | trial SEED REPLICAS LINES | follow | relaxed | sessions | compare | image P | inspect | json" ∷ [])
unfolding cases_compute
another_word = refl

nothing_taken : replayed_text [] ≡ written ("no end 0" ∷ [])
unfolding cases_compute
nothing_taken = refl

no_end : replayed_text ("# nothing" ∷ "" ∷ "start 1" ∷ []) ≡ written ("= 1" ∷ "1 NonPrim - g0 w0 p0@0{1} a0 v- y- r[] o[] x{} b0" ∷ "no end 3" ∷ [])
unfolding cases_compute
no_end = refl

failed_between_lines : put_of ("replay" ∷ []) (written ("start 1" ∷ [])) Failed ≡ written ("= 1" ∷ "1 NonPrim - g0 w0 p0@0{1} a0 v- y- r[] o[] x{} b0" ∷ "read fault 1" ∷ [])
unfolding cases_compute
failed_between_lines = refl

failed_in_a_line : put_of ("replay" ∷ []) (utf8 "start 1") Failed ≡ written ("read fault 0" ∷ [])
unfolding cases_compute
failed_in_a_line = refl

last_line_without_end : put_of ("replay" ∷ []) (written ("start 1" ∷ []) ++ utf8 "end") Ended ≡ written ("= 1" ∷ "1 NonPrim - g0 w0 p0@0{1} a0 v- y- r[] o[] x{} b0" ∷ "end 1" ∷ [])
unfolding cases_compute
last_line_without_end = refl

read_before_it_failed : put_of ("replay" ∷ []) (written ("start 33" ∷ [])) Failed ≡ written ("syntax 1 5" ∷ [])
unfolding cases_compute
read_before_it_failed = refl

name_used : replayed_text ("start 1 2" ∷ "join 1 2" ∷ "end" ∷ []) ≡ written (
    "= 1" ∷
    "1 NonPrim - g0 w0 p0@0{1,2} a0 v- y- r[] o[] x{} b0" ∷
    "2 NonPrim - g0 w0 p0@0{1,2} a0 v- y- r[] o[] x{} b0" ∷
    "refused 2 12 2" ∷
    [])
unfolding cases_compute
name_used = refl
