-- A replica alone orders its request and answers with the text that the request itself has put.
use Rattle.std.specs.Prelude.{◌≡◌, List, [], ◌∷◌, Some, codes}
use Prim.Native.String.{String}
use mathlib.Core.Path.{refl}
use Rattle.cg_run_cases.specs.Replaying.{last_line, last_of_entry}
use Rattle.cg_run_cases.specs.Computing.{cases_compute}

abbrev text_answer : List String
text_answer =
    "start 1" ∷
    "merge 1" ∷
    "rounds 2" ∷
    "request 1 put \"x\" \"hi\" ? get \"x\"" ∷
    "rounds 1" ∷
    "end" ∷
    []

text_answer-tail : last_line text_answer ≡ Some (codes "end 9")
unfolding cases_compute
text_answer-tail = refl

text_answer-9-last : last_of_entry text_answer (codes "= 9") ≡ Some (codes "reply 1:1 done ? \"hi\"")
unfolding cases_compute
text_answer-9-last = refl
