-- Reports as JSON: what an object has, and how quotes and backslashes stand in it.
use Rattle.std.specs.Prelude.{◌≡◌, [], ◌∷◌}
use mathlib.Core.Path.{refl}
use Rattle.cg_outcome.specs.Outcome.{Ended}
use Rattle.cg_run_cases.specs.Replaying.{put_of, written}
use Rattle.cg_run_cases.specs.Computing.{cases_compute}

-- Quotes and backslashes of the report are escaped once more.
texts_with_quotes :
    put_of ("json" ∷ []) (written (
    "start 1" ∷
    "merge 1" ∷
    "rounds 2" ∷
    "request 1 put \"a\\\"b\" \"c\\\\d\"; put \"\\\\\" \"\\\"\" ? get \"a\\\"b\"" ∷
    "rounds 1" ∷
    "show 1" ∷
    "weak 1 get \"\\\\\"" ∷
    "end" ∷
    [])) Ended
    ≡ written (
    "{\"lines\":[\"1 NonPrim - g0 w0 p0@0{1} a0 v- y- r[] o[] x{} b0\"],\"step\":1}" ∷
    "{\"lines\":[\"1 ExchangeStates c1 g0 w0 p0@0{1} a0 v- y- r[] o[] x{} b0\"],\"step\":2}" ∷
    "{\"lines\":[\"1 Construct c1 g0 w0 p0@0{1} a1 v1/0{1}{1} y- r[] o[] x{} b0\"],\"step\":4}" ∷
    "{\"lines\":[\"1 RegPrim c1 g0 w0 p1@1{1} a0 v1/0{1}{1} y- r[] o[] x{} b0\"],\"step\":6}" ∷
    "{\"lines\":[\"made 1:1 put \\\"a\\\\\\\"b\\\" \\\"c\\\\\\\\d\\\"; put \\\"\\\\\\\\\\\" \\\"\\\\\\\"\\\" ? get \\\"a\\\\\\\"b\\\"\",\"1 RegPrim c1 g0 w0 p1@1{1} a0 v1/0{1}{1} y- r[] o[1:1] x{} b0\"],\"step\":7}" ∷
    "{\"lines\":[\"order 1 1:1\",\"1 RegPrim c1 g1 w0 p1@1{1} a0 v1/0{1}{1} y- r[] o[] x{} b0\",\"reply 1:1 done ? \\\"c\\\\\\\\d\\\"\"],\"step\":9}" ∷
    "{\"lines\":[\"greens 1 [1:1]\",\"db 1 \\\"\\\\\\\\\\\"=\\\"\\\\\\\"\\\" \\\"a\\\\\\\"b\\\"=\\\"c\\\\\\\\d\\\"\"],\"step\":10}" ∷
    "{\"lines\":[\"weak 1 \\\"\\\\\\\"\\\"\"],\"step\":11}" ∷
    "{\"tail\":\"end 11\"}" ∷
    [])
unfolding cases_compute
texts_with_quotes = refl

-- A refusal is the tail of the JSON report.
tail_refused :
    put_of ("json" ∷ []) (written (
    "start 1" ∷
    "merge 1" ∷
    "rounds 2" ∷
    "split 2" ∷
    [])) Ended
    ≡ written (
    "{\"lines\":[\"1 NonPrim - g0 w0 p0@0{1} a0 v- y- r[] o[] x{} b0\"],\"step\":1}" ∷
    "{\"lines\":[\"1 ExchangeStates c1 g0 w0 p0@0{1} a0 v- y- r[] o[] x{} b0\"],\"step\":2}" ∷
    "{\"lines\":[\"1 Construct c1 g0 w0 p0@0{1} a1 v1/0{1}{1} y- r[] o[] x{} b0\"],\"step\":4}" ∷
    "{\"lines\":[\"1 RegPrim c1 g0 w0 p1@1{1} a0 v1/0{1}{1} y- r[] o[] x{} b0\"],\"step\":6}" ∷
    "{\"tail\":\"refused 4 11 2\"}" ∷
    [])
unfolding cases_compute
tail_refused = refl
