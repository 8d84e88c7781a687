-- Generated schedules, line by line, as an independent implementation has them.
use Rattle.std.specs.Prelude.{◌≡◌, [], ◌∷◌, ⊤}
use Rattle.std.specs.Str.{chars}
use Rattle.std.specs.Fmt.{digits}
use mathlib.Core.Path.{refl}
use Rattle.cg_gen.specs.Generated.{generated, draw, with_cell, increment, set_and_get, weak_get, passes, parting, joining, regrouping, restarting, asking, block, events_left}
use Rattle.cg_gen.specs.Lines.{lines_of}
use Rattle.cg_gen.specs.Written.{written}

unfoldable computes : ⊤
unfolding chars digits draw with_cell increment set_and_get weak_get passes parting joining regrouping restarting asking block events_left
computes = tt

of_three_lines :
    lines_of (generated 1 2 3)
    ≡ written (
    "start 1 2" ∷
    "merge 1 2" ∷
    "end" ∷
    [])
unfolding computes
of_three_lines = refl

of_one_replica :
    lines_of (generated 0 1 12)
    ≡ written (
    "start 1" ∷
    "merge 1" ∷
    "rounds 1" ∷
    "rounds 5" ∷
    "weak 1 get \"k0\"" ∷
    "weak 1 get \"k3\"" ∷
    "request 1 inc \"k6\" 8" ∷
    "request 1 inc \"k1\" 1" ∷
    "request 1 inc \"k6\" 6" ∷
    "rounds 3" ∷
    "request 1 inc \"k1\" 5" ∷
    "end" ∷
    [])
unfolding computes
of_one_replica = refl

of_three_replicas :
    lines_of (generated 0 3 25)
    ≡ written (
    "start 1 2 3" ∷
    "merge 1 2 3" ∷
    "rounds 1" ∷
    "rounds 5" ∷
    "weak 3 get \"k0\"" ∷
    "weak 1 get \"k3\"" ∷
    "request 1 inc \"k6\" 8" ∷
    "request 1 inc \"k1\" 1" ∷
    "request 2 inc \"k6\" 6" ∷
    "rounds 3" ∷
    "request 1 inc \"k1\" 5" ∷
    "request 1 inc \"k1\" 9" ∷
    "request 1 inc \"k1\" 8" ∷
    "request 3 put \"t0\" 8 ? get \"k0\"" ∷
    "rounds 4" ∷
    "rounds 2" ∷
    "request 1 inc \"k7\" 5" ∷
    "request 1 put \"t0\" 1 ? get \"k0\"" ∷
    "weak 1 get \"k3\"" ∷
    "weak 2 get \"k4\"" ∷
    "request 3 put \"t0\" 9 ? get \"k0\"" ∷
    "request 2 inc \"k1\" 3" ∷
    "request 1 inc \"k4\" 3" ∷
    "rounds 5" ∷
    "end" ∷
    [])
unfolding computes
of_three_replicas = refl

of_eight_replicas :
    lines_of (generated 18446744073709551615 8 40)
    ≡ written (
    "start 1 2 3 4 5 6 7 8" ∷
    "merge 1 2 3 4 5 6 7 8" ∷
    "split 3 4 8" ∷
    "split 1 2 5 6 7" ∷
    "merge 3 4 8" ∷
    "merge 1 2 5 6 7" ∷
    "request 4 inc \"k2\" 6" ∷
    "split 1 2 5 6 7" ∷
    "split 3 4 8" ∷
    "merge 1 2 3 4 5 6 7 8" ∷
    "request 5 inc \"k2\" 1" ∷
    "request 5 inc \"k1\" 5" ∷
    "rounds 4" ∷
    "weak 6 get \"k6\"" ∷
    "weak 3 get \"k6\"" ∷
    "request 4 inc \"k4\" 5" ∷
    "request 5 inc \"k4\" 1" ∷
    "request 4 put \"t0\" 1 ? get \"k0\"" ∷
    "request 4 inc \"k2\" 3" ∷
    "weak 3 get \"k6\"" ∷
    "request 7 inc \"k7\" 9" ∷
    "request 7 inc \"k4\" 4" ∷
    "rounds 2" ∷
    "rounds 6" ∷
    "request 4 inc \"k4\" 3" ∷
    "request 7 inc \"k4\" 7" ∷
    "weak 1 get \"k1\"" ∷
    "split 1 5 7 8" ∷
    "split 2 3 4 6" ∷
    "merge 1 5 7 8" ∷
    "merge 2 3 4 6" ∷
    "request 1 put \"t7\" 6 ? get \"k7\"" ∷
    "request 3 inc \"k4\" 1" ∷
    "request 1 inc \"k5\" 2" ∷
    "request 4 inc \"k7\" 9" ∷
    "request 2 inc \"k0\" 8" ∷
    "rounds 4" ∷
    "weak 8 get \"k1\"" ∷
    "gather" ∷
    "end" ∷
    [])
unfolding computes
of_eight_replicas = refl

of_all_replicas :
    lines_of (generated 0 32 30)
    ≡ written (
    "start 1 2 3 4 5 6 7 8 9 10 11 12 13 14 15 16 17 18 19 20 21 22 23 24 25 26 27 28 29 30 31 32" ∷
    "merge 1 2 3 4 5 6 7 8 9 10 11 12 13 14 15 16 17 18 19 20 21 22 23 24 25 26 27 28 29 30 31 32" ∷
    "rounds 1" ∷
    "rounds 5" ∷
    "weak 28 get \"k0\"" ∷
    "weak 1 get \"k3\"" ∷
    "request 19 inc \"k6\" 8" ∷
    "request 31 inc \"k1\" 1" ∷
    "request 4 inc \"k6\" 6" ∷
    "rounds 3" ∷
    "request 28 inc \"k1\" 5" ∷
    "request 31 inc \"k1\" 9" ∷
    "request 5 inc \"k1\" 8" ∷
    "request 24 put \"t0\" 8 ? get \"k0\"" ∷
    "rounds 4" ∷
    "rounds 2" ∷
    "request 9 inc \"k7\" 5" ∷
    "request 7 put \"t0\" 1 ? get \"k0\"" ∷
    "weak 10 get \"k3\"" ∷
    "weak 27 get \"k4\"" ∷
    "request 12 put \"t0\" 9 ? get \"k0\"" ∷
    "request 23 inc \"k1\" 3" ∷
    "request 4 inc \"k4\" 3" ∷
    "rounds 5" ∷
    "request 20 put \"t4\" 2 ? get \"k4\"" ∷
    "request 31 inc \"k1\" 7" ∷
    "gather" ∷
    "request 18 inc \"k2\" 3" ∷
    "gather" ∷
    "end" ∷
    [])
unfolding computes
of_all_replicas = refl

of_five_replicas :
    lines_of (generated 13831276843166080238 5 60)
    ≡ written (
    "start 1 2 3 4 5" ∷
    "merge 1 2 3 4 5" ∷
    "split 2" ∷
    "split 1 3 4 5" ∷
    "merge 2" ∷
    "merge 1 3 4 5" ∷
    "request 2 put \"t5\" 3 ? get \"k5\"" ∷
    "split 2" ∷
    "split 1 3 4 5" ∷
    "merge 1 2 3 4 5" ∷
    "stop 5 0 -" ∷
    "recover 5" ∷
    "merge 5" ∷
    "stop 4 0 -" ∷
    "recover 4" ∷
    "merge 4" ∷
    "request 5 inc \"k3\" 7" ∷
    "weak 4 get \"k0\"" ∷
    "stop 3 0 -" ∷
    "recover 3" ∷
    "merge 3" ∷
    "split 1 2" ∷
    "split 3" ∷
    "merge 1 2 3" ∷
    "rounds 5" ∷
    "request 2 inc \"k7\" 1" ∷
    "rounds 2" ∷
    "request 1 inc \"k4\" 8" ∷
    "rounds 6" ∷
    "stop 1 0 -" ∷
    "recover 1" ∷
    "merge 1" ∷
    "rounds 2" ∷
    "request 4 inc \"k1\" 1" ∷
    "rounds 1" ∷
    "request 4 inc \"k2\" 3" ∷
    "request 2 inc \"k6\" 1" ∷
    "request 5 inc \"k7\" 7" ∷
    "weak 3 get \"k7\"" ∷
    "request 4 put \"t1\" 6 ? get \"k1\"" ∷
    "request 1 inc \"k0\" 8" ∷
    "request 2 inc \"k4\" 9" ∷
    "request 1 inc \"k0\" 5" ∷
    "weak 2 get \"k3\"" ∷
    "request 4 inc \"k4\" 1" ∷
    "weak 3 get \"k6\"" ∷
    "stop 3 0 -" ∷
    "recover 3" ∷
    "merge 3" ∷
    "rounds 4" ∷
    "rounds 2" ∷
    "request 4 inc \"k6\" 6" ∷
    "stop 4 0 -" ∷
    "recover 4" ∷
    "merge 4" ∷
    "request 5 inc \"k3\" 5" ∷
    "request 5 inc \"k0\" 5" ∷
    "request 1 inc \"k5\" 2" ∷
    "rounds 6" ∷
    "end" ∷
    [])
unfolding computes
of_five_replicas = refl
