use Rattle.std.proofs.Common.{◌≡◌, ◌∙◌, ◌++◌, ◌+◌, ◌-◌, ◌≤◌, suc, take, drop, arith}
use Rattle.cg_follower_list.proofs.greens.next_greens.Goals as goal

pub loop-place-preserved : goal.loop-place-preserved
loop-place-preserved c =
    let q = c.args.q.now in
    let end = c.min-end.result in
    let place = c.loop-place.place in
    let white : q.white ≤ place = omega (arith, c.loop-place.auto.place, c.max-before.ensures, c.white_count.ensures) in
    let many : suc (end - (place + 1)) ≡ end - place = omega (arith, c.loop-place-test.true) in
    let from : (place + 1) - suc q.white ≡ place - q.white = omega arith in
    c.in_ok-push_green.ensures (end - (place + 1))
    ∙ (λ i. c.loop-place.list ++ take (many i) (drop (from i) q.greens))
    ∙ c.loop-place.invariant
