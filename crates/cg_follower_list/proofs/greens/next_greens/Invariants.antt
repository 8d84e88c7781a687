use Rattle.std.proofs.Common.{◌≡◌, ◌++◌, ◌-◌, take, drop}
use Rattle.cg_follower_list.proofs.greens.next_greens.Given as goal

abbrev pub invariant-loop-place : goal.invariant-loop-place
invariant-loop-place l =
    l.list ++ take (l.end - l.place) (drop (l.place - l.q.white) l.q.greens) ≡ take (l.end - l.before) (drop (l.before - l.q.white) l.q.greens)
