use Rattle.std.proofs.Common.{◌≡◌, ℕ, ◌+◌, ◌-◌, vec_len}
use Rattle.cg_world.specs.MadeActions.{row_at}
use Rattle.cg_world.proofs.made_actions.grow.Given as goal

abbrev pub invariant-loop-rows : goal.invariant-loop-rows
invariant-loop-rows l = (p : ℕ) → row_at l.rows.items p ≡ row_at l.fn.rows.items p

abbrev pub decreases-loop-rows : goal.decreases-loop-rows
decreases-loop-rows l = l.slot + 1 - vec_len l.rows
