use Rattle.std.proofs.Common.{◌∙◌}
use Rattle.cg_world.proofs.Rows.{row-append}
use Rattle.cg_world.proofs.made_actions.grow.Goals as goal

pub loop-rows-preserved : goal.loop-rows-preserved
loop-rows-preserved c = λ p. rw c.in_ok-push.ensures.items (row-append c.loop-rows.rows.items c.new.result p c.new.ensures ∙ c.loop-rows.invariant p)
