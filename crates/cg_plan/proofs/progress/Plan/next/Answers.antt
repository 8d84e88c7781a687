use Rattle.cg_plan.specs.Progress.{next_item}
use Rattle.cg_plan.proofs.progress.Plan.next.Goals as goal

pub returns : goal.returns
unfolding next_item
returns c = rw (← c.self.view_is) (rw c.as_slice.ensures.value at c.item_at.ensures)
