use Rattle.cg_plan.specs.Progress.{is_done}
use Rattle.cg_plan.proofs.Places.{done-place}
use Rattle.cg_plan.proofs.progress.Plan.done.Goals as goal

pub returns : goal.returns
unfolding is_done
returns c =
    let inside = c.self.inside in
    rw (← c.self.view_is, c.as_slice.ensures.value) (done-place inside.turns.items inside.current inside.made c.self.invariant)
