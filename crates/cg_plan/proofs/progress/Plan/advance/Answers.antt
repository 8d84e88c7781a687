use Rattle.std.specs.Prelude.{IsSome, slice_get}
use Rattle.cg_plan.specs.Items.{items_of_plan}
use Rattle.cg_plan.specs.Place.{items_before}
use Rattle.cg_plan.specs.Progress.{next_item}
use Rattle.cg_plan.proofs.Places.{within-next}
use Rattle.cg_plan.proofs.progress.Plan.advance.Goals as goal

pub place_after-current-requires-clause-more : goal.place_after-current-requires-clause-more
unfolding next_item
place_after-current-requires-clause-more c =
    let inside = c.self.inside in
    let some : IsSome (slice_get (items_of_plan inside.turns.items) (items_before inside.turns.items inside.current inside.made)) = rw (← c.self.view_is) at c.requires in
    rw c.as_slice.ensures.value (within-next inside.turns.items inside.current inside.made some)
