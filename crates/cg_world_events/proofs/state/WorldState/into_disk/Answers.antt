use Rattle.std.proofs.Common.{Some, subst}
use Rattle.cg_disk.specs.Model.{view_of}
use Rattle.cg_model.specs.World.{World}
use Rattle.cg_world_events.specs.DiskOut.{GivesDisk}
use Rattle.cg_world_events.specs.contracts.state.WorldState.{the_view}
use Rattle.cg_world_events.proofs.HandedOut.{given_out}
use Rattle.cg_world_events.proofs.state.WorldState.into_disk.Goals as goal

pub returns-in_ok-into_disk-in-Some : goal.returns-in_ok-into_disk-in-Some
returns-in_ok-into_disk-in-Some c =
    let p = c.args.p in
    let d = c.in_ok-into_disk-in-Some.field-0 in
    subst (λ (w : World). GivesDisk view_of w p (Some d)) c.world.view_is
    (given_out view_of (the_view c.world.inside) p c.in-Some.node d c.in-Some.ensures.taken.0 c.in_ok-into_disk-in-Some.ensures)
