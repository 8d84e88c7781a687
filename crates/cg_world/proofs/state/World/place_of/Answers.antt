use Rattle.std.proofs.Common.{[], ap, ◌∙◌}
use Rattle.cg_disk_records.specs.Holds.{run_on}
use Rattle.cg_model.specs.World.{World as WorldOf}
use Rattle.cg_world.proofs.state.World.place_of.Goals as goal

pub last_place-requires : goal.last_place-requires
last_place-requires c =
    let w = c.self.inside in
    let led = c.self.invariant in
    ap (run_on []) (c.as_slice-order.ensures ∙ c.order.ensures ∙ ap (λ (w : WorldOf). w.order) c.deref.ensures) ∙ c.orders_run_on.ensures led.chronicle w.state.value led.reached

pub last_place-requires-in-None-last_place : goal.last_place-requires-in-None-last_place
last_place-requires-in-None-last_place c =
    let w = c.self.inside in
    let led = c.self.invariant in
    ap (run_on []) (c.as_slice-order.ensures ∙ c.order.ensures ∙ ap (λ (w : WorldOf). w.order) c.deref.ensures) ∙ c.orders_run_on.ensures led.chronicle w.state.value led.reached
