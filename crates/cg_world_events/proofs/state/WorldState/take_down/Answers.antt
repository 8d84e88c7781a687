use Rattle.std.proofs.Common.{◌∙◌, ap}
use Rattle.cg_model.specs.World.{World, bring_down}
use Rattle.cg_world_events.specs.contracts.state.WorldState.{the_view}
use Rattle.cg_world_events.proofs.TransferFacts.{down-with}
use Rattle.cg_world_events.proofs.state.WorldState.take_down.Goals as goal

pub returns : goal.returns
returns c =
    let s = c.args.node in
    down-with (the_view c.self.inside) s c.id-id.result c.down.new.self c.put_boxed.new.self c.end_of.new.self c.id-id.ensures c.down.ensures c.in_ok-put_boxed.ensures c.end_of.ensures
    ∙ ap (λ (w : World). bring_down w s.id s.life) c.self.view_is
