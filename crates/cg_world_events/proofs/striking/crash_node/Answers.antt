use Rattle.std.proofs.Common.{◌≡◌, OnOk, ap, subst}
use Rattle.cg_model.specs.World.{World, Node, bring_down}
use Rattle.cg_world_events.proofs.striking.crash_node.Goals as goal

pub returns : goal.returns
returns c =
    subst (λ (w : World). OnOk c.take_down.result (c.take_down.new.self ≡ w))
    (ap (λ (s : Node). bring_down c.args.state.now s.id s.life) c.in_ok-node.ensures) c.take_down.ensures
