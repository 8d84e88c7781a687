use Rattle.std.proofs.Common.{◌≡◌, OnOk, [], subst}
use Rattle.cg_world_events.proofs.StruckNodes.{stop-up}
use Rattle.cg_world_events.proofs.striking.crash.Goals as goal

pub returns-in-Some : goal.returns-in-Some
returns-in-Some c =
    subst (λ w. OnOk c.crash_node.result (c.crash_node.new.state ≡ w))
    (stop-up c.args.state.now c.take_up.new.self c.args.p c.in-Some.node c.in-Some.ensures.0 c.in-Some.ensures.1 c.in-Some.ensures.2 []) c.crash_node.ensures
