use Rattle.std.proofs.Common.{◌≡◌, Some, true, is_some, sym, subst}
use Rattle.cg_disk_records.specs.Crash.{Strike, FailOnce}
use Rattle.cg_model.specs.World.{Node, NodeState, World, node_of, running, set_life}
use Rattle.cg_world_events.specs.contracts.state.WorldState.{the_view}
use Rattle.cg_model.specs.Step.{armed}
use Rattle.cg_world_events.proofs.StruckNodes.{armed-some, made-done}
use Rattle.cg_world_events.proofs.striking.arm_fail.Goals as goal

pub returns-in-Some : goal.returns-in-Some
returns-in-Some c =
    let w = c.args.state.now in
    let p = c.args.p in
    let same = subst (λ (v : World). (life : NodeState) → set_life v p life ≡ set_life w p life) (sym c.state.view_is) c.in-Some.ensures.2 in
    let up = subst (λ (s : Node). (node_of w p ≡ Some s) × (is_some (running s.life) ≡ true)) (sym c.into_inner-node.ensures) (c.in-Some.ensures.0, c.in-Some.ensures.1) in
    let strike : Strike = record { call = c.args.call; fault = FailOnce } in
    made-done w (the_view c.state.inside) p c.into_inner-node.result up.0 same (armed strike) (armed-some strike c.into_inner-node.result.life up.1)
    c.fail_at.new.self c.fail_at.ensures c.put.result c.put.new.self c.put.ensures
