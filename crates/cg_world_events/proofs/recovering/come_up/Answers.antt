use Rattle.std.proofs.Common.{◌≡◌, OnOk, None, Some, subst}
use Rattle.cg_model.specs.World.{NodeState, World, node_of, set_life}
use Rattle.cg_model.specs.Show.{StepInProgress}
use Rattle.cg_world_events.proofs.StruckNodes.{outside-taken, quiet-taken, recover-down, nobody-recovers}
use Rattle.cg_world_events.proofs.recovering.come_up.Goals as goal

pub recover_node-requires-clause-quiet : goal.recover_node-requires-clause-quiet
recover_node-requires-clause-quiet c = quiet-taken _ c.args.going.now c.take.new.self c.args.p c.going.view_is c.requires.quiet

pub recover_node-requires-clause-outside : goal.recover_node-requires-clause-outside
recover_node-requires-clause-outside c =
    let w = c.args.going.now.world in
    let there = subst (λ (v : World). node_of v c.args.p ≡ Some c.in-Some.node) c.deref_mut.ensures.value c.in-Some.ensures.0 in
    let same = subst (λ (v : World). (life : NodeState) → set_life c.take.new.self c.args.p life ≡ set_life v c.args.p life) c.deref_mut.ensures.value c.in-Some.ensures.1 in
    outside-taken w c.take.new.self c.args.p c.in-Some.node c.requires.hosted
    (subst (λ (g : StepInProgress). node_of g.world c.args.p ≡ Some c.in-Some.node) c.going.view_is there) c.requires.down
    (subst (λ (g : StepInProgress). (life : NodeState) → set_life c.take.new.self c.args.p life ≡ set_life g.world c.args.p life) c.going.view_is same)

pub returns-in-Some : goal.returns-in-Some
returns-in-Some c =
    let w = c.args.going.now.world in
    let there = subst (λ (v : World). node_of v c.args.p ≡ Some c.in-Some.node) c.deref_mut.ensures.value c.in-Some.ensures.0 in
    let same = subst (λ (v : World). (life : NodeState) → set_life c.take.new.self c.args.p life ≡ set_life v c.args.p life) c.deref_mut.ensures.value c.in-Some.ensures.1 in
    subst (λ (g : StepInProgress). OnOk c.recover_node.result (c.recover_node.new.going ≡ g))
    (recover-down w c.take.new.self c.args.p c.in-Some.node c.requires.hosted
    (subst (λ (g : StepInProgress). node_of g.world c.args.p ≡ Some c.in-Some.node) c.going.view_is there) c.requires.down
    (subst (λ (g : StepInProgress). (life : NodeState) → set_life c.take.new.self c.args.p life ≡ set_life g.world c.args.p life) c.going.view_is same))
    c.recover_node.ensures

pub returns-in-None : goal.returns-in-None
returns-in-None c =
    nobody-recovers _ c.args.going.now c.take.new.self c.args.p c.going.view_is c.requires.quiet
    (subst (λ (w : World). (node_of w c.args.p ≡ None) × (c.take.new.self ≡ w)) c.deref_mut.ensures.value c.in-None.ensures)
