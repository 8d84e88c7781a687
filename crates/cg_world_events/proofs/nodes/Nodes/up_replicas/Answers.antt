use Rattle.std.proofs.Common.{sym, ◌∙◌, ap, fold}
use Rattle.std.proofs.lemmas.List.{drop_all}
use Rattle.cg_world_events.specs.Hosting.{with_up}
use Rattle.cg_world_events.proofs.NodeFacts.{ups-all}
use Rattle.cg_world_events.proofs.nodes.Nodes.up_replicas.Goals as goal

pub returns : goal.returns
returns c =
    let items = c.as_slice-node-items.result.now in
    let none = drop_all c.loop-node.node-index items c.loop-node-test.false in
    rw (← c.self.view_is, ← c.as_slice-node-items.ensures.value)
    (sym (ap (fold with_up c.loop-node.up) none) ∙ c.loop-node.invariant
    ∙ ups-all items (rw (← c.as_slice-node-items.ensures.value) at c.self.invariant))
