use Rattle.std.proofs.Common.{◌≡◌, Some, None, MatchOption, subst}
use Rattle.cg_model.specs.World.{NodeState, World, node_of, set_life}
use Rattle.cg_world_events.specs.contracts.state.WorldState.{the_view}
use Rattle.cg_world_events.proofs.HandFacts.{any_taken}
use Rattle.cg_world_events.proofs.state.WorldState.take.Goals as goal

pub returns : goal.returns
returns c =
    let p = c.args.p in
    let after = the_view (record c.self.inside { nodes = c.take.new.self }) in
    subst (λ (w : World). MatchOption c.take.result ((node_of w p ≡ None) × (after ≡ w))
    (λ s. (node_of w p ≡ Some s) × ((life : NodeState) → set_life after p life ≡ set_life w p life)))
    c.self.view_is (any_taken c.take.result (the_view c.self.inside) c.take.new.self p c.take.ensures.taken)
