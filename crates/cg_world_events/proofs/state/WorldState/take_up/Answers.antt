use Rattle.std.proofs.Common.{◌≡◌, true, Some, None, MatchOption, is_some, subst, sym, ap, ◌∙◌}
use Rattle.cg_model.specs.World.{NodeState, World, running, node_of, replica_of, set_life}
use Rattle.cg_world_events.specs.contracts.state.WorldState.{the_view}
use Rattle.cg_world_events.proofs.HandFacts.{up_taken}
use Rattle.cg_world_events.proofs.state.WorldState.take_up.Goals as goal

pub returns-then-is_up : goal.returns-then-is_up
returns-then-is_up c =
    let p = c.args.p in
    let after = the_view (record c.self.inside { nodes = c.take_boxed.new.self }) in
    let up = ap (λ w. is_some (replica_of w p)) c.self.view_is ∙ sym c.is_up.ensures ∙ c.if-is_up.true in
    subst (λ (w : World). MatchOption c.take_boxed.result ((replica_of w p ≡ None) × (after ≡ w))
    (λ s. (node_of w p ≡ Some s) × (is_some (running s.life) ≡ true) × ((life : NodeState) → set_life after p life ≡ set_life w p life)))
    c.self.view_is (up_taken c.take_boxed.result (the_view c.self.inside) c.take_boxed.new.self p up c.take_boxed.ensures.taken)
