use Rattle.std.proofs.Common.{◌≡◌, [], fold, sym, ap, subst, ◌∙◌, rules}
use Rattle.cg_base.specs.Iterators.{members_left}
use Rattle.cg_base.specs.Sets.{IsSet}
use Rattle.cg_model.specs.World.{is_left, up_replicas}
use Rattle.cg_world_events.specs.Hosting.{with_left}
use Rattle.cg_world_events.proofs.NodeFacts.{chosen}
use Rattle.cg_world_events.proofs.state.WorldState.left_replicas.Goals as goal

pub returns : goal.returns
returns c =
    let w = c.args.self.now in
    let none : members_left c.loop-p.p-iterator ≡ [] = search rules in
    sym (ap (fold (with_left w) c.loop-p.left) none) ∙ c.loop-p.invariant
    ∙ chosen (is_left w) (up_replicas w) (subst IsSet c.up_replicas-up.ensures c.holds.ensures)
