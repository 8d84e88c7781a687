use Rattle.std.proofs.Common.{◌≡◌, IfOk, sym, ap, subst, ◌∙◌}
use Rattle.std.specs.Option.{option_copied}
use Rattle.cg_model.specs.World.{World, node_of}
use Rattle.cg_world_events.proofs.SeenNodes.{dirty-at}
use Rattle.cg_world_events.proofs.querying.dirty_of.Goals as goal

pub returns-in-Some : goal.returns-in-Some
returns-in-Some c =
    let there = ap (λ (w : World). node_of w c.args.p) (sym c.state.view_is) ∙ sym c.find.ensures ∙ ap option_copied c.in-Some.is in
    subst (λ x. IfOk c.shows_dirty.result (λ list. list ≡ x)) (dirty-at c.args.state.now c.args.p c.in-Some.node.now c.args.query.now there) c.shows_dirty.ensures
