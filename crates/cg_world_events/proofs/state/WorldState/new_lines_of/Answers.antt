use Rattle.std.proofs.Common.{[], sym, ap, ◌∙◌, fold}
use Rattle.std.proofs.lemmas.List.{drop_all}
use Rattle.cg_model.specs.World.{World}
use Rattle.cg_model.specs.Touched.{new_lines_of}
use Rattle.cg_world_events.specs.StepInProgress.{with_line}
use Rattle.cg_world_events.proofs.LineFacts.{lines-gathered}
use Rattle.cg_world_events.proofs.state.WorldState.new_lines_of.Goals as goal

pub returns : goal.returns
returns c =
    let w = c.args.self.now in
    let set = c.args.set.now in
    let items = c.as_slice-node-items.result.now in
    let none = drop_all c.loop-node.node-index items c.loop-node-test.false in
    sym (ap (fold (with_line set w) c.loop-node.lines) none) ∙ c.loop-node.invariant ∙ lines-gathered set w items []
    ∙ ap (λ nodes. new_lines_of set (record w { nodes = nodes })) (c.as_slice-node-items.ensures ∙ ap (λ (w : World). w.nodes) c.self.view_is)
