use Rattle.std.proofs.Common.{refl, ◌∙◌, ap}
use Rattle.cg_disk.specs.Model.{view_of, state_of}
use Rattle.cg_world_events.specs.Seen.{down_seen}
use Rattle.cg_world_events.proofs.Falling.{falls_so}
use Rattle.cg_world_events.proofs.node.Node.from_wreck.Goals as goal

pub returns : goal.returns
returns c = λ u falls.
    let old = c.args.wreck in
    let new = c.in_ok-wreck.wreck in
    let rest = c.in_ok-wreck.ensures.rest in
    c.down.ensures ∙ ap (down_seen view_of) c.new.ensures ∙ falls_so view_of old new c.args.fill.now (state_of old.disk) refl c.in_ok-wreck.ensures.crash rest.0 u rest.1 rest.2 falls
