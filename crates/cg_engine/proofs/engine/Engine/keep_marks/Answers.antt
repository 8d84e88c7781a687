use Rattle.cg_engine.specs.Seen.{turn_of}
use Rattle.cg_engine.proofs.Rising.{open_engine}
use Rattle.cg_engine.proofs.engine.Engine.keep_marks.Goals as goal

pub invariant_of-engine : goal.invariant_of-engine
invariant_of-engine g c =
    let always = c.what_is_held_agrees.ensures in
    let each = c.each_commit_is_recorded.ensures in
    open_engine always.holds always.counts always.settled each.recorded each.ahead g.D.Disk.view c.args.store c.in-Ok.store c.requires.0 (turn_of c.args.replica c.args.draft) c.requires.1 c.requires.2 c.in-Ok.ensures
