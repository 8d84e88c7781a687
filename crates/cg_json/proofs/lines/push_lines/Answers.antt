use Rattle.std.proofs.Common.{map}
use Rattle.serde_json.specs.View.{view}
use Rattle.cg_json.proofs.Appended.{next_pushed, all_pushed}
use Rattle.cg_json.proofs.lines.push_lines.Goals as goal

pub loop-one-preserved : goal.loop-one-preserved
loop-one-preserved g c =
    next_pushed g.D.Display.output (map view c.args.lines.now.items) c.loop-one.lines.items c.push.new.self.items c.args.shown.now c.loop-one.one-index c.one-item.result c.in_ok-line.line
    c.loop-one.invariant c.loop-one-test.true c.one-item.is c.in_ok-line.ensures.ok c.in_ok-push.ensures.items

pub returns : goal.returns
returns g c =
    all_pushed g.D.Display.output (map view c.args.lines.now.items) (map view c.loop-one.lines.items) c.args.shown.now c.loop-one.one-index c.loop-one.invariant c.loop-one-test.false
