use Rattle.std.proofs.Common.{map, take}
use Rattle.serde_json.specs.View.{view}
use Rattle.cg_json.specs.Lines.{AppendsLines}
use Rattle.cg_json.proofs.lines.push_lines.Given as goal

abbrev pub invariant-loop-one : goal.invariant-loop-one
invariant-loop-one g l = AppendsLines g.D.Display.output (map view l.initial.lines.items) (take l.one-index l.shown) (map view l.lines.items)
