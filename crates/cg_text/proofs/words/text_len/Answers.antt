use Rattle.std.proofs.Common.{sym, arith}
use Rattle.cg_text.proofs.Scanning.{text_goes_on_at, text_stops_at, text_ends_at}
use Rattle.cg_text.proofs.words.text_len.Goals as goal

pub loop-i-preserved : goal.loop-i-preserved
loop-i-preserved c = rw c.escapes-is_escaped.ensures (text_goes_on_at c.args.line.now c.loop-i.i c.loop-i.is_escaped _ c.loop-i-test.true (sym c.if-ends_text.ensures) c.loop-i.invariant)

pub returns-then-ends_text-clause-text : goal.returns-then-ends_text-clause-text
returns-then-ends_text-clause-text c = text_stops_at c.args.line.now c.loop-i.i c.loop-i.is_escaped _ c.loop-i-test.true (sym c.if-ends_text.ensures) c.loop-i.invariant

pub returns-clause-text : goal.returns-clause-text
returns-clause-text c = text_ends_at c.args.line.now c.loop-i.i c.loop-i.is_escaped _ (omega arith) c.loop-i-test.false c.loop-i.invariant
