use Rattle.std.proofs.Common.{sym, arith}
use Rattle.cg_text.proofs.Scanning.{word_goes_on_at, word_stops_at, word_ends_at}
use Rattle.cg_text.proofs.words.word_len.Goals as goal

pub loop-i-preserved : goal.loop-i-preserved
loop-i-preserved c = word_goes_on_at c.args.line.now c.loop-i.i _ c.loop-i-test.true (sym c.if-is_mark.ensures) c.loop-i.invariant

pub returns-then-is_mark-clause-word : goal.returns-then-is_mark-clause-word
returns-then-is_mark-clause-word c = word_stops_at c.args.line.now c.loop-i.i _ c.loop-i-test.true (sym c.if-is_mark.ensures) c.loop-i.invariant

pub returns-clause-word : goal.returns-clause-word
returns-clause-word c = word_ends_at c.args.line.now c.loop-i.i _ (omega arith) c.loop-i-test.false c.loop-i.invariant
