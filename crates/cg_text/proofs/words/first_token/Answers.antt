use Rattle.std.proofs.Common.{sym}
use Rattle.cg_text.proofs.Scanning.{blank_at, none_at}
use Rattle.cg_text.proofs.words.first_token.Goals as goal

pub loop-i-preserved : goal.loop-i-preserved
loop-i-preserved c = blank_at c.args.line.now c.loop-i.i _ c.loop-i-test.true (sym c.if-not-is_blank.ensures) c.loop-i.invariant

pub returns : goal.returns
returns c = none_at c.args.line.now c.loop-i.i c.loop-i-test.false c.loop-i.invariant
