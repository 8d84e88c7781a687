use Rattle.std.proofs.Common.{◌≡◌, ◌++◌, get_or, sym}
use Rattle.cg_text.specs.Quoted.{kept}
use Rattle.cg_text.proofs.Unquoting.{text_goes_on}
use Rattle.cg_text.proofs.quoted.unescaped.Goals as goal

pub loop-i-preserved : goal.loop-i-preserved
loop-i-preserved c =
    let byte = get_or c.args.inner.now c.loop-i.i 0 in
    let grown : c.keep.new.text.items ≡ c.loop-i.text.items ++ kept c.escapes-is_escaped.result byte = c.in_ok-keep.ensures in
    rw (grown, c.escapes-is_escaped.ensures) (text_goes_on c.loop-i.text.items c.args.inner.now c.loop-i.i c.loop-i.is_escaped _ c.loop-i-test.true (sym c.if-ends_text.ensures) (sym c.if-is_refused.ensures) c.loop-i.invariant)
