use Rattle.std.proofs.Common.{◌<◌, ◌≤◌, true, refl, arith}
use Rattle.std.proofs.Output.{has_written_append, has_written_of_eq}
use Rattle.cg_base.proofs.RunLemmas.{text_above-last}
use Rattle.cg_base.proofs.display.write_above.Goals as goal

pub loop-before-preserved : goal.loop-before-preserved
loop-before-preserved g c =
    let at = c.loop-before.before in
    let low : c.args.first ≤ at = c.loop-before.invariant.0 in
    let high : at < c.args.last = c.loop-before-test.true in (
      omega arith,
      omega arith,
      λ plain. let front = c.loop-before.invariant.2 plain in
          has_written_of_eq _ _ _ _ _ (text_above-last c.args.first at c.args.creator low)
          (has_written_append _ _ _ _ _ _ front (c.in_ok-write.ensures.writes front.plain (refl {a = true}))),
    )
