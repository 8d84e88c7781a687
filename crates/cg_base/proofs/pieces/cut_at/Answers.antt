use Rattle.std.proofs.Common.{arith, add-one}
use Rattle.std.proofs.lemmas.List.{take_rest}
use Rattle.cg_base.proofs.Cutting.{pieces_of-cut, pieces_of-none}
use Rattle.cg_base.proofs.pieces.cut_at.Goals as goal

pub returns-then-b-separator : goal.returns-then-b-separator
returns-then-b-separator c = rw (take_rest, add-one) (pieces_of-cut _ _ c.loop-i.i (omega arith) c.loop-i.invariant c.if-b-separator.true)

pub returns : goal.returns
returns c = pieces_of-none _ _ (λ k h. c.loop-i.invariant k (omega arith))
