use Rattle.std.proofs.Common.{◌≡◌, ◌+◌, length}
use Rattle.cg_join.specs.Handing.{IsTaking, with_parts}
use Rattle.cg_join.proofs.handing.hand_pieces.Given as goal

-- so many pieces more were taken
abbrev pub invariant-loop : goal.invariant-loop
invariant-loop g l =
    IsTaking l.writer l.joiner × (l.joiner ≡ with_parts l.fn.joiner l.joiner.parts) × (length l.joiner.parts ≡ length l.fn.joiner.parts + l.counter)
