use Rattle.std.proofs.Common.{◌≡◌, [], length}
use Rattle.cg_schedule.specs.Line.{weights}
use Rattle.cg_schedule.proofs.reader.take_weights.Given as goal

-- what the tokens left give from here on is what all give from the start
abbrev pub invariant-loop-token : goal.invariant-loop-token
invariant-loop-token l = weights l.last l.set l.words ≡ weights 0 [] l.fn.words

abbrev pub decreases-loop-token : goal.decreases-loop-token
decreases-loop-token l = length l.words
