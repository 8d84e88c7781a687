use Rattle.std.proofs.Common.{◌≡◌, [], length}
use Rattle.cg_schedule.specs.Line.{ids}
use Rattle.cg_schedule.proofs.reader.take_ids.Given as goal

-- what the tokens left give from here on is what all give from the start
abbrev pub invariant-loop-token : goal.invariant-loop-token
invariant-loop-token l = ids l.last l.set l.words ≡ ids 0 [] l.fn.words

abbrev pub decreases-loop-token : goal.decreases-loop-token
decreases-loop-token l = length l.words
