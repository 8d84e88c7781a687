use Rattle.std.proofs.Common.{◌≡◌, [], length}
use Rattle.cg_compare.specs.Lines.{each_id}
use Rattle.cg_compare.proofs.reader.each_id.Given as goal

-- what the pieces left give from here on is what all give from the start
abbrev pub invariant-loop-piece : goal.invariant-loop-piece
invariant-loop-piece l = each_id l.ids l.pieces ≡ each_id [] l.initial.pieces

abbrev pub decreases-loop-piece : goal.decreases-loop-piece
decreases-loop-piece l = length l.pieces
