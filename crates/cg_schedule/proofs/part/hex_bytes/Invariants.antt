use Rattle.std.proofs.Common.{◌≡◌, [], length}
use Rattle.cg_schedule.specs.Part.{hex_bytes}
use Rattle.cg_schedule.proofs.part.hex_bytes.Given as goal

-- what the digits left give from here on is what all give from the start
abbrev pub invariant-loop-high : goal.invariant-loop-high
invariant-loop-high l = hex_bytes l.bytes l.rest ≡ hex_bytes [] l.fn.digits

abbrev pub decreases-loop-high : goal.decreases-loop-high
decreases-loop-high l = length l.rest
