use Rattle.std.proofs.Common.{◌≡◌, fold, map}
use Rattle.cg_base.specs.Iterators.{members_left}
use Rattle.cg_base.specs.Lists.{lesser, least_of}
use Rattle.cg_base.specs.Slots.{array_slot}
use Rattle.cg_members.proofs.server_set.ServerSet.least_line.Given as goal

-- the least line so far, and that of what is left
abbrev pub invariant-loop-id : goal.invariant-loop-id
invariant-loop-id l = fold lesser l.least (map (array_slot l.self-inside.lines) (members_left l.id-iterator)) ≡ least_of (map (λ s. s.line) l.fn.self)
