use Rattle.std.proofs.Common.{◌≡◌, ◌+◌, drop}
use Rattle.cg_group.specs.Rosters.{pending}
use Rattle.cg_group.proofs.gathering.pending.Given as goal

abbrev pub invariant-loop-member : goal.invariant-loop-member
invariant-loop-member g l = l.count + pending (drop l.member-index l.members) l.conf ≡ pending l.members l.conf
