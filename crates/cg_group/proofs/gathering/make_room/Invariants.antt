use Rattle.std.proofs.Common.{◌≡◌, ℕ, drop}
use Rattle.cg_group.specs.Logs.{RoomFor, configurations_of}
use Rattle.cg_group.specs.Rosters.{pending}
use Rattle.cg_group.proofs.RoomFacts.{HasRoom}
use Rattle.cg_group.proofs.gathering.make_room.Given as goal

-- there is room in the configurations of the replicas so far
abbrev pub invariant-loop-member : goal.invariant-loop-member
invariant-loop-member g l = record {
  same : configurations_of l.logs ≡ configurations_of l.initial.logs;
  last : RoomFor l.logs l.last (pending l.members l.last);
  room : (k : ℕ) → HasRoom l.logs l.members (drop l.member-index l.members) k;
}
