use Rattle.std.proofs.Common.{◌≡◌, fold, drop}
use Rattle.cg_group.specs.Events.{receive_all}
use Rattle.cg_group.specs.Logs.{group_of}
use Rattle.cg_group.specs.Rosters.{regulars_of}
use Rattle.cg_group.proofs.gathering.receive_everything.Given as goal

-- those that are left receive what all do
abbrev pub invariant-loop-member : goal.invariant-loop-member
invariant-loop-member g l =
    fold receive_all (group_of l.logs l.members) (regulars_of (drop l.member-index l.members)) ≡ fold receive_all (group_of l.initial.logs l.members) (regulars_of l.members)
