use Rattle.std.proofs.Common.{sym}
use Rattle.cg_group.specs.Logs.{group_of}
use Rattle.cg_group.proofs.OrderFacts.{order_taken, order_nothing}
use Rattle.cg_group.proofs.RoomFacts.{RoomForAll-taken, waits-some}
use Rattle.cg_group.proofs.gathering.order_oldest.Goals as goal

pub append_at-requires : goal.append_at-requires
append_at-requires g c =
    let taken = c.in-Some.ensures in
    rw c.regular_in-conf.ensures (c.requires (waits-some c.args.roster.now c.args.p c.in-Some.message taken.0 taken.1 taken.2 taken.3))

pub returns-in-Some-clause-group : goal.returns-in-Some-clause-group
returns-in-Some-clause-group g c =
    let taken = c.in-Some.ensures in
    let changed = rw c.regular_in-conf.ensures at c.append_at.ensures.changed in
    rw (taken.4) (order_taken c.args.logs.now c.append_at.new.logs c.args.roster.now c.args.p c.in-Some.message taken.0 taken.1 taken.2 taken.3 changed)

pub returns-in-Some-clause-room : goal.returns-in-Some-clause-room
returns-in-Some-clause-room g c =
    let taken = c.in-Some.ensures in
    let spent = rw c.regular_in-conf.ensures at c.append_at.ensures.room in
    rw (taken.4)
    (RoomForAll-taken c.args.logs.now c.append_at.new.logs c.args.roster.now c.args.p c.in-Some.message taken.0 taken.1 c.holds.ensures taken.2 taken.3 spent)

pub returns-in-None-clause-group : goal.returns-in-None-clause-group
returns-in-None-clause-group g c =
    let none = c.in-None.ensures in
    rw (none.0) (sym (order_nothing (group_of c.args.logs.now c.args.roster.now) c.args.p none.1))
