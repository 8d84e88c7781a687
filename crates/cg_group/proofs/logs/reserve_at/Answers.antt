use Rattle.std.proofs.Common.{◌-◌, ap, arith}
use Rattle.cg_group.proofs.LogsFacts.{room_written, room_made}
use Rattle.std.proofs.Math.Seq.{map-set_same}
use Rattle.cg_group.proofs.logs.reserve_at.Goals as goal

pub returns-clause-same : goal.returns-clause-same
returns-clause-same g c =
    map-set_same (λ s. s.configuration) c.args.logs.now (c.args.conf - 1) c.reserve.new.self c.index-logs-conf.result
    c.reserve.ensures.same

pub returns-clause-kept : goal.returns-clause-kept
returns-clause-kept g c = λ k n.
    let before = ap (λ s. s.room) c.index-logs-conf.is in
    let after = c.reserve.ensures.kept in
    room_written c.args.logs.now (c.args.conf - 1) k n n c.reserve.new.self c.index-logs-conf.result (omega arith) (λ le. omega arith) (omega arith)

pub returns-clause-room : goal.returns-clause-room
returns-clause-room g c = room_made c.reserve.result c.args.logs.now c.args.conf c.args.count c.reserve.new.self c.if-conf-eq0.false c.if-conf-logs.false c.reserve.ensures.room
