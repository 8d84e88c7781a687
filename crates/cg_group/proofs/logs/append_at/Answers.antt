use Rattle.std.proofs.Common.{ap, arith}
use Rattle.cg_group.specs.Events.{with_message}
use Rattle.cg_group.proofs.LogsFacts.{written, written_nowhere, written_beyond, room_spent, room_at}
use Rattle.cg_group.proofs.RoomFacts.{room_less}
use Rattle.cg_group.proofs.logs.append_at.Goals as goal

pub returns-then-conf-eq0-clause-changed : goal.returns-then-conf-eq0-clause-changed
returns-then-conf-eq0-clause-changed g c = written_nowhere (λ x. with_message x c.args.from c.args.message) c.args.logs.now c.args.conf c.if-conf-eq0.true

pub returns-then-conf-eq0-clause-room : goal.returns-then-conf-eq0-clause-room
returns-then-conf-eq0-clause-room g c = λ k n. room_less c.args.logs.now k _ n (omega arith)

pub returns-then-conf-logs-clause-changed : goal.returns-then-conf-logs-clause-changed
returns-then-conf-logs-clause-changed g c = written_beyond (λ x. with_message x c.args.from c.args.message) c.args.logs.now c.args.conf c.if-conf-logs.true

pub returns-then-conf-logs-clause-room : goal.returns-then-conf-logs-clause-room
returns-then-conf-logs-clause-room g c = λ k n. room_less c.args.logs.now k _ n (omega arith)

pub append-requires : goal.append-requires
append-requires g c =
    let room = room_at c.args.logs.now c.args.conf 1 c.index-logs-conf.result c.if-conf-eq0.false c.if-conf-logs.false c.requires in omega arith

pub returns-clause-changed : goal.returns-clause-changed
returns-clause-changed g c =
    written (λ x. with_message x c.args.from c.args.message) c.args.logs.now c.args.conf c.index-logs-conf.result c.append.new.self c.if-conf-eq0.false c.if-conf-logs.false
    c.append.ensures.value

pub returns-clause-room : goal.returns-clause-room
returns-clause-room g c = λ k n.
    let before = ap (λ s. s.room) c.index-logs-conf.is in
    let after = c.append.ensures.room in
    room_spent c.args.logs.now c.args.conf k n c.append.new.self c.index-logs-conf.result c.if-conf-eq0.false c.if-conf-logs.false (omega arith)
