use Rattle.cg_group.specs.Logs.{with_all_receipts}
use Rattle.cg_group.proofs.LogsFacts.{written, written_nowhere, written_beyond}
use Rattle.cg_group.proofs.logs.receive_all_at.Goals as goal

pub returns-then-conf-eq0 : goal.returns-then-conf-eq0
returns-then-conf-eq0 g c = written_nowhere (λ x. with_all_receipts x c.args.p) c.args.logs.now c.args.conf c.if-conf-eq0.true

pub returns-then-conf-logs : goal.returns-then-conf-logs
returns-then-conf-logs g c = written_beyond (λ x. with_all_receipts x c.args.p) c.args.logs.now c.args.conf c.if-conf-logs.true

pub returns : goal.returns
returns g c =
    written (λ x. with_all_receipts x c.args.p) c.args.logs.now c.args.conf c.index-logs-conf.result c.receive_all.new.self c.if-conf-eq0.false c.if-conf-logs.false
    c.receive_all.ensures.value
