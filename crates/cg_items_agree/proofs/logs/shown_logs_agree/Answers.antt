use Rattle.cg_items_agree.proofs.OneOrder.{logs-of-run}
use Rattle.cg_items_agree.proofs.logs.shown_logs_agree.Goals as goal

pub returns : goal.returns
returns c = logs-of-run c.runs_agree.ensures c.agreement_gives_guarantees.ensures c.logs_of_one_order_agree.ensures
