use Rattle.cg_compare.proofs.OneOrder as order
use Rattle.cg_compare.proofs.laws.logs_of_one_order_agree.Goals as goal

pub returns : goal.returns
returns c = order.logs_of_one_order_agree
