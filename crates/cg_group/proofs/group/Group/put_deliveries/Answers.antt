use Rattle.std.proofs.Common.{sym}
use Rattle.std.proofs.lemmas.List.{append-nil}
use Rattle.cg_base.specs.Lists.{above_up_to}
use Rattle.cg_group.proofs.DeliveryFacts.{deliveries-nowhere}
use Rattle.cg_group.proofs.group.Group.put_deliveries.Goals as goal

pub returns-in-None : goal.returns-in-None
returns-in-None g c =
    let places = above_up_to c.args.from c.args.to in
    rw c.in-None.ensures (rw (deliveries-nowhere places) (sym (append-nil c.args.out.now.items)))
