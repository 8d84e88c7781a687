use Rattle.std.proofs.Common.{add-one}
use Rattle.cg_group.proofs.DeliveryFacts.{deliveries-next}
use Rattle.cg_group.proofs.configuration_log.ConfigurationLog.put_deliveries.Goals as goal

pub loop-place-preserved : goal.loop-place-preserved
loop-place-preserved g c =
    let put = rw add-one at c.in_ok-put_delivery.ensures in
    rw add-one
    (deliveries-next c.args.self.now.configuration c.loop-place.out.items c.put_delivery.new.out.items _ c.loop-place.place c.args.to c.loop-place-test.true put c.loop-place.invariant)
