use Rattle.std.proofs.Common.{◌++◌, ℕ, Bool, filter, ap, ◌∙◌, add-one}
use Rattle.std.specs.List.{list_any}
use Rattle.cg_base.specs.Lists.{above_up_to}
use Rattle.cg_group.specs.State.{has_received}
use Rattle.cg_group.specs.Events.{deliveries_at, transitional_places}
use Rattle.cg_group.proofs.DeliveryFacts.{later-next, later-end}
use Rattle.cg_group.proofs.configuration_log.ConfigurationLog.put_later.Goals as goal

pub loop-place-preserved : goal.loop-place-preserved
loop-place-preserved g c =
    let test : ℕ → Bool = λ place. list_any (λ q. has_received c.args.self.now.configuration q place) c.args.set.now in
    let put = rw add-one at c.in_ok-put_if_received.ensures in
    rw add-one
    (later-next c.args.self.now.configuration test c.loop-place.out.items c.put_if_received.new.out.items _ c.loop-place.place c.len-len.result c.loop-place-test.true put c.loop-place.invariant)

pub returns : goal.returns
unfolding transitional_places
returns g c =
    let test : ℕ → Bool = λ place. list_any (λ q. has_received c.args.self.now.configuration q place) c.args.set.now in
    later-end c.args.self.now.configuration test c.loop-place.out.items _ c.loop-place.place c.len-len.result c.loop-place-test.false c.loop-place.invariant
    ∙ ap (λ n. c.args.out.now.items ++ deliveries_at c.args.self.now.configuration (filter test (above_up_to c.args.first n))) c.len-len.ensures
