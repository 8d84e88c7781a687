use Rattle.std.proofs.Common.{◌++◌, ◌∷◌, ap, ◌∙◌}
use Rattle.cg_base.specs.Lists.{above_up_to}
use Rattle.cg_group.specs.declared.delivery.Delivery.TheVariants.{Transitional}
use Rattle.cg_group.specs.State.{home, regular_in, phase_of, delivered_to}
use Rattle.cg_group.specs.Events.{deliveries_at, transitional_places, handed_in_split}
use Rattle.cg_group.proofs.DeliveryFacts.{three_parts}
use Rattle.cg_group.proofs.group.Group.hand_split.Goals as goal

pub returns : goal.returns
unfolding handed_in_split
returns g c =
    let x = home c.args.self.now c.args.p in
    let set = c.args.set.now in
    ap (λ l. record { to = c.args.p; list = l })
    (c.from_vec.ensures
    ∙ three_parts c.new-list.result.items c.put_deliveries.new.out.items c.push.new.self.items c.put_later.new.out.items
    (deliveries_at x (above_up_to c.delivered.result c.args.first)) (deliveries_at x (transitional_places x set c.args.first)) (Transitional c.regular_in-conf.result set)
    c.new-list.ensures.items c.in_ok-put_deliveries.ensures c.in_ok-push.ensures.items c.in_ok-put_later.ensures
    ∙ ap (λ n. deliveries_at x (above_up_to n c.args.first) ++ Transitional c.regular_in-conf.result set ∷ deliveries_at x (transitional_places x set c.args.first)) c.delivered.ensures
    ∙ ap (λ n. deliveries_at x (above_up_to (delivered_to c.args.self.now c.args.p) c.args.first) ++ Transitional n set ∷ deliveries_at x (transitional_places x set c.args.first)) c.regular_in-conf.ensures
    ∙ ap (λ n. deliveries_at x (above_up_to (delivered_to c.args.self.now c.args.p) n) ++ Transitional (regular_in (phase_of c.args.self.now c.args.p)) set ∷ deliveries_at x (transitional_places x set n)) c.requires)
