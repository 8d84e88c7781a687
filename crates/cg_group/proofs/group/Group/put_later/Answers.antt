use Rattle.std.proofs.Common.{◌++◌, sym, ap, ◌∙◌}
use Rattle.std.proofs.lemmas.List.{append-nil}
use Rattle.cg_group.specs.State.{no_configuration}
use Rattle.cg_group.specs.Events.{deliveries_at, transitional_places}
use Rattle.cg_group.proofs.DeliveryFacts.{deliveries-nowhere}
use Rattle.cg_group.proofs.group.Group.put_later.Goals as goal

pub returns-in-None : goal.returns-in-None
returns-in-None g c =
    sym (append-nil c.args.out.now.items)
    ∙ ap (λ z. c.args.out.now.items ++ z)
    (sym (ap (λ x. deliveries_at x (transitional_places x c.args.set.now c.args.first)) c.in-None.ensures
    ∙ deliveries-nowhere (transitional_places no_configuration c.args.set.now c.args.first)))
