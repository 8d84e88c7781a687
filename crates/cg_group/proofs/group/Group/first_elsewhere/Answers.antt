use Rattle.std.proofs.Common.{◌∙◌, sym, ap, not, find}
use Rattle.std.specs.Prelude.{◌==◌}
use Rattle.std.specs.Option.{option_map}
use Rattle.cg_group.specs.declared.reason.Reason.TheVariants.{NotOneConfiguration}
use Rattle.cg_group.specs.State.{regular_in, phase_of}
use Rattle.cg_group.proofs.DeliveryFacts.{one_found}
use Rattle.cg_group.proofs.group.Group.first_elsewhere.Goals as goal

pub returns-in-Some : goal.returns-in-Some
returns-in-Some g c =
    c.first_outside.ensures
    ∙ ap (λ k. option_map NotOneConfiguration (find (λ q. not (regular_in (phase_of c.args.self.now q) == k)) c.args.set.now)) c.regular_in.ensures
    ∙ sym (one_found c.args.self.now c.args.set.now c.in-Some.least (sym c.in-Some.is ∙ c.least.ensures))
