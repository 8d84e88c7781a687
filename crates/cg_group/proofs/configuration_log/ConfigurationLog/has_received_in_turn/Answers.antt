use Rattle.std.proofs.Common.{sym, ◌∙◌, ap}
use Rattle.std.specs.Option.{option_copied}
use Rattle.cg_group.proofs.TurnFacts.{in_turn-has}
use Rattle.cg_group.proofs.configuration_log.ConfigurationLog.has_received_in_turn.Goals as goal

pub returns-in-Some : goal.returns-in-Some
returns-in-Some g c = λ yes earlier pos le same.
    let at = rw c.as_slice.ensures.value at (sym c.at_place.ensures ∙ ap option_copied c.in-Some.is) in
    let senders = rw (← c.self.view_is) at same in
    rw (← c.self.view_is)
    (in_turn-has c.self.inside.members c.self.inside.ordered.items c.args.p c.args.place earlier c.in-Some.placed.now c.self.invariant.2 at (sym c.contains.ensures ∙ yes) pos le senders)
