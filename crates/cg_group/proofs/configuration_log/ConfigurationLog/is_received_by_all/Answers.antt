use Rattle.std.proofs.Common.{sym, ◌∙◌, ap, arith}
use Rattle.std.specs.Option.{option_copied}
use Rattle.std.proofs.lemmas.List.{length-map}
use Rattle.cg_group.specs.PlaceLaws.{at_place-within}
use Rattle.cg_group.proofs.LogFacts.{all_received-at_place}
use Rattle.cg_group.proofs.configuration_log.ConfigurationLog.is_received_by_all.Goals as goal

pub returns-in-Some : goal.returns-in-Some
returns-in-Some g c =
    let at = rw c.as_slice.ensures.value at (sym c.at_place.ensures ∙ ap option_copied c.in-Some.is) in
    rw (← c.self.view_is) (c.is_within.ensures ∙ sym (all_received-at_place c.self.inside.members c.self.inside.ordered.items c.args.place c.in-Some.placed.now at))

pub returns-in-None : goal.returns-in-None
returns-in-None g c =
    let nowhere = rw c.as_slice.ensures.value at (sym c.at_place.ensures ∙ ap option_copied c.in-None.is) in
    let within = rw (← c.self.view_is, length-map) at c.requires.to in
    let there = at_place-within c.self.inside.ordered.items c.args.place (omega arith) within in
    let clash = sym there.1 ∙ nowhere in
    absurd cc
