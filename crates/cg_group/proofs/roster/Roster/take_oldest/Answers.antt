use Rattle.std.proofs.Common.{[], sym, ◌∙◌, ap, refl}
use Rattle.cg_group.proofs.RosterFacts.{IsRoster-set, taken_there, found_nowhere}
use Rattle.std.specs.Option.{option_map_or}
use Rattle.cg_group.proofs.roster.Roster.take_oldest.Goals as goal

pub invariant_of-self : goal.invariant_of-self
invariant_of-self g c =
    IsRoster-set c.self.inside.members.items c.in-Some.i c.take_oldest.new.self c.index_mut-member.result.now c.self.invariant
    (c.take_oldest.ensures.id ∙ ap (λ s. s.id) c.index_mut-member.ensures.value)

pub returns-in-Some : goal.returns-in-Some
returns-in-Some g c =
    let at = rw c.as_slice.ensures.value at (sym c.place_of.ensures ∙ c.in-Some.is) in
    let taken = rw c.index_mut-member.ensures.value at c.take_oldest.ensures.taken in
    rw (← c.self.view_is)
    (taken_there c.take_oldest.result c.self.inside.members.items c.args.p c.in-Some.i c.index_mut-member.result.now c.take_oldest.new.self at c.self.invariant
    (c.take_oldest.ensures.id ∙ ap (λ s. s.id) c.index_mut-member.ensures.value) taken)

pub returns-in-None : goal.returns-in-None
returns-in-None g c =
    let away = rw c.as_slice.ensures.value at (sym c.place_of.ensures ∙ c.in-None.is) in
    (refl, rw (← c.self.view_is) (ap (λ o. option_map_or (λ s. s.unordered) o []) (found_nowhere c.self.inside.members.items c.args.p away)))
