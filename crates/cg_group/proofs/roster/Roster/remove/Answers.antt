use Rattle.std.proofs.Common.{sym, ◌∙◌}
use Rattle.cg_group.proofs.RosterFacts.{IsRoster-filter, remove-filter, filter-nowhere, found_there, found_nowhere}
use Rattle.cg_group.proofs.roster.Roster.remove.Goals as goal

pub invariant_of-self : goal.invariant_of-self
invariant_of-self g c =
    let at = rw c.as_slice.ensures.value at (sym c.place_of.ensures ∙ c.in-Some.is) in
    let w = found_there c.self.inside.members.items c.args.p c.in-Some.i c.remove-gone.result at in
    rw (c.remove-gone.ensures.items, remove-filter c.self.inside.members.items 1 c.args.p c.in-Some.i c.remove-gone.result c.self.invariant.ascends w.0 w.1)
    (IsRoster-filter c.self.inside.members.items c.args.p c.self.invariant)

pub returns-in-Some : goal.returns-in-Some
returns-in-Some g c =
    let at = rw c.as_slice.ensures.value at (sym c.place_of.ensures ∙ c.in-Some.is) in
    let w = found_there c.self.inside.members.items c.args.p c.in-Some.i c.remove-gone.result at in
    rw (← c.self.view_is)
    (c.remove-gone.ensures.items ∙ remove-filter c.self.inside.members.items 1 c.args.p c.in-Some.i c.remove-gone.result c.self.invariant.ascends w.0 w.1)

pub returns-in-None : goal.returns-in-None
returns-in-None g c =
    let away = rw c.as_slice.ensures.value at (sym c.place_of.ensures ∙ c.in-None.is) in
    rw (← c.self.view_is) (sym (filter-nowhere c.self.inside.members.items c.args.p (found_nowhere c.self.inside.members.items c.args.p away)))
