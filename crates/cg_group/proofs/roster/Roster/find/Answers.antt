use Rattle.std.proofs.Common.{sym, ◌∙◌, ap, Some}
use Rattle.cg_group.proofs.RosterFacts.{found_there, found_nowhere}
use Rattle.cg_group.proofs.roster.Roster.find.Goals as goal

pub returns-in-Some : goal.returns-in-Some
returns-in-Some g c =
    let at = rw c.as_slice-members.ensures.value at (sym c.place_of.ensures ∙ c.in-Some.is) in
    let w = found_there c.self.inside.members.items c.args.p c.in-Some.i c.index-members-i.result at in
    let there = rw c.as_slice-members.ensures.value at c.index-members-i.is in
    rw (← c.self.view_is) (ap Some there ∙ sym w.2)

pub returns-in-None : goal.returns-in-None
returns-in-None g c =
    let away = rw c.as_slice-members.ensures.value at (sym c.place_of.ensures ∙ c.in-None.is) in
    rw (← c.self.view_is) (sym (found_nowhere c.self.inside.members.items c.args.p away))
