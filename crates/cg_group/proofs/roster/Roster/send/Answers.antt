use Rattle.std.proofs.Common.{◌≡◌, sym, ◌∙◌, ap}
use Rattle.cg_group.specs.Rosters.{waiting}
use Rattle.cg_group.proofs.RosterFacts.{IsRoster-set, changed_there, changed_nowhere, ok_then}
use Rattle.cg_group.proofs.roster.Roster.send.Goals as goal

pub invariant_of-self : goal.invariant_of-self
invariant_of-self g c =
    IsRoster-set c.self.inside.members.items c.in-Some.i c.send.new.self c.index_mut-member.result.now c.self.invariant
    (c.send.ensures.id ∙ ap (λ s. s.id) c.index_mut-member.ensures.value)

pub returns-in-Some-clause-ok : goal.returns-in-Some-clause-ok
returns-in-Some-clause-ok g c =
    let at = rw c.as_slice.ensures.value at (sym c.place_of.ensures ∙ c.in-Some.is) in
    rw (← c.self.view_is)
    (ok_then c.send.result (λ (e : c.send.new.self ≡ waiting c.index_mut-member.result.now c.args.message).
    changed_there (λ s. waiting s c.args.message) c.self.inside.members.items c.args.p c.in-Some.i c.index_mut-member.result.now c.send.new.self at c.self.invariant
    (e ∙ ap (λ s. waiting s c.args.message) c.index_mut-member.ensures.value)
    (c.send.ensures.id ∙ ap (λ s. s.id) c.index_mut-member.ensures.value)) c.send.ensures.ok)

pub returns-in-None-clause-ok : goal.returns-in-None-clause-ok
returns-in-None-clause-ok g c =
    let away = rw c.as_slice.ensures.value at (sym c.place_of.ensures ∙ c.in-None.is) in
    rw (← c.self.view_is) (changed_nowhere (λ s. waiting s c.args.message) c.self.inside.members.items c.args.p away)
