use Rattle.std.proofs.Common.{sym, ◌∙◌, ap}
use Rattle.cg_group.specs.Rosters.{handed_so_far}
use Rattle.cg_group.proofs.RosterFacts.{IsRoster-set, changed_there, changed_nowhere}
use Rattle.cg_group.proofs.roster.Roster.hand_out.Goals as goal

pub invariant_of-self : goal.invariant_of-self
invariant_of-self g c =
    IsRoster-set c.self.inside.members.items c.in-Some.i c.hand_out.new.self c.index_mut-member.result.now c.self.invariant
    (ap (λ s. s.id) c.hand_out.ensures ∙ ap (λ s. s.id) c.index_mut-member.ensures.value)

pub returns-in-Some : goal.returns-in-Some
returns-in-Some g c =
    let at = rw c.as_slice.ensures.value at (sym c.place_of.ensures ∙ c.in-Some.is) in
    rw (← c.self.view_is)
    (changed_there (λ s. handed_so_far s c.args.count) c.self.inside.members.items c.args.p c.in-Some.i c.index_mut-member.result.now c.hand_out.new.self at c.self.invariant
    (c.hand_out.ensures ∙ ap (λ s. handed_so_far s c.args.count) c.index_mut-member.ensures.value)
    (ap (λ s. s.id) c.hand_out.ensures ∙ ap (λ s. s.id) c.index_mut-member.ensures.value))

pub returns-in-None : goal.returns-in-None
returns-in-None g c =
    let away = rw c.as_slice.ensures.value at (sym c.place_of.ensures ∙ c.in-None.is) in
    rw (← c.self.view_is) (changed_nowhere (λ s. handed_so_far s c.args.count) c.self.inside.members.items c.args.p away)
