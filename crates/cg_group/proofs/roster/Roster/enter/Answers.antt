use Rattle.std.proofs.Common.{◌≡◌, [], sym, ◌∙◌, ap, false, true, is_some}
use Rattle.cg_group.specs.State.{with_standing}
use Rattle.cg_group.proofs.RosterFacts.{IsRoster-set, set-with_standing, found_there, found_nowhere}
use Rattle.cg_group.proofs.roster.Roster.enter.Goals as goal

pub invariant_of-self : goal.invariant_of-self
invariant_of-self g c =
    IsRoster-set c.self.inside.members.items c.in-Some.i c.enter.new.self c.index_mut-member.result.now c.self.invariant
    (ap (λ s. s.id) c.enter.ensures ∙ ap (λ s. s.id) c.index_mut-member.ensures.value)

pub returns-in-Some : goal.returns-in-Some
returns-in-Some g c =
    let at = rw c.as_slice.ensures.value at (sym c.place_of.ensures ∙ c.in-Some.is) in
    let w = found_there c.self.inside.members.items c.args.p c.in-Some.i c.index_mut-member.result.now at in
    rw (← c.self.view_is)
    (set-with_standing c.self.inside.members.items 1 c.in-Some.i c.enter.new.self c.index_mut-member.result.now c.self.invariant.ascends w.0
    (sym (ap (λ s. s.id) c.enter.ensures ∙ ap (λ s. s.id) c.index_mut-member.ensures.value))
    ∙ ap (with_standing c.self.inside.members.items) (c.enter.ensures
    ∙ ap (λ id. record { id = id; phase = c.args.phase; delivered = c.args.delivered; unordered = [] }) (ap (λ s. s.id) c.index_mut-member.ensures.value ∙ w.1)))

pub returns-in-None : goal.returns-in-None
returns-in-None g c =
    let away = rw c.as_slice.ensures.value at (sym c.place_of.ensures ∙ c.in-None.is) in
    let nowhere = found_nowhere c.self.inside.members.items c.args.p away in
    let clash : false ≡ true = sym (ap is_some (rw c.self.view_is at nowhere)) ∙ c.requires in
    absurd cc
