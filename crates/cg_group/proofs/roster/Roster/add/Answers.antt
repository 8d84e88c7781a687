use Rattle.std.proofs.Common.{arith}
use Rattle.std.proofs.lemmas.List.Sums.{prefix_len-le-length}
use Rattle.std.specs.Prelude.{nat_lt}
use Rattle.cg_group.proofs.RosterFacts.{IsRoster-with_standing, insert-with_standing}
use Rattle.cg_group.proofs.roster.Roster.add.Goals as goal

pub insert-requires : goal.insert-requires
insert-requires g c =
    let placed = rw (c.as_slice.ensures.value, c.id.ensures) at c.place_for-place.ensures.place in
    let within = prefix_len-le-length (λ s. nat_lt s.id c.args.member.id) c.self.inside.members.items in
    omega arith

pub invariant_of-self-2 : goal.invariant_of-self-2
invariant_of-self-2 g c =
    let placed = rw (c.as_slice.ensures.value, c.id.ensures) at c.place_for-place.ensures.place in
    let away = rw (← c.self.view_is) at c.requires in
    rw (c.in_ok-insert.ensures.items, placed, insert-with_standing c.self.inside.members.items c.args.member away)
    (IsRoster-with_standing c.self.inside.members.items c.args.member (rw c.id.ensures at c.place_for-place.ensures.range) c.self.invariant)

pub returns-clause-ok : goal.returns-clause-ok
returns-clause-ok g c =
    let placed = rw (c.as_slice.ensures.value, c.id.ensures) at c.place_for-place.ensures.place in
    let away = rw (← c.self.view_is) at c.requires in
    rw (c.in_ok-insert.ensures.items, placed, ← c.self.view_is) (insert-with_standing c.self.inside.members.items c.args.member away)
