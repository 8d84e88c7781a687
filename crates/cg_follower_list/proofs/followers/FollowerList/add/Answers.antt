use Rattle.std.proofs.Common.{arith}
use Rattle.std.proofs.lemmas.List.Sums.{prefix_len-le-length}
use Rattle.std.specs.Prelude.{nat_lt}
use Rattle.cg_follower_list.proofs.Listing.{listed-with, insert-with}
use Rattle.cg_follower_list.proofs.followers.FollowerList.add.Goals as goal

pub insert-requires : goal.insert-requires
insert-requires c =
    let placed = rw (c.as_slice.ensures.value, c.id.ensures) at c.index_for-index.ensures in
    let within = prefix_len-le-length (λ s. nat_lt s.id c.args.slot.id) c.self.inside.list.items in
    omega arith

pub invariant_of-self-2 : goal.invariant_of-self-2
invariant_of-self-2 c =
    let placed = rw (c.as_slice.ensures.value, c.id.ensures) at c.index_for-index.ensures in
    let away = rw (← c.self.view_is) at c.requires in
    rw (c.in_ok-insert.ensures.items, placed, insert-with c.self.inside.list.items c.args.slot away)
    (listed-with c.self.inside.list.items c.args.slot c.self.invariant)

pub returns : goal.returns
returns c =
    let placed = rw (c.as_slice.ensures.value, c.id.ensures) at c.index_for-index.ensures in
    let away = rw (← c.self.view_is) at c.requires in
    rw (c.in_ok-insert.ensures.items, placed, ← c.self.view_is) (insert-with c.self.inside.list.items c.args.slot away)
