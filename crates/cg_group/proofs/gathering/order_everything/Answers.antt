use Rattle.std.proofs.Common.{◌≡◌, ◌∷◌, ap, ◌∙◌, fold, rules}
use Rattle.cg_base.specs.Iterators.{members_left}
use Rattle.cg_group.specs.Events.{order_all}
use Rattle.cg_group.proofs.gathering.order_everything.Goals as goal

pub loop-p-preserved : goal.loop-p-preserved
loop-p-preserved g c =
    let left = members_left c.next.new.self in
    let next : members_left c.loop-p.p-iterator ≡ c.in-Some.p ∷ left = search rules in
    let before = rw next at c.loop-p.invariant in (ap (λ x. fold order_all x left) c.order_all.ensures.group ∙ before.0, c.order_all.ensures.room)
