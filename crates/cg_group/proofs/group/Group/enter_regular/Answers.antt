use Rattle.std.proofs.Common.{◌≡◌, ◌∷◌, ap, ◌∙◌, fold, rules}
use Rattle.cg_base.specs.Iterators.{members_left}
use Rattle.cg_group.specs.Events.{become_regular}
use Rattle.cg_group.proofs.UpFacts.{AllUp-become_regular}
use Rattle.cg_group.proofs.group.Group.enter_regular.Goals as goal

pub loop-p-preserved : goal.loop-p-preserved
loop-p-preserved g c =
    let next : members_left c.loop-p.p-iterator ≡ c.in-Some.p ∷ members_left c.next.new.self = search rules in
    let before = rw next at c.loop-p.invariant in (
      ap (λ s. fold (become_regular c.args.conf) s (members_left c.next.new.self)) c.become_regular.ensures ∙ before.0,
      rw c.become_regular.ensures (AllUp-become_regular c.args.conf c.loop-p.self c.in-Some.p (members_left c.next.new.self) before.1.1),
    )
