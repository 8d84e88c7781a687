use Rattle.std.proofs.Common.{◌∙◌, ap, ap₂}
use Rattle.cg_base.specs.Sets.{with_member}
use Rattle.cg_group.proofs.LogFacts.{configuration_of-appended}
use Rattle.cg_group.proofs.SettledFacts.{IsSettled-append, AreFronts-append}
use Rattle.cg_group.proofs.TurnFacts.{AreInTurn-append}
use Rattle.cg_group.proofs.configuration_log.ConfigurationLog.append.Goals as goal

pub count_on-requires : goal.count_on-requires
count_on-requires g c =
    rw (c.as_slice-ordered.ensures.value, c.push_in_room.ensures.items) (AreFronts-append c.self.inside.ordered.items _ c.self.inside.fronts.items c.self.invariant.1)

pub returns-clause-value : goal.returns-clause-value
returns-clause-value g c =
    rw (← c.self.view_is, c.push_in_room.ensures.items)
    (configuration_of-appended c.self.inside.members c.self.inside.ordered.items c.args.from c.args.message _
    (ap₂ (λ set turn. record { from = c.args.from; message = c.args.message; received = set; in_turn = turn }) (c.add.ensures ∙ ap (λ set. with_member set c.args.from) c.empty-received.ensures) c.empty-in_turn.ensures))

pub invariant_of-self : goal.invariant_of-self
invariant_of-self g c =
    let next = rw c.as_slice-ordered.ensures.value at c.settled_from-self-inside.ensures in
    let counted = rw c.as_slice-ordered.ensures.value at c.count_on.ensures in (
      next (rw c.push_in_room.ensures.items (IsSettled-append c.self.inside.members c.self.inside.ordered.items _ c.self.inside.settled c.self.invariant.0)),
      counted,
      rw c.push_in_room.ensures.items (AreInTurn-append c.self.inside.ordered.items _ c.empty-in_turn.ensures c.self.invariant.2),
    )
