use Rattle.std.proofs.Common.{◌≡◌, ◌-◌, cond, suc, ◌∙◌, ap, arith}
use Rattle.cg_group.specs.Events.{with_receipt}
use Rattle.cg_group.proofs.LogFacts.{configuration_of-set, with_receipt-beyond, with_receipt-none, marked}
use Rattle.cg_group.proofs.SettledFacts.{IsSettled-receipt, AreFronts-receipt}
use Rattle.cg_group.proofs.TurnFacts.{AreInTurn-receipt}
use Rattle.cg_base.specs.Sets.{with_member}
use Rattle.cg_group.proofs.configuration_log.ConfigurationLog.receive.Goals as goal

pub returns-then-place-eq0-clause-value : goal.returns-then-place-eq0-clause-value
returns-then-place-eq0-clause-value g c = rw c.if-place-eq0.true (with_receipt-none c.args.self.now.configuration c.args.p)

pub returns-then-place-len-clause-value : goal.returns-then-place-len-clause-value
returns-then-place-len-clause-value g c =
    rw (← c.self.view_is) (with_receipt-beyond c.self.inside.members c.self.inside.ordered.items c.args.p c.args.place (omega arith))

pub returns-clause-value : goal.returns-clause-value
returns-clause-value g c =
    let place : suc (c.args.place - 1) ≡ c.args.place = omega arith in
    rw (← c.self.view_is)
    (configuration_of-set c.self.inside.members c.self.inside.ordered.items c.args.p (c.args.place - 1) _ _ c.index_mut-placed.result.now (omega arith)
    (c.add_receipt.ensures.value
    ∙ ap (λ x. marked c.args.p (cond c.has_all_before-in_turn.result (with_member x.in_turn c.args.p) x.in_turn) x) c.index_mut-placed.ensures.value)
    ∙ ap (with_receipt _ c.args.p) place)

pub count_on-requires : goal.count_on-requires
count_on-requires g c =
    rw c.as_slice-ordered.ensures.value
    (AreFronts-receipt c.self.inside.ordered.items (c.args.place - 1) c.args.p _ c.index_mut-placed.result.now c.self.inside.fronts.items (omega arith) c.self.invariant.1
    (ap (λ x. x.received) c.add_receipt.ensures.value ∙ ap (λ x. with_member x.received c.args.p) c.index_mut-placed.ensures.value) c.add_receipt.ensures.set)

pub invariant_of-self : goal.invariant_of-self
invariant_of-self g c =
    let next = rw c.as_slice-ordered.ensures.value at c.settled_from-self-inside.ensures in
    let place : suc (c.args.place - 1) ≡ c.args.place = omega arith in
    let all = rw (← c.self.view_is) at c.has_all_before-in_turn.ensures in
    let counted = rw c.as_slice-ordered.ensures.value at c.count_on.ensures in (
      next
          (IsSettled-receipt c.self.inside.members c.self.inside.ordered.items (c.args.place - 1) c.self.inside.settled c.args.p _ c.index_mut-placed.result.now (omega arith) c.self.invariant.0
          (ap (λ x. x.received) c.add_receipt.ensures.value ∙ ap (λ x. with_member x.received c.args.p) c.index_mut-placed.ensures.value) c.add_receipt.ensures.set),
      counted,
      AreInTurn-receipt c.self.inside.members c.self.inside.ordered.items (c.args.place - 1) c.args.p c.args.place _ c.index_mut-placed.result.now c.has_all_before-in_turn.result (omega arith)
          c.self.invariant.2
          (c.add_receipt.ensures.value
          ∙ ap (λ x. marked c.args.p (cond c.has_all_before-in_turn.result (with_member x.in_turn c.args.p) x.in_turn) x) c.index_mut-placed.ensures.value)
          place all,
    )
