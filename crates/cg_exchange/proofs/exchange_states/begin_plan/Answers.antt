use Rattle.std.proofs.Common.{◌≡◌, IfOk, ℕ, ap, subst}
use Rattle.cg_plan.specs.Progress.{PlanProgress}
use Rattle.cg_client.specs.Drafts.{turn_with}
use Rattle.cg_client.specs.Replica.{State}
use Rattle.cg_states.specs.ExchangeActions.{go_on}
use Rattle.cg_exchange.specs.Steps.{turn_after}
use Rattle.cg_exchange.proofs.exchange_states.begin_plan.Goals as goal

pub returns-clause-turn : goal.returns-clause-turn
returns-clause-turn c =
    let none : c.in_ok-plan.plan.accepted ≡ 0 = ap (λ (p : PlanProgress). p.accepted) c.in_ok-plan.ensures in
    subst (λ (n : ℕ). IfOk c.follow.result (λ step. (state : State) → turn_after step c.follow.new.draft ≡ go_on (turn_with c.args.core state c.args.draft.now) c.args.conf c.args.heard n)) none c.follow.ensures.turn
