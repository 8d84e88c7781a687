use Rattle.std.proofs.Common.{◌≡◌, IfOk, sym, ap, subst}
use Rattle.cg_client.specs.Turn.{Turn}
use Rattle.cg_construct.specs.Steps.{turn_after}
use Rattle.cg_states.specs.Hearing.{hear_delivery}
use Rattle.cg_engine.specs.Seen.{attempt_seen, turn_of}
use Rattle.cg_engine.proofs.attempt.hear.Goals as goal

pub returns-in-Construct-clause-turn : goal.returns-in-Construct-clause-turn
returns-in-Construct-clause-turn c =
    let d = c.args.draft.now in
    let e = c.args.d.now in
    subst (λ (t : Turn). IfOk c.deliver.result (λ step. turn_after step c.deliver.new.draft ≡ t)) (ap (λ x. hear_delivery (turn_of (attempt_seen x) d) e) (sym c.in-Construct.is)) c.deliver.ensures.turn

pub returns-in-No-clause-turn : goal.returns-in-No-clause-turn
returns-in-No-clause-turn c =
    let d = c.args.draft.now in
    let e = c.args.d.now in
    subst (λ (t : Turn). IfOk c.deliver-in-No.result (λ step. turn_after step c.deliver-in-No.new.draft ≡ t)) (ap (λ x. hear_delivery (turn_of (attempt_seen x) d) e) (sym c.in-No.is)) c.deliver-in-No.ensures.turn

pub returns-in-Un-clause-turn : goal.returns-in-Un-clause-turn
returns-in-Un-clause-turn c =
    let d = c.args.draft.now in
    let e = c.args.d.now in
    subst (λ (t : Turn). IfOk c.deliver-in-Un.result (λ step. turn_after step c.deliver-in-Un.new.draft ≡ t)) (ap (λ x. hear_delivery (turn_of (attempt_seen x) d) e) (sym c.in-Un.is)) c.deliver-in-Un.ensures.turn
