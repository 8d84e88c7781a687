use Rattle.std.proofs.Common.{◌≡◌, IfOk, sym, ap, subst}
use Rattle.cg_client.specs.Turn.{Turn}
use Rattle.cg_exchange.specs.Steps.{turn_after}
use Rattle.cg_states.specs.Hearing.{hear_delivery}
use Rattle.cg_engine.specs.Seen.{outside_seen, turn_of}
use Rattle.cg_engine.proofs.out_of_prim.hear.Goals as goal

pub returns-in-Non-clause-turn : goal.returns-in-Non-clause-turn
returns-in-Non-clause-turn c =
    let d = c.args.draft.now in
    let e = c.args.d.now in
    subst (λ (t : Turn). IfOk c.deliver.result (λ step. turn_after step c.deliver.new.draft ≡ t)) (ap (λ x. hear_delivery (turn_of (outside_seen x) d) e) (sym c.in-Non.is)) c.deliver.ensures.turn

pub returns-in-States-clause-turn : goal.returns-in-States-clause-turn
returns-in-States-clause-turn c =
    let d = c.args.draft.now in
    let e = c.args.d.now in
    subst (λ (t : Turn). IfOk c.deliver-in-States.result (λ step. turn_after step c.deliver-in-States.new.draft ≡ t)) (ap (λ x. hear_delivery (turn_of (outside_seen x) d) e) (sym c.in-States.is)) c.deliver-in-States.ensures.turn

pub returns-in-Actions-clause-turn : goal.returns-in-Actions-clause-turn
returns-in-Actions-clause-turn c =
    let d = c.args.draft.now in
    let e = c.args.d.now in
    subst (λ (t : Turn). IfOk c.deliver-in-Actions.result (λ step. turn_after step c.deliver-in-Actions.new.draft ≡ t)) (ap (λ x. hear_delivery (turn_of (outside_seen x) d) e) (sym c.in-Actions.is)) c.deliver-in-Actions.ensures.turn
