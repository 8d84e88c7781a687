use Rattle.std.proofs.Common.{◌≡◌, IfOk, sym, ap, subst}
use Rattle.cg_client.specs.Turn.{Turn}
use Rattle.cg_prim.specs.Steps.{turn_after}
use Rattle.cg_states.specs.Hearing.{hear_delivery}
use Rattle.cg_engine.specs.Seen.{prim_seen, turn_of}
use Rattle.cg_engine.proofs.prim.hear.Goals as goal

pub returns-in-Reg : goal.returns-in-Reg
returns-in-Reg c =
    let d = c.args.draft.now in
    let e = c.args.d.now in
    subst (λ (t : Turn). IfOk c.deliver.result (λ step. turn_after step c.deliver.new.draft ≡ t)) (ap (λ x. hear_delivery (turn_of (prim_seen x) d) e) (sym c.in-Reg.is)) c.deliver.ensures.turn

pub returns-in-Trans : goal.returns-in-Trans
returns-in-Trans c =
    let d = c.args.draft.now in
    let e = c.args.d.now in
    subst (λ (t : Turn). IfOk c.deliver-in-Trans.result (λ step. turn_after step c.deliver-in-Trans.new.draft ≡ t)) (ap (λ x. hear_delivery (turn_of (prim_seen x) d) e) (sym c.in-Trans.is)) c.deliver-in-Trans.ensures
