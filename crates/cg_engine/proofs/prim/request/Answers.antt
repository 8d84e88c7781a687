use Rattle.std.proofs.Common.{sym, ap, ◌∙◌}
use Rattle.cg_client.specs.Requests.{request}
use Rattle.cg_client.specs.Calls.{kind_of}
use Rattle.cg_engine.specs.Seen.{prim_seen, turn_of}
use Rattle.cg_engine.proofs.prim.request.Goals as goal

pub returns-in_ok-next-in-Trans : goal.returns-in_ok-next-in-Trans
returns-in_ok-next-in-Trans c =
    let d = c.args.draft.now in
    c.in_ok-next-in-Trans.ensures d ∙ ap (λ x. request (turn_of (prim_seen x) d) (kind_of c.args.r)) (sym c.in-Trans.is)
