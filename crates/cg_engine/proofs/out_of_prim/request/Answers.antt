use Rattle.std.proofs.Common.{sym, ap, ◌∙◌}
use Rattle.cg_client.specs.Requests.{request}
use Rattle.cg_client.specs.Calls.{kind_of}
use Rattle.cg_engine.specs.Seen.{outside_seen, turn_of}
use Rattle.cg_engine.proofs.out_of_prim.request.Goals as goal

pub returns-in_ok-next-in-States : goal.returns-in_ok-next-in-States
returns-in_ok-next-in-States c =
    let d = c.args.draft.now in
    c.in_ok-next-in-States.ensures d ∙ ap (λ x. request (turn_of (outside_seen x) d) (kind_of c.args.r)) (sym c.in-States.is)

pub returns-in_ok-next-in-Actions : goal.returns-in_ok-next-in-Actions
returns-in_ok-next-in-Actions c =
    let d = c.args.draft.now in
    c.in_ok-next-in-Actions.ensures d ∙ ap (λ x. request (turn_of (outside_seen x) d) (kind_of c.args.r)) (sym c.in-Actions.is)
