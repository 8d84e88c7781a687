use Rattle.std.proofs.Common.{sym, ap, ◌∙◌}
use Rattle.cg_client.specs.Requests.{request}
use Rattle.cg_client.specs.Calls.{kind_of}
use Rattle.cg_engine.specs.Seen.{attempt_seen, turn_of}
use Rattle.cg_engine.proofs.attempt.request.Goals as goal

pub returns-in_ok-next-in-Construct : goal.returns-in_ok-next-in-Construct
returns-in_ok-next-in-Construct c = λ d. c.in_ok-next-in-Construct.ensures d ∙ ap (λ x. request (turn_of (attempt_seen x) d) (kind_of c.args.r)) (sym c.in-Construct.is)

pub returns-in_ok-next-in-No : goal.returns-in_ok-next-in-No
returns-in_ok-next-in-No c = λ d. c.in_ok-next-in-No.ensures d ∙ ap (λ x. request (turn_of (attempt_seen x) d) (kind_of c.args.r)) (sym c.in-No.is)

pub returns-in_ok-next-in-Un : goal.returns-in_ok-next-in-Un
returns-in_ok-next-in-Un c = λ d. c.in_ok-next-in-Un.ensures d ∙ ap (λ x. request (turn_of (attempt_seen x) d) (kind_of c.args.r)) (sym c.in-Un.is)
