use Rattle.std.proofs.Common.{ap, ◌∙◌}
use Rattle.std.specs.List.{list_any}
use Rattle.cg_base.specs.Ids.{has_name}
use Rattle.cg_session.specs.contracts.action_key.ActionKeyPartialEq.TheImpl.{ghosts as action_key}
use Rattle.cg_session.proofs.Written.{found}
use Rattle.cg_session.proofs.token.Token.has_written.Goals as goal

pub returns : goal.returns
returns c =
    let keys = c.self.inside.written.keys in
    c.contains.ensures ∙ ap (λ n. list_any (action_key.eq n) keys) c.of.ensures ∙ found c.args.id.now keys
    ∙ ap (λ t. has_name t.written c.args.id.now) c.self.view_is
