use Rattle.std.proofs.Common.{ap, ◌∙◌}
use Rattle.indexmap.specs.IndexSet.{insert_key}
use Rattle.cg_session.specs.Token.{wrote}
use Rattle.cg_session.specs.contracts.action_key.ActionKeyPartialEq.TheImpl.{ghosts as action_key}
use Rattle.cg_session.proofs.Written.{seen, noted}
use Rattle.cg_session.proofs.token.Token.wrote.Goals as goal

pub returns-clause-ok : goal.returns-clause-ok
returns-clause-ok c =
    let position = c.self.inside.position in
    let keys = c.self.inside.written.keys in
    ap (seen position) c.in_ok-insert.ensures.keys ∙ ap (λ n. seen position (insert_key action_key.eq keys n)) c.of.ensures
    ∙ noted position c.args.id keys ∙ ap (λ t. wrote t c.args.id) c.self.view_is
