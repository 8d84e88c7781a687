use Rattle.cg_made_rows.proofs.Keeping.{same-known}
use Rattle.cg_made_rows.proofs.values.value_at.Goals as goal

pub returns-clause-known : goal.returns-clause-known
returns-clause-known c =
    same-known c.ne.result c.known.result c.args.cut.now c.in-Some.value.now.known c.ne.ensures c.if-ne.false
    c.known.ensures
