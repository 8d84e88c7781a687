use Rattle.std.proofs.Common.{◌≡◌, [], sym, ◌∙◌}
use Rattle.cg_made_rows.proofs.Growing.{row-there}
use Rattle.cg_made_rows.proofs.rows.row_of.Goals as goal
use Rattle.cg_base.specs.ListLaws.{row_at-past}

pub returns-in-Some : goal.returns-in-Some
returns-in-Some c =
    let slot : c.from.result ≡ c.args.p = c.from.ensures ∙ c.get.ensures.value in
    let found = rw slot at c.in-Some.ensures.lookup in
    c.as_slice.ensures ∙ found.3.1 [] ∙ row-there c.args.rows.now c.args.p [] found.3.0

pub returns-in-None : goal.returns-in-None
returns-in-None c =
    let slot : c.from.result ≡ c.args.p = c.from.ensures ∙ c.get.ensures.value in
    let missing = rw slot at c.in-None.ensures.lookup in
    sym (row_at-past c.args.rows.now c.args.p missing.3)
