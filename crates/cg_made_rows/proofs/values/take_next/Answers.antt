use Rattle.std.proofs.Common.{◌≡◌, ap, ◌∙◌}
use Rattle.cg_base.specs.Cuts.{index_in}
use Rattle.cg_made_rows.proofs.Keeping.{from-next}
use Rattle.cg_made_rows.proofs.values.take_next.Goals as goal

pub returns : goal.returns
returns c =
    let a = c.in-Some.action.now in
    let v = c.args.value.now in
    let at : c.get.result ≡ index_in v.known c.args.p =
    c.get.ensures ∙ ap (λ cut. index_in cut c.args.p) c.known-known.ensures in
    let found = c.in-Some.ensures.lookup in
    from-next c.relaxed_values_agree.ensures.one_map c.args.rows.now v c.add.new.self c.args.p c.get.result a
    c.row_of.result.now
    c.requires.placed c.requires.from at c.row_of.ensures found.3.0 (found.3.1 a) c.in_ok-add.ensures.ok
