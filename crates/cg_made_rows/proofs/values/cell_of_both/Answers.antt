use Rattle.cg_made_rows.proofs.Cells.{shown-both}
use Rattle.cg_made_rows.proofs.values.cell_of_both.Goals as goal

pub returns : goal.returns
returns c = λ rows kept.
    shown-both c.relaxed_values_agree.ensures.known c.relaxed_values_agree.ensures.one_map rows c.in_ok-one.one.now
    c.in_ok-two.two.now c.args.cut.now c.args.other.now c.args.key.now c.read_joined.result
    (c.in_ok-one.ensures.from rows kept) (c.in_ok-two.ensures.from rows kept) c.in_ok-one.ensures.known
    c.in_ok-two.ensures.known c.read_joined.ensures
