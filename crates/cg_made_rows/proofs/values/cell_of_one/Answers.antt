use Rattle.cg_made_rows.proofs.Cells.{shown-one}
use Rattle.cg_made_rows.proofs.values.cell_of_one.Goals as goal

pub returns : goal.returns
returns c = λ rows kept.
    shown-one c.relaxed_values_agree.ensures.known rows c.in_ok-value.value.now c.args.cut.now c.args.key.now
    c.read.result
    (c.in_ok-value.ensures.from rows kept) c.in_ok-value.ensures.known c.read.ensures
