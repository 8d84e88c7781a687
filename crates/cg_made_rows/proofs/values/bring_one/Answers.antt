use Rattle.std.proofs.Common.{sym, subst}
use Rattle.cg_made_rows.specs.Kept.{IsFrom}
use Rattle.cg_made_rows.proofs.Keeping.{from-nothing}
use Rattle.cg_made_rows.proofs.values.bring_one.Goals as goal
use Rattle.cg_made_rows.proofs.values.bring_one.Goals.{then-has_fallen, else-has_fallen}

pub loop-top-init : goal.loop-top-init
loop-top-init c =
    let rows = c.args.rows.now in
    elim c.if-has_fallen.branch [
      | then-has_fallen w ↦
          subst (IsFrom rows) (sym w.value-is)
          (from-nothing w.relaxed_values_agree.ensures.one_map rows w.new.result w.new.ensures)
      | else-has_fallen w ↦ subst (IsFrom rows) (sym w.value-is) c.requires.from
    ]
