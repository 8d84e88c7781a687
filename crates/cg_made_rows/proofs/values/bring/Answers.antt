use Rattle.cg_made_rows.proofs.Keeping.{kept-new}
use Rattle.cg_made_rows.proofs.values.bring.Goals as goal

pub loop-values-preserved : goal.loop-values-preserved
loop-values-preserved c =
    kept-new c.relaxed_values_agree.ensures.one_map c.args.rows.now c.loop-values.values.items c.push.new.self.items
    c.new.result
    c.new.ensures c.in_ok-push.ensures.items c.loop-values.invariant
