use Rattle.std.proofs.Common.{[], ◌∷◌, sym, ap, ◌∙◌}
use Rattle.cg_items.specs.Relaxing.{relaxed_lines}
use Rattle.cg_run.proofs.relaxing.relaxed_line.Goals as goal

pub returns-in_ok-line-in-Both-clause-line : goal.returns-in_ok-line-in-Both-clause-line
unfolding relaxed_lines
returns-in_ok-line-in-Both-clause-line c =
    ap (λ line. line ∷ []) c.in_ok-line-in-Both.ensures.line
    ∙ ap (relaxed_lines c.args.world.now.world c.args.rows.now) (sym c.in-Both.is)
