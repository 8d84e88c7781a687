use Rattle.std.proofs.Common.{sym, ap, ◌∙◌}
use Rattle.cg_states.specs.Hearing.{hear_delivery}
use Rattle.cg_engine.specs.Seen.{seen, turn_of}
use Rattle.cg_engine.proofs.Leaving.{left_hears}
use Rattle.cg_engine.proofs.member_state.hear.Goals as goal

pub returns-in-Left : goal.returns-in-Left
returns-in-Left c =
    let d = c.args.draft.now in
    let e = c.args.d.now in
    sym (left_hears c.in-Left.core d e) ∙ ap (λ x. hear_delivery (turn_of (seen x) d) e) (sym c.in-Left.is)
