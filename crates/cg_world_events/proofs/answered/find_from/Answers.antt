use Rattle.std.proofs.Common.{sym, ◌∙◌}
use Rattle.std.proofs.lemmas.List.{take_rest}
use Rattle.cg_world_events.proofs.Finding.{found-from, missed-from}
use Rattle.cg_world_events.proofs.answered.find_from.Goals as goal

pub returns-in-Some-clause-value : goal.returns-in-Some-clause-value
returns-in-Some-clause-value c =
    let at = rw (take_rest c.args.ids.now c.args.from) at (sym c.index_of.ensures ∙ c.in-Some.is) in
    found-from c.args.id c.args.ids.now c.args.from c.in-Some.index at

pub returns-in-None-clause-value : goal.returns-in-None-clause-value
returns-in-None-clause-value c =
    let away = rw (take_rest c.args.ids.now c.args.from) at (sym c.index_of.ensures ∙ c.in-None.is) in
    missed-from c.args.id c.args.ids.now c.args.from away
