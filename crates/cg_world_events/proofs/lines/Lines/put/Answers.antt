use Rattle.std.proofs.Common.{sym, ◌∙◌}
use Rattle.cg_world_events.proofs.Printing.{printed-there, printed-nowhere}
use Rattle.cg_world_events.proofs.lines.Lines.put.Goals as goal

pub returns-in-Some : goal.returns-in-Some
returns-in-Some c =
    let at = rw c.as_slice.ensures.value at (sym c.index_of.ensures ∙ c.in-Some.is) in
    rw (← c.self.view_is) (printed-there c.self.inside.list.items c.args.new c.in-Some.index at)

pub returns-in_ok-push-in-None : goal.returns-in_ok-push-in-None
returns-in_ok-push-in-None c =
    let away = rw c.as_slice.ensures.value at (sym c.index_of.ensures ∙ c.in-None.is) in
    rw (c.in_ok-push-in-None.ensures.items, ← c.self.view_is) (printed-nowhere c.self.inside.list.items c.args.new away)
