use Rattle.std.proofs.Common.{Some, sym, ap, ◌∙◌}
use Rattle.cg_world_events.proofs.TransferFacts.{taken-out, found-nowhere, is_between}
use Rattle.cg_world_events.proofs.transfers.Transfers.take_out.Goals as goal

pub returns-in-Some-clause-taken : goal.returns-in-Some-clause-taken
returns-in-Some-clause-taken c =
    let at = rw c.as_slice.ensures.value at (sym c.index_of.ensures ∙ c.in-Some.is) in
    let out = taken-out c.args.giver c.args.joiner c.self.inside.list.items c.in-Some.index c.remove.result at in
    rw (← c.self.view_is) (ap Some c.remove.ensures.value ∙ sym out.found)

pub returns-in-Some-clause-others : goal.returns-in-Some-clause-others
returns-in-Some-clause-others c =
    let at = rw c.as_slice.ensures.value at (sym c.index_of.ensures ∙ c.in-Some.is) in
    let out = taken-out c.args.giver c.args.joiner c.self.inside.list.items c.in-Some.index c.remove.result at in
    rw (← c.self.view_is, c.remove.ensures.items) out.others

pub returns-in-None-clause-taken : goal.returns-in-None-clause-taken
returns-in-None-clause-taken c =
    let away = rw c.as_slice.ensures.value at (sym c.index_of.ensures ∙ c.in-None.is) in
    rw (← c.self.view_is) (sym (found-nowhere (is_between c.args.giver c.args.joiner) c.self.inside.list.items away))
