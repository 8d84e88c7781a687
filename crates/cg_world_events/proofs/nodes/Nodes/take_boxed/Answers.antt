use Rattle.std.proofs.Common.{sym, ap, ◌∙◌, refl, Some}
use Rattle.cg_world_events.proofs.NodeFacts.{taken_out, found_nowhere}
use Rattle.cg_world_events.proofs.nodes.Nodes.take_boxed.Goals as goal

pub invariant_of-self : goal.invariant_of-self
invariant_of-self c =
    let at = rw c.as_slice.ensures.value at (sym c.index_of.ensures ∙ c.in-Some.is) in
    rw c.remove.ensures.items (taken_out c.self.inside.list.items c.args.p c.in-Some.index c.remove.result c.self.invariant at).ascending

pub returns-in-Some-clause-taken : goal.returns-in-Some-clause-taken
returns-in-Some-clause-taken c =
    let at = rw c.as_slice.ensures.value at (sym c.index_of.ensures ∙ c.in-Some.is) in
    let out = taken_out c.self.inside.list.items c.args.p c.in-Some.index c.remove.result c.self.invariant at in
    rw (← c.self.view_is, c.remove.ensures.items) (out.node ∙ ap Some (sym c.remove.ensures.value), out.again)

pub returns-in-Some-clause-away : goal.returns-in-Some-clause-away
returns-in-Some-clause-away c =
    let at = rw c.as_slice.ensures.value at (sym c.index_of.ensures ∙ c.in-Some.is) in
    rw c.remove.ensures.items (taken_out c.self.inside.list.items c.args.p c.in-Some.index c.remove.result c.self.invariant at).away

pub returns-in-None-clause-taken : goal.returns-in-None-clause-taken
returns-in-None-clause-taken c =
    let away = rw c.as_slice.ensures.value at (sym c.index_of.ensures ∙ c.in-None.is) in
    (rw (← c.self.view_is) (found_nowhere c.self.inside.list.items c.args.p away), refl)

pub returns-in-None-clause-away : goal.returns-in-None-clause-away
returns-in-None-clause-away c =
    let away = rw c.as_slice.ensures.value at (sym c.index_of.ensures ∙ c.in-None.is) in
    rw (← c.self.view_is) (found_nowhere c.self.inside.list.items c.args.p away)
