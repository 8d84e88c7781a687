use Rattle.std.proofs.Common.{◌∙◌, ◌<◌, ◌++◌, ◌∷◌, [], List, length, set, sym, ap, subst, arith}
use Rattle.cg_action.specs.declared.action.Action.{Action}
use Rattle.cg_world.proofs.Rows.{row-there, rows-with}
use Rattle.cg_world.proofs.made_actions.MadeActions.push.Goals as goal
use Rattle.cg_model.specs.MadeRowLaws.{AreRowsOf}

pub invariant_of-self-2 : goal.invariant_of-self-2
invariant_of-self-2 c =
    let rows = c.grow.new.rows in
    let slot = c.slot_of-slot.result in
    let a = c.args.a in
    let long = rows.ok.0 in
    let within : slot < length rows.items = omega (arith, c.in_ok-grow.ensures.ok) in
    let there = c.index_mut.ensures.value ∙ sym (row-there rows.items slot c.index_mut.result.now within) in
    subst (λ (made : List Action). AreRowsOf made (set rows.items slot c.push.new.self)) (sym c.with-all.ensures)
    (rows-with c.self.inside.all rows.items a slot c.push.new.self c.slot_of-slot.ensures.slot within (c.in_ok-push.ensures.ok ∙ ap (λ xs. xs ++ a ∷ []) there)
    (λ p. c.grow.ensures.same p ∙ c.self.invariant p))
