use Rattle.std.proofs.Common.{◌≡◌, ◌∙◌, cond, true, false, sym, ap}
use Rattle.cg_base.specs.Sets.{has}
use Rattle.cg_base.specs.Slots.{array_slot}
use Rattle.cg_base.specs.Weights.{ids}
use Rattle.cg_members.proofs.ServerLemmas.{line_of-with}
use Rattle.cg_members.proofs.server_set.ServerSet.line.Goals as goal

pub returns-then-contains : goal.returns-then-contains
returns-then-contains c =
    let lines = c.self.inside.lines in
    let weights = c.self.inside.weights in
    let here : has (ids weights) c.args.id ≡ true = sym c.contains.ensures ∙ c.if-contains.true in
    rw (← c.self.view_is, c.from.ensures, c.get.ensures.value) (sym (line_of-with lines weights c.args.id ∙ ap (λ b. cond b (array_slot lines c.args.id) 0) here))

pub returns-else-contains : goal.returns-else-contains
returns-else-contains c =
    let lines = c.self.inside.lines in
    let weights = c.self.inside.weights in
    let away : has (ids weights) c.args.id ≡ false = sym c.contains.ensures ∙ c.if-contains.false in
    rw (← c.self.view_is) (sym (line_of-with lines weights c.args.id ∙ ap (λ b. cond b (array_slot lines c.args.id) 0) away))
