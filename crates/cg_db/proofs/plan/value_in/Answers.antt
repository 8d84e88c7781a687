use Rattle.std.proofs.Common.{◌≡◌, true, false, sym, ◌∙◌}
use Rattle.cg_text.specs.Order.{same_text}
use Rattle.cg_db.proofs.PlanLemmas.{value_of-last}
use Rattle.cg_db.proofs.plan.value_in.Goals as goal

pub returns-then-eq : goal.returns-then-eq
returns-then-eq c =
    let key = c.args.key.now in
    let test : same_text key c.in-Some.last.key ≡ true = sym c.eq.ensures ∙ c.if-eq.true in
    rw (c.in-Some.is, value_of-last c.args.db.now c.args.changes.now.earlier.items c.in-Some.last key, test) c.as_ref-value.ensures.value

pub returns-else-eq : goal.returns-else-eq
returns-else-eq c =
    let key = c.args.key.now in
    let test : same_text key c.in-Some.last.key ≡ false = sym c.eq.ensures ∙ c.if-eq.false in
    rw (c.in-Some.is, value_of-last c.args.db.now c.args.changes.now.earlier.items c.in-Some.last key, test, ← c.as_slice.ensures.value) c.value_behind-value.ensures
