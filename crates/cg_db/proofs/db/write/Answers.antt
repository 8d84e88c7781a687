use Rattle.std.proofs.Common.{◌≡◌, ap, ◌∙◌, rules}
use Rattle.cg_db.specs.View.{of_entries}
use Rattle.cg_db.specs.Plan.{changed, with_changes}
use Rattle.cg_db.proofs.PlanLemmas.{fold_behind}
use Rattle.cg_db.proofs.db.write.Goals as goal

pub returns-in-Some-clause-ok : goal.returns-in-Some-clause-ok
returns-in-Some-clause-ok c =
    let earlier = c.args.changes.earlier.items in
    let change = c.in-Some.change in
    let same : c.reserve.new.self.entries ≡ c.args.map.now.entries = search rules in
    let each = c.write_each.ensures.changed ∙ ap (λ entries. with_changes (of_entries entries) earlier) same in
    let one = c.write_one.ensures.changed ∙ ap (λ db. changed db change) each in
    rw (c.in-Some.is, fold_behind (of_entries c.args.map.now.entries) earlier change) one
