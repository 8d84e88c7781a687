use Rattle.std.proofs.Common.{◌≡◌, ◌∙◌, ap, rules}
use Rattle.std.specs.Prelude.{Some}
use Rattle.cg_db.specs.Map.{put}
use Rattle.cg_db.specs.View.{of_entries}
use Rattle.cg_db.proofs.ViewLemmas.{of_entries-updated}
use Rattle.cg_db.proofs.AloneLemmas.{run_put}
use Rattle.cg_db.proofs.db.put_alone.Goals as goal

pub returns-in-Some-clause-ok : goal.returns-in-Some-clause-ok
returns-in-Some-clause-ok c =
    let key = c.args.key.now in
    let value = c.in_ok-value.value in
    let updates = (c.get_mut.follows.holds value).3 (search rules) in
    let written = of_entries-updated key c.args.map.now (c.get_mut.follows.lender value) (Some value) updates in
    run_put _ _ key c.args.value.now (written ∙ ap (λ v. put (of_entries c.args.map.now.entries) key v) c.in_ok-value.ensures)

pub returns-clause-ok : goal.returns-clause-ok
returns-clause-ok c =
    let written : of_entries c.put_entry.new.map.entries ≡ put (of_entries c.args.map.now.entries) c.args.key.now c.args.value.now = search rules in
    run_put _ _ c.args.key.now c.args.value.now written
