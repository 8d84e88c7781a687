use Rattle.std.proofs.Common.{◌≡◌, sym}
use Rattle.std.specs.Prelude.{Some}
use Rattle.cg_db.specs.View.{of_entries}
use Rattle.cg_db.proofs.ViewLemmas.{of_entries-updated}
use Rattle.cg_db.proofs.KeyLemmas.{copied_one}
use Rattle.cg_db.proofs.db.copy_entry.Goals as goal

pub returns : goal.returns
returns c = λ before.
    let key = c.in_ok-key.key in
    let same : key ≡ c.in-Some.key.now = c.in_ok-key.ensures in
    let put = of_entries-updated key c.args.to.now c.insert.new.self (Some c.in_ok-value.value) c.in_ok-insert.ensures.updates in
    copied_one c.args.from.now.entries c.args.index c.in-Some.key.now c.in-Some.value.now (of_entries c.args.to.now.entries) (of_entries c.insert.new.self.entries) key c.in_ok-value.value
    (sym c.in-Some.ensures.entry) same c.in_ok-value.ensures put before
