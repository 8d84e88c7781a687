use Rattle.std.proofs.Common.{◌≡◌, Some, sym, ◌∙◌, subst}
use Rattle.cg_journal.specs.Records.{records}
use Rattle.cg_journal.specs.Held.{end_on}
use Rattle.cg_journal.proofs.Appending.{ends_at}
use Rattle.cg_journal.proofs.journal.Journal.length.Goals as goal

pub returns : goal.returns
returns g c = λ r stands.
    let side = c.args.side in
    let held = c.self.invariant in
    c.on.ensures
    ∙ ends_at side (g.D.Disk.view c.self.inside.disk) (end_on side c.self.inside.ends) (held.on side).bodies (held.on side).has r (subst (λ d. records (g.D.Disk.view d).reads ≡ Some r) (sym c.self.view_is) stands)
