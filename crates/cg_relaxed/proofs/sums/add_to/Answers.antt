use Rattle.std.specs.Prelude.{IsOk}
use Rattle.cg_relaxed.specs.RelaxedState.{sum_at}
use Rattle.cg_relaxed.proofs.Bounds.{added-is}
use Rattle.cg_relaxed.proofs.Lists.{OnOk-then}
use Rattle.cg_relaxed.proofs.Parts.{summed}
use Rattle.cg_relaxed.proofs.sums.add_to.Goals as goal

pub returns-clause-added : goal.returns-clause-added
returns-clause-added c =
    let ok : IsOk c.insert.result = c.insert.ensures.succeeds c.requires.room in
    let updates = OnOk-then c.insert.result ok c.insert.ensures.updates in
    summed c.args.sums.now.entries c.insert.new.self.entries c.args.part c.args.by _ (λ q. updates.0 q)
    (added-is c.sum_of.result c.from.result (sum_at c.args.sums.now.entries c.args.part.key c.args.part.creator) c.args.by
    c.sum_of.ensures c.from.ensures c.ranges.by (record { sfits = c.sum_of.type_inv }) c.requires.fits)
