use Rattle.std.proofs.Common.{◌≤◌, inl, length, arith}
use Rattle.cg_base.specs.Iterators.{members_left}
use Rattle.cg_base.specs.SetLaws.{length-IsSet}
use Rattle.cg_base.proofs.id_set.IdSet.count.Goals as goal

pub count-requires-clause-fits : goal.count-requires-clause-fits
count-requires-clause-fits c =
    let few : length (members_left c.iter.result) ≤ 32 = rw c.iter.ensures (length-IsSet c.args.self.now c.holds.ensures) in
    inl (omega arith)

pub overflow_cast-result : goal.overflow_cast-result
overflow_cast-result c =
    let few : length (members_left c.iter.result) ≤ 32 = rw c.iter.ensures (length-IsSet c.args.self.now c.holds.ensures) in
    omega (arith, c.count.ensures.bound)
