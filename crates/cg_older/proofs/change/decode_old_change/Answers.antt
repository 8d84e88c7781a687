use Rattle.std.proofs.Common.{rules}
use Rattle.cg_codec.specs.Laws.{AreBytes}
use Rattle.cg_older.proofs.ChangeFields.{change-within}
use Rattle.cg_older.proofs.change.decode_old_change.Goals as goal

pub returns-clause-within : goal.returns-clause-within
returns-clause-within c =
    let fits : AreBytes c.args.body.now = λ i. search rules in
    change-within c.lists_are_exact.ensures.actions c.args.body.now c.read_old_change.result fits c.read_old_change.ensures
