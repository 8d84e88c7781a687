use Rattle.std.proofs.Common.{rules}
use Rattle.cg_codec.specs.Laws.{AreBytes}
use Rattle.cg_older.proofs.CheckpointFields.{parts-within}
use Rattle.cg_older.proofs.checkpoint.decode_old_checkpoint.Goals as goal

pub returns-clause-within : goal.returns-clause-within
returns-clause-within c =
    let fits : AreBytes c.args.body.now = λ i. search rules in
    let lists = c.lists_are_exact.ensures in
    parts-within lists.actions lists.entries c.args.body.now c.read_old_checkpoint.result fits c.read_old_checkpoint.ensures
