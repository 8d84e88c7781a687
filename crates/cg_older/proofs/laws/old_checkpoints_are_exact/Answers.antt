use Rattle.cg_older.proofs.CheckpointFields.{parts_whole}
use Rattle.cg_older.proofs.StandingLaws.{old-again, old-room}
use Rattle.cg_older.proofs.laws.old_checkpoints_are_exact.Goals as goal

pub returns-clause-again : goal.returns-clause-again
returns-clause-again c =
    let lists = c.lists_are_exact.ensures in
    old-again c.parts_are_exact.ensures.whole (parts_whole lists.actions lists.entries) c.checkpoints_are_exact.ensures.again

pub returns-clause-room : goal.returns-clause-room
returns-clause-room c = old-room
