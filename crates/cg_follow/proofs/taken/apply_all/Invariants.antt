use Rattle.std.proofs.Common.{◌≡◌, take}
use Rattle.cg_follow.proofs.taken.apply_all.Given as goal
use Rattle.cg_db.specs.Apply.{fold_actions_from}

abbrev pub invariant-loop-action : goal.invariant-loop-action
invariant-loop-action l = l.db ≡ fold_actions_from l.initial.db (take l.action-index l.actions)
