use Rattle.cg_codec.specs.Taking.{unread_of}
use Rattle.cg_store.proofs.Putting.{taken-within}
use Rattle.cg_store.proofs.replay.take_one.Goals as goal

pub returns-clause-within : goal.returns-clause-within
returns-clause-within c = taken-within c.actions_are_exact.ensures.action (unread_of c.args.fields.now) _ c.take_action.result c.are_bytes.ensures c.take_action.ensures
