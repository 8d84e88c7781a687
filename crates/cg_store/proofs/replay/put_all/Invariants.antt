use Rattle.cg_codec.specs.Taking.{unread_of}
use Rattle.cg_store.specs.Putting.{item_reading, item_step}
use Rattle.cg_store.proofs.Putting.{Goes}
use Rattle.cg_store.proofs.replay.put_all.Given as goal

abbrev pub invariant-loop : goal.invariant-loop
invariant-loop l = Goes (item_reading l.list) (item_step l.list) l.fn.core l.count (unread_of l.initial.fields) l.counter (unread_of l.fields) l.core
