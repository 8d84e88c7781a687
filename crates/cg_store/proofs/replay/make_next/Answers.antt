use Rattle.cg_codec.specs.Taking.{unread_of}
use Rattle.cg_action.specs.Reading.{action_reading}
use Rattle.cg_disk_records.specs.Following.{make}
use Rattle.cg_store.specs.Putting.{PutsNext}
use Rattle.cg_store.proofs.Putting.{refused-puts, next-put, next-faulty}
use Rattle.cg_store.proofs.replay.make_next.Goals as goal

pub returns-in-Ok : goal.returns-in-Ok
returns-in-Ok c = next-put action_reading make c.args.core.now (unread_of c.args.fields.now) (unread_of c.take_one.new.fields) c.in-Ok.a c.make_one.new.core _ c.make_one.result c.in-Ok.ensures.read c.make_one.ensures

pub returns-in-Err : goal.returns-in-Err
returns-in-Err c =
    refused-puts (PutsNext action_reading make c.args.core.now (unread_of c.args.fields.now) c.args.core.now (unread_of c.take_one.new.fields)) _ c.refused.result c.in-Err.fault c.refused.ensures
    (λ known. next-faulty action_reading make c.args.core.now (unread_of c.args.fields.now) (unread_of c.take_one.new.fields) c.args.core.now c.in-Err.fault (c.in-Err.ensures.read.0 known))
