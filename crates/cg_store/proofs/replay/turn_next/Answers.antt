use Rattle.cg_codec.specs.Taking.{unread_of}
use Rattle.cg_action.specs.Reading.{id_reading}
use Rattle.cg_disk_records.specs.Following.{green_by_name}
use Rattle.cg_store.specs.Putting.{PutsNext}
use Rattle.cg_store.proofs.Putting.{refused-puts, next-put, next-faulty}
use Rattle.cg_store.proofs.replay.turn_next.Goals as goal

pub returns-in-Ok : goal.returns-in-Ok
returns-in-Ok c = next-put id_reading green_by_name c.args.core.now (unread_of c.args.fields.now) (unread_of c.take_action_id.new.fields) c.in-Ok.id c.turn_one.new.core _ c.turn_one.result c.in-Ok.ensures c.turn_one.ensures

pub returns-in-Err : goal.returns-in-Err
returns-in-Err c =
    refused-puts (PutsNext id_reading green_by_name c.args.core.now (unread_of c.args.fields.now) c.args.core.now (unread_of c.take_action_id.new.fields)) _ c.refused.result c.in-Err.fault c.refused.ensures
    (λ _. next-faulty id_reading green_by_name c.args.core.now (unread_of c.args.fields.now) (unread_of c.take_action_id.new.fields) c.args.core.now c.in-Err.fault c.in-Err.ensures.0)
