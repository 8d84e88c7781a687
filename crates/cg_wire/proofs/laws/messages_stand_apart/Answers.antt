use Rattle.cg_codec.specs.ShapeLaws.{field_front}
use Rattle.cg_wire.specs.Limits.{IsMsg}
use Rattle.cg_wire.specs.Bytes.{spelled_msg}
use Rattle.cg_wire.specs.Reading.{msg_reading}
use Rattle.cg_wire.proofs.laws.messages_stand_apart.Goals as goal

pub returns : goal.returns
returns c = field_front IsMsg spelled_msg msg_reading c.messages_are_exact.ensures.message
