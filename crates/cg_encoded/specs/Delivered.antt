-- Bytes that were read.
use Rattle.std.specs.Prelude.{◌≡◌, IfSome}
use Rattle.cg_wire.specs.Limits.{IsMsg}
use Rattle.cg_wire.specs.Reading.{message_in}
use Rattle.cg_encoded.specs.declared.delivered_msg.ReadBytes.{ReadBytes}

-- the message is the one that the bytes spell, and within its limits
pub record IsRead (r : ReadBytes) : Type 0 where
  pub value : r.message ≡ message_in r.bytes
  pub is : IfSome r.message IsMsg
