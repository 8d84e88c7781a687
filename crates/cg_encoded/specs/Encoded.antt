-- Bytes that are known to spell a message.
use Rattle.std.specs.Prelude.{◌≡◌, ℕ, List, [], ◌∷◌, Result, Ok, Err}
use Rattle.cg_codec.specs.declared.fault.CodecFault.{CodecFault}
use Rattle.cg_codec.specs.Reading.{whole}
use Rattle.cg_group.specs.declared.delivery.Delivery.{Delivery}
use Rattle.cg_group.specs.declared.delivery.Delivery.TheVariants.{Message, Transitional as TransitionalIn, Regular as RegularIn}
use Rattle.cg_wire.specs.declared.message.Msg.{Msg}
use Rattle.cg_wire.specs.declared.message.Msg.TheVariants.{Cpc}
use Rattle.cg_wire.specs.Reading.{msg_reading}
use Rattle.cg_wire.specs.Limits.{IsMsg}
use Rattle.cg_wire.specs.Bytes.{spelled_msg}

-- the message that was read, or any where none was
abbrev pub read_or_any : Result Msg CodecFault → Msg
read_or_any (Ok m) = m
read_or_any (Err fault) = Cpc 1 1

-- the message that bytes spell, or any where they spell none
unfoldable pub encoded_by : List ℕ → Msg
encoded_by bytes = read_or_any (whole msg_reading bytes)

-- the bytes spell a message
pub record IsEncoded (bytes : List ℕ) : Type 0 where
  pub spelled : bytes ≡ spelled_msg (encoded_by bytes)
  pub is : IsMsg (encoded_by bytes)

-- the message that is handed over is within its limits
abbrev pub IsSaid : Delivery Msg → Type 0
IsSaid (Message place from m) = IsMsg m
IsSaid (TransitionalIn conf set) = Unit {0}
IsSaid (RegularIn conf set) = Unit {0}

-- so is each
abbrev pub AreSaid : List (Delivery Msg) → Type 0
AreSaid [] = Unit {0}
AreSaid (d ∷ list) = IsSaid d × AreSaid list

-- what is handed over, with the message in bytes
abbrev pub opened : Delivery Msg → Delivery (List ℕ)
opened (Message place from m) = Message place from (spelled_msg m)
opened (TransitionalIn conf set) = TransitionalIn conf set
opened (RegularIn conf set) = RegularIn conf set
