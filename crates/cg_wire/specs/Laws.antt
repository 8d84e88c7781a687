-- What the bytes of a call that reads all of them say.
use Rattle.std.specs.Prelude.{◌≡◌, ◌≢◌, ℕ, List, Result, Ok, Err}
use Rattle.cg_codec.specs.declared.fault.CodecFault.{CodecFault}
use Rattle.cg_codec.specs.declared.fault.CodecFault.TheVariants.{NoMemory}
use Rattle.cg_wire.specs.declared.message.Msg.{Msg}
use Rattle.cg_wire.specs.Limits.{IsMsg}
use Rattle.cg_wire.specs.Bytes.{spelled_msg}

-- the call gave the one message that the bytes spell; where it gave none they spell none, unless memory was refused
abbrev pub GivesSpelled : List ℕ → Result Msg CodecFault → Type 0
GivesSpelled bytes (Ok m) = IsMsg m × (bytes ≡ spelled_msg m)
GivesSpelled bytes (Err fault) = fault ≢ NoMemory → (m : Msg) → IsMsg m → bytes ≢ spelled_msg m
