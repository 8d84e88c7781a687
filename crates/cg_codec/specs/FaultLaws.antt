-- What the number of a fault tells.
use Rattle.std.proofs.Common.{◌≡◌, ◌≢◌, ℕ}
use Rattle.std.specs.Prelude.{Some}
use Rattle.cg_codec.specs.declared.fault.CodecFault.{CodecFault}
use Rattle.cg_codec.specs.declared.fault.CodecFault.TheVariants.{Short, Bad, Rest, NoMemory}
use Rattle.cg_codec.specs.Fault.{codec_fault_number}

-- a fault that has a number is one of the bytes
pub numbered : (fault : CodecFault) (n : ℕ) → codec_fault_number fault ≡ Some n → fault ≢ NoMemory
numbered (Short at) n e = λ is. cc
numbered (Bad at) n e = λ is. cc
numbered (Rest at) n e = λ is. cc
numbered NoMemory n e = absurd cc
