-- Why bytes could not be read or written.
use Rattle.std.specs.Prelude.{ℕ, Option, Some, None}
use Rattle.cg_codec.specs.declared.fault.CodecFault.{CodecFault}
use Rattle.cg_codec.specs.declared.fault.CodecFault.TheVariants.{Short, Bad, Rest, NoMemory}

-- the number of each fault of the bytes; want of memory is none
abbrev pub codec_fault_number : CodecFault → Option ℕ
codec_fault_number (Short at) = Some 1
codec_fault_number (Bad at) = Some 2
codec_fault_number (Rest at) = Some 3
codec_fault_number NoMemory = None
