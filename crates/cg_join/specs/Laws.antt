-- What the bytes of a call that reads a piece say.
use Rattle.std.specs.Prelude.{ℕ, List, Result}
use Rattle.cg_codec.specs.declared.fault.CodecFault.{CodecFault}
use Rattle.cg_disk_records.specs.Laws.{Gives}
use Rattle.cg_join.specs.declared.piece.Piece.{Piece}
use Rattle.cg_join.specs.Limits.{IsPiece}
use Rattle.cg_join.specs.Bytes.{spelled_piece}

-- the call gave the one piece that the bytes spell; where it gave none they spell none, unless memory was refused
abbrev pub GivesPiece : List ℕ → Result Piece CodecFault → Type 0
GivesPiece bytes r = Gives IsPiece spelled_piece bytes r
