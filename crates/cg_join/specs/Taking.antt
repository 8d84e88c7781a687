-- When a piece is refused, and what comes of it where it is taken.
use Rattle.std.specs.Prelude.{◌≡◌, ◌≢◌, ℕ, suc, ◌==◌, Bool, not, ◌&&◌, List, [], ◌∷◌, ◌++◌, length, Option, Some, None, Result, Ok, Err, if◌then◌else◌}
use Rattle.cg_codec.specs.declared.fault.CodecFault.{CodecFault}
use Rattle.cg_codec.specs.declared.fault.CodecFault.TheVariants.{Short, Bad, Rest, NoMemory as NoMemoryToRead}
use Rattle.cg_codec.specs.Reading.{whole}
use Rattle.cg_join.specs.declared.errors.JoinErr.{JoinErr}
use Rattle.cg_join.specs.declared.errors.JoinErr.TheVariants.{BadPiece, OtherSnapshot, OutOfTurn, NoMemory}
use Rattle.cg_join.specs.declared.name.SnapshotName.{SnapshotName}
use Rattle.cg_join.specs.declared.piece.Label.{Label}
use Rattle.cg_join.specs.declared.piece.PieceContent.{PieceContent}
use Rattle.cg_join.specs.declared.piece.Piece.{Piece}
use Rattle.cg_join.specs.Reading.{piece_reading}

abbrev pub same_snapshot : SnapshotName → SnapshotName → Bool
same_snapshot a b = (a.giver == b.giver) && (a.number == b.number)

-- bytes that are no piece
abbrev pub bad : CodecFault → JoinErr
bad (Short at) = BadPiece at
bad (Bad at) = BadPiece at
bad (Rest at) = BadPiece at
bad NoMemoryToRead = NoMemory

-- a piece of another snapshot, or one that isn't next behind so many
abbrev pub refusal : SnapshotName → ℕ → Label → Option JoinErr
refusal name taken label =
    if not (same_snapshot label.name name) then Some (OtherSnapshot name label.name)
    else if not (label.number == suc taken) then Some (OutOfTurn (suc taken) label.number)
    else None

-- why bytes are refused behind these parts, if they are
abbrev pub refused : SnapshotName → List PieceContent → Result Piece CodecFault → Option JoinErr
refused name taken (Ok piece) = refusal name (length taken) piece.label
refused name taken (Err fault) = Some (bad fault)

-- a piece was taken, and whether it is the last one; or it was refused, or memory was, and all is as before
abbrev pub Adds : SnapshotName → List PieceContent → List PieceContent → Piece → Result Bool JoinErr → Type 0
Adds name old new piece (Ok done) =
    (refusal name (length old) piece.label ≡ None) × (new ≡ old ++ piece.part ∷ [])
    × (done ≡ (piece.label.number == piece.label.count))
Adds name old new piece (Err fault) = (new ≡ old)
    × (fault ≢ NoMemory → refusal name (length old) piece.label ≡ Some fault)

-- the same of the piece that bytes spell
abbrev pub Takes : SnapshotName → List PieceContent → List PieceContent → List ℕ → Result Bool JoinErr → Type 0
Takes name old new bytes (Ok done) = (piece : Piece) × (whole piece_reading bytes ≡ Ok piece)
    × Adds name old new piece (Ok done)
Takes name old new bytes (Err fault) = (new ≡ old)
    × (fault ≢ NoMemory → refused name old (whole piece_reading bytes) ≡ Some fault)
