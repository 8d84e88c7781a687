-- How pieces are spelled in bytes.
use Rattle.std.specs.Prelude.{ℕ, List, ◌++◌}
use Rattle.cg_codec.specs.Fields.{byte, number64}
use Rattle.cg_action.specs.Bytes.{spelled_action}
use Rattle.cg_records.specs.Bytes.{spelled_prim}
use Rattle.cg_disk_records.specs.Checkpoint.{spelled_entry, spelled_reached}
use Rattle.cg_join.specs.declared.name.SnapshotName.{SnapshotName}
use Rattle.cg_join.specs.declared.piece.Label.{Label}
use Rattle.cg_join.specs.declared.piece.SnapshotHead.{SnapshotHead}
use Rattle.cg_join.specs.declared.piece.PieceContent.{PieceContent}
use Rattle.cg_join.specs.declared.piece.PieceContent.TheVariants.{Start, Green, Entry, End}
use Rattle.cg_join.specs.declared.piece.Piece.{Piece}

unfoldable pub spelled_snapshot_name : SnapshotName → List ℕ
spelled_snapshot_name name = byte name.giver ++ number64 name.number

unfoldable pub spelled_label : Label → List ℕ
spelled_label label = spelled_snapshot_name label.name ++ (number64 label.number ++ number64 label.count)

-- the last primary component, the attempt index, and how far the greens reach
unfoldable pub spelled_head : SnapshotHead → List ℕ
spelled_head head = spelled_prim head.prim ++ (number64 head.attempt_index ++ spelled_reached head.reached)

-- a tag, and what the part brings
unfoldable pub spelled_part : PieceContent → List ℕ
spelled_part (Start head) = byte 1 ++ spelled_head head
spelled_part (Green action) = byte 2 ++ spelled_action action
spelled_part (Entry entry) = byte 3 ++ spelled_entry entry
spelled_part End = byte 4

abbrev pub piece_bytes : Label → PieceContent → List ℕ
piece_bytes label part = spelled_label label ++ spelled_part part

unfoldable pub spelled_piece : Piece → List ℕ
spelled_piece piece = piece_bytes piece.label piece.part
