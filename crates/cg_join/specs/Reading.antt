-- How pieces are read, field by field from the left.
use Rattle.std.specs.Prelude.{ℕ, ◌==◌, [], if◌then◌else◌}
use Rattle.cg_codec.specs.Reading.{Reading, ◌>>=◌, done, byte_between}
use Rattle.cg_action.specs.Reading.{action_reading}
use Rattle.cg_records.specs.Reading.{take_number, take_id_above, take_prim}
use Rattle.cg_disk_records.specs.Reading.{entry_reading, reached_reading}
use Rattle.cg_join.specs.declared.name.SnapshotName.{SnapshotName}
use Rattle.cg_join.specs.declared.piece.Label.{Label}
use Rattle.cg_join.specs.declared.piece.SnapshotHead.{SnapshotHead}
use Rattle.cg_join.specs.declared.piece.PieceContent.{PieceContent}
use Rattle.cg_join.specs.declared.piece.PieceContent.TheVariants.{Start, Green, Entry, End}
use Rattle.cg_join.specs.declared.piece.Piece.{Piece}

unfoldable pub name_reading : Reading SnapshotName
name_reading = do
  giver ← take_id_above 0
  number ← take_number
  done (record { giver = giver; number = number })

unfoldable pub label_reading : Reading Label
label_reading = do
  name ← name_reading
  number ← take_number
  count ← take_number
  done (record { name = name; number = number; count = count })

unfoldable pub head_reading : Reading SnapshotHead
head_reading = do
  prim ← take_prim
  attempt_index ← take_number
  reached ← reached_reading
  done (record { prim = prim; attempt_index = attempt_index; reached = reached })

-- a part of each kind, behind its tag
unfoldable pub start_reading : Reading PieceContent
start_reading = head_reading >>= λ head. done (Start head)

unfoldable pub green_reading : Reading PieceContent
green_reading = action_reading >>= λ action. done (Green action)

unfoldable pub entry_part_reading : Reading PieceContent
entry_part_reading = entry_reading [] >>= λ entry. done (Entry entry)

unfoldable pub part_of_tag : ℕ → Reading PieceContent
part_of_tag tag =
    if tag == 1 then start_reading
    else if tag == 2 then green_reading
    else if tag == 3 then entry_part_reading
    else done End

unfoldable pub part_reading : Reading PieceContent
part_reading = byte_between 1 4 >>= part_of_tag

unfoldable pub piece_reading : Reading Piece
piece_reading = do
  label ← label_reading
  part ← part_reading
  done (record { label = label; part = part })
