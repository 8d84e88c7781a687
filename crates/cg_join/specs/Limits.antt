-- Which pieces there are: each part is within the limits of its bytes.
use Rattle.cg_base.specs.Sets.{IsId}
use Rattle.cg_action.specs.ActionLimits.{IsAction}
use Rattle.cg_db.specs.Limits.{IsEntry}
use Rattle.cg_records.specs.Limits.{IsNumber, IsPrimary}
use Rattle.cg_disk_records.specs.Limits.{IsReached}
use Rattle.cg_join.specs.declared.name.SnapshotName.{SnapshotName}
use Rattle.cg_join.specs.declared.piece.Label.{Label}
use Rattle.cg_join.specs.declared.piece.SnapshotHead.{SnapshotHead}
use Rattle.cg_join.specs.declared.piece.PieceContent.{PieceContent}
use Rattle.cg_join.specs.declared.piece.PieceContent.TheVariants.{Start, Green, Entry, End}
use Rattle.cg_join.specs.declared.piece.Piece.{Piece}

pub record IsSnapshotName (name : SnapshotName) : Type 0 where
  pub giver : IsId name.giver
  pub number : IsNumber name.number

pub record IsLabel (label : Label) : Type 0 where
  pub name : IsSnapshotName label.name
  pub number : IsNumber label.number
  pub count : IsNumber label.count

pub record IsHead (head : SnapshotHead) : Type 0 where
  pub prim : IsPrimary head.prim
  pub attempt_index : IsNumber head.attempt_index
  pub reached : IsReached head.reached

abbrev pub IsPart : PieceContent → Type 0
IsPart (Start head) = IsHead head
IsPart (Green action) = IsAction action
IsPart (Entry entry) = IsEntry entry
IsPart End = Unit {0}

pub record IsPiece (piece : Piece) : Type 0 where
  pub label : IsLabel piece.label
  pub part : IsPart piece.part
