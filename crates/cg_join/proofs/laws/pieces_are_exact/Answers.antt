use Rattle.cg_codec.specs.ShapeLaws.{field_front}
use Rattle.cg_codec.specs.Laws.{IsField}
use Rattle.cg_join.specs.Limits.{IsPiece}
use Rattle.cg_join.specs.Bytes.{spelled_piece}
use Rattle.cg_join.specs.Reading.{piece_reading}
use Rattle.cg_join.proofs.PieceFields.{piece_field, piece_whole}
use Rattle.cg_join.proofs.laws.pieces_are_exact.Goals as goal

pub returns : goal.returns
returns c =
    let action = c.actions_are_exact.ensures.action in
    let entry = c.lists_are_exact.ensures.entry in
    let reached = c.parts_are_exact.ensures.reached in
    let field : IsField IsPiece spelled_piece piece_reading = piece_field action entry reached in
    record { field = field; whole = piece_whole action entry reached; apart = field_front IsPiece spelled_piece piece_reading field }
