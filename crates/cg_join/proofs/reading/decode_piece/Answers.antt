use Rattle.std.proofs.Common.{rules}
use Rattle.cg_codec.specs.Laws.{AreBytes}
use Rattle.cg_join.proofs.PieceFields.{given_is_spelled}
use Rattle.cg_join.proofs.reading.decode_piece.Goals as goal

pub returns-clause-exact : goal.returns-clause-exact
returns-clause-exact c =
    let fits : AreBytes c.args.bytes.now = λ i. search rules in
    given_is_spelled c.pieces_are_exact.ensures.whole c.args.bytes.now c.read_all.result fits c.read_all.ensures
