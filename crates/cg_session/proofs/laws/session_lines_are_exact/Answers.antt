use Rattle.cg_session.proofs.Parts.{Known}
use Rattle.cg_session.proofs.Exact.{lines_exact}
use Rattle.cg_session.proofs.laws.session_lines_are_exact.Goals as goal

pub returns : goal.returns
returns c =
    let tokens = c.tokens_are_exact.ensures in
    let known : Known = record {
      numbers = c.numbers_are_exact.ensures.unsigned;
      none = tokens.none;
      blank = tokens.blank;
      word = tokens.word;
      parts = c.parts_are_exact.ensures;
    } in
    lines_exact known
