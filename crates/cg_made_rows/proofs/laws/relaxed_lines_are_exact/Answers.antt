use Rattle.cg_made_rows.proofs.Parts.{Known}
use Rattle.cg_made_rows.proofs.Exact.{lines_exact}
use Rattle.cg_made_rows.proofs.laws.relaxed_lines_are_exact.Goals as goal

pub returns : goal.returns
returns c =
    let tokens = c.tokens_are_exact.ensures in
    let known : Known = record {
      numbers = c.numbers_are_exact.ensures.unsigned;
      texts = c.quoted_texts_are_exact.ensures;
      none = tokens.none;
      blank = tokens.blank;
      word = tokens.word;
      text = tokens.text;
    } in
    lines_exact known
