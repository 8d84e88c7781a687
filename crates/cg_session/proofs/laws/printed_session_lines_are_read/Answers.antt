use Rattle.cg_schedule.specs.Print.{line_of}
use Rattle.cg_session.proofs.Parts.{Known}
use Rattle.cg_session.proofs.Printed.{AreTexts, going, printed_are_read}
use Rattle.cg_session.proofs.laws.printed_session_lines_are_read.Goals as goal

pub returns : goal.returns
returns c =
    let tokens = c.tokens_are_exact.ensures in
    let known : Known = record {
      numbers = c.numbers_are_exact.ensures.unsigned;
      none = tokens.none;
      blank = tokens.blank;
      word = tokens.word;
      parts = c.parts_are_exact.ensures;
    } in
    let lines = c.lines_are_exact.ensures.event in
    let printed = c.printed_lines_are_read.ensures in
    let texts : AreTexts = λ e within may. ((lines going (line_of e) e).0 (printed going e within may)).is_text in
    printed_are_read known texts
