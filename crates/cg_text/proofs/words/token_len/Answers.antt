use Rattle.std.proofs.Common.{sym, ◌∙◌}
use Rattle.cg_text.proofs.Scanning.{first_separator, first_text, first_word}
use Rattle.cg_text.proofs.words.token_len.Goals as goal

pub returns-then-is_separator-clause-token : goal.returns-then-is_separator-clause-token
returns-then-is_separator-clause-token c = first_separator c.args.line.now c.requires.some (sym c.if-is_separator.ensures)

pub returns-then-line-eq34-clause-token : goal.returns-then-line-eq34-clause-token
returns-then-line-eq34-clause-token c = first_text c.args.line.now c.requires.some c.if-line-eq34.true ∙ c.text_len.ensures.text

pub returns-else-line-eq34-clause-token : goal.returns-else-line-eq34-clause-token
returns-else-line-eq34-clause-token c =
    first_word c.args.line.now c.requires.some c.requires.token (sym c.if-is_separator.ensures) c.if-line-eq34.false ∙ c.word_len.ensures.word
