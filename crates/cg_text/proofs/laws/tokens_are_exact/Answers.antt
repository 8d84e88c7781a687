use Rattle.cg_text.proofs.Scanning.{tokens-blank, tokens-none, tokens-separator}
use Rattle.cg_text.proofs.TokenLaws.{tokens-bare, tokens-quoted}
use Rattle.cg_text.proofs.laws.tokens_are_exact.Goals as goal

pub returns : goal.returns
returns c = record { none = tokens-none; blank = tokens-blank; separator = tokens-separator; word = tokens-bare; text = tokens-quoted }
