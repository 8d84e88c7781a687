use Rattle.std.proofs.Common.{◌≡◌, false, take, drop}
use Rattle.cg_text.specs.Tokens.{tokens_from, InText}
use Rattle.cg_text.proofs.words.text_len.Given as goal

abbrev pub invariant-loop-i : goal.invariant-loop-i
invariant-loop-i l = tokens_from (InText (take l.i l.line) l.is_escaped) (drop l.i l.line) ≡ tokens_from (InText (take 1 l.line) false) (drop 1 l.line)
