use Rattle.std.proofs.Common.{◌≡◌, [], take, drop}
use Rattle.cg_text.specs.Tokens.{tokens_from, InWord}
use Rattle.cg_text.proofs.words.word_len.Given as goal

abbrev pub invariant-loop-i : goal.invariant-loop-i
invariant-loop-i l = tokens_from (InWord (take l.i l.line)) (drop l.i l.line) ≡ tokens_from (InWord []) l.line
