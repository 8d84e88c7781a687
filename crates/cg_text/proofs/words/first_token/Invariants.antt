use Rattle.std.proofs.Common.{◌≡◌, drop}
use Rattle.cg_text.specs.Tokens.{tokens}
use Rattle.cg_text.proofs.words.first_token.Given as goal

abbrev pub invariant-loop-i : goal.invariant-loop-i
invariant-loop-i l = tokens (drop l.i l.line) ≡ tokens l.line
