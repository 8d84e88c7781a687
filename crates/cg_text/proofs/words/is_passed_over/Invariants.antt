use Rattle.std.proofs.Common.{◌≡◌, drop}
use Rattle.cg_text.specs.Tokens.{is_passed_over}
use Rattle.cg_text.proofs.words.is_passed_over.Given as goal

abbrev pub invariant-loop-byte : goal.invariant-loop-byte
invariant-loop-byte l = is_passed_over (drop l.byte-index l.line) ≡ is_passed_over l.line
