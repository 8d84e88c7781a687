use Rattle.cg_schedule.proofs.TokenParts.{TextFacts}
use Rattle.cg_schedule.proofs.LineTokens.{TokenFacts}
use Rattle.cg_schedule.proofs.LineLaws.{printed_reads}
use Rattle.cg_schedule.proofs.laws.printed_lines_are_read.Goals as goal

pub returns : goal.returns
returns c =
    let texts : TextFacts = record { unsigned = c.numbers_are_exact.ensures.unsigned; signed = c.numbers_are_exact.ensures.signed; quotes = c.quoted_texts_are_exact.ensures } in
    let t = c.tokens_are_exact.ensures in
    let facts : TokenFacts = record { none = t.none; blank = t.blank; separator = t.separator; word = t.word; quotes = t.text } in
    λ state e within may. printed_reads facts texts state e within may
