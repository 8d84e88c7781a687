use Rattle.cg_schedule.proofs.TokenParts.{TextFacts}
use Rattle.cg_schedule.proofs.LineTokens.{TokenFacts}
use Rattle.cg_schedule.proofs.LineLaws.{parts_into, parts_from}
use Rattle.cg_schedule.proofs.laws.parts_are_exact.Goals as goal

pub returns : goal.returns
returns c =
    let texts : TextFacts = record { unsigned = c.numbers_are_exact.ensures.unsigned; signed = c.numbers_are_exact.ensures.signed; quotes = c.quoted_texts_are_exact.ensures } in
    let t = c.tokens_are_exact.ensures in
    let facts : TokenFacts = record { none = t.none; blank = t.blank; separator = t.separator; word = t.word; quotes = t.text } in
    λ e parts. (parts_into facts texts e parts, parts_from facts texts e parts)
