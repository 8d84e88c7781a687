use Rattle.cg_schedule.proofs.TokenParts.{TextFacts}
use Rattle.cg_schedule.proofs.LineTokens.{TokenFacts}
use Rattle.cg_schedule.proofs.LineLaws.{reads_into, reads_from, tokens_from, event_from}
use Rattle.cg_schedule.proofs.laws.lines_are_exact.Goals as goal

pub returns-clause-event : goal.returns-clause-event
returns-clause-event c =
    let texts : TextFacts = record { unsigned = c.numbers_are_exact.ensures.unsigned; signed = c.numbers_are_exact.ensures.signed; quotes = c.quoted_texts_are_exact.ensures } in
    let t = c.tokens_are_exact.ensures in
    let facts : TokenFacts = record { none = t.none; blank = t.blank; separator = t.separator; word = t.word; quotes = t.text } in
    λ state line e. (reads_into facts texts state line e, reads_from facts texts state line e)

pub returns-clause-same_event : goal.returns-clause-same_event
returns-clause-same_event c =
    let texts : TextFacts = record { unsigned = c.numbers_are_exact.ensures.unsigned; signed = c.numbers_are_exact.ensures.signed; quotes = c.quoted_texts_are_exact.ensures } in
    let t = c.tokens_are_exact.ensures in
    let facts : TokenFacts = record { none = t.none; blank = t.blank; separator = t.separator; word = t.word; quotes = t.text } in
    λ state there line other e f x y. (tokens_from facts texts state there line other e f x y, event_from state there line other e f x y)
