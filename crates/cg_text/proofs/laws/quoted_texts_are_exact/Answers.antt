use Rattle.cg_text.proofs.QuotedLaws.{quoted_spelling}
use Rattle.cg_text.proofs.laws.quoted_texts_are_exact.Goals as goal

pub returns : goal.returns
returns c = quoted_spelling
