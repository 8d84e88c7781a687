use Rattle.cg_text.proofs.NumberLaws.{u64_spelling, i64_spelling}
use Rattle.cg_text.proofs.laws.numbers_are_exact.Goals as goal

pub returns : goal.returns
returns c = record { unsigned = u64_spelling; signed = i64_spelling }
