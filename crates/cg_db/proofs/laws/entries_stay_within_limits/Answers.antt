use Rattle.std.proofs.Common.{[]}
use Rattle.cg_db.proofs.LimitLaws.{apply-within, fold-within}
use Rattle.cg_db.proofs.laws.entries_stay_within_limits.Goals as goal

pub returns : goal.returns
returns c = record { apply = apply-within; fold = λ actions all. fold-within actions [] tt all }
