use Rattle.std.proofs.Common.{sym}
use Rattle.std.proofs.lemmas.Nat.Bits.{shr_and_one}
use Rattle.cg_base.proofs.WordLemmas.{has-members}
use Rattle.cg_base.proofs.id_set.IdSet.contains.Goals as goal

pub returns : goal.returns
returns c =
    rw (← c.self.view_is, shr_and_one c.self.inside.word c.from-slot.result, c.from-slot.ensures, c.get.ensures.value)
    (sym (has-members c.self.inside.word c.args.id c.get.ensures.range.0 c.get.ensures.range.1))
