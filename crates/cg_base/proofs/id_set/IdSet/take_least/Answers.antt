use Rattle.std.proofs.Common.{◌≡◌, Some}
use Rattle.cg_base.specs.Sets.{least}
use Rattle.cg_base.specs.SlotLaws.{Ascends-members}
use Rattle.cg_base.proofs.WordLemmas.{members, members-clear}
use Rattle.cg_base.specs.SetLaws.{least-first}
use Rattle.cg_base.proofs.id_set.IdSet.take_least.Goals as goal

pub returns : goal.returns
returns c =
    let w = c.self.inside.word in
    let first : Some c.in_ok-id.id ≡ least (members w) = rw c.self.view_is (cc) in
    rw (← c.self.view_is, c.from.ensures, c.get.ensures.value, members-clear w c.in_ok-id.id c.get.ensures.range)
    (least-first (members w) 1 c.in_ok-id.id (Ascends-members w) first)
