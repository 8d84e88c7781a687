use Rattle.std.proofs.Common.{◌≡◌, ◌&&◌, not, find, map, drop}
use Rattle.cg_base.specs.Sets.{has}
use Rattle.cg_group.specs.Refusals.{is_together}
use Rattle.cg_group.proofs.group.Group.first_missing.Given as goal

abbrev pub invariant-loop-member : goal.invariant-loop-member
invariant-loop-member g l =
    find (λ q. is_together l.self l.set q && not (has l.set q) && not (has l.left q)) (map (λ s. s.id) (drop l.member-index l.member-items))
    ≡ find (λ q. is_together l.self l.set q && not (has l.set q) && not (has l.left q)) (map (λ s. s.id) l.member-items)
