use Rattle.std.proofs.Common.{◌≡◌, fold}
use Rattle.std.specs.Vec.Iter.{into_iter_items}
use Rattle.cg_client.specs.Replica.{State}
use Rattle.cg_client.specs.Summary.{redden}
use Rattle.cg_client.specs.Drafts.{turn_with}
use Rattle.cg_client.proofs.held.Core.redden_all.Given as goal

-- those that are left give what all gave
abbrev pub invariant-loop-a : goal.invariant-loop-a
invariant-loop-a l = (state : State) → fold redden (turn_with l.self state l.draft) (into_iter_items l.a-iterator) ≡ fold redden (turn_with l.fn.self state l.fn.draft) l.fn.own
