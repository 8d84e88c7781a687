use Rattle.std.proofs.Common.{◌≡◌, fold}
use Rattle.std.specs.Vec.Iter.{into_iter_items}
use Rattle.cg_client.specs.Replica.{State}
use Rattle.cg_client.specs.Requests.{create}
use Rattle.cg_client.specs.Drafts.{turn_with}
use Rattle.cg_client.proofs.held.Core.create_all.Given as goal

-- those that are left give what all gave
abbrev pub invariant-loop-request : goal.invariant-loop-request
invariant-loop-request l = (state : State) → fold create (turn_with l.self state l.draft) (into_iter_items l.request-iterator) ≡ fold create (turn_with l.fn.self state l.fn.draft) l.fn.kept
