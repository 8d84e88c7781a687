use Rattle.std.proofs.Common.{◌≡◌, [], fold}
use Rattle.cg_base.specs.Iterators.{members_left}
use Rattle.cg_model.specs.World.{up_replicas}
use Rattle.cg_world_events.specs.Hosting.{with_left}
use Rattle.cg_world_events.proofs.state.WorldState.left_replicas.Given as goal

abbrev pub invariant-loop-p : goal.invariant-loop-p
invariant-loop-p l = fold (with_left l.self) l.left (members_left l.p-iterator) ≡ fold (with_left l.self) [] (up_replicas l.self)
