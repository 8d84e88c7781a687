use Rattle.std.proofs.Common.{◌≡◌, fold}
use Rattle.cg_base.specs.Weights.{Weigh, with_weight}
use Rattle.cg_base.specs.Iterators.{weights_left}
use Rattle.cg_members.proofs.ServerLemmas.{others_than}
use Rattle.cg_members.proofs.server_set.ServerSet.remove.Given as goal

-- the members kept so far, with the others that are left, are all others
abbrev pub invariant-loop-member : goal.invariant-loop-member
invariant-loop-member l = (fold with_weight l.kept (others_than l.id (weights_left l.member-iterator)) ≡ others_than l.id l.self-inside.weights) × Weigh (weights_left l.member-iterator)
