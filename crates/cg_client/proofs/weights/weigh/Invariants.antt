use Rattle.std.proofs.Common.{◌≡◌, [], fold, max}
use Rattle.cg_base.specs.Iterators.{members_left}
use Rattle.cg_members.specs.Servers.{weight_of}
use Rattle.cg_client.proofs.Weighing.{put_weighing}
use Rattle.cg_client.proofs.weights.weigh.Given as goal

-- what is put in so far, and what is still to be put in
abbrev pub invariant-loop-id : goal.invariant-loop-id
invariant-loop-id l = fold (put_weighing (λ p. max 1 (weight_of l.members.servers p))) l.weighted (members_left l.id-iterator) ≡ fold (put_weighing (λ p. max 1 (weight_of l.members.servers p))) [] l.set
