use Rattle.std.proofs.Common.{refl}
use Rattle.cg_vote.specs.Quorum.{is_quorum}
use Rattle.cg_vote.specs.QuorumLaws.{meet}
use Rattle.cg_vote.proofs.quorums_meet.Goals as goal

pub returns-clause-meet : goal.returns-clause-meet
returns-clause-meet c = meet

pub returns-clause-none_of_nothing : goal.returns-clause-none_of_nothing
unfolding is_quorum
returns-clause-none_of_nothing c = λ here. refl
