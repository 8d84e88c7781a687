use Rattle.std.proofs.Common.{◌≡◌, ◌∙◌, [], fold, max, rules}
use Rattle.cg_base.specs.Iterators.{members_left}
use Rattle.cg_members.specs.Servers.{weight_of}
use Rattle.cg_client.proofs.Weighing.{put_weighing, weighing-is}
use Rattle.cg_client.proofs.weights.weigh.Goals as goal

pub returns : goal.returns
returns c =
    let none : members_left c.loop-id.id-iterator ≡ [] = search rules in
    let all : c.loop-id.weighted ≡ fold (put_weighing (λ p. max 1 (weight_of c.args.members.now.servers p))) [] c.args.set.now = rw none at c.loop-id.invariant in
    all ∙ weighing-is (λ p. max 1 (weight_of c.args.members.now.servers p)) c.args.set.now c.holds.ensures
