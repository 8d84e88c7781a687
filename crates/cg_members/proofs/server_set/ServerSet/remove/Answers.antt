use Rattle.std.proofs.Common.{◌≡◌, [], rules}
use Rattle.cg_base.specs.Iterators.{weights_left}
use Rattle.cg_members.proofs.ServerLemmas.{others_than, with_weights-all, Ascends-others, IsWeightSet-others, map_with-remove}
use Rattle.cg_members.proofs.server_set.ServerSet.remove.Goals as goal

pub loop-member-init : goal.loop-member-init
loop-member-init c =
    let weights = c.self.inside.weights in
    let all : weights_left c.into_iter-member-iterator.result ≡ weights = search rules in
    rw (c.empty-kept.ensures, all) (with_weights-all (others_than c.args.id weights) (Ascends-others c.args.id weights 1 c.self.invariant.0.ascends), c.self.invariant.0.weigh)

pub invariant_of-self : goal.invariant_of-self
invariant_of-self c =
    let weights = c.self.inside.weights in
    let none : weights_left c.loop-member.member-iterator ≡ [] = search rules in
    let kept : c.loop-member.kept ≡ others_than c.args.id weights = rw none at (c.loop-member.invariant.0) in
    (rw kept (IsWeightSet-others c.args.id weights c.self.invariant.0), c.ids-self-inside.ensures)

pub returns : goal.returns
returns c =
    let weights = c.self.inside.weights in
    let none : weights_left c.loop-member.member-iterator ≡ [] = search rules in
    let kept : c.loop-member.kept ≡ others_than c.args.id weights = rw none at (c.loop-member.invariant.0) in
    rw (kept, ← c.self.view_is) (map_with-remove c.self.inside.lines weights c.args.id)
