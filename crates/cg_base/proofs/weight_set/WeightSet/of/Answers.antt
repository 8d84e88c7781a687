use Rattle.std.proofs.Common.{◌≡◌, ◌∙◌, [], fold, rules}
use Rattle.cg_base.specs.Iterators.{members_left}
use Rattle.cg_base.proofs.WeightLemmas.{put_once, each_once-is}
use Rattle.cg_base.proofs.weight_set.WeightSet.of.Goals as goal

pub returns : goal.returns
returns c =
    let none : members_left c.loop-id.id-iterator ≡ [] = search rules in
    let all : c.loop-id.weighted ≡ fold put_once [] c.args.set.now = rw none at c.loop-id.invariant in
    all ∙ each_once-is c.args.set.now c.holds.ensures
