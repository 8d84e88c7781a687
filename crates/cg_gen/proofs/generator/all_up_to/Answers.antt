use Rattle.std.proofs.Common.{◌≡◌, suc, ◌+◌, ◌∙◌, ap, arith}
use Rattle.cg_base.specs.Lists.{count_up}
use Rattle.cg_base.specs.Sets.{with_member}
use Rattle.cg_gen.proofs.Counting.{count_up-next}
use Rattle.cg_gen.proofs.generator.all_up_to.Goals as goal

pub loop-n-preserved : goal.loop-n-preserved
loop-n-preserved c =
    let next : suc c.loop-n.n ≡ c.loop-n.n + 1 = omega arith in
    c.add.ensures ∙ (λ i. with_member (c.loop-n.invariant i) (c.known.ensures i)) ∙ count_up-next 1 c.loop-n.n (c.loop-n.n + 1) (omega arith)
    ∙ ap (count_up 1) next
