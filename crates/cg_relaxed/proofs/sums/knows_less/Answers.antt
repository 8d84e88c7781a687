use Rattle.std.proofs.Common.{ap, sym, ◌∙◌, arith}
use Rattle.std.specs.Prelude.{nat_lt}
use Rattle.cg_base.specs.Cuts.{index_in}
use Rattle.cg_base.specs.Sets.{IsId}
use Rattle.cg_relaxed.proofs.Cuts.{index-of-none}
use Rattle.cg_relaxed.proofs.sums.knows_less.Goals as goal

pub returns-in-None : goal.returns-in-None
returns-in-None c =
    let p = c.args.creator in
    let none : IsId p → ⊥ = λ is. grind (arith, c.in-None.ensures.given.1 is) in
    let one = index-of-none c.args.known.now p c.holds.ensures none in
    let other = index-of-none c.args.other.now p c.holds-2.ensures none in
    sym (ap (λ n. nat_lt n (index_in c.args.other.now p)) one ∙ ap (λ n. nat_lt 0 n) other)
