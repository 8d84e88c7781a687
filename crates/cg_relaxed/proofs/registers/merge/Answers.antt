use Rattle.std.proofs.Common.{◌≡◌, ℕ, drop, subst, arith}
use Rattle.cg_relaxed.specs.RelaxedState.{write_at, merged}
use Rattle.cg_relaxed.proofs.registers.merge.Goals as goal

pub returns : goal.returns
returns c = λ q.
    let done : c.loop-left.left ≡ 0 = omega arith in
    subst (λ (n : ℕ). write_at c.loop-left.to.entries q
    ≡ merged (write_at (drop n c.args.from.now.entries) q) (write_at c.args.other.now.entries q) (write_at c.args.to.now.entries q))
    done (c.loop-left.invariant.written q)
