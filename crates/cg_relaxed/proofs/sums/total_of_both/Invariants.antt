use Rattle.std.proofs.Common.{◌≡◌, ℕ, ◌+◌, ◌*◌, ◌^◌, fold}
use Rattle.std.specs.Prelude.{pos, ◌+ℤ◌}
use Rattle.cg_base.specs.Lists.{count_up}
use Rattle.cg_base.specs.Replicas.{every_replica}
use Rattle.cg_relaxed.specs.RelaxedState.{sum_of_both, IsWithin}
use Rattle.cg_relaxed.proofs.sums.total_of_both.Given as goal

-- the sums of those that are left lead to the total of all
abbrev pub invariant-loop-creator : goal.invariant-loop-creator
invariant-loop-creator l = record {
  rest : (n : ℕ) → l.creator + n ≡ 33 →
      fold (λ m p. m +ℤ sum_of_both l.sums.entries l.known l.other_sums.entries l.other_known l.fn.key p) l.total (count_up l.creator n)
      ≡ fold (λ m p. m +ℤ sum_of_both l.sums.entries l.known l.other_sums.entries l.other_known l.fn.key p) (pos 0) every_replica;
  key : l.part.key ≡ l.fn.key;
  within : IsWithin (l.creator * 2 ^ 107) l.total;
}
