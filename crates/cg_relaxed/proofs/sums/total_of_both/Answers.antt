use Rattle.std.proofs.Common.{◌≡◌, ℕ, suc, ◌*◌, ◌^◌, ◌<◌, List, refl, ap, ◌∙◌, arith, to_z}
use Rattle.std.specs.Prelude.{ℤ, ◌+ℤ◌}
use Rattle.std.specs.Int.{w128}
use Rattle.std.proofs.lemmas.Int.{ints}
use Rattle.cg_relaxed.specs.RelaxedState.{sum_of_both, IsWithin}
use Rattle.cg_relaxed.proofs.Bounds.{nothing-within}
use Rattle.cg_relaxed.proofs.Running.{first-total, next-total, next-within}
use Rattle.cg_relaxed.proofs.sums.total_of_both.Goals as goal

pub loop-creator-init : goal.loop-creator-init
loop-creator-init c = record {
  rest = λ n is. first-total (λ (m : ℤ) (p : ℕ).
      m +ℤ sum_of_both c.args.sums.now.entries c.args.known.now c.args.other_sums.now.entries c.args.other_known.now c.args.key p) n is;
  key = refl;
  within = nothing-within (1 * 2 ^ 107);
}

pub loop-creator-preserved : goal.loop-creator-preserved
loop-creator-preserved c =
    let sum : List ℕ → ℕ → ℤ =
    sum_of_both c.args.sums.now.entries c.args.known.now c.args.other_sums.now.entries c.args.other_known.now in
    let key = c.args.key in
    let k = c.loop-creator.creator in
    let t = to_z w128 c.loop-creator.total-bits in
    let s = sum key k in
    let before = c.loop-creator.invariant in
    let is : c.sum_of_both-total.result ≡ s = c.sum_of_both-total.ensures ∙ ap (λ x. sum x k) before.key in
    let within : IsWithin (k * 2 ^ 107) t = before.within in
    let above = within.above in
    let below = within.below in
    let part : IsWithin (2 ^ 107) s = c.requires k in
    let higher = part.above in
    let lower = part.below in
    let small : k < 33 = c.loop-creator-test.true in
    record {
      rest = λ n end. next-total (λ (m : ℤ) (p : ℕ). m +ℤ sum key p) k n t _ _ (omega (arith, ints)) (before.rest (suc n) (omega arith));
      key = before.key;
      within = next-within k t s _ (omega (arith, ints)) within part;
    }

pub returns : goal.returns
returns c = c.loop-creator.invariant.rest 0 (omega arith)
