-- Counts stay within what every member has received, where no count changes: what every member has received doesn't fall.
use Rattle.std.proofs.Common.{◌≡◌, ℕ, ◌≤◌, ◌<◌, Bool, true, arith}
use Rattle.std.specs.List.{prefix_len}
use Rattle.cg_base.specs.Lists.{above_up_to}
use Rattle.cg_agree_lemmas.specs.Reach.{passes, reaches, row-within}

-- a row doesn't fall where no place passes less than before
pub row-grows : (s t : ℕ → Bool) (n m : ℕ) → n ≤ m → ((k : ℕ) → 0 < k → k ≤ n → s k ≡ true → t k ≡ true) → prefix_len s (above_up_to 0 n) ≤ prefix_len t (above_up_to 0 m)
row-grows s t n m le more =
    let short = row-within s n in
    reaches t m (prefix_len s (above_up_to 0 n)) (omega arith) (λ k above within. more k above (omega arith) (passes s n k above within))
