-- The first numbers as a set: the next one stands behind them.
use Rattle.std.proofs.Common.{◌≡◌, ℕ, zero, suc, ◌+◌, [], ◌∷◌, ◌∙◌, ap, arith}
use Rattle.cg_base.specs.Lists.{count_up}
use Rattle.cg_base.specs.Sets.{with_member}
use Rattle.cg_base.specs.SetLaws.{with_member-later}

pub count_up-next : (from n k : ℕ) → k ≡ from + n → with_member (count_up from n) k ≡ count_up from (suc n)
count_up-next from zero k e = let same : k ≡ from = omega (arith, e) in ap (λ m. m ∷ []) same
count_up-next from (suc n) k e =
    with_member-later from (count_up (suc from) n) k (omega (arith, e)) ∙ ap (λ s. from ∷ s) (count_up-next (suc from) n k (omega (arith, e)))
