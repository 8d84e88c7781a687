-- What stands in the rows with one action more.
use Rattle.std.proofs.Common.{◌≡◌, ◌≢◌, ℕ, zero, suc, List, [], ◌∷◌, ◌++◌, refl, ap}
use Rattle.cg_base.specs.Lists.{row_at}
use Rattle.cg_action.specs.declared.action.Action.{Action}
use Rattle.cg_made_rows.specs.Rows.{with_made}

pub row-same : (rows : List (List Action)) (p : ℕ) (a : Action) →
    row_at (with_made rows p a) p ≡ row_at rows p ++ a ∷ []
row-same [] zero a = refl
row-same [] (suc p) a = row-same [] p a
row-same (row ∷ rows) zero a = refl
row-same (row ∷ rows) (suc p) a = row-same rows p a

pub row-other : (rows : List (List Action)) (p : ℕ) (a : Action) (q : ℕ) → q ≢ p →
    row_at (with_made rows p a) q ≡ row_at rows q
row-other [] zero a zero apart = absurd (apart refl)
row-other [] zero a (suc q) apart = refl
row-other [] (suc p) a zero apart = refl
row-other [] (suc p) a (suc q) apart = row-other [] p a q (λ e. apart (ap suc e))
row-other (row ∷ rows) zero a zero apart = absurd (apart refl)
row-other (row ∷ rows) zero a (suc q) apart = refl
row-other (row ∷ rows) (suc p) a zero apart = refl
row-other (row ∷ rows) (suc p) a (suc q) apart = row-other rows p a q (λ e. apart (ap suc e))
