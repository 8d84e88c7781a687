-- The facts of each replica by itself as a snapshot is taken.
use Rattle.std.proofs.Common.{◌≡◌, ℕ, ◌≢◌, cond, not, List, [], ◌∷◌, Some, find, filter, refl, sym, ap, ◌∙◌, inl, inr, eq-eqb}
use Rattle.std.specs.Prelude.{◌==◌}
use Rattle.std.proofs.lemmas.Bool.{cases_eq, ne_eqb}
use Rattle.cg_base.specs.declared.weighted.Weighted.{Weighted}
use Rattle.cg_action.specs.declared.action.Action.{Action}
use Rattle.cg_client.specs.Replica.{Held}
use Rattle.cg_model.specs.Step.{joiner_replica}
use Rattle.cg_agree_lemmas.specs.HeldMarks.{IsOneself}

-- what a joiner becomes of what its representative holds
pub joined-oneself : (start : List Weighted) (h : Held) (all : List Action) (p : ℕ) → IsOneself start h all → IsOneself start (joiner_replica p h).held all
joined-oneself start h all p is = record {
  made_of = record {
    white = is.made_of.white;
    kept = is.made_of.kept;
    green_cut = is.made_of.green_cut;
    red_cut = refl;
    db = is.made_of.db;
    members = is.made_of.members;
  };
  contiguous = record { greens = is.contiguous.greens; reds = refl; by_name = refl; own = refl; mine = refl };
  yellow_closed = record { next = refl; known = refl };
}

module _ {X : Type 0} (key : X → ℕ) where
  pub found-without : (j q : ℕ) (xs : List X) → j ≢ q → find (λ x. key x == q) (filter (λ x. not (key x == j)) xs) ≡ find (λ x. key x == q) xs
  found-without j q [] apart = refl
  found-without j q (x ∷ xs) apart = elim (cases_eq (key x) j) [
    | inl same ↦ rw (eq-eqb (key x) j same, ne_eqb (key x) q (λ e. apart (sym same ∙ e))) (found-without j q xs apart)
    | inr other ↦ rw (ne_eqb (key x) j other) (ap (cond (key x == q) (Some x)) (found-without j q xs apart))
  ]
