-- The made actions of each creator, with one more behind them.
use Rattle.std.proofs.Common.{◌≡◌, ◌≢◌, ℕ, suc, ◌+◌, List, [], ◌∷◌, ◌++◌, length, ap, ◌∙◌, subst, eq-eqb, arith}
use Rattle.std.specs.Prelude.{◌==◌}
use Rattle.std.proofs.lemmas.Bool.{cond-true, cond-false, ne_eqb}
use Rattle.std.proofs.lemmas.List.{append-nil}
use Rattle.std.proofs.lemmas.List.Elements.{filter-append}
use Rattle.cg_base.specs.Lists.{row_at}
use Rattle.cg_action.specs.declared.action.Action.{Action}
use Rattle.cg_model.specs.Making.{made_by, AreNextOf}

-- each creator's row has those that it made, in their order
abbrev pub AreRowsOf : List Action → List (List Action) → Type 0
AreRowsOf made rows = (p : ℕ) → row_at rows p ≡ made_by p made

pub next-append : (p n m : ℕ) (xs ys : List Action) → AreNextOf p n xs → m ≡ n + length xs → AreNextOf p m ys → AreNextOf p n (xs ++ ys)
next-append p n m [] ys first at rest = subst (λ k. AreNextOf p k ys) (let none : m ≡ n = omega arith in none) rest
next-append p n m (a ∷ xs) ys first at rest = (first.0, next-append p (suc n) m xs ys first.1 (omega arith) rest)

pub made_by-own : (made : List Action) (a : Action) (p : ℕ) → a.id.creator ≡ p → made_by p (made ++ a ∷ []) ≡ made_by p made ++ a ∷ []
made_by-own made a p mine =
    filter-append (λ (a : Action). a.id.creator == p) made (a ∷ [])
    ∙ ap (λ (own : List Action). made_by p made ++ own) (cond-true (a.id.creator == p) (a ∷ []) [] (eq-eqb a.id.creator p mine))

pub made_by-other : (made : List Action) (a : Action) (p : ℕ) → a.id.creator ≢ p → made_by p (made ++ a ∷ []) ≡ made_by p made
made_by-other made a p other =
    filter-append (λ (a : Action). a.id.creator == p) made (a ∷ [])
    ∙ ap (λ (own : List Action). made_by p made ++ own) (cond-false (a.id.creator == p) (a ∷ []) [] (ne_eqb a.id.creator p other))
    ∙ append-nil (made_by p made)
