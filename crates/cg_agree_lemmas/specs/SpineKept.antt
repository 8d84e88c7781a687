-- What can become green at a level stays a front of what the next one installs, in each small step that opens no level.
use Rattle.std.proofs.Common.{◌≡◌, ℕ, zero, suc, ◌≤◌, ◌<◌, false, List, [], length, take, refl, sym, subst}
use Rattle.cg_action.specs.declared.action.Action.{Action}
use Rattle.cg_group.specs.State.{configuration}
use Rattle.cg_model.specs.Chronicle.{Chronicle}
use Rattle.cg_model.specs.Fronts.{Front}
use Rattle.cg_model.specs.Looks.{attempt_at, top_of, ordered_in}
use Rattle.cg_model.specs.Levels.{bound_at, line_at, reach_at, reached_at, is_live}
use Rattle.cg_agree_lemmas.specs.ReachFacts.{AreCounted}

none-front : (n : ℕ) (ys : List Action) → Front (take n []) ys
none-front zero ys = tt
none-front (suc n) ys = tt

-- nothing can become green at the start
pub start-line : (c : Chronicle) → line_at c 0 ≡ []
unfolding configuration
start-line c = refl

pub start-reach : (c : Chronicle) (ys : List Action) → Front (reach_at c 0) ys
start-reach c ys = subst (λ xs. Front (take (bound_at c 0) xs) ys) (sym (start-line c)) (none-front (bound_at c 0) ys)

-- what is said of each level that stands: something was said in its configuration, its counts are right behind the step, and they
-- stay where nobody is regular there
pub record LevelsGoOn (c d : Chronicle) : Type 0 where
  pub said : (level : ℕ) → 0 < level → level ≤ top_of c → 0 < length (ordered_in c (attempt_at c level).conf)
  pub counted : (level : ℕ) → 0 < level → level ≤ top_of c → AreCounted d (attempt_at d level)
  pub still : (level : ℕ) → 0 < level → level ≤ top_of c → is_live c (attempt_at c level) ≡ false → reached_at d level ≤ reached_at c level
