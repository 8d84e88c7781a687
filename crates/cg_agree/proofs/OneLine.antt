-- The greens of a member of a level are a front of the newest level's line.
use Rattle.std.proofs.Common.{◌≡◌, ℕ, suc, ◌+◌, ◌-◌, ◌≤◌, ◌<◌, List, ◌++◌, length, take, sym, ⊎_elim, subst, arith}
use Rattle.std.proofs.lemmas.Bool.{cases_eq, cases_lt}
use Rattle.cg_action.specs.declared.action.Action.{Action}
use Rattle.cg_model.specs.Chronicle.{Chronicle}
use Rattle.cg_model.specs.Fronts.{Front}
use Rattle.cg_model.specs.Looks.{attempt_at, top_of, installation, ordered_in}
use Rattle.cg_model.specs.Talk.{acts_in}
use Rattle.cg_model.specs.Levels.{bound_at, line_at, reach_at, reached_at}
use Rattle.cg_model.specs.FactsAttempts.{LevelsStand}
use Rattle.cg_model.specs.FactsGreens.{InstalledCount, Spine}
use Rattle.cg_agree_lemmas.specs.FrontFacts.{Front-trans, Front-takes, Front-append, Front-behind, Front-length, take-Front, Front-take}
use Rattle.cg_agree_lemmas.specs.Reach.{acts-front}
use Rattle.cg_agree_lemmas.specs.ReachWorld.{act-bound, chain-installed}

-- these greens are a front of the newest level's line, and no more than some member of it really has
pub record IsOnTop (c : Chronicle) (greens : List Action) : Type 0 where
  pub front : Front greens (line_at c (top_of c))
  pub count : length greens ≤ reached_at c (top_of c)

-- a front of the line that is no longer than what some member has is one of what can become green
pub reached-front : (c : Chronicle) (level : ℕ) (greens : List Action) → LevelsStand c → InstalledCount c → 0 < level → level ≤ top_of c →
    Front greens (line_at c level) → length greens ≤ reached_at c level → Front greens (reach_at c level)
reached-front c level greens stands counts some le front count =
    let bounds = act-bound c level stands counts some le in
    let mid = bounds.1 in
    subst (λ xs. Front xs (reach_at c level)) (sym (take-Front greens (line_at c level) front)) (Front-takes (length greens) (bound_at c level) (line_at c level) (omega arith))

-- a front of the newest installation is on top
pub installed-on_top : (c : Chronicle) (greens : List Action) → LevelsStand c → InstalledCount c → 0 < top_of c →
    Front greens (installation (attempt_at c (top_of c))) → IsOnTop c greens
installed-on_top c greens stands counts some front =
    let a = attempt_at c (top_of c) in
    let bounds = act-bound c (top_of c) stands counts some (omega arith) in
    let low = bounds.0 in
    let short = Front-length greens (installation a) front in
    record {
      front = Front-trans greens (installation a) (line_at c (top_of c)) front (Front-append (installation a) (acts_in (ordered_in c a.conf)));
      count = omega arith;
    }

-- What is a front of a level's line, and no longer than what some member of it really has, is on top.
pub level-on_top : (c : Chronicle) (level : ℕ) (greens : List Action) → LevelsStand c → InstalledCount c → Spine c → 0 < level → level ≤ top_of c →
    Front greens (line_at c level) → length greens ≤ reached_at c level → IsOnTop c greens
level-on_top c level greens stands counts spine some le front count = ⊎_elim
    (λ (e : level ≡ top_of c). record {
      front = subst (λ k. Front greens (line_at c k)) e front;
      count = subst (λ k. length greens ≤ reached_at c k) e count;
    })
    (λ (ne : level ≡ top_of c → ⊥).
    let below = lower ne in
    let more = top_of c - suc level in
    let e : suc (level + more) ≡ top_of c = omega arith in
    let far = chain-installed c level more stands counts spine (omega arith) in
    installed-on_top c greens stands counts (omega arith)
    (Front-trans greens (reach_at c level) (installation (attempt_at c (top_of c))) (reached-front c level greens stands counts some le front count)
    (subst (λ k. Front (reach_at c level) (installation (attempt_at c k))) e far)))
    (cases_eq level (top_of c)) where
      lower : (level ≡ top_of c → ⊥) → level < top_of c
      lower ne = ⊎_elim (λ (lt : level < top_of c). lt) (λ (ge : top_of c ≤ level). absurd (ne (omega arith))) (cases_lt level (top_of c))

-- a member's greens, its installation and what it was handed, are a front of its level's line
pub handed-front : (c : Chronicle) (level n : ℕ) (greens : List Action) →
    greens ≡ installation (attempt_at c level) ++ acts_in (take n (ordered_in c (attempt_at c level).conf)) → Front greens (line_at c level)
handed-front c level n greens e =
    let a = attempt_at c level in
    subst (λ xs. Front xs (line_at c level)) (sym e)
    (Front-behind (installation a) (acts_in (take n (ordered_in c a.conf))) (acts_in (ordered_in c a.conf))
    (acts-front (take n (ordered_in c a.conf)) (ordered_in c a.conf) (Front-take n (ordered_in c a.conf))))
