-- A member that is out of a level's configuration freezes the level, and what can become green there is a front of the installation and
-- the actions that all who are out have received.
use Rattle.std.proofs.Common.{◌≡◌, ℕ, ◌+◌, ◌≤◌, ◌<◌, true, false, ◌||◌, List, ◌++◌, length, take, sym, ap, ◌∙◌, ⊎_elim, subst, arith, length-append}
use Rattle.std.specs.List.{list_all}
use Rattle.std.proofs.lemmas.Bool.{cases_Bool, cond_both, or_cases, or_right, not_from_false}
use Rattle.cg_action.specs.declared.action.Action.{Action}
use Rattle.cg_group.specs.State.{has_received}
use Rattle.cg_model.specs.Chronicle.{Attempt, Chronicle}
use Rattle.cg_model.specs.Fronts.{Front}
use Rattle.cg_model.specs.Looks.{conf_of, members_in, ordered_in, is_regular_in, is_member, received_by_all, is_received_outside, received_outside, top_of, attempt_at, installation}
use Rattle.cg_model.specs.Talk.{acts_in}
use Rattle.cg_model.specs.Levels.{reached_in, is_live, bound_in, reach_at, is_frozen, is_frozen_in}
use Rattle.cg_agree_lemmas.specs.FrontFacts.{Front-behind, Front-take}
use Rattle.cg_agree_lemmas.specs.Reach.{passes, acts-front, acts-more, take-front}
use Rattle.cg_agree_lemmas.specs.ReachFacts.{AreCounted, all-at, all-outside, reached-received, line_in}
use Rattle.cg_agree_lemmas.specs.ReachWorld.{level-counted}
use Rattle.cg_model.specs.FactsAttempts.{LevelsStand}
use Rattle.cg_model.specs.FactsGreens.{InstalledCount}

module _ (c : Chronicle) (conf p : ℕ) (member : is_member c conf p ≡ true) (out : is_regular_in c conf p ≡ false) where
  -- who is out freezes the configuration
  pub out-frozen : is_frozen_in c conf ≡ true
  out-frozen = not_from_false (list_all (is_regular_in c conf) (members_in c conf)) (⊎_elim
      (λ all. absurd (let clash : true ≡ false = sym (all-at (is_regular_in c conf) (members_in c conf) p all member) ∙ out in cc))
      (λ no. no) (cases_Bool (list_all (is_regular_in c conf) (members_in c conf))))

  pub level-frozen : (level : ℕ) → (attempt_at c level).conf ≡ conf → is_frozen c level ≡ true
  level-frozen level here = or_right _ (is_frozen_in c (attempt_at c level).conf) (ap (is_frozen_in c) here ∙ out-frozen)

  -- it has received each place that all who are out have
  pub out-received : (k : ℕ) → 0 < k → k ≤ received_outside c conf → has_received (conf_of c conf) p k ≡ true
  out-received k above within = ⊎_elim
      (λ regular. absurd (let clash : true ≡ false = sym regular ∙ out in cc))
      (λ received. received)
      (or_cases (is_regular_in c conf p) (has_received (conf_of c conf) p k)
      (all-at (λ q. is_regular_in c conf q || has_received (conf_of c conf) q k) (members_in c conf) p
      (passes (is_received_outside c conf) (length (ordered_in c conf)) k above within) member))

-- what all who are out have received of an attempt's line
abbrev pub line_outside : Chronicle → Attempt → List Action
line_outside c a = installation a ++ acts_in (take (received_outside c a.conf) (ordered_in c a.conf))

-- nobody reaches further
bound-outside : (c : Chronicle) (a : Attempt) → AreCounted c a → bound_in c a ≤ length (line_outside c a)
bound-outside c a counted =
    let far = reached-received c a counted in
    let more = acts-more (received_by_all c a.conf) (received_outside c a.conf) (ordered_in c a.conf) (all-outside c a.conf) in
    let whole = length-append (installation a) (acts_in (take (received_outside c a.conf) (ordered_in c a.conf))) in
    cond_both (is_live c a) (length (installation a) + length (acts_in (take (received_outside c a.conf) (ordered_in c a.conf)))) (reached_in c a)
    (λ n. n ≤ length (line_outside c a)) (λ y. omega arith) (λ n. omega arith)

reach-in : (c : Chronicle) (a : Attempt) → AreCounted c a → Front (take (bound_in c a) (line_in c a)) (line_outside c a)
reach-in c a counted =
    let front : Front (line_outside c a) (line_in c a) =
    Front-behind (installation a) (acts_in (take (received_outside c a.conf) (ordered_in c a.conf))) (acts_in (ordered_in c a.conf))
    (acts-front (take (received_outside c a.conf) (ordered_in c a.conf)) (ordered_in c a.conf) (Front-take (received_outside c a.conf) (ordered_in c a.conf))) in
    subst (λ xs. Front xs (line_outside c a)) (sym (take-front (bound_in c a) (line_outside c a) (line_in c a) front (bound-outside c a counted)))
    (Front-take (bound_in c a) (line_outside c a))

-- What can become green at a level is a front of what was installed there and of the actions that all who are out have received.
pub reach-outside : (c : Chronicle) (level : ℕ) → LevelsStand c → InstalledCount c → 0 < level → level ≤ top_of c → Front (reach_at c level) (line_outside c (attempt_at c level))
reach-outside c level stands counts some le = reach-in c (attempt_at c level) (level-counted c level stands counts some le)
