-- What covers a level goes on covering it in each small step, where what can become green there only shrinks.
use Rattle.std.proofs.Common.{◌≡◌, ℕ, zero, suc, ◌≤◌, ◌<◌, true, ◌||◌, List, [], take, length, refl, sym, ap, ◌∙◌, subst, arith, eq-eqb, eqb-true}
use Rattle.std.specs.Prelude.{◌==◌}
use Rattle.cg_base.specs.declared.action_id.ActionId.{ActionId}
use Rattle.cg_base.specs.FindLaws.{found_passes}
use Rattle.cg_action.specs.declared.action.Action.{Action}
use Rattle.cg_queue.specs.Queue.{names_of}
use Rattle.cg_model.specs.Chronicle.{Attempt, Chronicle}
use Rattle.cg_model.specs.Fronts.{Front}
use Rattle.cg_model.specs.Looks.{attempt_at, ordered_in, top_of}
use Rattle.cg_model.specs.Levels.{bound_at, reach_at, is_frozen, is_frozen_in}
use Rattle.cg_model.specs.FactsGreens.{CoversLevel}
use Rattle.cg_model.specs.Facts.{Invariant}
use Rattle.cg_model.specs.Small.{Small, small_step}
use Rattle.cg_model.specs.Smalls.{may_make}
use Rattle.cg_agree_lemmas.specs.FrontFacts.{Front-trans, Front-map}
use Rattle.cg_agree_lemmas.specs.ReachWorld.{opened-at, opened-attempt, frozen-stays}
use Rattle.cg_agree_lemmas.specs.SpineKept.{start-line}
use Rattle.cg_agree.proofs.DeadKept.{said-attempt}

-- at each level that stood, what can become green behind a step where somebody is out could become green before
abbrev pub ReachShrinks : Chronicle → Chronicle → Type 0
ReachShrinks c d = (level : ℕ) → level ≤ top_of c → is_frozen d level ≡ true → Front (reach_at d level) (reach_at c level)

none-front : (n : ℕ) (ys : List ActionId) → Front (names_of (take n [])) ys
none-front zero ys = tt
none-front (suc n) ys = tt

-- at the start nothing can become green
pub start-covers : (c : Chronicle) (names : List ActionId) → CoversLevel c 0 names
start-covers c names = (
  ap (λ b. b || is_frozen_in c (attempt_at c 0).conf) (eq-eqb 0 0 refl),
  subst (λ xs. Front (names_of (take (bound_at c 0) xs)) names) (sym (start-line c)) (none-front (bound_at c 0) names),
)

-- what covers is covered by what it is a front of
pub covers-more : (c : Chronicle) (level : ℕ) (xs ys : List ActionId) → Front xs ys → CoversLevel c level xs → CoversLevel c level ys
covers-more c level xs ys more is = (is.0, Front-trans (names_of (reach_at c level)) xs ys is.1 more)

-- something was said in the configuration of a level that stands
pub level-said : (c : Chronicle) → Invariant c → (level : ℕ) → 0 < level → level ≤ top_of c → 0 < length (ordered_in c (attempt_at c level).conf)
level-said c i level some le =
    let o = opened-at c level i.attempt.levels_stand some le in
    let conf : (attempt_at c level).conf ≡ o.conf = ap (λ (a : Attempt). a.conf) (opened-attempt c level o)
    ∙ eqb-true o.attempt.conf o.conf (found_passes (λ (a : Attempt). a.conf == o.conf) c.attempts o.attempt o.found) in
    subst (λ k. 0 < length (ordered_in c k)) (sym conf) (said-attempt c o.conf o.attempt i o.found)

pub covers-still : (c : Chronicle) (s : Small) → Invariant c → may_make c s ≡ true → ReachShrinks c (small_step c s) → (level : ℕ) → level ≤ top_of c → (names : List ActionId) →
    CoversLevel c level names → CoversLevel (small_step c s) level names
covers-still c s i may shrinks zero le names is = start-covers (small_step c s) names
covers-still c s i may shrinks (suc level) le names is =
    let d = small_step c s in
    let frozen = frozen-stays c s (suc level) i.net.phase_sound i.net.receipts_inside may i.attempt.levels_stand (omega arith) le (level-said c i (suc level) (omega arith) le) is.0 in (
      frozen,
      Front-trans (names_of (reach_at d (suc level))) (names_of (reach_at c (suc level))) names
          (Front-map (λ (a : Action). a.id) (reach_at d (suc level)) (reach_at c (suc level)) (shrinks (suc level) le frozen)) is.1,
    )
