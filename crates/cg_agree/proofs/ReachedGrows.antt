-- At each level that stands the greatest count doesn't fall in a small step, and where nobody is regular there it doesn't rise; so
-- what can become green at a level that is frozen is never more.
use Rattle.std.proofs.Common.{◌≡◌, ℕ, zero, suc, ◌≤◌, ◌<◌, true, false, List, length, length-append, Option, Some, None, IfSome, refl, sym, ap, ◌∙◌, subst, arith, inl, inr, eqb, eq-eqb}
use Rattle.std.proofs.lemmas.Bool.{or_cases, false_from_ne_true}
use Rattle.std.proofs.lemmas.Option.{same_Some}
use Rattle.cg_base.specs.Lists.{at_place}
use Rattle.cg_base.specs.Sets.{has}
use Rattle.cg_base.specs.SetLaws.{has-with_member}
use Rattle.cg_base.specs.MemberLaws.{list_any_in}
use Rattle.cg_group.specs.PlaceLaws.{at_place-append}
use Rattle.cg_model.specs.Chronicle.{Attempt, Chronicle}
use Rattle.cg_model.specs.Fronts.{Front}
use Rattle.cg_model.specs.Looks.{is_regular_at, is_regular_in, ordered_in, attempt_of, attempt_at, top_of}
use Rattle.cg_model.specs.Levels.{count_in, reached_in, reached_at, is_live, reach_at, is_frozen}
use Rattle.cg_model.specs.FactsAttempts.{IsAttempt, LevelsStand, LeftOut}
use Rattle.cg_model.specs.FactsGreens.{InstalledCount}
use Rattle.cg_model.specs.Facts.{Invariant}
use Rattle.cg_model.specs.Played.{AtRest}
use Rattle.cg_model.specs.Small.{Small, small_step}
use Rattle.cg_model.specs.Smalls.{may_make}
use Rattle.cg_agree.proofs.AttemptSteps.{attempt-step}
use Rattle.cg_agree.proofs.AttemptsCame.{Came, Stayed, WasLeft, WasEntered, WasInstalled, WasMade, came}
use Rattle.cg_agree_lemmas.specs.AttemptsGrow.{Grown, attempts-grow}
use Rattle.cg_agree.proofs.CountsMove.{count-move, found-conf}
use Rattle.cg_agree.proofs.DeadKept.{said-attempt}
use Rattle.cg_agree.proofs.InstalledIndexKept.{same-installed}
use Rattle.cg_agree_lemmas.specs.Reach.{greatest-least, greatest-bounds, greatest-grows}
use Rattle.cg_agree_lemmas.specs.ReachFacts.{all-at}
use Rattle.cg_agree_lemmas.specs.ReachWorld.{opened-at, opened-attempt, levels-kept, level-counted, reach-kept, frozen-stays, attempt-is}
use Rattle.cg_agree_lemmas.specs.SpineKept.{LevelsGoOn, start-reach}

-- a level that stands, before a step and behind it
pub record Levelled (c d : Chronicle) (level : ℕ) : Type 0 where
  pub conf : ℕ
  pub a : Attempt
  pub b : Attempt
  pub found : attempt_of c conf ≡ Some a
  pub now : attempt_of d conf ≡ Some b
  pub before : attempt_at c level ≡ a
  pub behind : attempt_at d level ≡ b
  pub grown : Grown a b

pub levelled : (c : Chronicle) (s : Small) (level : ℕ) → LevelsStand c → 0 < level → level ≤ top_of c → Levelled c (small_step c s) level
levelled c s level stands some le =
    let o = opened-at c level stands some le in
    let still = (attempts-grow c s).still o.conf o.attempt o.found in
    let more = levels-kept c s in
    record {
      conf = o.conf;
      a = o.attempt;
      b = still.now;
      found = o.found;
      now = still.found;
      before = opened-attempt c level o;
      behind = attempt-is (small_step c s) level o.conf still.now (ap (λ xs. at_place xs level) more.all ∙ at_place-append c.levels more.more level le ∙ o.place) still.found;
      grown = still.grown;
    }

pub top-grows : (c : Chronicle) (s : Small) → top_of c ≤ top_of (small_step c s)
top-grows c s = let more = levels-kept c s in let e = ap (λ (l : List ℕ). length l) more.all ∙ length-append c.levels more.more in omega (arith, e)

module _ (c : Chronicle) (s : Small) (i : Invariant c) (may : may_make c s ≡ true) (rest : AtRest c s) (out : LeftOut c) where
  module _ (conf : ℕ) (a b : Attempt) (found : attempt_of c conf ≡ Some a) (now : attempt_of (small_step c s) conf ≡ Some b) where
    shape : IsAttempt c conf a
    shape = subst (λ (o : Option Attempt). IfSome o (IsAttempt c conf)) found (i.attempt.attempt_shape conf)

    entered : (q : ℕ) → has a.installed q ≡ true → has a.entered q ≡ true
    entered q is = all-at (has a.entered) a.installed q shape.installed is

    pub reached_in-grows : Grown a b → reached_in c a ≤ reached_in (small_step c s) b
    reached_in-grows grown =
        greatest-grows (count_in c a) (count_in (small_step c s) b) a.installed b.installed
        (λ q is. (grown.installed q is, (count-move c s i may rest out conf a b found now q (entered q is)).0))

    same-found : (x : Attempt) → attempt_of c conf ≡ Some x → x ≡ a
    same-found x e = same_Some x a (sym e ∙ found)

    -- where nobody is regular nobody installs
    none-new : is_live c a ≡ false → (q : ℕ) → has b.installed q ≡ true → has a.installed q ≡ true
    none-new dead q is = at (came c (small_step c s) conf b (attempt-step c s i may) now) where
      at : Came c (small_step c s) conf b → has a.installed q ≡ true
      at (Stayed e) = ap (λ (x : Attempt). has x.installed q) (sym (same-found b e)) ∙ is
      at (WasLeft x e p n here made low) =
          ap (λ (x : Attempt). has x.installed q) (sym (same-found x e)) ∙ sym (same-installed p n q x) ∙ ap (λ (x : Attempt). has x.installed q) (sym made) ∙ is
      at (WasEntered x e p heard r new begins made moved) = ap (λ (x : Attempt). has x.installed q) (sym (same-found x e)) ∙ ap (λ (x : Attempt). has x.installed q) (sym made) ∙ is
      at (WasMade none p heard r new begins greens made moved handed) = absurd (let clash : None ≡ Some a = sym none ∙ found in cc)
      at (WasInstalled p r new ins done here made levels core moved) =
          let same = same-found ins.a (ap (attempt_of c) here ∙ ins.found) in
          elim (or_cases (has ins.a.installed q) (eqb p q) (sym (has-with_member ins.a.installed p q) ∙ ap (λ (x : Attempt). has x.installed q) (sym made) ∙ is)) [
            | inl old ↦ ap (λ (x : Attempt). has x.installed q) (sym same) ∙ old
            | inr mine ↦ absurd (
                let regular : is_regular_in c a.conf p ≡ true = ap (λ k. is_regular_in c k p) (found-conf c conf a found ∙ here) ∙ ap (is_regular_at ins.conf) ins.regular ∙ eq-eqb ins.conf ins.conf refl in
                let live = list_any_in (is_regular_in c a.conf) a.set p (ap (λ (x : Attempt). has x.set p) (sym same) ∙ ins.member) regular in
                let clash : true ≡ false = sym live ∙ dead in cc)
          ]

    pub reached_in-stays : is_live c a ≡ false → reached_in (small_step c s) b ≤ reached_in c a
    reached_in-stays dead = greatest-least (count_in (small_step c s) b) b.installed (reached_in c a) (λ q is.
        let was = none-new dead q is in
        let member = all-at (has a.set) a.entered q shape.entered (entered q was) in
        let out-there : is_regular_in c conf q ≡ false = false_from_ne_true (is_regular_in c conf q)
        (λ regular. (let clash : true ≡ false = sym (list_any_in (is_regular_in c a.conf) a.set q member (ap (λ k. is_regular_in c k q) (found-conf c conf a found) ∙ regular)) ∙ dead in cc)) in
        let count = (count-move c s i may rest out conf a b found now q (entered q was)).1 out-there in
        let most = greatest-bounds (count_in c a) a.installed q was in
        omega (arith, count, most))

  -- ---- levels

  pub reached-still : (level : ℕ) → 0 < level → level ≤ top_of c → is_live c (attempt_at c level) ≡ false → reached_at (small_step c s) level ≤ reached_at c level
  reached-still level some le dead =
      let l = levelled c s level i.attempt.levels_stand some le in
      let most = reached_in-stays l.conf l.a l.b l.found l.now (ap (is_live c) (sym l.before) ∙ dead) in
      let one = ap (reached_in c) l.before in
      let two = ap (reached_in (small_step c s)) l.behind in
      omega (arith, most, one, two)

  -- What some member of a level really has doesn't fall.
  pub reached-grows : (level : ℕ) → level ≤ top_of c → reached_at c level ≤ reached_at (small_step c s) level
  reached-grows zero le = let none : reached_at c 0 ≡ 0 = refl in omega (arith, none)
  reached-grows (suc level) le =
      let l = levelled c s (suc level) i.attempt.levels_stand (omega arith) le in
      let most = reached_in-grows l.conf l.a l.b l.found l.now l.grown in
      let one = ap (reached_in c) l.before in
      let two = ap (reached_in (small_step c s)) l.behind in
      omega (arith, most, one, two)

  pub said-level : (level : ℕ) → 0 < level → level ≤ top_of c → 0 < length (ordered_in c (attempt_at c level).conf)
  said-level level some le =
      let l = levelled c s level i.attempt.levels_stand some le in
      subst (λ k. 0 < length (ordered_in c k)) (sym (ap (λ (x : Attempt). x.conf) l.before ∙ found-conf c l.conf l.a l.found)) (said-attempt c l.conf l.a i l.found)

  module _ (stands : LevelsStand (small_step c s)) (counts : InstalledCount (small_step c s)) where
    pub levels-go_on : LevelsGoOn c (small_step c s)
    levels-go_on = record {
      said = said-level;
      counted = λ level some le. level-counted (small_step c s) level stands counts some (let more = top-grows c s in omega (arith, le, more));
      still = reached-still;
    }

    -- What can become green at a level that is frozen behind the step is a front of what could before.
    pub reach-still : (level : ℕ) → level ≤ top_of c → is_frozen (small_step c s) level ≡ true → Front (reach_at (small_step c s) level) (reach_at c level)
    reach-still zero le frozen = start-reach (small_step c s) (reach_at c 0)
    reach-still (suc level) le frozen =
        reach-kept c s (suc level) i.net.phase_sound i.net.receipts_inside may i.attempt.levels_stand (omega arith) le (said-level (suc level) (omega arith) le) i.green.installed_count
        (levels-go_on.counted (suc level) (omega arith) le) (reached-still (suc level) (omega arith) le) frozen

    pub frozen-still : (level : ℕ) → level ≤ top_of c → is_frozen c level ≡ true → is_frozen (small_step c s) level ≡ true
    frozen-still zero le frozen = refl
    frozen-still (suc level) le frozen =
        frozen-stays c s (suc level) i.net.phase_sound i.net.receipts_inside may i.attempt.levels_stand (omega arith) le (said-level (suc level) (omega arith) le) frozen
