-- What can become green at a level stays a front of what the next one installs, also where a small step opens a level: its first
-- installation is of an attempt from the newest level, whose list covers that level.
use Rattle.std.proofs.Common.{◌≡◌, ℕ, suc, ◌<◌, true, false, List, [], ◌∷◌, ◌++◌, length, length-append, append-nil, filter_map, option_map, Option, Some, IfSome, sym, ap, ◌∙◌, subst, arith, inl, inr, eq-eqb}
use Rattle.std.specs.Prelude.{◌==◌}
use Rattle.std.specs.Option.{option_map_or}
use Rattle.std.specs.List.{cons_option}
use Rattle.std.proofs.lemmas.Bool.{cases_Bool, cases_eq, cond-true, cond-false}
use Rattle.std.proofs.lemmas.Option.{same_Some}
use Rattle.cg_base.specs.Lists.{at_place}
use Rattle.cg_action.specs.declared.action.Action.{Action}
use Rattle.cg_queue.specs.Queue.{names_of}
use Rattle.cg_wire.specs.declared.message.Msg.{Msg}
use Rattle.cg_wire.specs.declared.message.Msg.TheVariants.{Action as ActionMsg, State as StateMsg, GreenItem, RedItem, Cpc}
use Rattle.cg_group.specs.State.{Sent, phase_of}
use Rattle.cg_client.specs.Replica.{Replica}
use Rattle.cg_model.specs.Chronicle.{Attempt, Chronicle}
use Rattle.cg_model.specs.Fronts.{Front, IsSomeWith, When}
use Rattle.cg_model.specs.Looks.{greens_of, conf_at, ordered_in, attempt_of, attempt_at, top_of, installation}
use Rattle.cg_model.specs.Talk.{act_in, action_in, acts_in}
use Rattle.cg_model.specs.Levels.{reach_at, line_at, bound_at, is_installed, is_frozen}
use Rattle.cg_model.specs.FactsReplica.{booked, AreBooked, is_attempting, own_record}
use Rattle.cg_model.specs.FactsAttempts.{HoldsParts, LevelsStand, LeftOut}
use Rattle.cg_model.specs.FactsGreens.{InstalledCount, Spine, Covers}
use Rattle.cg_model.specs.Facts.{Invariant}
use Rattle.cg_model.specs.Played.{AtRest}
use Rattle.cg_model.specs.Small.{Small, small_step, with_installer}
use Rattle.cg_model.specs.Smalls.{may_make}
use Rattle.cg_agree.proofs.AttemptSteps.{Installing, AttemptStep, Same, Goes, Begun, Installed, attempt-step}
use Rattle.cg_agree.proofs.AttemptsCame.{ins-conf}
use Rattle.cg_agree_lemmas.specs.AttemptsTurn.{at_conf, installing-now}
use Rattle.cg_agree.proofs.BookedParts.{booked-left, booked-both}
use Rattle.cg_agree_lemmas.specs.FrontFacts.{Front-trans, Front-append, Front-take}
use Rattle.cg_agree.proofs.LevelsOpen.{first-install, place-last}
use Rattle.cg_agree.proofs.ReachedGrows.{reach-still, frozen-still}
use Rattle.cg_agree_lemmas.specs.ReachWorld.{level-kept, when-is, attempt-is}
use Rattle.cg_agree_lemmas.specs.SameAttempt.{same-installation}

-- ---- actions of their names

pub booked-front : (c : Chronicle) (xs ys : List Action) → Front xs ys → AreBooked c ys → AreBooked c xs
booked-front c [] ys front are = tt
booked-front c (x ∷ xs) [] front are = absurd front
booked-front c (x ∷ xs) (y ∷ ys) front are = (subst (λ (a : Action). booked c a.id ≡ Some a) (sym front.0) are.0, booked-front c xs ys front.1 are.1)

-- fronts by name are fronts
pub front-named : (c : Chronicle) (xs ys : List Action) → AreBooked c xs → AreBooked c ys → Front (names_of xs) (names_of ys) → Front xs ys
front-named c [] ys one two front = tt
front-named c (x ∷ xs) [] one two front = absurd front
front-named c (x ∷ xs) (y ∷ ys) one two front = (same_Some x y (sym one.0 ∙ ap (booked c) front.0 ∙ two.0), front-named c xs ys one.1 two.1 front.1)

-- the actions of a talk are among the actions in its messages
acts-booked : (c : Chronicle) (list : List (Sent Msg)) → AreBooked c (filter_map (λ s. action_in s.message) list) → AreBooked c (acts_in list)
acts-booked c [] are = tt
acts-booked c (s ∷ list) are = at s.message are (λ rest. acts-booked c list rest) where
  at : (m : Msg) → AreBooked c (cons_option (action_in m) (filter_map (λ s. action_in s.message) list)) → (AreBooked c (filter_map (λ s. action_in s.message) list) → AreBooked c (acts_in list)) →
      AreBooked c (cons_option (act_in m) (acts_in list))
  at (ActionMsg a) are rest = (are.0, rest are.1)
  at (GreenItem place a) are rest = rest are.1
  at (RedItem a) are rest = rest are.1
  at (StateMsg x) are rest = rest are
  at (Cpc id k) are rest = rest are

-- ---- a level is opened

-- the first installation of an attempt
pub record Opens (c d : Chronicle) : Type 0 where
  pub p : ℕ
  pub old : Replica
  pub installing : Installing c p old
  pub attempting : is_attempting old.state ≡ true
  pub none : is_installed installing.a ≡ false
  pub levels : d.levels ≡ c.levels ++ installing.conf ∷ []
  pub found : attempt_of d installing.conf ≡ Some (with_installer p installing.a)

pub data TopMove (c d : Chronicle) : Type 0 where
  Stays : (same : d.levels ≡ c.levels) → TopMove c d
  Rises : (opens : Opens c d) → TopMove c d

pub top-move : (c d : Chronicle) → AttemptStep c d → TopMove c d
top-move c d (Same attempts levels) = Stays levels
top-move c d (Goes p n attempts levels low) = Stays levels
top-move c d (Begun p k heard r new end id begun up greens attempts levels beside moved handed) = Stays levels
top-move c d (Installed p r new ins done attempts levels core moved) =
    let found : attempt_of c ins.a.conf ≡ Some ins.a = ap (attempt_of c) (ins-conf c p r ins) ∙ ins.found in
    let test : option_map_or is_installed (attempt_of c ins.a.conf) true ≡ is_installed ins.a = ap (λ (o : Option Attempt). option_map_or is_installed o true) found in
    elim (cases_Bool (is_installed ins.a)) [
      | inl before ↦ Stays (levels ∙ ap (λ xs. c.levels ++ xs) (cond-true (option_map_or is_installed (attempt_of c ins.a.conf) true) [] (ins.a.conf ∷ []) (test ∙ before)) ∙ append-nil c.levels)
      | inr none ↦ Rises (record {
        p = p;
        old = r;
        installing = ins;
        attempting = done.before;
        none = none;
        levels = levels ∙ ap (λ xs. c.levels ++ xs) (cond-false (option_map_or is_installed (attempt_of c ins.a.conf) true) [] (ins.a.conf ∷ []) (test ∙ none) ∙ ap (λ k. k ∷ []) (ins-conf c p r ins));
        found = ap (λ xs. at_conf xs ins.conf) attempts ∙ installing-now c.attempts p (own_record ins.a p) ins.conf
            ∙ cond-true (ins.conf == ins.a.conf) (option_map (with_installer p) (at_conf c.attempts ins.conf)) (at_conf c.attempts ins.conf) (eq-eqb ins.conf ins.a.conf (sym (ins-conf c p r ins)))
            ∙ ap (option_map (with_installer p)) ins.found;
      })
    ]

-- ---- what it installs covers the newest level

-- who is about to install an attempt holds its parts
pub held-parts : (c : Chronicle) (i : Invariant c) (p : ℕ) (r : Replica) (ins : Installing c p r) → is_attempting r.state ≡ true → HoldsParts r.held (greens_of c p) ins.a
held-parts c i p r ins attempting =
    let one = when-is (is_attempting r.state) (IsSomeWith (attempt_of c (conf_at (phase_of c.world.group p))) (HoldsParts r.held (greens_of c p))) attempting
    (subst (λ (o : Option Replica). IfSome o (λ r. When (is_attempting r.state) (IsSomeWith (attempt_of c (conf_at (phase_of c.world.group p))) (HoldsParts r.held (greens_of c p))))) ins.up (i.attempt.attempt_list p)) in
    subst (λ (o : Option Attempt). IsSomeWith o (HoldsParts r.held (greens_of c p))) (ap (λ x. attempt_of c (conf_at x)) ins.regular ∙ ins.found) one

module _ (c : Chronicle) (d : Chronicle) (i : Invariant c) (o : Opens c d) where
  pub from-top : top_of c ≡ o.installing.a.from
  from-top = first-install c i o.p o.old o.installing o.none

  holds : HoldsParts o.old.held (greens_of c o.p) o.installing.a
  holds = held-parts c i o.p o.old o.installing o.attempting

  -- the line of the newest level is of actions of their names
  line-booked : AreBooked c (line_at c (top_of c))
  line-booked =
      let ins = o.installing in
      let t = attempt_at c (top_of c) in
      let begins = subst (λ (o' : Option Replica). IfSome o' (λ r. Front (installation (attempt_at c r.held.prim.index)) (greens_of c o.p))) ins.up (i.green.begins_with.memory o.p) in
      let front : Front (installation t) (greens_of c o.p) = subst (λ n. Front (installation (attempt_at c n)) (greens_of c o.p)) (ins.index ∙ sym from-top) begins in
      booked-both c (installation t) (acts_in (ordered_in c t.conf)) (booked-front c (installation t) (greens_of c o.p) front (i.replica.made_once.in_greens o.p))
      (acts-booked c (ordered_in c t.conf) (i.replica.made_once.in_messages t.conf))

  parts-booked : AreBooked c (o.installing.a.greens ++ o.installing.a.yellow)
  parts-booked =
      let ins = o.installing in
      booked-both c ins.a.greens ins.a.yellow (subst (AreBooked c) holds.greens (i.replica.made_once.in_greens o.p))
      (booked-left c ins.a.yellow ins.a.reds (subst (λ (o' : Option Attempt). IfSome o' (λ a. AreBooked c (a.yellow ++ a.reds))) ins.found (i.replica.origins.parts ins.conf)))

  covers : Covers c (names_of (o.installing.a.greens ++ o.installing.a.yellow))
  covers = subst (λ (o' : Option Attempt). IfSome o' (λ a. a.from ≡ top_of c → Covers c (names_of (a.greens ++ a.yellow)))) o.installing.found (i.green.coverage.attempts o.installing.conf) (sym from-top)

  -- What could become green at the newest level is a front of what is installed.
  pub reach-installed : Front (reach_at c (top_of c)) (installation o.installing.a)
  reach-installed =
      let ins = o.installing in
      let reach = reach_at c (top_of c) in
      let are = booked-front c reach (line_at c (top_of c)) (Front-take (bound_at c (top_of c)) (line_at c (top_of c))) line-booked in
      Front-trans reach (ins.a.greens ++ ins.a.yellow) (installation ins.a) (front-named c reach (ins.a.greens ++ ins.a.yellow) are parts-booked covers.1)
      (Front-append (ins.a.greens ++ ins.a.yellow) ins.a.reds)

  pub top-frozen : is_frozen c (top_of c) ≡ true
  top-frozen = covers.0

  -- and its attempt is that of the new level
  pub opened-now : attempt_at d (suc (top_of c)) ≡ with_installer o.p o.installing.a
  opened-now =
      attempt-is d (suc (top_of c)) o.installing.conf (with_installer o.p o.installing.a)
      (ap (λ xs. at_place xs (suc (top_of c))) o.levels ∙ place-last c.levels o.installing.conf) o.found

  pub top-now : top_of d ≡ suc (top_of c)
  top-now = let e = ap (λ (l : List ℕ). length l) o.levels ∙ length-append c.levels (o.installing.conf ∷ []) in omega (arith, e)

-- The spine is kept by each small step.
pub spine-now : (c : Chronicle) (s : Small) → Invariant c → may_make c s ≡ true → AtRest c s → LeftOut c → LevelsStand (small_step c s) → InstalledCount (small_step c s) → Spine (small_step c s)
spine-now c s i may rest out stands counts level lt = at (top-move c (small_step c s) (attempt-step c s i may)) where
  -- of a level below the newest one
  low : level < top_of c → Front (reach_at (small_step c s) level) (installation (attempt_at (small_step c s) (suc level))) × (is_frozen (small_step c s) level ≡ true)
  low below =
      let old = i.green.spine level below in
      let frozen = frozen-still c s i may rest out stands counts level (omega arith) old.1 in
      let shrinks = reach-still c s i may rest out stands counts level (omega arith) frozen in
      let next = same-installation (attempt_at c (suc level)) (attempt_at (small_step c s) (suc level)) (level-kept c s (suc level) i.attempt.levels_stand (omega arith) (omega arith)) in
      (subst (Front (reach_at (small_step c s) level)) (sym next) (Front-trans (reach_at (small_step c s) level) (reach_at c level) (installation (attempt_at c (suc level))) shrinks old.0), frozen)

  at : TopMove c (small_step c s) → Front (reach_at (small_step c s) level) (installation (attempt_at (small_step c s) (suc level))) × (is_frozen (small_step c s) level ≡ true)
  at (Stays same) = low (let e = ap (λ (l : List ℕ). length l) same in omega (arith, e, lt))
  at (Rises o) =
      let top = top-now c (small_step c s) i o in
      elim (cases_eq level (top_of c)) [
        | inr apart ↦ low (omega (arith, top, lt, apart))
        | inl same ↦ subst (λ n. Front (reach_at (small_step c s) n) (installation (attempt_at (small_step c s) (suc n))) × (is_frozen (small_step c s) n ≡ true)) (sym same)
            (let frozen = frozen-still c s i may rest out stands counts (top_of c) (omega arith) (top-frozen c (small_step c s) i o) in
            let shrinks = reach-still c s i may rest out stands counts (top_of c) (omega arith) frozen in
            let next = ap installation (opened-now c (small_step c s) i o) in (
              subst (Front (reach_at (small_step c s) (top_of c))) (sym next)
                  (Front-trans (reach_at (small_step c s) (top_of c)) (reach_at c (top_of c)) (installation o.installing.a) shrinks (reach-installed c (small_step c s) i o)),
              frozen,
            ))
      ]
