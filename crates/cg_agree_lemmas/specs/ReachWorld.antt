-- At each level that stands what can become green never grows in a small step, once somebody is out there.
use Rattle.std.proofs.Common.{◌≡◌, ℕ, zero, suc, ◌+◌, ◌≤◌, ◌<◌, Bool, true, false, ◌||◌, List, [], ◌++◌, Option, Some, None, IfSome, length, take, refl, sym, ap, ◌∙◌, subst, arith, eqb-true, append-nil}
use Rattle.std.specs.Prelude.{◌==◌, option_and_then}
use Rattle.std.specs.Option.{option_map_or}
use Rattle.std.proofs.lemmas.Bool.{cond_both, ne_eqb}
use Rattle.cg_base.specs.Lists.{at_place}
use Rattle.cg_base.specs.Sets.{has}
use Rattle.cg_base.specs.FindLaws.{found_passes}
use Rattle.cg_client.specs.Turn.{Turn, begin}
use Rattle.cg_client.specs.Requests.{settle}
use Rattle.cg_group.specs.PlaceLaws.{at_place-append}
use Rattle.cg_model.specs.World.{NodeState, Up, Down, node_of, replica_of}
use Rattle.cg_model.specs.Chronicle.{Attempt, Chronicle}
use Rattle.cg_model.specs.Fronts.{Front, When, IsSomeWith}
use Rattle.cg_model.specs.Looks.{attempt_of, attempt_at, no_attempt, top_of, installation, ordered_in, snapshot_of, received_by_all}
use Rattle.cg_model.specs.Talk.{acts_in}
use Rattle.cg_model.specs.Levels.{count_in, is_live, bound_at, line_at, reach_at, is_frozen, is_frozen_in, is_installed, reached_at}
use Rattle.cg_model.specs.FactsNet.{PhaseSound, ReceiptsInside}
use Rattle.cg_model.specs.FactsReplica.{has_installed}
use Rattle.cg_model.specs.FactsAttempts.{LevelsStand}
use Rattle.cg_model.specs.FactsGreens.{InstalledCount, Spine}
use Rattle.cg_model.specs.Small.{Small, Starts, Makes, Enters, Orders, Receives, Hands, Leaves, Asks, Settles, Commits, Crashes, Recovers, Copies, Joins, small_step, opened_by, is_installation, turning_as, turning, commit_as, crash_as, recover_as, copy_as, join_with, coming, take_newest, handed_next, take_next, leaving, take_parting, take_request}
use Rattle.cg_model.specs.Smalls.{may_make}
use Rattle.cg_agree_lemmas.specs.FrontFacts.{Front-trans, Front-takes, Front-append, take-Front}
use Rattle.cg_agree_lemmas.specs.ReachFacts.{AreCounted, reach-shrinks, frozen-kept, reached-bound, installed-reached, bound-line}
use Rattle.cg_agree_lemmas.specs.ReachSteps.{goes_on-kept}
use Rattle.cg_agree_lemmas.specs.SameAttempt.{SameAttempt, IsStill, same-installation, attempts-kept}

-- ---- levels

-- a level that stands, with the attempt that opened it
pub record Opened (c : Chronicle) (level : ℕ) : Type 0 where
  pub conf : ℕ
  pub attempt : Attempt
  pub place : at_place c.levels level ≡ Some conf
  pub found : attempt_of c conf ≡ Some attempt
  pub installed : is_installed attempt ≡ true

pub opened-at : (c : Chronicle) (level : ℕ) → LevelsStand c → 0 < level → level ≤ top_of c → Opened c level
opened-at c zero stands some le = absurd (omega arith)
opened-at c (suc level) stands some le = at (at_place c.levels (suc level)) refl (stands.opened level (omega arith)) where
  with_attempt : (conf : ℕ) (o : Option Attempt) → at_place c.levels (suc level) ≡ Some conf → attempt_of c conf ≡ o →
      IsSomeWith o (λ a. (a.from ≡ level) × (is_installed a ≡ true)) → Opened c (suc level)
  with_attempt conf None place e is = absurd is
  with_attempt conf (Some a) place e is = record { conf = conf; attempt = a; place = place; found = e; installed = is.1 }

  at : (o : Option ℕ) → at_place c.levels (suc level) ≡ o →
      IsSomeWith o (λ conf. IsSomeWith (attempt_of c conf) (λ a. (a.from ≡ level) × (is_installed a ≡ true))) → Opened c (suc level)
  at None e is = absurd is
  at (Some conf) e is = with_attempt conf (attempt_of c conf) e refl is

pub attempt-is : (c : Chronicle) (level conf : ℕ) (a : Attempt) → at_place c.levels level ≡ Some conf → attempt_of c conf ≡ Some a → attempt_at c level ≡ a
attempt-is c level conf a place found =
    ap (λ o. option_map_or (λ a. a) (option_and_then (attempt_of c) o) (no_attempt c.start)) place
    ∙ ap (λ o. option_map_or (λ a. a) o (no_attempt c.start)) found

pub opened-attempt : (c : Chronicle) (level : ℕ) (o : Opened c level) → attempt_at c level ≡ o.attempt
opened-attempt c level o = attempt-is c level o.conf o.attempt o.place o.found

conf-found : (attempts : List Attempt) (c : Chronicle) (conf : ℕ) (a : Attempt) → attempt_of c conf ≡ Some a → a.conf ≡ conf
conf-found attempts c conf a e = eqb-true a.conf conf (found_passes (λ (a : Attempt). a.conf == conf) c.attempts a e)

-- the levels go on at their end
pub record MoreLevels (olds news : List ℕ) : Type 0 where
  pub more : List ℕ
  pub all : news ≡ olds ++ more

same-levels : (levels : List ℕ) → MoreLevels levels levels
same-levels levels = record { more = []; all = sym (append-nil levels) }

more-turning_as : (c : Chronicle) (p : ℕ) (part : Turn → Turn) (life : NodeState) → MoreLevels c.levels (turning_as c p part life).levels
more-turning_as c p part (Up r disk) =
    let t = part (begin r) in
    cond_both (is_installation r.state t.replica.state) (c.levels ++ opened_by c t.replica.held.vulnerable) c.levels (MoreLevels c.levels)
    (λ y. record { more = opened_by c t.replica.held.vulnerable; all = refl }) (λ n. same-levels c.levels)
more-turning_as c p part (Down disk green) = same-levels c.levels

at-some : {X : Type 0} (o : Option X) (change : X → Chronicle) (c : Chronicle) → ((x : X) → MoreLevels c.levels (change x).levels) → MoreLevels c.levels (option_map_or change o c).levels
at-some None change c each = same-levels c.levels
at-some (Some x) change c each = each x

more-turning : (c : Chronicle) (p : ℕ) (part : Turn → Turn) → MoreLevels c.levels (turning c p part).levels
more-turning c p part = at-some (node_of c.world p) (λ s. turning_as c p part s.life) c (λ s. more-turning_as c p part s.life)

same-commit_as : (c : Chronicle) (p : ℕ) (life : NodeState) → MoreLevels c.levels (commit_as c p life).levels
same-commit_as c p (Up r disk) = same-levels c.levels
same-commit_as c p (Down disk green) = same-levels c.levels

same-crash_as : (c : Chronicle) (p : ℕ) (life : NodeState) → MoreLevels c.levels (crash_as c p life).levels
same-crash_as c p (Up r disk) = same-levels c.levels
same-crash_as c p (Down disk green) = same-levels c.levels

same-recover_as : (c : Chronicle) (life : NodeState) → MoreLevels c.levels (recover_as c life).levels
same-recover_as c (Up r disk) = same-levels c.levels
same-recover_as c (Down disk green) = same-levels c.levels

pub levels-kept : (c : Chronicle) (s : Small) → MoreLevels c.levels (small_step c s).levels
unfolding small_step
levels-kept c (Starts set) = same-levels c.levels
levels-kept c (Makes set) = same-levels c.levels
levels-kept c (Enters p) = more-turning (coming c p) p (take_newest c.world.group)
levels-kept c (Orders p) = same-levels c.levels
levels-kept c (Receives p place) = same-levels c.levels
levels-kept c (Hands p) = more-turning (handed_next c p) p (take_next c.world.group p)
levels-kept c (Leaves p set own places) = more-turning (leaving c p set own) p (take_parting c.world.group p set places)
levels-kept c (Asks p kind) = more-turning c p (take_request kind)
levels-kept c (Settles p) = more-turning c p settle
levels-kept c (Commits p) = at-some (node_of c.world p) (λ s. commit_as c p s.life) c (λ s. same-commit_as c p s.life)
levels-kept c (Crashes p) = at-some (node_of c.world p) (λ s. crash_as c p s.life) c (λ s. same-crash_as c p s.life)
levels-kept c (Recovers p) = at-some (node_of c.world p) (λ s. recover_as c s.life) c (λ s. same-recover_as c s.life)
levels-kept c (Copies p joiner) = at-some (replica_of c.world p) (copy_as c p joiner) c (λ r. same-levels c.levels)
levels-kept c (Joins joiner) = at-some (snapshot_of c.world joiner) (λ s. join_with c joiner s.content) c (λ s. same-levels c.levels)

-- a level that stands goes on standing, with the same attempt
pub level-kept : (c : Chronicle) (s : Small) (level : ℕ) → LevelsStand c → 0 < level → level ≤ top_of c → SameAttempt (attempt_at c level) (attempt_at (small_step c s) level)
level-kept c s level stands some le =
    let o = opened-at c level stands some le in
    let d = small_step c s in
    let still : IsStill d.attempts o.conf o.attempt = (attempts-kept c s).still o.conf o.attempt o.found in
    let more = levels-kept c s in
    let place : at_place d.levels level ≡ Some o.conf = ap (λ xs. at_place xs level) more.all ∙ at_place-append c.levels more.more level le ∙ o.place in
    subst (λ a. SameAttempt a (attempt_at d level)) (sym (opened-attempt c level o)) (subst (SameAttempt o.attempt) (sym (attempt-is d level o.conf still.now place still.found)) still.same)

-- ---- counts

pub when-is : (b : Bool) (A : Type 0) → b ≡ true → When b A → A
when-is true A e w = w
when-is false A e w = absurd (let clash : false ≡ true = e in cc)

found-counted : (c : Chronicle) (conf : ℕ) (a : Attempt) → InstalledCount c → attempt_of c conf ≡ Some a → AreCounted c a
found-counted c conf a counts e =
    let is = conf-found c.attempts c conf a e in
    let at : (p : ℕ) → has a.installed p ≡ true → (length (installation a) ≤ count_in c a p)
    × (count_in c a p ≤ length (installation a) + length (acts_in (take (received_by_all c a.conf) (ordered_in c a.conf)))) =
    λ p installed. subst (λ k. (length (installation a) ≤ count_in c a p) × (count_in c a p ≤ length (installation a) + length (acts_in (take (received_by_all c k) (ordered_in c k))))) (sym is)
    (when-is (has a.installed p) _ installed (subst (λ (o : Option Attempt). IfSome o (λ a. When (has_installed a p)
    ((length (installation a) ≤ count_in c a p) × (count_in c a p ≤ length (installation a) + length (acts_in (take (received_by_all c conf) (ordered_in c conf))))))) e (counts conf p))) in
    record { least = λ p installed. (at p installed).0; most = λ p installed. (at p installed).1 }

pub level-counted : (c : Chronicle) (level : ℕ) → LevelsStand c → InstalledCount c → 0 < level → level ≤ top_of c → AreCounted c (attempt_at c level)
level-counted c level stands counts some le =
    let o = opened-at c level stands some le in
    subst (AreCounted c) (sym (opened-attempt c level o)) (found-counted c o.conf o.attempt counts o.found)

pub level-installed : (c : Chronicle) (level : ℕ) → LevelsStand c → 0 < level → level ≤ top_of c → is_installed (attempt_at c level) ≡ true
level-installed c level stands some le = let o = opened-at c level stands some le in ap is_installed (opened-attempt c level o) ∙ o.installed

-- ---- what is green at a level, and what can become so

-- what was installed and what some member really has is part of what can become green
pub act-bound : (c : Chronicle) (level : ℕ) → LevelsStand c → InstalledCount c → 0 < level → level ≤ top_of c →
    (length (installation (attempt_at c level)) ≤ reached_at c level) × (reached_at c level ≤ bound_at c level) × (bound_at c level ≤ length (line_at c level))
act-bound c level stands counts some le =
    let a = attempt_at c level in
    let counted = level-counted c level stands counts some le in
    (installed-reached c a counted (level-installed c level stands some le), reached-bound c a counted, bound-line c a counted)

-- the installation of a level is a front of what can become green there
pub installation-reach : (c : Chronicle) (level : ℕ) → LevelsStand c → InstalledCount c → 0 < level → level ≤ top_of c →
    Front (installation (attempt_at c level)) (reach_at c level)
installation-reach c level stands counts some le =
    let a = attempt_at c level in
    let bounds = act-bound c level stands counts some le in
    let front = Front-append (installation a) (acts_in (ordered_in c a.conf)) in
    let low = bounds.0 in
    let high = bounds.1 in
    subst (λ xs. Front xs (reach_at c level)) (sym (take-Front (installation a) (line_at c level) front)) (Front-takes (length (installation a)) (bound_at c level) (line_at c level) (omega arith))

-- what can become green at a level is a front of what each later one installs
pub chain-installed : (c : Chronicle) (low more : ℕ) → LevelsStand c → InstalledCount c → Spine c → suc (low + more) ≤ top_of c →
    Front (reach_at c low) (installation (attempt_at c (suc (low + more))))
chain-installed c low zero stands counts spine le =
    let e : low + 0 ≡ low = omega arith in
    rw e (spine low (omega arith)).0
chain-installed c low (suc more) stands counts spine le =
    let e : low + suc more ≡ suc (low + more) = omega arith in
    let before = chain-installed c low more stands counts spine (omega arith) in
    let mid = suc (low + more) in
    let one = installation-reach c mid stands counts (omega arith) (omega arith) in
    let next = (spine mid (omega arith)).0 in
    rw e (Front-trans (reach_at c low) (installation (attempt_at c mid)) (installation (attempt_at c (suc mid))) before
    (Front-trans (installation (attempt_at c mid)) (reach_at c mid) (installation (attempt_at c (suc mid))) one next))

-- ---- a small step

frozen-above : (c : Chronicle) (level : ℕ) → is_frozen c (suc level) ≡ is_frozen_in c (attempt_at c (suc level)).conf
frozen-above c level = ap (λ b. b || is_frozen_in c (attempt_at c (suc level)).conf) (ne_eqb (suc level) 0 (λ e. absurd (omega arith)))

-- Nobody reaches further at a level that stands: where something was said in its configuration, and where counts stay as long as
-- nobody is regular there, a small step behind which somebody is out leaves a front of what could become green.
pub reach-kept : (c : Chronicle) (s : Small) (level : ℕ) → PhaseSound c → ReceiptsInside c → may_make c s ≡ true → LevelsStand c → 0 < level → level ≤ top_of c →
    0 < length (ordered_in c (attempt_at c level).conf) → InstalledCount c → AreCounted (small_step c s) (attempt_at (small_step c s) level) →
    (is_live c (attempt_at c level) ≡ false → reached_at (small_step c s) level ≤ reached_at c level) →
    is_frozen (small_step c s) level ≡ true → Front (reach_at (small_step c s) level) (reach_at c level)
reach-kept c s zero sound inside may stands some le said counts counted still frozen = absurd (omega arith)
reach-kept c s (suc level) sound inside may stands some le said counts counted still frozen =
    let a = attempt_at c (suc level) in
    let d = small_step c s in
    let b = attempt_at d (suc level) in
    let same = level-kept c s (suc level) stands some le in
    reach-shrinks c d a b (record {
      conf = same.conf;
      set = same.set;
      installation = same-installation a b same;
      on = goes_on-kept a.conf c s sound inside may said;
      still = still;
    }) (level-counted c (suc level) stands counts some le) counted (ap (is_frozen_in d) (sym same.conf) ∙ sym (frozen-above d level) ∙ frozen)

-- and who is out stays out
pub frozen-stays : (c : Chronicle) (s : Small) (level : ℕ) → PhaseSound c → ReceiptsInside c → may_make c s ≡ true → LevelsStand c → 0 < level → level ≤ top_of c →
    0 < length (ordered_in c (attempt_at c level).conf) → is_frozen c level ≡ true → is_frozen (small_step c s) level ≡ true
frozen-stays c s zero sound inside may stands some le said frozen = absurd (omega arith)
frozen-stays c s (suc level) sound inside may stands some le said frozen =
    let a = attempt_at c (suc level) in
    let d = small_step c s in
    let same = level-kept c s (suc level) stands some le in
    frozen-above d level ∙ ap (is_frozen_in d) same.conf ∙ frozen-kept c d a.conf (goes_on-kept a.conf c s sound inside may said) (sym (frozen-above c level) ∙ frozen)
