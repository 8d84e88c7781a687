-- Levels: the first installation of an attempt opens the next one; and each attempt that is installed was announced by all.
use Rattle.std.proofs.Common.{◌≡◌, ℕ, zero, suc, ◌≤◌, ◌<◌, true, false, List, [], ◌∷◌, ◌++◌, length, append-nil, length-append, Option, Some, None, option_map, IfSome, refl, sym, ap, ap₂, ◌∙◌, subst, inl, inr, arith, eq-eqb}
use Rattle.std.specs.Prelude.{◌==◌, nat_lt, slice_get}
use Rattle.std.specs.Option.{option_map_or}
use Rattle.std.proofs.lemmas.Bool.{cases_Bool, cases_eq, cases_order, cond-true, cond-false, or_left, lt-ltb}
use Rattle.cg_base.specs.Sets.{has}
use Rattle.cg_base.specs.Lists.{at_place}
use Rattle.cg_client.specs.Replica.{Replica}
use Rattle.cg_model.specs.Chronicle.{Attempt, Chronicle}
use Rattle.cg_model.specs.Looks.{ordered_in, attempt_of, top_of, received_by_all}
use Rattle.cg_model.specs.Fronts.{When, IsSomeWith}
use Rattle.cg_model.specs.Levels.{announced_at, is_installed, is_dead}
use Rattle.cg_model.specs.FactsReplica.{own_record}
use Rattle.cg_model.specs.FactsAttempts.{IsAttempt, InstalledAnnounced, installed_in}
use Rattle.cg_model.specs.Facts.{Invariant}
use Rattle.cg_model.specs.Small.{Small, small_step, opened_by, with_installer}
use Rattle.cg_model.specs.Smalls.{may_make}
use Rattle.cg_agree_lemmas.specs.ReachWorld.{levels-kept, when-is}
use Rattle.cg_agree_lemmas.specs.ReachSteps.{goes_on-kept}
use Rattle.cg_agree.proofs.ReceivedKept.{received-kept}
use Rattle.cg_agree_lemmas.specs.Announced.{announced-front}
use Rattle.cg_agree_lemmas.specs.AttemptsGrow.{Grown, grown-leaver, attempts-grow}
use Rattle.cg_agree_lemmas.specs.AttemptsTurn.{at_conf, installer-has, installing-now}
use Rattle.cg_agree.proofs.AttemptSteps.{group-of, WhyInstalled, AllAnnounced, Before, Installing, AttemptStep, Same, Goes, Begun, Installed, attempt-step}
use Rattle.cg_agree.proofs.DeadKept.{said-attempt, installing-alive}
use Rattle.cg_agree.proofs.AttemptsCame.{Came, Stayed, WasLeft, WasEntered, WasInstalled, WasMade, came, ins-conf, dead-none, same-left}
use Rattle.cg_agree_lemmas.specs.ListStill.{when-from}

-- ---- who has installed

pub some-installed : (a : Attempt) (q : ℕ) → has a.installed q ≡ true → is_installed a ≡ true
some-installed a q is = at a.installed refl where
  at : (list : List ℕ) → a.installed ≡ list → is_installed a ≡ true
  at [] e = absurd (let clash : false ≡ true = sym (ap (λ l. has l q) e) ∙ is in cc)
  at (r ∷ list) e = ap (λ (l : List ℕ). nat_lt 0 (length l)) e ∙ lt-ltb 0 (suc (length list)) (omega arith)

pub installed-some : (a : Attempt) → is_installed a ≡ true → (q : ℕ) × (has a.installed q ≡ true)
installed-some a is = at a.installed refl where
  at : (list : List ℕ) → a.installed ≡ list → (q : ℕ) × (has a.installed q ≡ true)
  at [] e = absurd (let clash : false ≡ true = sym (ap (λ (l : List ℕ). nat_lt 0 (length l)) e) ∙ is in cc)
  at (r ∷ list) e = (r, ap (λ l. has l r) e ∙ or_left (r == r) (has list r) (eq-eqb r r refl))

pub installed-grows : (a b : Attempt) → Grown a b → is_installed a ≡ true → is_installed b ≡ true
installed-grows a b grown is = let one = installed-some a is in some-installed b one.0 (grown.installed one.0 one.1)

-- ---- the first installation

-- Who is the first to install an attempt does so at the newest level.
pub first-install : (c : Chronicle) (i : Invariant c) (p : ℕ) (r : Replica) (ins : Installing c p r) → is_installed ins.a ≡ false → top_of c ≡ ins.a.from
first-install c i p r ins none =
    let shape = subst (λ (o : Option Attempt). IfSome o (IsAttempt c ins.conf)) ins.found (i.attempt.attempt_shape ins.conf) in
    let low = shape.level in
    elim (cases_order (top_of c) ins.a.from) [
      | inl same ↦ same
      | inr apart ↦ elim apart [
        | inl lt ↦ absurd (omega arith)
        | inr gt ↦ absurd (above (at_place c.levels (suc ins.a.from)) (i.attempt.levels_stand.opened ins.a.from gt))
      ]
    ]
  where
    clash-dead : (x : Attempt) → is_dead c x ≡ true → is_installed x ≡ true → ⊥
    clash-dead x dead is = let clash : true ≡ false = sym is ∙ dead-none c x dead in cc

    other : (k : ℕ) (x : Attempt) → attempt_of c k ≡ Some x → x.from ≡ ins.a.from → is_installed x ≡ true → ⊥
    other k x found from is = elim (cases_order k ins.conf) [
      | inl same ↦ (let e : Some x ≡ Some ins.a = sym found ∙ ap (attempt_of c) same ∙ ins.found in let clash : true ≡ false = sym is ∙ ap (λ (o : Option Attempt). option_map_or is_installed o false) e ∙ none in cc)
      | inr apart ↦ elim apart [
        | inl lt ↦
            let one = subst (λ (o : Option Attempt). IfSome o (λ a. IfSome (attempt_of c ins.conf) (λ b. a.from ≡ b.from → is_dead c a ≡ true))) found (i.attempt.one_attempt k ins.conf lt) in
            let two : x.from ≡ ins.a.from → is_dead c x ≡ true = subst (λ (o : Option Attempt). IfSome o (λ b. x.from ≡ b.from → is_dead c x ≡ true)) ins.found one in
            clash-dead x (two from) is
        | inr gt ↦
            let one = subst (λ (o : Option Attempt). IfSome o (λ a. IfSome (attempt_of c k) (λ b. a.from ≡ b.from → is_dead c a ≡ true))) ins.found (i.attempt.one_attempt ins.conf k gt) in
            let two : ins.a.from ≡ x.from → is_dead c ins.a ≡ true = subst (λ (o : Option Attempt). IfSome o (λ b. ins.a.from ≡ b.from → is_dead c ins.a ≡ true)) found one in
            let clash : true ≡ false = sym (two (sym from)) ∙ installing-alive c i p r ins in cc
      ]
    ]

    above : (o : Option ℕ) → IsSomeWith o (λ conf. IsSomeWith (attempt_of c conf) (λ a. (a.from ≡ ins.a.from) × (is_installed a ≡ true))) → ⊥
    above None e = e
    above (Some k) e = at (attempt_of c k) refl e where
      at : (o : Option Attempt) → attempt_of c k ≡ o → IsSomeWith o (λ a. (a.from ≡ ins.a.from) × (is_installed a ≡ true)) → ⊥
      at None found e = e
      at (Some x) found e = other k x found e.0 e.1

-- ---- places among the levels

pub place-there : (xs ys : List ℕ) (n k : ℕ) → at_place xs n ≡ Some k → at_place (xs ++ ys) n ≡ Some k
place-there xs ys zero k e = e
place-there xs ys (suc n) k e = at xs n e where
  at : (xs : List ℕ) (n : ℕ) → slice_get xs n ≡ Some k → slice_get (xs ++ ys) n ≡ Some k
  at [] n e = absurd (let clash : None ≡ Some k = e in cc)
  at (x ∷ xs) zero e = e
  at (x ∷ xs) (suc n) e = at xs n e

pub place-last : (xs : List ℕ) (k : ℕ) → at_place (xs ++ k ∷ []) (suc (length xs)) ≡ Some k
place-last [] k = refl
place-last (x ∷ xs) k = place-last xs k

pub place-within : (xs : List ℕ) (n k : ℕ) → at_place xs n ≡ Some k → n ≤ length xs
place-within xs zero k e = omega arith
place-within xs (suc n) k e = at xs n e where
  at : (xs : List ℕ) (n : ℕ) → slice_get xs n ≡ Some k → suc n ≤ length xs
  at [] n e = absurd (let clash : None ≡ Some k = e in cc)
  at (x ∷ xs) zero e = omega arith
  at (x ∷ xs) (suc n) e = let le = at xs n e in omega arith

-- the levels behind a step: as they were, or with the first installation's one more
pub data LevelStep (c d : Chronicle) : Type 0 where
  NoMore : (same : d.levels ≡ c.levels) → LevelStep c d
  OneMore : (p : ℕ) (r new : Replica) (ins : Installing c p r) (none : is_installed ins.a ≡ false) (levels : d.levels ≡ c.levels ++ ins.conf ∷ [])
      (found : attempt_of d ins.conf ≡ Some (with_installer p ins.a)) → LevelStep c d

pub level-step : (c d : Chronicle) → AttemptStep c d → LevelStep c d
level-step c d (Same attempts levels) = NoMore levels
level-step c d (Goes p n attempts levels low) = NoMore levels
level-step c d (Begun p k heard r new end id begun up greens attempts levels beside moved handed) = NoMore levels
level-step c d (Installed p r new ins done attempts levels core moved) =
    let found : attempt_of c ins.a.conf ≡ Some ins.a = ap (attempt_of c) (ins-conf c p r ins) ∙ ins.found in
    let test : option_map_or is_installed (attempt_of c ins.a.conf) true ≡ is_installed ins.a = ap (λ (o : Option Attempt). option_map_or is_installed o true) found in
    elim (cases_Bool (is_installed ins.a)) [
      | inl before ↦ NoMore (levels ∙ ap (λ xs. c.levels ++ xs) (cond-true (option_map_or is_installed (attempt_of c ins.a.conf) true) [] (ins.a.conf ∷ []) (test ∙ before)) ∙ append-nil c.levels)
      | inr none ↦ OneMore p r new ins none
          (levels ∙ ap (λ xs. c.levels ++ xs) (cond-false (option_map_or is_installed (attempt_of c ins.a.conf) true) [] (ins.a.conf ∷ []) (test ∙ none) ∙ ap (λ k. k ∷ []) (ins-conf c p r ins)))
          (ap (λ xs. at_conf xs ins.conf) attempts ∙ installing-now c.attempts p (own_record ins.a p) ins.conf
          ∙ cond-true (ins.conf == ins.a.conf) (option_map (with_installer p) (at_conf c.attempts ins.conf)) (at_conf c.attempts ins.conf) (eq-eqb ins.conf ins.a.conf (sym (ins-conf c p r ins)))
          ∙ ap (option_map (with_installer p)) ins.found)
    ]

-- ---- levels stand

abbrev IsOpened : Chronicle → ℕ → Type 0
IsOpened c level = IsSomeWith (at_place c.levels (suc level)) (λ conf. IsSomeWith (attempt_of c conf) (λ a. (a.from ≡ level) × (is_installed a ≡ true)))

opened-as : (d : Chronicle) (level k : ℕ) (a : Attempt) → at_place d.levels (suc level) ≡ Some k → attempt_of d k ≡ Some a → a.from ≡ level → is_installed a ≡ true → IsOpened d level
opened-as d level k a place found from is =
    subst (λ (o : Option ℕ). IsSomeWith o (λ conf. IsSomeWith (attempt_of d conf) (λ a. (a.from ≡ level) × (is_installed a ≡ true)))) (sym place)
    (subst (λ (o : Option Attempt). IsSomeWith o (λ a. (a.from ≡ level) × (is_installed a ≡ true))) (sym found) (from, is))

opened-still : (c : Chronicle) (s : Small) (level : ℕ) → IsOpened c level → IsOpened (small_step c s) level
opened-still c s level is = at (at_place c.levels (suc level)) refl is where
  with : (k : ℕ) → at_place c.levels (suc level) ≡ Some k → (o : Option Attempt) → attempt_of c k ≡ o → IsSomeWith o (λ a. (a.from ≡ level) × (is_installed a ≡ true)) → IsOpened (small_step c s) level
  with k place None found e = absurd e
  with k place (Some a) found e =
      let still = (attempts-grow c s).still k a found in
      let more = levels-kept c s in
      opened-as (small_step c s) level k still.now (ap (λ xs. at_place xs (suc level)) more.all ∙ place-there c.levels more.more (suc level) k place) still.found
      (still.grown.same.from ∙ e.0) (installed-grows a still.now still.grown e.1)

  at : (o : Option ℕ) → at_place c.levels (suc level) ≡ o → IsSomeWith o (λ conf. IsSomeWith (attempt_of c conf) (λ a. (a.from ≡ level) × (is_installed a ≡ true))) → IsOpened (small_step c s) level
  at None place e = absurd e
  at (Some k) place e = with k place (attempt_of c k) refl e

-- each level was opened by an attempt from the one before
pub opened-kept : (c : Chronicle) (s : Small) (i : Invariant c) → may_make c s ≡ true → (level : ℕ) → level < top_of (small_step c s) → IsOpened (small_step c s) level
opened-kept c s i may level lt = at (level-step c (small_step c s) (attempt-step c s i may)) where
  at : LevelStep c (small_step c s) → IsOpened (small_step c s) level
  at (NoMore same) = let e = ap (λ (l : List ℕ). length l) same in opened-still c s level (i.attempt.levels_stand.opened level (omega arith))
  at (OneMore p r new ins none levels found) =
      let long = ap (λ (l : List ℕ). length l) levels ∙ length-append c.levels (ins.conf ∷ []) in
      elim (cases_eq level (top_of c)) [
        | inl last ↦
            opened-as (small_step c s) level ins.conf (with_installer p ins.a) (ap₂ (λ xs n. at_place xs (suc n)) levels last ∙ place-last c.levels ins.conf) found
            (sym (first-install c i p r ins none) ∙ sym last) (some-installed (with_installer p ins.a) p (installer-has ins.a p))
        | inr earlier ↦ opened-still c s level (i.attempt.levels_stand.opened level (omega arith))
      ]

-- and each installed attempt has opened the next level
pub opens-kept : (c : Chronicle) (s : Small) (i : Invariant c) → may_make c s ≡ true → (conf : ℕ) →
    IfSome (attempt_of (small_step c s) conf) (λ a. When (is_installed a) (at_place (small_step c s).levels (suc a.from) ≡ Some conf))
opens-kept c s i may conf = at (attempt_of (small_step c s) conf) refl where
  before : (a : Attempt) → attempt_of c conf ≡ Some a → is_installed a ≡ true → at_place (small_step c s).levels (suc a.from) ≡ Some conf
  before a found is =
      let more = levels-kept c s in
      let old = when-is (is_installed a) (at_place c.levels (suc a.from) ≡ Some conf) is
      (subst (λ (o : Option Attempt). IfSome o (λ a. When (is_installed a) (at_place c.levels (suc a.from) ≡ Some conf))) found (i.attempt.levels_stand.opens conf)) in
      ap (λ xs. at_place xs (suc a.from)) more.all ∙ place-there c.levels more.more (suc a.from) conf old

  first : (p : ℕ) (r : Replica) (ins : Installing c p r) → (small_step c s).levels ≡ c.levels ++ opened_by c (Some (own_record ins.a p)) → conf ≡ ins.conf → is_installed ins.a ≡ false →
      at_place (small_step c s).levels (suc ins.a.from) ≡ Some conf
  first p r ins levels here none =
      let test : option_map_or is_installed (attempt_of c ins.a.conf) true ≡ false =
      ap (λ (o : Option Attempt). option_map_or is_installed o true) (ap (attempt_of c) (ins-conf c p r ins) ∙ ins.found) ∙ none in
      ap₂ (λ xs n. at_place xs (suc n)) (levels ∙ ap (λ xs. c.levels ++ xs) (cond-false (option_map_or is_installed (attempt_of c ins.a.conf) true) [] (ins.a.conf ∷ []) test)) (sym (first-install c i p r ins none))
      ∙ place-last c.levels ins.a.conf ∙ ap (λ k. Some k) (ins-conf c p r ins ∙ sym here)

  of_came : (b : Attempt) → Came c (small_step c s) conf b → is_installed b ≡ true → at_place (small_step c s).levels (suc b.from) ≡ Some conf
  of_came b (Stayed found) is = before b found is
  of_came b (WasLeft a found p n here now low) is =
      subst (λ (x : Attempt). at_place (small_step c s).levels (suc x.from) ≡ Some conf) (sym now)
      (ap (λ n. at_place (small_step c s).levels (suc n)) (grown-leaver p n a).same.from ∙ before a found (sym (same-left p n a) ∙ ap is_installed (sym now) ∙ is))
  of_came b (WasEntered a found p heard r new begins now moved) is =
      subst (λ (x : Attempt). at_place (small_step c s).levels (suc x.from) ≡ Some conf) (sym now) (before a found (ap is_installed (sym now) ∙ is))
  of_came b (WasInstalled p r new ins done here now levels core moved) is =
      subst (λ (x : Attempt). at_place (small_step c s).levels (suc x.from) ≡ Some conf) (sym now) (elim (cases_Bool (is_installed ins.a)) [
        | inl old ↦ before ins.a (ap (attempt_of c) here ∙ ins.found) old
        | inr none ↦ first p r ins levels here none
      ])
  of_came b (WasMade none p heard r new begins greens now moved handed) is = absurd (let clash : true ≡ false = sym is ∙ ap is_installed now in cc)

  at : (o : Option Attempt) → attempt_of (small_step c s) conf ≡ o → IfSome o (λ a. When (is_installed a) (at_place (small_step c s).levels (suc a.from) ≡ Some conf))
  at None now = tt
  at (Some b) now = when-from (is_installed b) (at_place (small_step c s).levels (suc b.from) ≡ Some conf) (of_came b (came c (small_step c s) conf b (attempt-step c s i may) now))

-- ---- where an attempt is installed, every member has received the announcement of each

announced-on : (c : Chronicle) (s : Small) (i : Invariant c) → may_make c s ≡ true → (conf : ℕ) → 0 < length (ordered_in c conf) → (q : ℕ) →
    (0 < announced_at c conf q) × (announced_at c conf q ≤ received_by_all c conf) → (0 < announced_at (small_step c s) conf q) × (announced_at (small_step c s) conf q ≤ received_by_all (small_step c s) conf)
announced-on c s i may conf said q is =
    let on = goes_on-kept conf c s i.net.phase_sound i.net.receipts_inside may said in
    let same = announced-front (ordered_in c conf) (ordered_in (small_step c s) conf) q on.ordered is.0 in
    let low = is.0 in
    let high = is.1 in
    let more = received-kept c s i.net.hosted may (group-of c i) conf said in
    ((omega (arith, same, low)), (omega (arith, same, high, more)))

pub installed_announced-kept : (c : Chronicle) (s : Small) → Invariant c → may_make c s ≡ true → InstalledAnnounced (small_step c s)
installed_announced-kept c s i may conf q is = at (attempt_of (small_step c s) conf) refl is where
  known : (a : Attempt) → attempt_of c conf ≡ Some a → is_installed a ≡ true → has a.set q ≡ true → (0 < announced_at (small_step c s) conf q) × (announced_at (small_step c s) conf q ≤ received_by_all (small_step c s) conf)
  known a found installed member =
      let shown : installed_in c conf ≡ true = ap (λ (o : Option Attempt). option_map_or is_installed o false) found ∙ installed in
      let fact = subst (λ (o : Option Attempt). IfSome o (λ a. When (has a.set q) ((0 < announced_at c conf q) × (announced_at c conf q ≤ received_by_all c conf)))) found (i.attempt.installed_announced conf q shown) in
      announced-on c s i may conf (said-attempt c conf a i found) q (when-is (has a.set q) ((0 < announced_at c conf q) × (announced_at c conf q ≤ received_by_all c conf)) member fact)

  of_came : (b : Attempt) → Came c (small_step c s) conf b → is_installed b ≡ true → has b.set q ≡ true → (0 < announced_at (small_step c s) conf q) × (announced_at (small_step c s) conf q ≤ received_by_all (small_step c s) conf)
  of_came b (Stayed found) is member = known b found is member
  of_came b (WasLeft a found p n here now low) is member =
      known a found (sym (same-left p n a) ∙ ap is_installed (sym now) ∙ is) (ap (λ l. has l q) (sym (grown-leaver p n a).same.set) ∙ ap (λ (x : Attempt). has x.set q) (sym now) ∙ member)
  of_came b (WasEntered a found p heard r new begins now moved) is member = known a found (ap is_installed (sym now) ∙ is) (ap (λ (x : Attempt). has x.set q) (sym now) ∙ member)
  of_came b (WasMade none p heard r new begins greens now moved handed) is member = absurd (let clash : true ≡ false = sym is ∙ ap is_installed now in cc)
  of_came b (WasInstalled p r new ins done here now levels core moved) is member = by_why ins.why where
    here_found : attempt_of c conf ≡ Some ins.a
    here_found = ap (attempt_of c) here ∙ ins.found

    in_set : has ins.a.set q ≡ true
    in_set = ap (λ (x : Attempt). has x.set q) (sym now) ∙ member

    by_why : WhyInstalled c ins.a → (0 < announced_at (small_step c s) conf q) × (announced_at (small_step c s) conf q ≤ received_by_all (small_step c s) conf)
    by_why (Before installed) = known ins.a here_found installed in_set
    by_why (AllAnnounced each) =
        announced-on c s i may conf (said-attempt c conf ins.a i here_found) q
        (subst (λ k. (0 < announced_at c k q) × (announced_at c k q ≤ received_by_all c k)) (ins-conf c p r ins ∙ sym here) (each q in_set))

  at : (o : Option Attempt) → attempt_of (small_step c s) conf ≡ o → option_map_or is_installed o false ≡ true →
      IfSome o (λ a. When (has a.set q) ((0 < announced_at (small_step c s) conf q) × (announced_at (small_step c s) conf q ≤ received_by_all (small_step c s) conf)))
  at None now is = tt
  at (Some b) now is = when-from (has b.set q) ((0 < announced_at (small_step c s) conf q) × (announced_at (small_step c s) conf q ≤ received_by_all (small_step c s) conf))
      (of_came b (came c (small_step c s) conf b (attempt-step c s i may) now) is)
