-- Each list of greens is a front of the newest level's line, and no longer than what some member of it has: behind each small step.
use Rattle.std.proofs.Common.{◌≡◌, ℕ, zero, suc, ◌≤◌, Bool, true, false, cond, not, List, [], ◌∷◌, ◌++◌, length, Option, Some, None, IfSome, is_some, option_map, option_and_then, refl, sym, ap, ap₂, ◌∙◌, subst, arith, inl, inr, eq-eqb, if◌then◌else◌}
use Rattle.std.specs.Prelude.{◌==◌}
use Rattle.std.specs.Option.{option_map_or}
use Rattle.std.proofs.lemmas.Bool.{cases_eq, cond-true}
use Rattle.std.proofs.lemmas.List.{append_assoc}
use Rattle.cg_base.specs.Lists.{at_place}
use Rattle.cg_base.specs.Sets.{has}
use Rattle.cg_base.specs.Choice.{Either}
use Rattle.cg_action.specs.declared.action.Action.{Action}
use Rattle.cg_knowledge.specs.declared.summary.Summary.{Summary}
use Rattle.cg_knowledge.specs.Summaries.{gone, most_updated}
use Rattle.cg_knowledge.specs.Verdict.{decides}
use Rattle.cg_group.specs.declared.phase.Phase.TheVariants.{Regular}
use Rattle.cg_group.specs.State.{phase_of, delivered_to}
use Rattle.cg_client.specs.Replica.{Held, State, RegPrim, TransPrim, ExchangeStates, ExchangeActions, Construct, No, Un, NonPrim, Left, Replica}
use Rattle.cg_model.specs.Attempts.{held_in}
use Rattle.cg_model.specs.World.{Node, node_of, replica_of}
use Rattle.cg_model.specs.Chronicle.{Past, Told, Attempt, Chronicle}
use Rattle.cg_model.specs.Fronts.{Front, When, IsSomeWith}
use Rattle.cg_model.specs.Looks.{past_of, greens_of, stood_of, conf_at, is_at, is_in, is_regular_at, is_regular_in, told_in, disk_held, core_of, ordered_in, attempt_of, attempt_at, top_of, installation, left_count, on_disk}
use Rattle.cg_model.specs.Talk.{Talk, is_full, is_through, is_announced, acts_in, state_in}
use Rattle.cg_model.specs.Levels.{line_at, count_in, reached_at, reach_at, prim_at, is_installed}
use Rattle.cg_model.specs.FactsReplica.{is_attempting, is_primary, HasModeData, IsCounted, IsModeData}
use Rattle.cg_model.specs.FactsExchange.{IsOutdone, IsInExchange, IsUnmoved, IsGoingOn, HasTakenOver, best_told, greens_behind}
use Rattle.cg_model.specs.FactsAttempts.{IsAttempt, HoldsParts, LevelsStand, LeftOut, YellowValid}
use Rattle.cg_model.specs.FactsTalk.{handed_talk, whole_talk}
use Rattle.cg_model.specs.FactsGreens.{IsHandedGreen, IsOnLine, PrimaryGreens, InstalledCount, Spine}
use Rattle.cg_model.specs.Facts.{Invariant}
use Rattle.cg_model.specs.Played.{AtRest}
use Rattle.cg_model.specs.Small.{Small, Hands, small_step}
use Rattle.cg_model.specs.Smalls.{may_make}
use Rattle.cg_agree.proofs.AttemptSteps.{attempt-step}
use Rattle.cg_agree.proofs.ExchangeBehind.{up-now, told-now}
use Rattle.cg_agree.proofs.ExchangeKept.{exchange_progress-kept}
use Rattle.cg_agree.proofs.FactsKept.{attempt-now}
use Rattle.cg_agree_lemmas.specs.FrontFacts.{Front-trans, Front-append, Front-behind, Front-length, Front-take, Front-refl}
use Rattle.cg_agree.proofs.GreensMove.{InstalledLate}
use Rattle.cg_agree_lemmas.specs.HandsNow.{hands-now, hands-regular, new, hand-state, set, behind}
use Rattle.cg_agree_lemmas.specs.HeldAll.{valid_names}
use Rattle.cg_agree_lemmas.specs.HeldInstall.{reds_but}
use Rattle.cg_agree.proofs.LevelsOpen.{place-within}
use Rattle.cg_agree.proofs.ModeKept.{mode_data-kept}
use Rattle.cg_agree.proofs.OneLine.{IsOnTop, reached-front, installed-on_top, level-on_top, handed-front}
use Rattle.cg_agree_lemmas.specs.OneSteps.{hands-step, node-there}
use Rattle.cg_agree_lemmas.specs.Reach.{greatest-bounds, acts-front}
use Rattle.cg_agree.proofs.ReachedGrows.{top-grows, reached-grows, said-level}
use Rattle.cg_agree_lemmas.specs.ReachSteps.{goes_on-kept}
use Rattle.cg_agree_lemmas.specs.ReachWorld.{level-kept, act-bound, when-is, attempt-is}
use Rattle.cg_agree_lemmas.specs.SameAttempt.{same-installation}
use Rattle.cg_agree_lemmas.specs.SpineKept.{start-line}
use Rattle.cg_agree.proofs.SpineNow.{TopMove, Stays as SameTop, Rises, top-move, reach-installed, opened-now, top-now, held-parts}

-- ---- what is on top

pub front-on_top : (c : Chronicle) (xs ys : List Action) → Front xs ys → IsOnTop c ys → IsOnTop c xs
front-on_top c xs ys front on =
    let short = Front-length xs ys front in
    let le = on.count in
    record { front = Front-trans xs ys (line_at c (top_of c)) front on.front; count = omega (arith, short, le) }

pub nothing-on_top : (c : Chronicle) → IsOnTop c []
nothing-on_top c = record { front = tt; count = omega arith }

abbrev pub OnLine : Chronicle → List Action → Type 0
OnLine c xs = Front xs (line_at c (top_of c)) × (length xs ≤ reached_at c (top_of c))

-- all greens are
pub all-on_top : (c : Chronicle) → Invariant c → (q : ℕ) → IsOnTop c (greens_of c q)
all-on_top c i q = of_memory (replica_of c.world q) refl (i.green.one_order.memory q) where
  none-past : (o : Option Past) → is_some o ≡ false → option_map_or (λ (x : Past). x.greens) o [] ≡ []
  none-past None e = refl
  none-past (Some x) e = absurd (let clash : true ≡ false = e in cc)

  no-node : (o : Option Node) → option_map (λ (s : Node). on_disk s.life) o ≡ None → is_some o ≡ false
  no-node None e = refl
  no-node (Some s) e = absurd (let clash : Some (on_disk s.life) ≡ None = e in cc)

  of_disk : (o : Option Held) → disk_held c.world q ≡ o → replica_of c.world q ≡ None → IfSome o (λ h. OnLine c (stood_of c q)) → IsOnTop c (greens_of c q)
  of_disk None e down on = subst (IsOnTop c) (sym (none-past (past_of c q) (i.net.hosted.past q ∙ no-node (node_of c.world q) e))) (nothing-on_top c)
  of_disk (Some h) e down on = subst (IsOnTop c) (sym (i.replica.disk_behind.down q down)) (record { front = on.0; count = on.1 })

  of_memory : (o : Option Replica) → replica_of c.world q ≡ o → IfSome o (λ r. OnLine c (greens_of c q)) → IsOnTop c (greens_of c q)
  of_memory None e on = of_disk (disk_held c.world q) refl e (i.green.one_order.disk q)
  of_memory (Some r) e on = record { front = on.0; count = on.1 }

-- and all that was told
pub told-on_top : (c : Chronicle) → Invariant c → (conf q : ℕ) (t : Told) → told_in c conf q ≡ Some t → IsOnTop c t.greens
told-on_top c i conf q t told =
    let begun = i.net.members_begun.member conf q (i.net.past_left.member conf q (ap is_some told)) in
    let sits = node-there c q begun in
    let out = subst (λ (o : Option Told). IfSome o (λ t. IfSome (core_of c q) (IsOutdone c t))) told (i.exchange.summary_of_sender.outdone conf q) in
    let is = subst (λ (o : Option Held). IfSome o (IsOutdone c t)) (ap (λ (o : Option Node). option_map (λ s. held_in s.life) o) sits.there) out in
    front-on_top c t.greens (greens_of c t.summary.id) is.greens (all-on_top c i t.summary.id)

-- ---- what was on top stays so

none-left : (xs ys : List Action) → Front xs [] → Front xs ys
none-left [] ys front = tt
none-left (x ∷ xs) ys front = absurd front

module _ (c : Chronicle) (s : Small) (i : Invariant c) (may : may_make c s ≡ true) (rest : AtRest c s) (out : LeftOut c) where
  line-grows : (level : ℕ) → level ≤ top_of c → Front (line_at c level) (line_at (small_step c s) level)
  line-grows zero le = none-left (line_at c 0) (line_at (small_step c s) 0) (subst (λ xs. Front xs []) (sym (start-line c)) tt)
  line-grows (suc level) le =
      let a = attempt_at c (suc level) in
      let b = attempt_at (small_step c s) (suc level) in
      let same = level-kept c s (suc level) i.attempt.levels_stand (omega arith) le in
      let on = goes_on-kept a.conf c s i.net.phase_sound i.net.receipts_inside may (said-level c s i may rest out (suc level) (omega arith) le) in
      subst (λ k. Front (line_at c (suc level)) (installation b ++ acts_in (ordered_in (small_step c s) k))) (sym same.conf)
      (subst (λ xs. Front (line_at c (suc level)) (xs ++ acts_in (ordered_in (small_step c s) a.conf))) (sym (same-installation a b same))
      (Front-behind (installation a) (acts_in (ordered_in c a.conf)) (acts_in (ordered_in (small_step c s) a.conf)) (acts-front (ordered_in c a.conf) (ordered_in (small_step c s) a.conf) on.ordered)))

  module _ (stands : LevelsStand (small_step c s)) (counts : InstalledCount (small_step c s)) where
    pub top-still : (xs : List Action) → IsOnTop c xs → IsOnTop (small_step c s) xs
    top-still xs on = at (top-move c (small_step c s) (attempt-step c s i may)) where
      reach : Front xs (reach_at c (top_of c))
      reach = elim (cases_eq (top_of c) 0) [
        | inl none ↦ none-left xs (reach_at c (top_of c)) (subst (Front xs) (ap (line_at c) none ∙ start-line c) on.front)
        | inr some ↦ reached-front c (top_of c) xs i.attempt.levels_stand i.green.installed_count (omega (arith, some)) (omega arith) on.front on.count
      ]

      at : TopMove c (small_step c s) → IsOnTop (small_step c s) xs
      at (SameTop same) =
          let top : top_of (small_step c s) ≡ top_of c = ap (λ (l : List ℕ). length l) same in
          let more = reached-grows c s i may rest out (top_of c) (omega arith) in
          let le = on.count in
          record {
            front = subst (λ n. Front xs (line_at (small_step c s) n)) (sym top) (Front-trans xs (line_at c (top_of c)) (line_at (small_step c s) (top_of c)) on.front (line-grows (top_of c) (omega arith)));
            count = subst (λ n. length xs ≤ reached_at (small_step c s) n) (sym top) (omega (arith, more, le));
          }
      at (Rises o) =
          let top = top-now c (small_step c s) i o in
          let now = ap (attempt_at (small_step c s)) top ∙ opened-now c (small_step c s) i o in
          installed-on_top (small_step c s) xs stands counts (omega (arith, top))
          (subst (Front xs) (sym (ap installation now)) (Front-trans xs (reach_at c (top_of c)) (installation o.installing.a) reach (reach-installed c (small_step c s) i o)))

-- ---- a late installation

module _ (c : Chronicle) (i : Invariant c) (valid : YellowValid c) (d : Chronicle) (q : ℕ) (late : InstalledLate c d q) where
  yellow : late.old.held.yellow_valid ≡ false → late.old.held.queue.yellow ≡ []
  yellow = when-is (is_attempting late.old.state) (late.old.held.yellow_valid ≡ false → late.old.held.queue.yellow ≡ []) late.done.before
      (subst (λ (o : Option Replica). IfSome o (λ r. When (is_attempting r.state) (r.held.yellow_valid ≡ false → r.held.queue.yellow ≡ []))) late.installing.up (valid q))

  names-are : valid_names late.old.held ≡ late.old.held.queue.yellow
  names-are = at late.old.held.yellow_valid yellow where
    at : (b : Bool) → (b ≡ false → late.old.held.queue.yellow ≡ []) → cond b late.old.held.queue.yellow [] ≡ late.old.held.queue.yellow
    at true y = refl
    at false y = sym (y refl)

  -- what is green then is what the attempt installs
  pub late-greens : greens_of d q ≡ installation late.installing.a
  late-greens =
      let ins = late.installing in
      let h = late.old.held in
      let holds = held-parts c i q late.old ins late.done.before in
      late.greens ∙ ap₂ (λ xs ys. xs ++ ys) holds.greens (ap₂ (λ xs ys. xs ++ ys) holds.yellow (ap (λ ids. reds_but ids h.queue.reds) names-are ∙ holds.reds))
      ∙ sym (append_assoc ins.a.greens ins.a.yellow ins.a.reds)

  -- and of the level that it opened
  pub late-on_top : (s : Small) → d ≡ small_step c s → LevelsStand d → InstalledCount d → Spine d → IsOnTop d (greens_of d q)
  late-on_top s step stands counts spine =
      let ins = late.installing in
      let place = when-is (is_installed ins.a) (at_place c.levels (suc ins.a.from) ≡ Some ins.conf) late.before
      (subst (λ (o : Option Attempt). IfSome o (λ a. When (is_installed a) (at_place c.levels (suc a.from) ≡ Some ins.conf))) ins.found (i.attempt.levels_stand.opens ins.conf)) in
      let level = suc ins.a.from in
      let within = place-within c.levels level ins.conf place in
      let here : attempt_at c level ≡ ins.a = attempt-is c level ins.conf ins.a place ins.found in
      let kept = level-kept c s level i.attempt.levels_stand (omega arith) within in
      let same : installation (attempt_at d level) ≡ greens_of d q =
      ap (λ (x : Chronicle). installation (attempt_at x level)) step ∙ same-installation (attempt_at c level) (attempt_at (small_step c s) level) kept ∙ ap installation here ∙ sym late-greens in
      let more = top-grows c s in
      let top = ap top_of step in
      let le : level ≤ top_of d = omega (arith, within, more, top) in
      let bounds = act-bound d level stands counts (omega arith) le in
      let low = bounds.0 in
      let long = ap (λ (xs : List Action). length xs) same in
      level-on_top d level (greens_of d q) stands counts spine (omega arith) le
      (subst (λ xs. Front xs (line_at d level)) same (Front-append (installation (attempt_at d level)) (acts_in (ordered_in d (attempt_at d level).conf))))
      (omega (arith, low, long))

-- ---- a place that is handed

abbrev Choice : Bool → State → State → State
Choice b x y = if b then x else y

-- a talk leads to no state behind a parting
abbrev is_late : State → Bool
is_late TransPrim = true
is_late (No conf heard) = true
is_late Un = true
is_late _ = false

never-late : (set : List ℕ) (conf : ℕ) (t : Talk) (me : ℕ) → is_late (state_in set conf t me) ≡ false
never-late set conf t me = one (not (is_full set t)) (not (is_through t)) (has (gone t.heard) me) (not (decides t.heard)) (is_announced t) where
  one : (b d g n a : Bool) → is_late (Choice b (ExchangeStates conf set t.heard) (Choice d (ExchangeActions conf t.heard t.accepted)
      (Choice g Left (Choice n (NonPrim true) (Choice a RegPrim (Construct conf t.announced)))))) ≡ false
  one true d g n a = refl
  one false true g n a = refl
  one false false true n a = refl
  one false false false true a = refl
  one false false false false true = refl
  one false false false false false = refl

module _ (c : Chronicle) (q : ℕ) (i : Invariant c) (may : may_make c (Hands q) ≡ true) (out : LeftOut c) (primary : PrimaryGreens (small_step c (Hands q))) (counts : InstalledCount (small_step c (Hands q))) (spine : Spine (small_step c (Hands q))) where
  r : Replica
  r = new c q i (hands-now c q i may)

  up : replica_of (small_step c (Hands q)).world q ≡ Some r
  unfolding r
  up = up-now c q i may (hands-now c q i may)

  stands : LevelsStand (small_step c (Hands q))
  stands = (attempt-now c (Hands q) i may tt).levels_stand

  phase : phase_of (small_step c (Hands q)).world.group q ≡ Regular (hands-now c q i may).conf
  phase =
      let step = hands-step c q i.net.phase_sound (hands-regular c q may) in
      step.stands.phase q ∙ cond-true (q == q) (phase_of c.world.group q) (phase_of c.world.group q) (eq-eqb q q refl) ∙ (hands-now c q i may).regular

  told-top : (k p : ℕ) (t : Told) → told_in (small_step c (Hands q)) k p ≡ Some t → IsOnTop (small_step c (Hands q)) t.greens
  told-top k p t e = top-still c (Hands q) i may tt out stands counts t.greens (told-on_top c i k p t (sym (told-now c q i may (hands-now c q i may) k p) ∙ e))

  best-top : (k : ℕ) (heard : List Summary) (best : Told) → best_told (small_step c (Hands q)) k heard ≡ Some best → IsOnTop (small_step c (Hands q)) best.greens
  best-top k heard best e = at (most_updated heard) e where
    at : (o : Option Summary) → option_and_then (λ s. told_in (small_step c (Hands q)) k s.id) o ≡ Some best → IsOnTop (small_step c (Hands q)) best.greens
    at None e = absurd (let clash : None ≡ Some best = e in cc)
    at (Some s) e = told-top k s.id best e

  some-best : (k : ℕ) (heard : List Summary) (P : Told → Type 0) → IsSomeWith (best_told (small_step c (Hands q)) k heard) P → ((best : Told) → P best → Front (greens_of (small_step c (Hands q)) q) best.greens) → IsOnTop (small_step c (Hands q)) (greens_of (small_step c (Hands q)) q)
  some-best k heard P is front = at (best_told (small_step c (Hands q)) k heard) refl is where
    at : (o : Option Told) → best_told (small_step c (Hands q)) k heard ≡ o → IsSomeWith o P → IsOnTop (small_step c (Hands q)) (greens_of (small_step c (Hands q)) q)
    at None e is = absurd is
    at (Some best) e is = front-on_top (small_step c (Hands q)) (greens_of (small_step c (Hands q)) q) best.greens (front best is) (best-top k heard best e)

  same-front : (xs ys : List Action) → xs ≡ ys → Front xs ys
  same-front xs ys e = subst (Front xs) e (Front-refl xs)

  -- a member of the primary component
  on-line : r.state ≡ RegPrim → IsOnTop (small_step c (Hands q)) (greens_of (small_step c (Hands q)) q)
  on-line is =
      let level = r.held.prim.index in
      let a = attempt_at (small_step c (Hands q)) r.held.prim.index in
      let on = when-is (is_primary r.state) (IsOnLine (small_step c (Hands q)) q r) (ap is_primary is)
      (subst (λ (o : Option Replica). IfSome o (λ r. When (is_primary r.state) (IsOnLine (small_step c (Hands q)) q r))) up (primary q)) in
      let mode = subst (λ (o : Option Replica). IfSome o (IsModeData (small_step c (Hands q)) q)) up (mode_data-kept c (Hands q) i may q) in
      let data_of = subst (HasModeData (small_step c (Hands q)) r.held (phase_of (small_step c (Hands q)).world.group q)) is mode.data_of in
      let known = subst (λ (o : Option Replica). IfSome o (λ r. (r.held.prim.index ≤ top_of (small_step c (Hands q))) × (r.held.prim ≡ prim_at (small_step c (Hands q)) r.held.prim.index))) up (stands.known.memory q) in
      let counted = subst (λ (o : Option Attempt). IfSome o (λ a. IsCounted a r)) data_of.0.opened mode.counted in
      let installed : has a.installed q ≡ true = ap (has a.installed) (sym mode.id) ∙ counted.installed ∙ ap is_primary is in
      let here : is_in (small_step c (Hands q)) a.conf q ≡ true = ap (is_at a.conf) phase ∙ eq-eqb (hands-now c q i may).conf a.conf (sym (on.conf ∙ ap conf_at phase)) in
      let mine = cond-true (is_in (small_step c (Hands q)) a.conf q) (length (greens_of (small_step c (Hands q)) q)) (left_count a q) here in
      let most = greatest-bounds (count_in (small_step c (Hands q)) a) a.installed q installed in
      let index = data_of.0.index in
      level-on_top (small_step c (Hands q)) level (greens_of (small_step c (Hands q)) q) stands counts spine (omega (arith, index)) known.0
      (handed-front (small_step c (Hands q)) level (delivered_to (small_step c (Hands q)).world.group q) (greens_of (small_step c (Hands q)) q) (subst (IsHandedGreen (small_step c (Hands q)) q a) is on.greens))
      (omega (arith, mine, most))

  -- a member of an attempt
  on-attempt : is_attempting r.state ≡ true → IsOnTop (small_step c (Hands q)) (greens_of (small_step c (Hands q)) q)
  on-attempt is =
      let facts = attempt-now c (Hands q) i may tt in
      let k = conf_at (phase_of (small_step c (Hands q)).world.group q) in
      of_attempt k (attempt_of (small_step c (Hands q)) k) (when-is (is_attempting r.state) (IsSomeWith (attempt_of (small_step c (Hands q)) k) (HoldsParts r.held (greens_of (small_step c (Hands q)) q))) is
      (subst (λ (o : Option Replica). IfSome o (λ r. When (is_attempting r.state) (IsSomeWith (attempt_of (small_step c (Hands q)) k) (HoldsParts r.held (greens_of (small_step c (Hands q)) q))))) up (facts.attempt_list q)))
      (facts.attempt_shape k)
    where
      of_attempt : (k : ℕ) (o : Option Attempt) → IsSomeWith o (HoldsParts r.held (greens_of (small_step c (Hands q)) q)) → IfSome o (IsAttempt (small_step c (Hands q)) k) → IsOnTop (small_step c (Hands q)) (greens_of (small_step c (Hands q)) q)
      of_attempt k None holds shape = absurd holds
      of_attempt k (Some a) holds shape =
          some-best a.conf (whole_talk (small_step c (Hands q)) k).heard (λ best. a.greens ≡ best.greens) shape.parts.greens
          (λ best e. same-front (greens_of (small_step c (Hands q)) q) best.greens (holds.greens ∙ e))

  -- a member in an exchange, or behind one
  in-exchange : (state : State) → r.state ≡ state → (t : Told) → told_in (small_step c (Hands q)) (hands-now c q i may).conf q ≡ Some t →
      IsInExchange (small_step c (Hands q)) (hands-now c q i may).conf t r.held (greens_of (small_step c (Hands q)) q) state → is_late state ≡ false → IsOnTop (small_step c (Hands q)) (greens_of (small_step c (Hands q)) q)
  in-exchange RegPrim e t told is late = on-line e
  in-exchange (Construct conf heard) e t told is late = on-attempt (ap is_attempting e)
  in-exchange (ExchangeStates at set heard) e t told is late = front-on_top (small_step c (Hands q)) (greens_of (small_step c (Hands q)) q) t.greens (same-front (greens_of (small_step c (Hands q)) q) t.greens is.greens) (told-top (hands-now c q i may).conf q t told)
  in-exchange Left e t told is late = front-on_top (small_step c (Hands q)) (greens_of (small_step c (Hands q)) q) t.greens (same-front (greens_of (small_step c (Hands q)) q) t.greens is.greens) (told-top (hands-now c q i may).conf q t told)
  in-exchange (NonPrim regular) e t told is late =
      let heard = (handed_talk (small_step c (Hands q)) (hands-now c q i may).conf r.held.id).heard in
      some-best (hands-now c q i may).conf heard (λ best. HasTakenOver heard best t r.held (greens_of (small_step c (Hands q)) q)) is (λ best taken. same-front (greens_of (small_step c (Hands q)) q) best.greens taken.greens)
  in-exchange (ExchangeActions at heard accepted) e t told is late = either (has (gone heard) r.held.id) is where
    going : IsSomeWith (best_told (small_step c (Hands q)) (hands-now c q i may).conf heard) (λ best. IsGoingOn heard accepted best t r.held (greens_of (small_step c (Hands q)) q)) → IsOnTop (small_step c (Hands q)) (greens_of (small_step c (Hands q)) q)
    going is = some-best (hands-now c q i may).conf heard (λ best. IsGoingOn heard accepted best t r.held (greens_of (small_step c (Hands q)) q)) is
        (λ best going'. subst (λ xs. Front xs best.greens) (sym going'.greens) (Front-take (greens_behind heard accepted best.summary t.summary) best.greens))

    either : (b : Bool) → Either b (IsUnmoved t r.held (greens_of (small_step c (Hands q)) q)) (IsSomeWith (best_told (small_step c (Hands q)) (hands-now c q i may).conf heard) (λ best. IsGoingOn heard accepted best t r.held (greens_of (small_step c (Hands q)) q))) →
        IsOnTop (small_step c (Hands q)) (greens_of (small_step c (Hands q)) q)
    either true is = front-on_top (small_step c (Hands q)) (greens_of (small_step c (Hands q)) q) t.greens (same-front (greens_of (small_step c (Hands q)) q) t.greens is.greens) (told-top (hands-now c q i may).conf q t told)
    either false is = going is
  in-exchange TransPrim e t told is late = absurd (let clash : true ≡ false = late in cc)
  in-exchange (No conf heard) e t told is late = absurd (let clash : true ≡ false = late in cc)
  in-exchange Un e t told is late = absurd (let clash : true ≡ false = late in cc)

  pub hands-on_top : IsOnTop (small_step c (Hands q)) (greens_of (small_step c (Hands q)) q)
  unfolding r
  hands-on_top =
      let conf = (hands-now c q i may).conf in
      let regular : is_regular_in (small_step c (Hands q)) conf q ≡ true = ap (is_regular_at conf) phase ∙ eq-eqb conf conf refl in
      let late : is_late r.state ≡ false = ap is_late (hand-state c q i (hands-now c q i may)) ∙ never-late (set c q i (hands-now c q i may)) conf (behind c q i (hands-now c q i may)) q in
      of_told (told_in (small_step c (Hands q)) conf q) refl late
      (subst (λ (o : Option Replica). IfSome o (λ r. IsSomeWith (told_in (small_step c (Hands q)) conf q) (λ t. IsInExchange (small_step c (Hands q)) conf t r.held (greens_of (small_step c (Hands q)) q) r.state))) up
      (exchange_progress-kept c (Hands q) i may conf q regular)) where
        of_told : (o : Option Told) → told_in (small_step c (Hands q)) (hands-now c q i may).conf q ≡ o → is_late r.state ≡ false →
            IsSomeWith o (λ t. IsInExchange (small_step c (Hands q)) (hands-now c q i may).conf t r.held (greens_of (small_step c (Hands q)) q) r.state) → IsOnTop (small_step c (Hands q)) (greens_of (small_step c (Hands q)) q)
        of_told None told late is = absurd is
        of_told (Some t) told late is = in-exchange r.state refl t told is late
