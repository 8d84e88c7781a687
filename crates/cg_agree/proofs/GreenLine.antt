-- The greens of a regular member of a primary component are its level's installation and the actions that it was handed: behind a step
-- that leaves it as it was, and behind a place that is handed to it.
use Rattle.std.proofs.Common.{◌≡◌, ℕ, ◌≤◌, ◌<◌, Bool, true, false, cond, not, List, ◌++◌, take, length, Option, Some, IfSome, refl, sym, ap, ap₂, ◌∙◌, subst, arith, eq-eqb, if◌then◌else◌}
use Rattle.std.specs.Prelude.{◌==◌}
use Rattle.std.proofs.lemmas.Bool.{cond-true}
use Rattle.cg_base.specs.Cuts.{index_in}
use Rattle.cg_base.specs.Sets.{has}
use Rattle.cg_action.specs.declared.action.Action.{Action}
use Rattle.cg_knowledge.specs.Summaries.{gone}
use Rattle.cg_knowledge.specs.Verdict.{decides}
use Rattle.cg_records.specs.declared.primary.Primary.{Primary}
use Rattle.cg_wire.specs.declared.message.Msg.TheVariants.{Action as ActionMsg}
use Rattle.cg_group.specs.declared.phase.Phase.{Phase}
use Rattle.cg_group.specs.declared.phase.Phase.TheVariants.{Regular}
use Rattle.cg_group.specs.State.{phase_of, delivered_to}
use Rattle.cg_client.specs.Replica.{State, RegPrim, ExchangeStates, ExchangeActions, Construct, NonPrim, Left, Replica}
use Rattle.cg_client.specs.Turn.{Turn}
use Rattle.cg_client.specs.Marks.{can_be_green, mark_green, place_green}
use Rattle.cg_model.specs.World.{replica_of}
use Rattle.cg_model.specs.Chronicle.{Attempt, Chronicle}
use Rattle.cg_model.specs.Fronts.{When}
use Rattle.cg_model.specs.Looks.{greens_of, conf_at, members_in, ordered_in, attempt_at, top_of, installation}
use Rattle.cg_model.specs.Talk.{Talk, hears_from, is_full, is_through, is_announced, acts_in, state_in}
use Rattle.cg_model.specs.Levels.{prim_at}
use Rattle.cg_model.specs.FactsNet.{IsPhase}
use Rattle.cg_model.specs.FactsTalk.{handed_talk, count_behind, IsStateIn}
use Rattle.cg_model.specs.FactsReplica.{IsModeData, HasModeData, IsInPrimary, is_primary}
use Rattle.cg_model.specs.FactsGreens.{IsOnLine, IsHandedGreen}
use Rattle.cg_model.specs.Facts.{Invariant}
use Rattle.cg_model.specs.Small.{Small, small_step}
use Rattle.cg_model.specs.Smalls.{may_make}
use Rattle.cg_agree_lemmas.specs.CoresKept.{held-known}
use Rattle.cg_agree.proofs.DeadKept.{said-attempt}
use Rattle.cg_agree_lemmas.specs.HandMarks.{one_of, counted-next}
use Rattle.cg_agree_lemmas.specs.Reach.{take-front}
use Rattle.cg_agree_lemmas.specs.ReachSteps.{goes_on-kept}
use Rattle.cg_agree_lemmas.specs.ReachWorld.{level-kept, when-is}
use Rattle.cg_agree_lemmas.specs.SameAttempt.{same-installation}

abbrev pub HasGreenLine : Chronicle → ℕ → Attempt → Type 0
HasGreenLine c p a = greens_of c p ≡ installation a ++ acts_in (take (delivered_to c.world.group p) (ordered_in c a.conf))

-- ---- states

abbrev Choice : Bool → State → State → State
Choice b x y = if b then x else y

pub primary-regular : (set : List ℕ) (conf : ℕ) (t : Talk) (me : ℕ) → is_primary (state_in set conf t me) ≡ true → state_in set conf t me ≡ RegPrim
primary-regular set conf t me e = at (is_full set t) (is_through t) (has (gone t.heard) me) (decides t.heard) (is_announced t) e where
  at : (full through left decided told : Bool) →
      is_primary (Choice (not full) (ExchangeStates conf set t.heard) (Choice (not through) (ExchangeActions conf t.heard t.accepted)
      (Choice left Left (Choice (not decided) (NonPrim true) (Choice told RegPrim (Construct conf t.announced)))))) ≡ true →
      Choice (not full) (ExchangeStates conf set t.heard) (Choice (not through) (ExchangeActions conf t.heard t.accepted)
      (Choice left Left (Choice (not decided) (NonPrim true) (Choice told RegPrim (Construct conf t.announced))))) ≡ RegPrim
  at false through left decided told e = absurd (let clash : false ≡ true = e in cc)
  at true false left decided told e = absurd (let clash : false ≡ true = e in cc)
  at true true true decided told e = absurd (let clash : false ≡ true = e in cc)
  at true true false false told e = absurd (let clash : false ≡ true = e in cc)
  at true true false true true e = refl
  at true true false true false e = absurd (let clash : false ≡ true = e in cc)

-- a member of a primary component in its regular phase
pub regular-state : (c : Chronicle) (i : Invariant c) (q k : ℕ) (r : Replica) → replica_of c.world q ≡ Some r → phase_of c.world.group q ≡ Regular k → is_primary r.state ≡ true → r.state ≡ RegPrim
regular-state c i q k r up phase primary =
    let state : r.state ≡ state_in (members_in c k) k (handed_talk c k q) q =
    subst (λ (x : Phase). IsStateIn c q x r) phase (subst (λ (o : Option Replica). IfSome o (IsStateIn c q (phase_of c.world.group q))) up (i.talk.mode_fits q)) in
    state ∙ primary-regular (members_in c k) k (handed_talk c k q) q (ap is_primary (sym state) ∙ primary)

-- ---- as before

pub record WasPrimary (c d : Chronicle) (q k : ℕ) (new : Replica) : Type 0 where
  pub old : Replica
  pub was : replica_of c.world q ≡ Some old
  pub primary : is_primary old.state ≡ true
  pub prim : new.held.prim ≡ old.held.prim
  pub phase : phase_of c.world.group q ≡ Regular k
  pub delivered : delivered_to d.world.group q ≡ delivered_to c.world.group q
  pub greens : greens_of d q ≡ greens_of c q

module _ (c : Chronicle) (i : Invariant c) (q k : ℕ) (r : Replica) (up : replica_of c.world q ≡ Some r) (phase : phase_of c.world.group q ≡ Regular k) (primary : is_primary r.state ≡ true) where
  abbrev a : Attempt
  a = attempt_at c r.held.prim.index

  state : r.state ≡ RegPrim
  state = regular-state c i q k r up phase primary

  pub on-line : IsOnLine c q r
  on-line = when-is (is_primary r.state) (IsOnLine c q r) primary (subst (λ (o : Option Replica). IfSome o (λ r. When (is_primary r.state) (IsOnLine c q r))) up (i.green.primary_greens q))

  pub line-before : HasGreenLine c q a
  line-before = subst (IsHandedGreen c q a) state on-line.greens

  pub conf-before : a.conf ≡ k
  conf-before = on-line.conf ∙ ap conf_at phase

  pub in-primary : IsInPrimary c r.held k
  in-primary =
      let mode : IsModeData c q r = subst (λ (o : Option Replica). IfSome o (IsModeData c q)) up (i.replica.mode_data q) in
      let data_of : HasModeData c r.held (Regular k) RegPrim = subst (λ (s : State). HasModeData c r.held (Regular k) s) state (subst (λ (x : Phase). HasModeData c r.held x r.state) phase mode.data_of) in
      data_of.0

  pub said-before : 0 < length (ordered_in c k)
  said-before = said-attempt c k a i in-primary.opened

  within : delivered_to c.world.group q ≤ length (ordered_in c k)
  within = (subst (IsPhase c q (delivered_to c.world.group q)) phase (i.net.phase_sound.phase q)).1

  -- behind a step, where the member is as it was
  line-still : (s : Small) → may_make c s ≡ true → delivered_to (small_step c s).world.group q ≡ delivered_to c.world.group q → greens_of (small_step c s) q ≡ greens_of c q →
      HasGreenLine (small_step c s) q (attempt_at (small_step c s) r.held.prim.index)
  line-still s may delivered greens =
      let d = small_step c s in
      let from = in-primary.index in
      let low = (held-known (λ h all. (h.prim.index ≤ top_of c) × (h.prim ≡ prim_at c h.prim.index)) c q r up i.attempt.levels_stand.known).0 in
      let same = level-kept c s r.held.prim.index i.attempt.levels_stand (omega (arith, from)) low in
      let b = attempt_at d r.held.prim.index in
      let on = goes_on-kept k c s i.net.phase_sound i.net.receipts_inside may said-before in
      let places : take (delivered_to d.world.group q) (ordered_in d b.conf) ≡ take (delivered_to c.world.group q) (ordered_in c a.conf) =
      ap₂ (λ n conf. take n (ordered_in d conf)) delivered (same.conf ∙ conf-before)
      ∙ take-front (delivered_to c.world.group q) (ordered_in c k) (ordered_in d k) on.ordered within ∙ ap (λ conf. take (delivered_to c.world.group q) (ordered_in c conf)) (sym conf-before) in
      greens ∙ line-before ∙ ap₂ (λ xs ys. xs ++ acts_in ys) (sym (same-installation a b same)) (sym places)

pub as-before : (c : Chronicle) (s : Small) (i : Invariant c) → may_make c s ≡ true → (q k : ℕ) (new : Replica) → WasPrimary c (small_step c s) q k new →
    HasGreenLine (small_step c s) q (attempt_at (small_step c s) new.held.prim.index)
as-before c s i may q k new was =
    subst (λ (x : Primary). HasGreenLine (small_step c s) q (attempt_at (small_step c s) x.index)) (sym was.prim) (line-still c i q k was.old was.was was.phase was.primary s may was.delivered was.greens)

-- ---- an action that is handed

-- where as many are green behind it as are known, it was the next green one
pub fits-green : (t : Turn) (X : Talk) (from : ℕ) (a : Action) → ((creator : ℕ) → index_in t.replica.held.queue.green_cut creator ≡ count_behind X creator) →
    ((creator : ℕ) → index_in (mark_green t a).replica.held.queue.green_cut creator ≡ count_behind (hears_from X from (ActionMsg a)) creator) → can_be_green t.replica.held a ≡ true
unfolding mark_green
fits-green t X from a before behind = at (can_be_green t.replica.held a) refl where
  at : (b : Bool) → can_be_green t.replica.held a ≡ b → can_be_green t.replica.held a ≡ true
  at true e = e
  at false e =
      let q = a.id.creator in
      let same : index_in (cond (can_be_green t.replica.held a) (place_green t a) t).replica.held.queue.green_cut q ≡ index_in t.replica.held.queue.green_cut q =
      ap (λ b. index_in (cond b (place_green t a) t).replica.held.queue.green_cut q) e in
      let one : one_of a q ≡ 1 = cond-true (q == q) 1 0 (eq-eqb q q refl) in
      let more = counted-next X a q in
      let old = before q in
      let new' = behind q in
      absurd (omega (arith, same, one, more, old, new'))
