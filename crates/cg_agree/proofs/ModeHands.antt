-- What a state says of what is held, behind a place that is handed, and behind a parting.
use Rattle.std.proofs.Common.{◌⊎◌, ◌≡◌, ℕ, suc, ◌≤◌, Bool, true, false, cond, not, List, [], ◌∷◌, ◌++◌, Option, Some, None, IfSome, option_map, refl, sym, ap, ◌∙◌, subst, inl, inr, eq-eqb, eqb-true}
use Rattle.std.specs.Prelude.{◌==◌}
use Rattle.std.specs.Option.{option_map_or}
use Rattle.std.proofs.lemmas.Bool.{cond-true}
use Rattle.cg_base.specs.Sets.{has}
use Rattle.cg_base.specs.FindLaws.{found_passes}
use Rattle.cg_action.specs.declared.action.Action.{Action}
use Rattle.cg_records.specs.declared.primary.Primary.{Primary}
use Rattle.cg_knowledge.specs.declared.summary.Summary.{Summary}
use Rattle.cg_knowledge.specs.Summaries.{gone}
use Rattle.cg_knowledge.specs.Verdict.{decides}
use Rattle.cg_wire.specs.declared.message.Msg.{Msg}
use Rattle.cg_group.specs.declared.phase.Phase.{Phase}
use Rattle.cg_group.specs.declared.delivery.Delivery.TheVariants.{Message}
use Rattle.cg_group.specs.State.{Sent, phase_of, delivered_to}
use Rattle.cg_group.specs.Events.{delivery_at}
use Rattle.cg_client.specs.Replica.{Held, State, RegPrim, TransPrim, ExchangeStates, ExchangeActions, Construct, No, Un, NonPrim, Left, Replica}
use Rattle.cg_client.specs.Turn.{Turn, begin}
use Rattle.cg_states.specs.ReplicaStep.{on_message, after_delivery}
use Rattle.cg_model.specs.World.{replica_of}
use Rattle.cg_model.specs.Chronicle.{Attempt, Chronicle}
use Rattle.cg_model.specs.Looks.{greens_of, conf_at, members_in, attempt_of, top_of}
use Rattle.cg_model.specs.Talk.{Talk, is_full, is_through, is_announced, state_in}
use Rattle.cg_model.specs.Attempts.{new_attempt}
use Rattle.cg_model.specs.Levels.{prim_at}
use Rattle.cg_model.specs.Fronts.{IsSomeWith}
use Rattle.cg_model.specs.FactsTalk.{handed_talk}
use Rattle.cg_model.specs.FactsReplica.{is_attempting, is_primary, own_record, IsInPrimary, IsInAttempt, HasModeData, IsCounted, is_exchanging}
use Rattle.cg_model.specs.FactsExchange.{IsRecord, HasRecord}
use Rattle.cg_model.specs.Facts.{Invariant}
use Rattle.cg_model.specs.Small.{Hands, newly_green, with_installer, with_entrant, installing, entering, take_all, take_next, small_step}
use Rattle.cg_model.specs.Smalls.{may_make}
use Rattle.cg_agree_lemmas.specs.HeldMarks.{IsOneself}
use Rattle.cg_agree_lemmas.specs.OneselfWorld.{oneself-of}
use Rattle.cg_agree_lemmas.specs.CoresKept.{held-known}
use Rattle.cg_agree_lemmas.specs.AttemptsGrow.{attempts-grow}
use Rattle.cg_agree_lemmas.specs.AttemptsTurn.{at_conf, ends-beside, Entered, entered-now, attempted-attempts, installed-attempts, installing-now}
use Rattle.cg_agree_lemmas.specs.TurnKinds.{IsQuiet, HasInstalled, new_record, Turned, Quiet, Installs, Decides, Attempts, EndsWith}
use Rattle.cg_agree_lemmas.specs.TurnParts.{is_parted, stays-parted}
use Rattle.cg_agree_lemmas.specs.HandsNow.{HandsNow, hands-regular, new, hand-state, found-now, running-now, behind}
use Rattle.cg_agree_lemmas.specs.PlanEnd.{is_behind, plan-end}
use Rattle.cg_agree_lemmas.specs.OneSteps.{hands-step}
use Rattle.cg_agree_lemmas.specs.RecordKept.{record-handed, hands-attempts}
use Rattle.cg_agree.proofs.AttemptSteps.{Installing, hands-installing}
use Rattle.cg_agree.proofs.AttemptsCame.{ins-conf}
use Rattle.cg_agree.proofs.LevelsKept.{start-kept, installed-primary}
use Rattle.cg_agree.proofs.CoreKept.{is_trans, never-trans}
use Rattle.cg_agree_lemmas.specs.ModeHeld.{WaitsForNone, none-message, NothingRed, nothing-message}
use Rattle.cg_agree.proofs.ModeStill.{mode-still}
use Rattle.cg_agree.proofs.ModeCounted.{counted-flow, counted-attempted, counted-installed}
use Rattle.cg_agree.proofs.ModeStates.{in-primary-as, in-attempt-as, attempting-data, beside-data, parted-data, primary-data, construct-lists, quiet-flow, decided-flow}
use Rattle.cg_agree_lemmas.specs.Looking.{is_waiting}

-- the configuration is all that is read of a phase
pub phase-data : (d : Chronicle) (h : Held) (x y : Phase) (state : State) → conf_at x ≡ conf_at y → HasModeData d h x state → HasModeData d h y state
phase-data d h x y RegPrim e is = (subst (IsInPrimary d h) e is.0, is.1, is.2)
phase-data d h x y TransPrim e is = (subst (IsInPrimary d h) e is.0, is.1)
phase-data d h x y (Construct at heard) e is = subst (λ k. IsInAttempt h (attempt_of d k)) e is
phase-data d h x y (No at heard) e is = subst (λ k. IsInAttempt h (attempt_of d k)) e is
phase-data d h x y Un e is = subst (λ k. IsInAttempt h (attempt_of d k)) e is
phase-data d h x y (ExchangeStates at set heard) e is = is
phase-data d h x y (ExchangeActions at heard accepted) e is = is
phase-data d h x y (NonPrim regular) e is = tt
phase-data d h x y Left e is = tt

-- the states that end an attempt come behind a parting alone
never-cut : (set : List ℕ) (conf : ℕ) (t : Talk) (me : ℕ) → is_waiting (state_in set conf t me) ≡ false
never-cut set conf t me = one (is_full set t) (is_through t) (has (gone t.heard) me) (not (decides t.heard)) (is_announced t) where
  one : (b d g n a : Bool) → is_waiting (cond (not b) (ExchangeStates conf set t.heard) (cond (not d) (ExchangeActions conf t.heard t.accepted)
      (cond g Left (cond n (NonPrim true) (cond a RegPrim (Construct conf t.announced)))))) ≡ false
  one false d g n a = refl
  one true false g n a = refl
  one true true true n a = refl
  one true true false true a = refl
  one true true false false true = refl
  one true true false false false = refl

exchanging-own : (c : Chronicle) (h : Held) (phase : Phase) (state : State) (m : Msg) (conf : ℕ) (heard : List Summary) → EndsWith state m conf heard → HasModeData c h phase state → (is_exchanging state ≡ true) × (h.own ≡ [])
exchanging-own c h phase (ExchangeStates at set all) m conf heard ends is = (refl, is)
exchanging-own c h phase (ExchangeActions at all accepted) m conf heard ends is = (refl, is)
exchanging-own c h phase RegPrim m conf heard ends is = absurd ends
exchanging-own c h phase TransPrim m conf heard ends is = absurd ends
exchanging-own c h phase (Construct at all) m conf heard ends is = absurd ends
exchanging-own c h phase (No at all) m conf heard ends is = absurd ends
exchanging-own c h phase Un m conf heard ends is = absurd ends
exchanging-own c h phase (NonPrim regular) m conf heard ends is = absurd ends
exchanging-own c h phase Left m conf heard ends is = absurd ends

-- ---- a place is handed

module _ (c : Chronicle) (p : ℕ) (i : Invariant c) (may : may_make c (Hands p) ≡ true) (n : HandsNow c p) where
  abbrev d : Chronicle
  d = small_step c (Hands p)

  abbrev old : Replica
  old = n.replica

  abbrev after : Replica
  after = new c p i n

  abbrev phase : Phase
  phase = phase_of c.world.group p

  next-is : take_next c.world.group p (begin old) ≡ on_message old.state n.next.from n.next.message (begin old)
  unfolding delivery_at after_delivery
  next-is = ap (λ o. take_all (option_map_or (λ (s : Sent Msg). Message (suc (delivered_to c.world.group p)) s.from s.message ∷ []) o []) (begin old)) (found-now c p i n)

  low : old.held.prim.index ≤ top_of c
  low = (held-known (λ h all. (h.prim.index ≤ top_of c) × (h.prim ≡ prim_at c h.prim.index)) c p old (running-now c p i n) i.attempt.levels_stand.known).0

  oneself : IsOneself c.start old.held (greens_of c p)
  oneself = held-known (IsOneself c.start) c p old (running-now c p i n) (oneself-of c i.replica.cores)

  data-now : HasModeData d old.held phase old.state
  data-now = mode-still c (Hands p) old.held phase old.state i.attempt.levels_stand low n.data_of.data_of

  not-trans : is_trans after.state ≡ false
  not-trans = ap is_trans (hand-state c p i n) ∙ never-trans (members_in c n.conf) n.conf (behind c p i n) p

  none-now : is_exchanging old.state ≡ true → old.held.own ≡ [] → after.held.own ≡ []
  none-now ex none = subst WaitsForNone (sym next-is) (none-message old.state n.next.from n.next.message (begin old) ex none)

  quiet-data : (state : State) → old.state ≡ state → HasModeData d old.held phase state → IsQuiet old after → HasModeData d after.held phase after.state
  quiet-data RegPrim e is quiet =
      let lists : NothingRed (take_next c.world.group p (begin old)) = subst NothingRed (sym next-is)
      (subst (λ (s : State). NothingRed (on_message s n.next.from n.next.message (begin old))) (sym e) (nothing-message n.next.from n.next.message (begin old) (record { reds = is.1; yellow = is.2 }))) in
      primary-data d after.held phase after.state (quiet.primary ∙ ap is_primary e) not-trans (in-primary-as d old.held after.held (conf_at phase) quiet.values is.0) lists.reds lists.yellow
  quiet-data TransPrim e is quiet = absurd (let clash : true ≡ false = sym (ap is_trans e) ∙ ap is_trans n.state ∙ never-trans (members_in c n.conf) n.conf (handed_talk c n.conf p) p in cc)
  quiet-data (Construct at heard) e is quiet =
      attempting-data d after.held phase after.state (quiet.attempting ∙ ap is_attempting e) (in-attempt-as old.held after.held (attempt_of d (conf_at phase)) quiet.values (quiet.still (ap is_attempting e)).own is)
  quiet-data (No at heard) e is quiet =
      attempting-data d after.held phase after.state (quiet.attempting ∙ ap is_attempting e) (in-attempt-as old.held after.held (attempt_of d (conf_at phase)) quiet.values (quiet.still (ap is_attempting e)).own is)
  quiet-data Un e is quiet =
      attempting-data d after.held phase after.state (quiet.attempting ∙ ap is_attempting e) (in-attempt-as old.held after.held (attempt_of d (conf_at phase)) quiet.values (quiet.still (ap is_attempting e)).own is)
  quiet-data (ExchangeStates at set heard) e is quiet =
      beside-data d after.held phase after.state (quiet.attempting ∙ ap is_attempting e) (quiet.primary ∙ ap is_primary e) (none-now (ap is_exchanging e) is)
  quiet-data (ExchangeActions at heard accepted) e is quiet =
      beside-data d after.held phase after.state (quiet.attempting ∙ ap is_attempting e) (quiet.primary ∙ ap is_primary e) (none-now (ap is_exchanging e) is)
  quiet-data (NonPrim regular) e is quiet =
      parted-data d after.held phase after.state (subst (λ (t : Turn). is_parted t.replica.state ≡ true) (sym next-is) (stays-parted old.state n.next.from n.next.message (begin old) refl (ap is_parted e)))
      (quiet.attempting ∙ ap is_attempting e) (quiet.primary ∙ ap is_primary e)
  quiet-data Left e is quiet =
      parted-data d after.held phase after.state (subst (λ (t : Turn). is_parted t.replica.state ≡ true) (sym next-is) (stays-parted old.state n.next.from n.next.message (begin old) refl (ap is_parted e)))
      (quiet.attempting ∙ ap is_attempting e) (quiet.primary ∙ ap is_primary e)

  -- by the last announcement
  installed-lists : (state : State) → old.state ≡ state → HasInstalled old after → NothingRed (take_next c.world.group p (begin old))
  installed-lists (Construct at heard) e done =
      subst NothingRed (sym next-is) (subst (λ (s : State). NothingRed (on_message s n.next.from n.next.message (begin old))) (sym e)
      (construct-lists c.start (greens_of c p) (begin old) n.next.from n.next.message at heard e oneself
      (subst (λ (s : State). is_primary (on_message s n.next.from n.next.message (begin old)).replica.state ≡ true) e (subst (λ (t : Turn). is_primary t.replica.state ≡ true) next-is done.after))))
  installed-lists (No at heard) e done = absurd (let clash : true ≡ false = sym (ap is_waiting e) ∙ ap is_waiting n.state ∙ never-cut (members_in c n.conf) n.conf (handed_talk c n.conf p) p in cc)
  installed-lists Un e done = absurd (let clash : true ≡ false = sym (ap is_waiting e) ∙ ap is_waiting n.state ∙ never-cut (members_in c n.conf) n.conf (handed_talk c n.conf p) p in cc)
  installed-lists RegPrim e done = absurd (let clash : false ≡ true = sym (ap is_attempting e) ∙ done.before in cc)
  installed-lists TransPrim e done = absurd (let clash : false ≡ true = sym (ap is_attempting e) ∙ done.before in cc)
  installed-lists (ExchangeStates at set heard) e done = absurd (let clash : false ≡ true = sym (ap is_attempting e) ∙ done.before in cc)
  installed-lists (ExchangeActions at heard accepted) e done = absurd (let clash : false ≡ true = sym (ap is_attempting e) ∙ done.before in cc)
  installed-lists (NonPrim regular) e done = absurd (let clash : false ≡ true = sym (ap is_attempting e) ∙ done.before in cc)
  installed-lists Left e done = absurd (let clash : false ≡ true = sym (ap is_attempting e) ∙ done.before in cc)

  -- what is found of an attempt that is installed now
  counted-found : (ins : Installing c p old) → HasInstalled old after → d.attempts ≡ installing p c.attempts (Some (own_record ins.a p)) → IfSome (attempt_of d (conf_at phase)) (λ b. IsCounted b after)
  counted-found ins done attempts =
      let found : attempt_of d ins.conf ≡ Some (with_installer p ins.a) =
      ap (λ xs. at_conf xs ins.conf) attempts ∙ installing-now c.attempts p (own_record ins.a p) ins.conf
      ∙ cond-true (ins.conf == ins.a.conf) (option_map (with_installer p) (at_conf c.attempts ins.conf)) (at_conf c.attempts ins.conf) (eq-eqb ins.conf ins.a.conf (sym (ins-conf c p old ins)))
      ∙ ap (option_map (with_installer p)) ins.found in
      let was = subst (λ (o : Option Attempt). IfSome o (λ a. IsCounted a old)) (ap (attempt_of c) (ap conf_at ins.regular) ∙ ins.found) n.data_of.counted in
      subst (λ (o : Option Attempt). IfSome o (λ b. IsCounted b after)) (sym (ap (attempt_of d) (ap conf_at ins.regular) ∙ found)) (counted-installed old after p ins.a (with_installer p ins.a) done ins.id was refl)

  phase-same : phase_of d.world.group p ≡ phase
  phase-same =
      let step = hands-step c p i.net.phase_sound (hands-regular c p may) in
      step.stands.phase p ∙ cond-true (p == p) (phase_of c.world.group p) (phase_of c.world.group p) (eq-eqb p p refl)

  -- the attempts behind it
  abbrev greens-now : List Action
  greens-now = greens_of c p ++ newly_green old after

  pub hands-data : replica_of d.world p ≡ Some after → Turned old after n.next.message → (after.held.id ≡ p) × HasModeData d after.held phase after.state × IfSome (attempt_of d (conf_at phase)) (λ b. IsCounted b after)
  hands-data up (Quiet quiet) =
      (quiet.values.id ∙ n.data_of.id, quiet-data old.state refl data-now quiet, counted-flow c (Hands p) i may p old after (running-now c p i n) up (quiet-flow old after quiet))
  hands-data up (Installs done) =
      let ins = hands-installing c i p may n done in
      let attempts = hands-attempts c p i n ∙ installed-attempts c.attempts p greens-now old after done ∙ ap (installing p c.attempts) ins.mine in
      let lists = installed-lists old.state refl done in (
        done.id ∙ n.data_of.id,
        primary-data d after.held phase after.state done.after not-trans
            (subst (IsInPrimary d after.held) (sym (ap conf_at ins.regular)) (installed-primary c (Hands p) i may (start-kept c (Hands p) tt) p old after ins done done.before attempts)) lists.reds lists.yellow,
        counted-found ins done attempts,
      )
  hands-data up (Decides conf heard ends decided) =
      let beside = ends-beside old.state n.next.message conf heard ends in (
        decided.id ∙ n.data_of.id,
        subst (λ (s : State). HasModeData d after.held phase s) (sym decided.state) tt,
        counted-flow c (Hands p) i may p old after (running-now c p i n) up (decided-flow heard old after beside.0 beside.1 decided),
      )
  hands-data up (Attempts conf heard ends attempted) =
      let v = new_record conf heard old.held.id in
      let plan = plan-end c p i n conf heard ends attempted.remains (ap is_behind attempted.state) in
      let at_phase : conf_at phase ≡ conf = ap conf_at n.regular ∙ plan.0 in
      let own = exchanging-own c old.held phase old.state n.next.message conf heard ends n.data_of.data_of in
      let record_of = record-handed c d p i n greens-now (attempts-grow c (Hands p)) (hands-attempts c p i n) in
      let fits = (subst (HasRecord d after.held.id after.held.prim.index) attempted.vulnerable record_of).2 in
      let attempts = hands-attempts c p i n ∙ attempted-attempts n.next.message conf heard c.attempts p greens-now old after ends attempted in (
        attempted.id ∙ n.data_of.id,
        attempting-data d after.held phase after.state (ap is_attempting attempted.state) (subst (λ k. IsInAttempt after.held (attempt_of d k)) (sym at_phase) (in-attempt (attempt_of d conf) refl fits (none-now own.0 own.1))),
        subst (λ k. IfSome (attempt_of d k) (λ b. IsCounted b after)) (sym at_phase) (entered (entered-now c.attempts greens-now after.held v) attempts at_phase),
      )
    where
      in-attempt : (o : Option Attempt) → attempt_of d conf ≡ o → IsSomeWith o (λ a. IsRecord a (new_record conf heard old.held.id)) → after.held.own ≡ [] → IsInAttempt after.held o
      in-attempt None e is own = absurd is
      in-attempt (Some a) e is own =
          let named : a.conf ≡ conf = eqb-true a.conf conf (found_passes (λ (a : Attempt). a.conf == conf) d.attempts a e) in
          let same : new_record conf heard old.held.id ≡ own_record a after.held.id = own-same a after.held.id named is attempted.id in
          (attempted.vulnerable ∙ ap (λ v. Some v) same, ap (λ (x : Primary). x.index) attempted.prim ∙ is.0, own)
        where
          own-same : (a : Attempt) (q : ℕ) → a.conf ≡ conf → IsRecord a (new_record conf heard old.held.id) → q ≡ old.held.id → new_record conf heard old.held.id ≡ own_record a q
          own-same a q named is id k = record { attempt = sym named k; from = is.0 k; set = is.1 k; bits = sym id k ∷ [] }

      uninstalled : (a : Attempt) → (at_conf c.attempts conf ≡ Some a) ⊎ ((at_conf c.attempts conf ≡ None) × (a ≡ new_attempt greens-now after.held (new_record conf heard old.held.id))) → conf_at phase ≡ conf →
          has a.installed after.held.id ≡ false
      uninstalled a (inl found) at_phase =
          let was = subst (λ (o : Option Attempt). IfSome o (λ a. IsCounted a old)) (ap (attempt_of c) at_phase ∙ found) n.data_of.counted in
          ap (has a.installed) attempted.id ∙ was.installed ∙ (ends-beside old.state n.next.message conf heard ends).1
      uninstalled a (inr made) at_phase = ap (λ (x : Attempt). has x.installed after.held.id) made.1

      entered : Entered c.attempts greens-now after.held (new_record conf heard old.held.id) → d.attempts ≡ entering greens-now after.held c.attempts (Some (new_record conf heard old.held.id)) → conf_at phase ≡ conf →
          IfSome (attempt_of d conf) (λ b. IsCounted b after)
      entered now attempts at_phase =
          let found : attempt_of d conf ≡ Some (with_entrant after.held.id now.first) =
          ap (λ xs. at_conf xs conf) attempts ∙ now.now conf ∙ cond-true (conf == conf) (Some (with_entrant after.held.id now.first)) (at_conf c.attempts conf) (eq-eqb conf conf refl) in
          subst (λ (o : Option Attempt). IfSome o (λ b. IsCounted b after)) (sym found)
          (counted-attempted conf heard old after (with_entrant after.held.id now.first) now.first attempted refl (uninstalled now.first now.whose at_phase))
