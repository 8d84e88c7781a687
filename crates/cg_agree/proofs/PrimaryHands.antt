-- The greens of a member of a primary component behind a place that is handed to it: by an action its level's line goes on, and by the
-- last announcement it is the installation.
use Rattle.std.proofs.Common.{◌≡◌, ℕ, suc, true, false, [], ◌++◌, take, is_some, Option, Some, None, IfSome, refl, sym, ap, ap₂, ◌∙◌, subst, arith, append-nil, eq-eqb, eqb-true}
use Rattle.std.specs.Prelude.{◌==◌}
use Rattle.std.proofs.lemmas.Bool.{cond-true, ne_eqb}
use Rattle.cg_base.specs.Cuts.{index_in}
use Rattle.cg_base.specs.FindLaws.{found_passes}
use Rattle.cg_action.specs.declared.action.Action.{Action}
use Rattle.cg_wire.specs.declared.message.Msg.{Msg}
use Rattle.cg_wire.specs.declared.message.Msg.TheVariants.{Action as ActionMsg, State as StateMsg, GreenItem, RedItem, Cpc}
use Rattle.cg_group.specs.declared.phase.Phase.{Phase}
use Rattle.cg_group.specs.declared.phase.Phase.TheVariants.{Regular}
use Rattle.cg_group.specs.State.{Configuration, phase_of, delivered_to}
use Rattle.cg_client.specs.Replica.{State, RegPrim, Replica}
use Rattle.cg_client.specs.Turn.{begin}
use Rattle.cg_client.specs.Marks.{can_be_green, mark_green}
use Rattle.cg_states.specs.ReplicaStep.{on_message}
use Rattle.cg_model.specs.Chronicle.{Past, Attempt, Chronicle}
use Rattle.cg_model.specs.Looks.{past_of, greens_of, conf_at, ordered_in, attempt_at, installation}
use Rattle.cg_model.specs.Talk.{Talk, no_talk, hears_from, hears, act_in, acts_in}
use Rattle.cg_model.specs.FactsTalk.{handed_talk, count_behind, AreNumbered, AreNumberedAt}
use Rattle.cg_model.specs.FactsReplica.{is_primary}
use Rattle.cg_model.specs.FactsGreens.{IsOnLine, IsHandedGreen}
use Rattle.cg_model.specs.Facts.{Invariant}
use Rattle.cg_model.specs.Small.{Hands, newly_green, installing, small_step}
use Rattle.cg_model.specs.Smalls.{may_make}
use Rattle.cg_agree_lemmas.specs.ActsSaid.{acts-of}
use Rattle.cg_agree.proofs.AttemptSteps.{hands-installing}
use Rattle.cg_agree_lemmas.specs.AttemptsTurn.{installed-attempts}
use Rattle.cg_agree.proofs.BeginsKept.{installed-same, hands-announced, hands-greens}
use Rattle.cg_agree.proofs.ExchangeBehind.{message-now, up-now, handed-now}
use Rattle.cg_agree.proofs.GreenLine.{HasGreenLine, regular-state, on-line, said-before, fits-green}
use Rattle.cg_agree.proofs.HandGreen.{HandsPrimary, green-step, green_turn, line-kept}
use Rattle.cg_agree_lemmas.specs.HandsNow.{HandsNow, hands-regular, new, count, behind-next, running-now}
use Rattle.cg_agree.proofs.InstalledParts.{none-acts, installs-all}
use Rattle.cg_agree.proofs.LevelsKept.{start-kept, installed-primary}
use Rattle.cg_agree_lemmas.specs.OneSteps.{hands-step}
use Rattle.cg_agree.proofs.OutStays.{said-number}
use Rattle.cg_agree_lemmas.specs.RecordKept.{hands-attempts}
use Rattle.cg_agree.proofs.TalkFactsKept.{talk-kept}
use Rattle.cg_agree_lemmas.specs.TurnKinds.{HasInstalled}

act-is : (m : Msg) (a : Action) → act_in m ≡ Some a → m ≡ ActionMsg a
act-is (ActionMsg b) a e = (let same : b ≡ a = cc in ap (λ x. ActionMsg x) same)
act-is (StateMsg s) a e = absurd (let clash : None ≡ Some a = e in cc)
act-is (GreenItem place b) a e = absurd (let clash : None ≡ Some a = e in cc)
act-is (RedItem b) a e = absurd (let clash : None ≡ Some a = e in cc)
act-is (Cpc id conf) a e = absurd (let clash : None ≡ Some a = e in cc)

-- a message that is no action adds none
acts-same : (t : Talk) (from : ℕ) (m : Msg) → ((a : Action) → m ≡ ActionMsg a → ⊥) → (hears_from t from m).acts ≡ t.acts
acts-same t from (ActionMsg a) none = absurd (none a refl)
acts-same t from (StateMsg s) none = refl
acts-same t from (GreenItem place a) none = refl
acts-same t from (RedItem a) none = refl
acts-same t from (Cpc id conf) none = refl

past-there : (o : Option Past) → is_some o ≡ true → (x : Past) × (o ≡ Some x)
past-there None e = absurd (let clash : false ≡ true = e in cc)
past-there (Some x) e = (x, refl)

marked-now : (r : Replica) (from : ℕ) (m : Msg) (a : Action) → r.state ≡ RegPrim → m ≡ ActionMsg a → on_message r.state from m (begin r) ≡ mark_green (begin r) a
unfolding on_message
marked-now r from m a state is = ap₂ (λ (s : State) x. on_message s from x (begin r)) state is

module _ (c : Chronicle) (p : ℕ) (i : Invariant c) (may : may_make c (Hands p) ≡ true) (n : HandsNow c p) where
  abbrev d : Chronicle
  d = small_step c (Hands p)

  phase-now : phase_of d.world.group p ≡ Regular n.conf
  phase-now = (hands-step c p i.net.phase_sound (hands-regular c p may)).stands.phase p ∙ cond-true (p == p) (phase_of c.world.group p) (phase_of c.world.group p) (eq-eqb p p refl) ∙ n.regular

  delivered-now : delivered_to d.world.group p ≡ suc (count c p i n)
  delivered-now = (hands-step c p i.net.phase_sound (hands-regular c p may)).stands.delivered p ∙ cond-true (p == p) (suc (delivered_to c.world.group p)) (delivered_to c.world.group p) (eq-eqb p p refl)

  ordered-now : (k : ℕ) → ordered_in d k ≡ ordered_in c k
  ordered-now k = ap (λ (x : Configuration Msg). x.ordered) ((hands-step c p i.net.phase_sound (hands-regular c p may)).stands.conf k)

  -- ---- a member of a primary component goes on

  module _ (primary : is_primary n.replica.state ≡ true) (regular : (new c p i n).state ≡ RegPrim) where
    state : n.replica.state ≡ RegPrim
    state = regular-state c i p n.conf n.replica (running-now c p i n) n.regular primary

    greens-before : (creator : ℕ) → index_in n.replica.held.queue.green_cut creator ≡ count_behind (handed_talk c n.conf p) creator
    greens-before =
        let handed = subst (λ (x : Phase). AreNumberedAt c p x n.replica) n.regular (subst (λ (o : Option Replica). IfSome o (AreNumberedAt c p (phase_of c.world.group p))) (running-now c p i n) (i.talk.acts_numbered.handed p)) in
        let are : AreNumbered c n.conf p n.replica.held RegPrim = subst (AreNumbered c n.conf p n.replica.held) state handed in
        are.0

    greens-behind : (creator : ℕ) → index_in (new c p i n).held.queue.green_cut creator ≡ count_behind (hears (handed_talk c n.conf p) n.next) creator
    greens-behind creator =
        let handed = subst (λ (x : Phase). AreNumberedAt d p x (new c p i n)) phase-now
        (subst (λ (o : Option Replica). IfSome o (AreNumberedAt d p (phase_of d.world.group p))) (up-now c p i may n) ((talk-kept c (Hands p) i may).acts_numbered.handed p)) in
        let are : AreNumbered d n.conf p (new c p i n).held RegPrim = subst (AreNumbered d n.conf p (new c p i n).held) regular handed in
        are.0 creator ∙ ap (λ t. count_behind t creator) (handed-now c p i may n ∙ behind-next c p i n)

    fits : (a : Action) → act_in n.next.message ≡ Some a → can_be_green n.replica.held a ≡ true
    fits a e =
        let is = act-is n.next.message a e in
        let turn : new c p i n ≡ (mark_green (begin n.replica) a).replica = message-now c p i may n ∙ ap (λ t. t.replica) (marked-now n.replica n.next.from n.next.message a state is) in
        fits-green (begin n.replica) (handed_talk c n.conf p) n.next.from a greens-before
        (λ creator. ap (λ (x : Replica). index_in x.held.queue.green_cut creator) (sym turn) ∙ greens-behind creator
        ∙ ap (λ m. count_behind (hears_from (handed_talk c n.conf p) n.next.from m) creator) is)

    x : (y : Past) × (past_of c p ≡ Some y)
    x = past-there (past_of c p) (i.net.hosted.past p ∙ ap is_some n.node)

    hands : HandsPrimary c p n.conf n.replica n.disk n.next x.0
    hands = record {
      node = n.node;
      past = x.1;
      regular = n.regular;
      number = ne_eqb n.conf 0 (λ e. (let some = said-number c n.conf (said-before c i p n.conf n.replica (running-now c p i n) n.regular primary) in absurd (omega (arith, e, some))));
      next = n.found;
      state = state;
      fits = fits;
    }

    pub goes-green : HasGreenLine d p (attempt_at d (new c p i n).held.prim.index)
    goes-green =
        let line = line-kept c p n.conf n.replica n.disk n.next x.0 hands (on-line c i p n.conf n.replica (running-now c p i n) n.regular primary) in
        let there : IsOnLine d p (green_turn c p n.conf n.replica n.disk n.next x.0 hands).replica =
        subst (λ (y : Chronicle). IsOnLine y p (green_turn c p n.conf n.replica n.disk n.next x.0 hands).replica) (sym (green-step c p n.conf n.replica n.disk n.next x.0 hands)) line in
        let own : IsOnLine d p (new c p i n) = subst (IsOnLine d p) (sym (message-now c p i may n)) there in
        subst (IsHandedGreen d p (attempt_at d (new c p i n).held.prim.index)) regular own.greens

  -- ---- a member installs its attempt

  pub installs-green : HasInstalled n.replica (new c p i n) → HasGreenLine d p (attempt_at d (new c p i n).held.prim.index)
  installs-green done =
      let ins = hands-installing c i p may n done in
      let attempts = hands-attempts c p i n ∙ installed-attempts c.attempts p (greens_of c p ++ newly_green n.replica (new c p i n)) n.replica (new c p i n) done ∙ ap (installing p c.attempts) ins.mine in
      let by = hands-announced c p i may n done in
      let b = attempt_at d (new c p i n).held.prim.index in
      let primary = installed-primary c (Hands p) i may (start-kept c (Hands p) tt) p n.replica (new c p i n) ins done done.before attempts in
      let conf : b.conf ≡ n.conf = eqb-true b.conf ins.conf (found_passes (λ (a : Attempt). a.conf == ins.conf) d.attempts b primary.opened) ∙ ap conf_at (sym ins.regular ∙ n.regular) in
      let greens : greens_of d p ≡ installation b =
      hands-greens c p i n ∙ installs-all c i p n.replica ins done.before (new c p i n) by.greens ∙ sym (installed-same c (Hands p) i may (start-kept c (Hands p) tt) p n.replica (new c p i n) ins done attempts) in
      let before : (handed_talk c n.conf p).acts ≡ [] = ap (λ k. (handed_talk c k p).acts) (ap conf_at (sym n.regular ∙ ins.regular)) ∙ none-acts c i p n.replica ins done.before in
      let acts : acts_in (take (suc (count c p i n)) (ordered_in c n.conf)) ≡ [] =
      sym (acts-of (take (suc (count c p i n)) (ordered_in c n.conf)) no_talk) ∙ ap (λ (t : Talk). t.acts) (behind-next c p i n) ∙ acts-same (handed_talk c n.conf p) n.next.from n.next.message by.none ∙ before in
      let places : acts_in (take (delivered_to d.world.group p) (ordered_in d b.conf)) ≡ [] = ap₂ (λ k list. acts_in (take k list)) delivered-now (ordered-now b.conf ∙ ap (ordered_in c) conf) ∙ acts in
      greens ∙ sym (append-nil (installation b)) ∙ ap (λ ys. installation b ++ ys) (sym places)
