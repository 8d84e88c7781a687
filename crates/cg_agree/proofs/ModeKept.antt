-- What a state says of what is held: every small step keeps it.
use Rattle.std.proofs.Common.{◌⊎◌, ◌≡◌, ℕ, ◌≤◌, ◌<◌, true, false, cond, not, List, [], ◌++◌, length, find, Option, Some, None, IfSome, is_some, option_map, refl, sym, ap, ap₂, ◌∙◌, subst, inl, inr, arith, eq-eqb}
use Rattle.std.specs.Prelude.{◌==◌, option_and_then}
use Rattle.std.specs.Option.{option_map_or}
use Rattle.std.proofs.lemmas.Bool.{cases_Bool, cases_eq, cond-true, cond-false, and_parts, ne_eqb, not-true}
use Rattle.cg_base.specs.declared.action_id.ActionId.{ActionId}
use Rattle.cg_base.specs.declared.weighted.Weighted.{Weighted}
use Rattle.cg_knowledge.specs.Summaries.{senders}
use Rattle.cg_base.specs.Sets.{has}
use Rattle.cg_base.specs.Text.{is_nil}
use Rattle.cg_base.specs.Weights.{ids}
use Rattle.cg_base.specs.ListLaws.{is_nil-none}
use Rattle.cg_members.specs.Servers.{is_server}
use Rattle.cg_group.specs.declared.phase.Phase.{Phase}
use Rattle.cg_group.specs.declared.phase.Phase.TheVariants.{Down as DownPhase, Alone, Regular, Transitional}
use Rattle.cg_group.specs.State.{phase_of, home, regular_in}
use Rattle.cg_client.specs.Replica.{Held, State, RegPrim, TransPrim, ExchangeStates, ExchangeActions, Construct, No, Un, NonPrim, Left, Replica, fresh, fresh_held}
use Rattle.cg_client.specs.Turn.{Turn, begin}
use Rattle.cg_client.specs.Requests.{settle}
use Rattle.cg_disk_records.specs.Stored.{stored_of, whiten, recovery_turn}
use Rattle.cg_disk_records.specs.Crash.{Disk, new_disk, at_rest, recovered, disk_recovered}
use Rattle.cg_states.specs.ReplicaStep.{on_transitional, after_delivery}
use Rattle.cg_model.specs.World.{NodeState, Up, Down, Node, World, TransferState, with_node, node_of, replica_of, running, has_begun, is_left}
use Rattle.cg_model.specs.Step.{joiner_replica, without_snapshot}
use Rattle.cg_model.specs.Chronicle.{Attempt, Chronicle, no_chronicle}
use Rattle.cg_model.specs.Looks.{greens_of, conf_at, ordered_in, on_disk, attempt_of, top_of, snapshot_of}
use Rattle.cg_model.specs.Levels.{prim_at}
use Rattle.cg_model.specs.FactsReplica.{is_attempting, is_primary, own_record, IsInPrimary, HasModeData, IsCounted, IsModeData, is_exchanging}
use Rattle.cg_model.specs.Facts.{Invariant}
use Rattle.cg_model.specs.Small.{Small, Starts, Makes, Enters, Orders, Receives, Hands, Leaves, Asks, Settles, Commits, Crashes, Recovers, Copies, Joins, newly_green, with_installer, installing, turning, take_parting, take_newest, take_next, take_request, coming, handed_next, leaving, commit_as, crash_as, recover_as, copy_as, join_with, newest_conf, start, small_step}
use Rattle.cg_model.specs.Smalls.{may_make, may_join, is_running, is_set}
use Rattle.cg_agree_lemmas.specs.ChronicleFacts.{node_of-set}
use Rattle.cg_group.specs.LookupLaws.{at-cond}
use Rattle.cg_agree_lemmas.specs.HeldCommit.{recovered-id}
use Rattle.cg_agree_lemmas.specs.HeldMarks.{IsOneself}
use Rattle.cg_agree_lemmas.specs.HeldMessages.{FitsYellow}
use Rattle.cg_agree_lemmas.specs.OneselfWorld.{oneself-of}
use Rattle.cg_agree_lemmas.specs.CoresKept.{held-known, node-of}
use Rattle.cg_agree_lemmas.specs.CoresSmall.{fresh-all}
use Rattle.cg_agree.proofs.BegunKept.{nothing-before}
use Rattle.cg_agree_lemmas.specs.AttemptsTurn.{at_conf, installed-attempts, installing-now}
use Rattle.cg_agree_lemmas.specs.TurnValues.{SameValues, even-request, even-settle, even-own_to_red}
use Rattle.cg_agree_lemmas.specs.TurnKinds.{IsQuiet, HasInstalled}
use Rattle.cg_agree_lemmas.specs.TurnParts.{is_parted, settle-quiet, request-quiet, newest-come}
use Rattle.cg_agree_lemmas.specs.PartingActs.{PartedBy, parting-by}
use Rattle.cg_agree_lemmas.specs.GroupSound.{phase-made}
use Rattle.cg_agree_lemmas.specs.GroupKept.{orders-conf, receives-conf, leaving-regular}
use Rattle.cg_agree_lemmas.specs.NextThere.{orders-now, receives-now}
use Rattle.cg_agree_lemmas.specs.OneSteps.{turns-step, hands-step, leaves-step, enters-step, commits-step, copies-step, crashes-step, recovers-step, joins-step, may-join}
use Rattle.cg_agree_lemmas.specs.HandsKept.{hosted, regular-phase}
use Rattle.cg_agree_lemmas.specs.HandsNow.{hands-now, hands-regular, new, hand-turned}
use Rattle.cg_agree_lemmas.specs.RecordKept.{turn-is}
use Rattle.cg_agree.proofs.PastKept.{EntersNow, enters-now}
use Rattle.cg_agree.proofs.AttemptSteps.{attempt-step, Installing, leaves-installing}
use Rattle.cg_agree.proofs.DeadKept.{said-attempt, said-by}
use Rattle.cg_agree.proofs.AttemptsCame.{Came, Stayed, WasLeft, WasEntered, WasInstalled, WasMade, came, ins-conf}
use Rattle.cg_agree.proofs.OutStays.{said-number}
use Rattle.cg_agree.proofs.LevelsKept.{start-kept, installed-primary, leaves-attempts}
use Rattle.cg_agree.proofs.CoreKept.{yellow-fits, Partway, places-on, way-first}
use Rattle.cg_agree_lemmas.specs.ModeHeld.{none-newest, none-settle, none-request, SameLists, lists-settle, lists-request}
use Rattle.cg_agree.proofs.ModeStill.{mode-still}
use Rattle.cg_agree.proofs.ModeCounted.{Flow, flow-none, counted-flow, counted-installed}
use Rattle.cg_agree.proofs.ModeStates.{in-primary-as, in-attempt-as, attempting-data, from-attempting, from-primary, parted-data, quiet-flow}
use Rattle.cg_agree.proofs.ModeHands.{phase-data, hands-data}
use Rattle.cg_disk_records.specs.Holds.{cut_behind}
use Rattle.cg_group.specs.RefusalLaws.{regular-up}

-- ---- replicas behind a step

replica-set : (w : World) (p : ℕ) (life : NodeState) (q : ℕ) → replica_of (record w { nodes = with_node w.nodes (record { id = p; life = life }) }) q ≡ cond (p == q) (running life) (replica_of w q)
replica-set w p life q =
    ap (λ (o : Option Node). option_and_then (λ s. running s.life) o) (node_of-set w p life q)
    ∙ at-cond (λ (o : Option Node). option_and_then (λ s. running s.life) o) (p == q) (Some (record { id = p; life = life })) (node_of w q)

module _ (c : Chronicle) (s : Small) (i : Invariant c) (may : may_make c s ≡ true) where
  abbrev d : Chronicle
  d = small_step c s

  mode-of : (q : ℕ) (r : Replica) → replica_of c.world q ≡ Some r → IsModeData c q r
  mode-of q r up = subst (λ (o : Option Replica). IfSome o (IsModeData c q)) up (i.replica.mode_data q)

  low-of : (q : ℕ) (r : Replica) → replica_of c.world q ≡ Some r → r.held.prim.index ≤ top_of c
  low-of q r up = (held-known (λ h all. (h.prim.index ≤ top_of c) × (h.prim ≡ prim_at c h.prim.index)) c q r up i.attempt.levels_stand.known).0

  data-of : (q : ℕ) (r : Replica) → replica_of c.world q ≡ Some r → HasModeData d r.held (phase_of c.world.group q) r.state
  data-of q r up = mode-still c s r.held (phase_of c.world.group q) r.state i.attempt.levels_stand (low-of q r up) (mode-of q r up).data_of

  -- of a replica that has flowed on, in its configuration
  pub mode-flowed : (q : ℕ) (r new' : Replica) → replica_of c.world q ≡ Some r → replica_of d.world q ≡ Some new' → Flow r new' → conf_at (phase_of d.world.group q) ≡ conf_at (phase_of c.world.group q) →
      HasModeData d new'.held (phase_of c.world.group q) new'.state → IsModeData d q new'
  mode-flowed q r new' up after flow conf data_of = record {
    id = flow.id ∙ (mode-of q r up).id;
    data_of = phase-data d new'.held (phase_of c.world.group q) (phase_of d.world.group q) new'.state (sym conf) data_of;
    counted = subst (λ k. IfSome (attempt_of d k) (λ a. IsCounted a new')) (sym conf) (counted-flow c s i may q r new' up after flow);
  }

  -- of a replica that has no turn
  pub mode-other : (q : ℕ) → replica_of d.world q ≡ replica_of c.world q → phase_of d.world.group q ≡ phase_of c.world.group q → IfSome (replica_of d.world q) (IsModeData d q)
  mode-other q same phase = at (replica_of c.world q) refl where
    at : (o : Option Replica) → replica_of c.world q ≡ o → IfSome (replica_of d.world q) (IsModeData d q)
    at None e = subst (λ (o : Option Replica). IfSome o (IsModeData d q)) (sym (same ∙ e)) tt
    at (Some r) e = subst (λ (o : Option Replica). IfSome o (IsModeData d q)) (sym (same ∙ e)) (mode-flowed q r r e (same ∙ e) (flow-none r) (ap conf_at phase) (data-of q r e))

  -- one replica has another life and phase
  pub mode-one : (p : ℕ) (o : Option Replica) → ((q : ℕ) → replica_of d.world q ≡ cond (p == q) o (replica_of c.world q)) → (now : Phase) → ((q : ℕ) → phase_of d.world.group q ≡ cond (q == p) now (phase_of c.world.group q)) →
      (replica_of d.world p ≡ o → IfSome o (IsModeData d p)) → (q : ℕ) → IfSome (replica_of d.world q) (IsModeData d q)
  mode-one p o lives now phases own q = elim (cases_eq p q) [
    | inl same ↦
        let here : replica_of d.world p ≡ o = lives p ∙ cond-true (p == p) o (replica_of c.world p) (eq-eqb p p refl) in
        subst (λ n. IfSome (replica_of d.world n) (IsModeData d n)) same (subst (λ (o : Option Replica). IfSome o (IsModeData d p)) (sym here) (own here))
    | inr apart ↦ mode-other q (lives q ∙ cond-false (p == q) o (replica_of c.world q) (ne_eqb p q apart)) (phases q ∙ cond-false (q == p) now (phase_of c.world.group q) (ne_eqb q p (λ e. apart (sym e))))
  ]

-- ---- turns

-- the replicas behind a turn
turn-lives : (c b : Chronicle) (p : ℕ) (part : Turn → Turn) (r : Replica) (disk : Disk) → b.world.nodes ≡ c.world.nodes → node_of b.world p ≡ Some (record { id = p; life = Up r disk }) → (q : ℕ) →
    replica_of (turning b p part).world q ≡ cond (p == q) (Some (part (begin r)).replica) (replica_of c.world q)
turn-lives c b p part r disk nodes node q =
    ap (λ (x : Chronicle). replica_of x.world q) (turn-is b p part r disk node) ∙ replica-set b.world p (Up (part (begin r)).replica disk) q
    ∙ ap (λ xs. cond (p == q) (Some (part (begin r)).replica) (option_and_then (λ s. running s.life) (find (λ (s : Node). s.id == q) xs))) nodes

-- of a state that stays, with the same lists
even-data : (d : Chronicle) (old new' : Held) (phase : Phase) (state : State) → SameValues old new' → SameLists old new' → (is_attempting state ≡ true → new'.own ≡ old.own) → (is_exchanging state ≡ true → old.own ≡ [] → new'.own ≡ []) →
    HasModeData d old phase state → HasModeData d new' phase state
even-data d old new' phase RegPrim values lists still none is = (in-primary-as d old new' (conf_at phase) values is.0, lists.reds ∙ is.1, lists.yellow ∙ is.2)
even-data d old new' phase TransPrim values lists still none is = (in-primary-as d old new' (conf_at phase) values is.0, ap₂ cut_behind lists.green_cut lists.yellow ∙ is.1 ∙ sym lists.red_cut)
even-data d old new' phase (Construct at heard) values lists still none is = in-attempt-as old new' (attempt_of d (conf_at phase)) values (still refl) is
even-data d old new' phase (No at heard) values lists still none is = in-attempt-as old new' (attempt_of d (conf_at phase)) values (still refl) is
even-data d old new' phase Un values lists still none is = in-attempt-as old new' (attempt_of d (conf_at phase)) values (still refl) is
even-data d old new' phase (ExchangeStates at set heard) values lists still none is = none refl is
even-data d old new' phase (ExchangeActions at heard accepted) values lists still none is = none refl is
even-data d old new' phase (NonPrim regular) values lists still none is = tt
even-data d old new' phase Left values lists still none is = tt

-- a member in its transitional phase, behind a parting
trans-data : (d : Chronicle) (h : Held) (phase : Phase) (state : State) → is_primary state ≡ true → is_parted state ≡ true → IsInPrimary d h (conf_at phase) → FitsYellow state h → HasModeData d h phase state
trans-data d h phase TransPrim a p is fits = (is, fits)
trans-data d h phase RegPrim a p is fits = absurd (let clash : false ≡ true = p in cc)
trans-data d h phase (Construct at heard) a p is fits = absurd (let clash : false ≡ true = a in cc)
trans-data d h phase (No at heard) a p is fits = absurd (let clash : false ≡ true = a in cc)
trans-data d h phase Un a p is fits = absurd (let clash : false ≡ true = a in cc)
trans-data d h phase (ExchangeStates at set heard) a p is fits = absurd (let clash : false ≡ true = a in cc)
trans-data d h phase (ExchangeActions at heard accepted) a p is fits = absurd (let clash : false ≡ true = a in cc)
trans-data d h phase (NonPrim regular) a p is fits = absurd (let clash : false ≡ true = a in cc)
trans-data d h phase Left a p is fits = absurd (let clash : false ≡ true = a in cc)

-- ---- a parting

module _ (c : Chronicle) (p : ℕ) (set : List ℕ) (own : ℕ) (places : List ℕ) (i : Invariant c) (may : may_make c (Leaves p set own places) ≡ true) (r : Replica) (disk : Disk)
    (node : node_of c.world p ≡ Some (record { id = p; life = Up r disk })) where
  abbrev s : Small
  s = Leaves p set own places

  abbrev after : Replica
  after = (take_parting c.world.group p set places (begin r)).replica

  up : replica_of c.world p ≡ Some r
  up = ap (λ (o : Option Node). option_and_then (λ s. running s.life) o) node

  way : Partway c.start r.held (greens_of c p) (take_parting c.world.group p set places (begin r))
  unfolding after_delivery
  way =
      let is = held-known (IsOneself c.start) c p r up (oneself-of c i.replica.cores) in
      let yellow = yellow-fits c c.start r.held (greens_of c p) (phase_of c.world.group p) r.state is (mode-of c s i may p r up).data_of in
      places-on c.start r.held (greens_of c p) (home c.world.group p) places (on_transitional r.state (begin r)) (way-first c.start (greens_of c p) r.state (begin r) refl is yellow.0 yellow.1)

  same-conf : conf_at (phase_of (small_step c s).world.group p) ≡ conf_at (phase_of c.world.group p)
  same-conf =
      let regular = regular-phase (phase_of c.world.group p) (leaving-regular c p set own places may) in
      let step = leaves-step c p set own places i.net.phase_sound (leaving-regular c p set own places may) in
      ap conf_at (step.stands.phase p ∙ cond-true (p == p) (Transitional (regular_in (phase_of c.world.group p)) set) (phase_of c.world.group p) (eq-eqb p p refl))
      ∙ ap regular_in regular.is ∙ sym (ap conf_at regular.is)

  quiet-mode : replica_of (small_step c s).world p ≡ Some after → IsQuiet r after → IsModeData (small_step c s) p after
  quiet-mode now quiet = mode-flowed c s i may p r after up now (quiet-flow r after quiet) same-conf (by_flags (cases_Bool (is_primary r.state)) (cases_Bool (is_attempting r.state))) where
    before : HasModeData (small_step c s) r.held (phase_of c.world.group p) r.state
    before = data-of c s i may p r up

    by_flags : (is_primary r.state ≡ true) ⊎ (is_primary r.state ≡ false) → (is_attempting r.state ≡ true) ⊎ (is_attempting r.state ≡ false) → HasModeData (small_step c s) after.held (phase_of c.world.group p) after.state
    by_flags (inl primary) attempting =
        trans-data (small_step c s) after.held (phase_of c.world.group p) after.state (quiet.primary ∙ primary) way.parted
        (in-primary-as (small_step c s) r.held after.held (conf_at (phase_of c.world.group p)) quiet.values (from-primary (small_step c s) r.held (phase_of c.world.group p) r.state primary before)) way.fits
    by_flags (inr apart) (inl attempting) =
        attempting-data (small_step c s) after.held (phase_of c.world.group p) after.state (quiet.attempting ∙ attempting)
        (in-attempt-as r.held after.held (attempt_of (small_step c s) (conf_at (phase_of c.world.group p))) quiet.values (quiet.still attempting).own (from-attempting (small_step c s) r.held (phase_of c.world.group p) r.state attempting before))
    by_flags (inr apart) (inr neither) = parted-data (small_step c s) after.held (phase_of c.world.group p) after.state way.parted (quiet.attempting ∙ neither) (quiet.primary ∙ apart)

  installed-mode : (done : HasInstalled r after) → Installing c p r → IsModeData (small_step c s) p after
  installed-mode done ins =
      let attempts = leaves-attempts c p set own places r disk node ∙ installed-attempts c.attempts p (greens_of c p ++ newly_green r after) r after done ∙ ap (installing p c.attempts) ins.mine in
      let here : conf_at (phase_of (small_step c s).world.group p) ≡ ins.conf = same-conf ∙ ap conf_at ins.regular in
      let found : attempt_of (small_step c s) ins.conf ≡ Some (with_installer p ins.a) =
      ap (λ xs. at_conf xs ins.conf) attempts ∙ installing-now c.attempts p (own_record ins.a p) ins.conf
      ∙ cond-true (ins.conf == ins.a.conf) (option_map (with_installer p) (at_conf c.attempts ins.conf)) (at_conf c.attempts ins.conf) (eq-eqb ins.conf ins.a.conf (sym (ins-conf c p r ins)))
      ∙ ap (option_map (with_installer p)) ins.found in
      let was = subst (λ (o : Option Attempt). IfSome o (λ a. IsCounted a r)) (ap (attempt_of c) (ap conf_at ins.regular) ∙ ins.found) (mode-of c s i may p r up).counted in
      record {
        id = done.id ∙ ins.id;
        data_of = trans-data (small_step c s) after.held (phase_of (small_step c s).world.group p) after.state done.after way.parted
            (subst (IsInPrimary (small_step c s) after.held) (sym here) (installed-primary c s i may (start-kept c s tt) p r after ins done done.before attempts)) way.fits;
        counted = subst (λ (o : Option Attempt). IfSome o (λ b. IsCounted b after)) (sym (ap (attempt_of (small_step c s)) here ∙ found)) (counted-installed r after p ins.a (with_installer p ins.a) done ins.id was refl);
      }

  pub leaves-mode : replica_of (small_step c s).world p ≡ Some after → IsModeData (small_step c s) p after
  leaves-mode now = at (parting-by c.world.group p set places r) where
    at : PartedBy (home c.world.group p) r after → IsModeData (small_step c s) p after
    at (inl quiet) = quiet-mode now quiet
    at (inr done) = installed-mode done.0 (leaves-installing c i p set own places may r after up done.0 done.1)

-- ---- a new configuration, and configurations without an attempt

-- where nothing is said no attempt is
none-unsaid : (c : Chronicle) (s : Small) (i : Invariant c) (may : may_make c s ≡ true) (conf : ℕ) → (0 < length (ordered_in c conf) → ⊥) → attempt_of (small_step c s) conf ≡ None
none-unsaid c s i may conf unsaid_there = at (attempt_of (small_step c s) conf) refl where
  of_came : (b : Attempt) → Came c (small_step c s) conf b → ⊥
  of_came b (Stayed found) = unsaid_there (said-attempt c conf b i found)
  of_came b (WasLeft a found p n here now low) = unsaid_there (said-attempt c conf a i found)
  of_came b (WasEntered a found p heard r new' begins now moved) = unsaid_there (said-attempt c conf a i found)
  of_came b (WasInstalled p r new' ins done here now levels core moved) = unsaid_there (said-attempt c conf ins.a i (ap (attempt_of c) here ∙ ins.found))
  of_came b (WasMade none p heard r new' begins greens now moved handed) = unsaid_there (said-by (ordered_in c conf) p (ap (λ l. has (senders l) p) begins.end.whole ∙ begins.end.listed))

  at : (o : Option Attempt) → attempt_of (small_step c s) conf ≡ o → attempt_of (small_step c s) conf ≡ None
  at None e = e
  at (Some b) e = absurd (of_came b (came c (small_step c s) conf b (attempt-step c s i may) e))

-- of a replica that is outside of an exchange, in a configuration without an attempt
beside-mode : (d : Chronicle) (q : ℕ) (r : Replica) → r.held.id ≡ q → r.state ≡ NonPrim false → attempt_of d (conf_at (phase_of d.world.group q)) ≡ None → IsModeData d q r
beside-mode d q r id state none = record {
  id = id;
  data_of = subst (λ (s : State). HasModeData d r.held (phase_of d.world.group q) s) (sym state) tt;
  counted = subst (λ (o : Option Attempt). IfSome o (λ a. IsCounted a r)) (sym none) tt;
}

enters-mode : (c : Chronicle) (p : ℕ) (i : Invariant c) (may : may_make c (Enters p) ≡ true) (now : EntersNow c p) → phase_of (small_step c (Enters p)).world.group p ≡ Regular (newest_conf c.world.group) →
    IsModeData (small_step c (Enters p)) p (take_newest c.world.group (begin now.replica)).replica
enters-mode c p i may now phase =
    let come = newest-come c.world.group now.replica now.between in
    let d = small_step c (Enters p) in
    let new' = (take_newest c.world.group (begin now.replica)).replica in
    let none = none-unsaid c (Enters p) i may (newest_conf c.world.group) (λ said. is_nil-none (ordered_in c (newest_conf c.world.group)) now.may.unsaid said) in
    record {
      id = come.id ∙ now.id;
      data_of = subst (λ (s : State). HasModeData d new'.held (phase_of d.world.group p) s) (sym come.state) (none-newest c.world.group now.replica now.between);
      counted = subst (λ (o : Option Attempt). IfSome o (λ a. IsCounted a new')) (sym (ap (attempt_of d) (ap conf_at phase) ∙ none)) tt;
    }

-- ---- what changes neither lists nor values

whitened-values : (h : Held) → SameValues h (whiten h)
unfolding whiten
whitened-values h = record { id = refl; prim = refl; attempt_index = refl; vulnerable = refl; yellow_valid = refl }

whitened-lists : (h : Held) → SameLists h (whiten h)
unfolding whiten
whitened-lists h = record { reds = refl; yellow = refl; green_cut = refl; red_cut = refl }

whitened-own : (h : Held) → (whiten h).own ≡ h.own
unfolding whiten
whitened-own h = refl

whitened-flow : (r : Replica) → (let n : Replica = record r { held = whiten r.held } in Flow r n)
unfolding whiten
whitened-flow r = record { id = refl; attempting = refl; primary = refl; recorded = λ k e. e }

-- the start
started-mode : (set : List Weighted) (q : ℕ) → IfSome (replica_of (start no_chronicle set).world q) (IsModeData (start no_chronicle set) q)
started-mode set q = at (node_of (start no_chronicle set).world q) (fresh-all set (ids set) no_chronicle.world (λ q. tt) q) where
  at : (o : Option Node) → IfSome o (λ s. s.life ≡ Up (fresh q set) (new_disk (fresh_held q set))) → IfSome (option_and_then (λ s. running s.life) o) (IsModeData (start no_chronicle set) q)
  at None is = tt
  at (Some s) is = subst (λ (l : NodeState). IfSome (running l) (IsModeData (start no_chronicle set) q)) (sym is) (record { id = refl; data_of = tt; counted = tt })

-- ---- each small step

number-zero : (c : Chronicle) → 0 < length (ordered_in c 0) → ⊥
number-zero c said = let some = said-number c 0 said in absurd (omega arith)

-- who is down
record Fallen (c : Chronicle) (p : ℕ) : Type 0 where
  pub disk : Disk
  pub green : List ActionId
  pub node : node_of c.world p ≡ Some (record { id = p; life = Down disk green })

fallen : (c : Chronicle) (p : ℕ) → has_begun c.world p ≡ true → is_running c p ≡ false → Fallen c p
fallen c p begun stopped = at (node_of c.world p) refl begun stopped where
  life : (s : Node) (l : NodeState) → s.life ≡ l → node_of c.world p ≡ Some s → is_some (running l) ≡ false → Fallen c p
  life s (Up r disk) is e stopped = absurd (let clash : true ≡ false = stopped in cc)
  life s (Down disk green) is e stopped = record { disk = disk; green = green; node = node-of c p s (Down disk green) is e }

  at : (o : Option Node) → node_of c.world p ≡ o → is_some o ≡ true → is_some (option_and_then (λ s. running s.life) o) ≡ false → Fallen c p
  at None e begun stopped = absurd (let clash : false ≡ true = begun in cc)
  at (Some s) e begun stopped = life s s.life refl e stopped

fallen-name : (c : Chronicle) (p : ℕ) → Invariant c → (f : Fallen c p) → (recovered f.disk).held.id ≡ p
fallen-name c p i f =
    recovered-id f.disk.content ∙ subst (λ (o : Option Held). IfSome o (λ h. h.id ≡ p)) (ap (λ (o : Option Node). option_map (λ s. on_disk s.life) o) f.node) (i.net.hosted.disk p)

recovered-state : (disk : Disk) → (recovered disk).state ≡ NonPrim false
unfolding recovery_turn
recovered-state disk = (even-own_to_red (begin (record { held = disk.content; state = NonPrim false }))).state

copies-lives : (c : Chronicle) (p joiner q : ℕ) → replica_of (small_step c (Copies p joiner)).world q ≡ replica_of c.world q
unfolding small_step
copies-lives c p joiner q = at (replica_of c.world p) where
  at : (o : Option Replica) → replica_of (option_map_or (copy_as c p joiner) o c).world q ≡ replica_of c.world q
  at None = refl
  at (Some r) = refl

joins-may : (c : Chronicle) (joiner : ℕ) → may_make c (Joins joiner) ≡ true → may_join c joiner ≡ true
unfolding may_make
joins-may c joiner may = may

joiner-there : (c : Chronicle) (joiner : ℕ) → may_join c joiner ≡ true → (content : Held) × (option_map (λ s. s.content) (snapshot_of c.world joiner) ≡ Some content)
joiner-there c joiner may = at (snapshot_of c.world joiner) (and_parts (not (has_begun c.world joiner)) (option_map_or (λ s. is_server s.content.members joiner) (snapshot_of c.world joiner) false) may).1 where
  at : (o : Option TransferState) → option_map_or (λ s. is_server s.content.members joiner) o false ≡ true → (content : Held) × (option_map (λ s. s.content) o ≡ Some content)
  at None e = absurd (let clash : false ≡ true = e in cc)
  at (Some s) e = (s.content, refl)

joins-lives : (c : Chronicle) (joiner : ℕ) (content : Held) → option_map (λ s. s.content) (snapshot_of c.world joiner) ≡ Some content → (q : ℕ) →
    replica_of (small_step c (Joins joiner)).world q ≡ cond (joiner == q) (Some (joiner_replica joiner content)) (replica_of c.world q)
unfolding small_step
joins-lives c joiner content there q = at (snapshot_of c.world joiner) there where
  at : (o : Option TransferState) → option_map (λ s. s.content) o ≡ Some content → replica_of (option_map_or (λ s. join_with c joiner s.content) o c).world q ≡ cond (joiner == q) (Some (joiner_replica joiner content)) (replica_of c.world q)
  at None e = absurd (let clash : None ≡ Some content = e in cc)
  at (Some s) e =
      replica-set (without_snapshot c.world joiner) joiner (Up (joiner_replica joiner s.content) (new_disk (joiner_replica joiner s.content).held)) q
      ∙ ap (λ h. cond (joiner == q) (Some (joiner_replica joiner h)) (replica_of c.world q)) (ap (λ o. option_map_or (λ x. x) o s.content) e)

copies-mode : (c : Chronicle) (p joiner : ℕ) (i : Invariant c) (may : may_make c (Copies p joiner) ≡ true) (q : ℕ) → IfSome (replica_of (small_step c (Copies p joiner)).world q) (IsModeData (small_step c (Copies p joiner)) q)
unfolding may_make
copies-mode c p joiner i may q =
    let step = copies-step c p joiner i.net.phase_sound in
    mode-other c (Copies p joiner) i may q (copies-lives c p joiner q) (elim (cases_eq q p) [
      | inl same ↦ step.stands.phase q ∙ cond-true (q == p) (phase_of c.world.group p) (phase_of c.world.group q) (eq-eqb q p same) ∙ ap (phase_of c.world.group) (sym same)
      | inr apart ↦ step.stands.phase q ∙ cond-false (q == p) (phase_of c.world.group p) (phase_of c.world.group q) (ne_eqb q p apart)
    ])

joins-mode : (c : Chronicle) (joiner : ℕ) (i : Invariant c) (may : may_make c (Joins joiner) ≡ true) (q : ℕ) → IfSome (replica_of (small_step c (Joins joiner)).world q) (IsModeData (small_step c (Joins joiner)) q)
joins-mode c joiner i may q =
    let one = may-join c joiner (joins-may c joiner may) in
    let step = joins-step c joiner one in
    let there = joiner-there c joiner (joins-may c joiner may) in
    mode-one c (Joins joiner) i may joiner (Some (joiner_replica joiner there.0)) (λ q. joins-lives c joiner there.0 there.1 q) Alone step.stands.phase
    (λ e. beside-mode (small_step c (Joins joiner)) joiner (joiner_replica joiner there.0) refl refl
    (ap (attempt_of (small_step c (Joins joiner))) (ap conf_at (step.stands.phase joiner ∙ cond-true (joiner == joiner) Alone (phase_of c.world.group joiner) (eq-eqb joiner joiner refl))) ∙ none-unsaid c (Joins joiner) i may 0 (number-zero c))) q

pub mode_data-kept : (c : Chronicle) (s : Small) → Invariant c → may_make c s ≡ true → (q : ℕ) → IfSome (replica_of (small_step c s).world q) (IsModeData (small_step c s) q)
unfolding small_step may_make
mode_data-kept c (Starts set) i may q =
    subst (λ (x : Chronicle). IfSome (replica_of (start x set).world q) (IsModeData (start x set) q)) (sym (nothing-before c i.net.hosted (and_parts (is_nil c.world.nodes) (is_set (ids set)) may).0)) (started-mode set q)
mode_data-kept c (Makes set) i may q = mode-other c (Makes set) i may q refl (phase-made c (small_step c (Makes set)) set refl (λ q. refl) q)
mode_data-kept c (Enters p) i may q =
    let now = enters-now c p i.net.phase_sound (i.replica.mode_data p) may in
    let step = enters-step c p i.net.phase_sound now.may.comes in
    let phase = step.stands.phase p ∙ cond-true (p == p) (Regular (newest_conf c.world.group)) (phase_of c.world.group p) (eq-eqb p p refl) in
    mode-one c (Enters p) i may p (Some (take_newest c.world.group (begin now.replica)).replica) (turn-lives c (coming c p) p (take_newest c.world.group) now.replica now.disk refl now.node)
    (Regular (newest_conf c.world.group)) step.stands.phase (λ e. enters-mode c p i may now phase) q
mode_data-kept c (Orders p) i may q =
    let next = orders-now c p i.net.phase_sound (λ k. i.net.receipts_inside.places k) may in
    mode-other c (Orders p) i may q refl ((orders-conf c p next.conf next.stands next.message next.rest next.at).phase q)
mode_data-kept c (Receives p place) i may q =
    let next = receives-now c p place i.net.phase_sound may in mode-other c (Receives p place) i may q refl ((receives-conf c p place next).phase q)
mode_data-kept c (Hands p) i may q =
    let n = hands-now c p i may in
    let step = hands-step c p i.net.phase_sound (hands-regular c p may) in
    let same = step.stands.phase p ∙ cond-true (p == p) (phase_of c.world.group p) (phase_of c.world.group p) (eq-eqb p p refl) in
    mode-one c (Hands p) i may p (Some (new c p i n)) (turn-lives c (handed_next c p) p (take_next c.world.group p) n.replica n.disk refl n.node)
    (phase_of c.world.group p) step.stands.phase (λ e. (let is = hands-data c p i may n e (hand-turned c p i n) in record {
      id = is.0;
      data_of = phase-data (small_step c (Hands p)) (new c p i n).held (phase_of c.world.group p) (phase_of (small_step c (Hands p)).world.group p) (new c p i n).state (sym (ap conf_at same)) is.1;
      counted = subst (λ x. IfSome (attempt_of (small_step c (Hands p)) (conf_at x)) (λ b. IsCounted b (new c p i n))) (sym same) is.2;
    })) q
mode_data-kept c (Leaves p set own places) i may q =
    let sits = hosted c.world p (i.net.phase_sound.up p ∙ regular-up c.world.group p (leaving-regular c p set own places may)) in
    let step = leaves-step c p set own places i.net.phase_sound (leaving-regular c p set own places may) in
    mode-one c (Leaves p set own places) i may p (Some (take_parting c.world.group p set places (begin sits.replica)).replica)
    (turn-lives c (leaving c p set own) p (take_parting c.world.group p set places) sits.replica sits.disk refl sits.node)
    (Transitional (regular_in (phase_of c.world.group p)) set) step.stands.phase (λ e. leaves-mode c p set own places i may sits.replica sits.disk sits.node e) q
mode_data-kept c (Asks p kind) i may q =
    let sits = hosted c.world p (and_parts (is_running c p) (not (is_left c.world p)) may).0 in
    let r = sits.replica in
    let t = take_request kind (begin r) in
    let step = turns-step c p (take_request kind) i.net.phase_sound in
    let up = ap (λ (o : Option Node). option_and_then (λ s. running s.life) o) sits.node in
    let even = even-request (begin r) kind in
    let quiet = request-quiet kind r in
    let same = step.stands.phase p ∙ cond-true (p == p) (phase_of c.world.group p) (phase_of c.world.group p) (eq-eqb p p refl) in
    mode-one c (Asks p kind) i may p (Some t.replica) (turn-lives c c p (take_request kind) r sits.disk refl sits.node) (phase_of c.world.group p) step.stands.phase
    (λ e. mode-flowed c (Asks p kind) i may p r t.replica up e (quiet-flow r t.replica quiet) (ap conf_at same)
    (subst (λ (s : State). HasModeData (small_step c (Asks p kind)) t.replica.held (phase_of c.world.group p) s) (sym even.state)
    (even-data (small_step c (Asks p kind)) r.held t.replica.held (phase_of c.world.group p) r.state even.values (lists-request (begin r) kind) (λ att. (quiet.still att).own) (λ ex none. none-request (begin r) kind ex none)
    (data-of c (Asks p kind) i may p r up)))) q
mode_data-kept c (Settles p) i may q =
    let sits = hosted c.world p may in
    let r = sits.replica in
    let t = settle (begin r) in
    let step = turns-step c p settle i.net.phase_sound in
    let up = ap (λ (o : Option Node). option_and_then (λ s. running s.life) o) sits.node in
    let even = even-settle (begin r) in
    let quiet = settle-quiet r in
    let same = step.stands.phase p ∙ cond-true (p == p) (phase_of c.world.group p) (phase_of c.world.group p) (eq-eqb p p refl) in
    mode-one c (Settles p) i may p (Some t.replica) (turn-lives c c p settle r sits.disk refl sits.node) (phase_of c.world.group p) step.stands.phase
    (λ e. mode-flowed c (Settles p) i may p r t.replica up e (quiet-flow r t.replica quiet) (ap conf_at same)
    (subst (λ (s : State). HasModeData (small_step c (Settles p)) t.replica.held (phase_of c.world.group p) s) (sym even.state)
    (even-data (small_step c (Settles p)) r.held t.replica.held (phase_of c.world.group p) r.state even.values (lists-settle (begin r)) (λ att. (quiet.still att).own) (λ ex none. none-settle (begin r) ex none)
    (data-of c (Settles p) i may p r up)))) q
mode_data-kept c (Commits p) i may q =
    let sits = hosted c.world p may in
    let r = sits.replica in
    let new' : Replica = record r { held = whiten r.held } in
    let step = commits-step c p i.net.phase_sound in
    let up = ap (λ (o : Option Node). option_and_then (λ s. running s.life) o) sits.node in
    let same = step.stands.phase p ∙ cond-true (p == p) (phase_of c.world.group p) (phase_of c.world.group p) (eq-eqb p p refl) in
    mode-one c (Commits p) i may p (Some new')
    (λ q. ap (λ (o : Option Node). replica_of (option_map_or (λ s. commit_as c p s.life) o c).world q) sits.node ∙ replica-set c.world p (Up new' (record sits.disk { content = stored_of (whiten r.held) })) q)
    (phase_of c.world.group p) step.stands.phase
    (λ e. mode-flowed c (Commits p) i may p r new' up e (whitened-flow r) (ap conf_at same)
    (even-data (small_step c (Commits p)) r.held (whiten r.held) (phase_of c.world.group p) r.state (whitened-values r.held) (whitened-lists r.held) (λ att. whitened-own r.held) (λ ex none. whitened-own r.held ∙ none)
    (data-of c (Commits p) i may p r up))) q
mode_data-kept c (Crashes p) i may q =
    let sits = hosted c.world p may in
    let step = crashes-step c p may in
    mode-one c (Crashes p) i may p None
    (λ q. ap (λ (o : Option Node). replica_of (option_map_or (λ s. crash_as c p s.life) o c).world q) sits.node ∙ replica-set c.world p (Down (at_rest sits.disk) []) q)
    DownPhase step.stands.phase (λ e. tt) q
mode_data-kept c (Recovers p) i may q =
    let parts = and_parts (has_begun c.world p) (not (is_running c p)) may in
    let step = recovers-step c p i.net.hosted parts.0 (not-true (is_running c p) parts.1) in
    let sits = fallen c p parts.0 (not-true (is_running c p) parts.1) in
    let name = fallen-name c p i sits in
    mode-one c (Recovers p) i may p (Some (recovered sits.disk))
    (λ q. ap (λ (o : Option Node). replica_of (option_map_or (λ s. recover_as c s.life) o c).world q) sits.node
    ∙ replica-set c.world (recovered sits.disk).held.id (Up (recovered sits.disk) (disk_recovered sits.disk)) q
    ∙ ap (λ n. cond (n == q) (Some (recovered sits.disk)) (replica_of c.world q)) name)
    Alone step.stands.phase
    (λ e. beside-mode (small_step c (Recovers p)) p (recovered sits.disk) name (recovered-state sits.disk)
    (ap (attempt_of (small_step c (Recovers p))) (ap conf_at (step.stands.phase p ∙ cond-true (p == p) Alone (phase_of c.world.group p) (eq-eqb p p refl))) ∙ none-unsaid c (Recovers p) i may 0 (number-zero c))) q
mode_data-kept c (Copies p joiner) i may q = copies-mode c p joiner i may q
mode_data-kept c (Joins joiner) i may q = joins-mode c joiner i may q
