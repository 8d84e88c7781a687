-- A summary is of its sender, as it was: behind each small step.
use Rattle.std.proofs.Common.{◌≡◌, ℕ, suc, ◌<◌, max, true, false, cond, not, [], ◌∷◌, Option, Some, None, IfSome, refl, sym, ap, ap₂, ◌∙◌, subst, arith, inl, inr, option_and_then, option_map, is_some, is_none, eq-eqb, eqb-true}
use Rattle.std.specs.Prelude.{◌==◌}
use Rattle.std.specs.Option.{option_map_or}
use Rattle.std.proofs.lemmas.Bool.{cases_eq, cases_lt, cond-true, cond-false, and_parts, ne_eqb, not-true}
use Rattle.cg_base.specs.Cuts.{index_in}
use Rattle.cg_base.specs.Weights.{ids}
use Rattle.cg_base.specs.Text.{is_nil}
use Rattle.cg_group.specs.declared.phase.Phase.TheVariants.{Down as DownPhase, Alone, Regular}
use Rattle.cg_group.specs.State.{configuration, home, delivered_to, regular_in, phase_of}
use Rattle.cg_group.specs.Events.{come_up, delivery_at, deliveries_at}
use Rattle.cg_group.specs.declared.delivery.Delivery.TheVariants.{Transitional as TransitionalIn}
use Rattle.cg_client.specs.Replica.{Held, State, ExchangeStates, Replica, last_index, created}
use Rattle.cg_client.specs.Requests.{settle}
use Rattle.cg_client.specs.Summary.{summary_of}
use Rattle.cg_disk_records.specs.Crash.{new_disk, recovered, disk_recovered}
use Rattle.cg_model.specs.World.{NodeState, Up, Down, Node, running, node_of, replica_of, has_begun}
use Rattle.cg_model.specs.Attempts.{held_in}
use Rattle.cg_model.specs.Step.{joiner_replica, without_snapshot}
use Rattle.cg_model.specs.Chronicle.{Told, Chronicle}
use Rattle.cg_model.specs.Fronts.{Front}
use Rattle.cg_model.specs.Looks.{greens_of, told_in, core_of, snapshot_of, is_at, is_in, is_member, on_disk}
use Rattle.cg_model.specs.FactsReplica.{HasModeData, IsModeData}
use Rattle.cg_model.specs.FactsExchange.{IsOutdone, HasMadeNothing, KnowsAsMuch, SummaryOfSender}
use Rattle.cg_model.specs.Facts.{Invariant}
use Rattle.cg_model.specs.Played.{AtRest}
use Rattle.cg_model.specs.Small.{Small, Starts, Makes, Enters, Orders, Receives, Hands, Leaves, Asks, Settles, Commits, Crashes, Recovers, Copies, Joins, small_step, handed_next, leaving, take_next, take_parting, take_request, newest_conf, commit_as, crash_as, recover_as, copy_as, join_with}
use Rattle.cg_model.specs.Smalls.{may_make, is_running, is_set}
use Rattle.cg_agree_lemmas.specs.FrontFacts.{Front-refl, Front-trans}
use Rattle.cg_agree_lemmas.specs.ChronicleFacts.{node_of-set}
use Rattle.cg_agree_lemmas.specs.HeldCommit.{recovered-id}
use Rattle.cg_agree_lemmas.specs.CoresKept.{node-of}
use Rattle.cg_agree.proofs.BegunKept.{nothing-before}
use Rattle.cg_agree_lemmas.specs.GroupKept.{orders-conf, receives-conf, leaving-regular}
use Rattle.cg_agree_lemmas.specs.GroupSound.{phase-made}
use Rattle.cg_agree_lemmas.specs.NextThere.{orders-now, receives-now}
use Rattle.cg_agree_lemmas.specs.OneStands.{stands-up}
use Rattle.cg_agree_lemmas.specs.OneSteps.{OneStep, turns-step, hands-step, leaves-step, enters-step, commits-step, copies-step, crashes-step, recovers-step, joins-step, may-join}
use Rattle.cg_agree.proofs.ModeKept.{mode_data-kept}
use Rattle.cg_agree_lemmas.specs.EntersTurn.{told-newest}
use Rattle.cg_agree_lemmas.specs.ToldKept.{IsUntold}
use Rattle.cg_agree.proofs.PastKept.{EntersNow, enters-now, enters-is, entry_turn, entry_told, summary-id}
use Rattle.cg_agree.proofs.CoresMove.{CoreMove, Was, Begins, cores-move}
use Rattle.cg_agree.proofs.GreensFront.{greens-go_on}
use Rattle.cg_agree_lemmas.specs.BookedCores.{JoinersBooked}
use Rattle.cg_agree.proofs.CopiesBooked.{UnbegunMadeNone, joiners-booked}
use Rattle.cg_agree.proofs.MadeOnceKept.{created-grows}
use Rattle.cg_agree_lemmas.specs.KnowsOn.{knows-on, takes-knowing, settles-knowing, asks-knowing}
use Rattle.cg_agree.proofs.SummariesKept.{told-by, up-entered, greens-entered, fits-kept, knows-kept}
use Rattle.cg_agree_lemmas.specs.SummariesInside.{LivesOn, Goal, goal-same, goal-some, lives-same, in-same, in-one, lives-turning, parted-in, inside-place, inside-places, first-of, commit-goal, crash-goal, alone-goal}
use Rattle.cg_base.specs.BoolLaws.{impossible}

-- ---- who told something is still there

no-number : (c : Chronicle) (p : ℕ) → is_member c 0 p ≡ false
unfolding configuration
no-number c p = refl

-- who comes up is alone
out-up : (c : Chronicle) (conf id q : ℕ) → id ≡ q → is_at conf (phase_of (come_up c.world.group id) q) ≡ false
out-up c conf id q same = ap (is_at conf) ((stands-up c.world.group id).phase q ∙ cond-true (q == id) Alone (phase_of c.world.group q) (eq-eqb q id (sym same)))

module _ (c : Chronicle) (i : Invariant c) (conf p : ℕ) (t : Told) (told : told_in c conf p ≡ Some t) where
  member-told : is_member c conf p ≡ true
  member-told = i.net.past_left.member conf p (ap is_some told)

  begun-told : has_begun c.world p ≡ true
  begun-told = i.net.members_begun.member conf p member-told

  number-told : 0 < conf
  number-told = elim (cases_lt 0 conf) [
    | inl some ↦ some
    | inr few ↦ (let none : conf ≡ 0 = omega arith in absurd (let clash : true ≡ false = sym member-told ∙ ap (λ n. is_member c n p) none ∙ no-number c p in cc))
  ]

  -- ---- inside its configuration

  inside-step : (s : Small) → may_make c s ≡ true → AtRest c s → IsUntold s → Goal c i conf number-told (small_step c s)
  unfolding small_step may_make
  inside-step (Enters q) may rest other = absurd other
  inside-step (Starts set) may rest other =
      let before = nothing-before c i.net.hosted (and_parts (is_nil c.world.nodes) (is_set (ids set)) may).0 in
      absurd (let clash : None ≡ Some t = sym (ap (λ (x : Chronicle). told_in x conf p) before) ∙ told in cc)
  inside-step (Makes set) may rest other = λ inside q r e is. lives-same c i conf number-told (small_step c (Makes set)) q r refl (inside q) e is
  inside-step (Orders q') may rest other = λ inside q r e is. lives-same c i conf number-told (small_step c (Orders q')) q r refl (inside q) e is
  inside-step (Receives q' place) may rest other = λ inside q r e is. lives-same c i conf number-told (small_step c (Receives q' place)) q r refl (inside q) e is
  inside-step (Hands q) may rest other =
      let g = c.world.group in
      lives-turning c i conf number-told (handed_next c q) q (take_next g q) refl
      (λ r disk node. takes-knowing r (delivery_at (home g q) (suc (delivered_to g q))) (first-of c i conf number-told q r disk node) (inside-place c i conf number-told (home g q) (suc (delivered_to g q))))
  inside-step (Leaves q set own places) may rest other =
      let g = c.world.group in
      lives-turning c i conf number-told (leaving c q set own) q (take_parting g q set places) refl
      (λ r disk node. takes-knowing r (TransitionalIn (regular_in (phase_of g q)) set ∷ deliveries_at (home g q) places) (first-of c i conf number-told q r disk node) (tt, inside-places c i conf number-told (home g q) places))
  inside-step (Asks q kind) may rest other = lives-turning c i conf number-told c q (take_request kind) refl (λ r disk node. asks-knowing r kind)
  inside-step (Settles q) may rest other = lives-turning c i conf number-told c q settle refl (λ r disk node. settles-knowing r)
  inside-step (Commits q) may rest other = goal-some c i conf number-told (node_of c.world q) (λ s. commit_as c q s.life) (goal-same c i conf number-told) (λ s e. commit-goal c i conf number-told q s e s.life refl)
  inside-step (Crashes q) may rest other = goal-some c i conf number-told (node_of c.world q) (λ s. crash_as c q s.life) (goal-same c i conf number-told) (λ s e. crash-goal c i conf number-told q s.life)
  inside-step (Copies q joiner) may rest other = goal-some c i conf number-told (replica_of c.world q) (copy_as c q joiner) (goal-same c i conf number-told)
      (λ r e inside q' r' e' is. lives-same c i conf number-told (copy_as c q joiner r) q' r' refl (inside q') e' is)
  inside-step (Recovers q) may rest other = goal-some c i conf number-told (node_of c.world q) (λ s. recover_as c s.life) (goal-same c i conf number-told) (λ s e. recovered-goal s e s.life refl) where
    recovered-goal : (s : Node) → node_of c.world q ≡ Some s → (l : NodeState) → s.life ≡ l → Goal c i conf number-told (recover_as c l)
    recovered-goal s e (Up r disk) life = goal-same c i conf number-told
    recovered-goal s e (Down disk green) life = λ inside.
        let node = node-of c q s (Down disk green) life e in
        let own : disk.content.id ≡ q = subst (λ (o : Option Held). IfSome o (λ h. h.id ≡ q)) (ap (λ (o : Option Node). option_map (λ s. on_disk s.life) o) node) (i.net.hosted.disk q) in
        let new : NodeState = Up (recovered disk) (disk_recovered disk) in
        alone-goal c conf (recover_as c (Down disk green)) q new
        (λ x. node_of-set c.world (recovered disk).held.id new x ∙ ap (λ n. cond (n == x) (Some (record { id = n; life = new })) (node_of c.world x)) (recovered-id disk.content ∙ own))
        (out-up c conf (recovered disk).held.id q (recovered-id disk.content ∙ own)) inside
  inside-step (Joins joiner) may rest other = goal-some c i conf number-told (snapshot_of c.world joiner) (λ s. join_with c joiner s.content) (goal-same c i conf number-told)
      (λ s e inside. (let r = joiner_replica joiner s.content in let new : NodeState = Up r (new_disk r.held) in
      alone-goal c conf (join_with c joiner s.content) joiner new (λ q. node_of-set (without_snapshot c.world joiner) joiner new q) (out-up c conf joiner joiner refl) inside))

  inside-phases : (s : Small) → may_make c s ≡ true → IsUntold s → (q : ℕ) → is_in (small_step c s) conf q ≡ true → is_in c conf q ≡ true
  unfolding small_step may_make
  inside-phases (Enters x) m other = absurd other
  inside-phases (Starts set) m other =
      let before = nothing-before c i.net.hosted (and_parts (is_nil c.world.nodes) (is_set (ids set)) m).0 in
      absurd (let clash : None ≡ Some t = sym (ap (λ (x : Chronicle). told_in x conf p) before) ∙ told in cc)
  inside-phases (Makes set) m other = λ q is. in-same c i conf number-told (small_step c (Makes set)) q (phase-made c (small_step c (Makes set)) set refl (λ q. refl) q) is
  inside-phases (Orders x) m other = λ q is.
      let next = orders-now c x i.net.phase_sound (λ k. i.net.receipts_inside.places k) m in
      in-same c i conf number-told (small_step c (Orders x)) q ((orders-conf c x next.conf next.stands next.message next.rest next.at).phase q) is
  inside-phases (Receives x place) m other = λ q is.
      let next = receives-now c x place i.net.phase_sound m in in-same c i conf number-told (small_step c (Receives x place)) q ((receives-conf c x place next).phase q) is
  inside-phases (Hands x) m other = in-one c i conf number-told _ x _ _ true (hands-step c x i.net.phase_sound (and_parts _ _ m).0) (λ e. e)
  inside-phases (Leaves x set own places) m other =
      let regular = leaving-regular c x set own places m in
      in-one c i conf number-told _ x _ own true (leaves-step c x set own places i.net.phase_sound regular) (parted-in c i conf number-told (phase_of c.world.group x) set regular)
  inside-phases (Asks x kind) m other = in-one c i conf number-told _ x _ _ _ (turns-step c x (take_request kind) i.net.phase_sound) (λ e. e)
  inside-phases (Settles x) m other = in-one c i conf number-told _ x _ _ _ (turns-step c x settle i.net.phase_sound) (λ e. e)
  inside-phases (Commits x) m other = in-one c i conf number-told _ x _ _ _ (commits-step c x i.net.phase_sound) (λ e. e)
  inside-phases (Crashes x) m other = in-one c i conf number-told _ x DownPhase 0 false (crashes-step c x m) (λ e. impossible e)
  inside-phases (Recovers x) m other =
      let parts = and_parts (has_begun c.world x) (not (is_running c x)) m in
      in-one c i conf number-told _ x Alone 0 true (recovers-step c x i.net.hosted parts.0 (not-true (is_running c x) parts.1)) (λ e. impossible e)
  inside-phases (Copies x joiner) m other = in-one c i conf number-told _ x _ _ _ (copies-step c x joiner i.net.phase_sound) (λ e. e)
  inside-phases (Joins joiner) m other = in-one c i conf number-told _ joiner Alone 0 true (joins-step c joiner (may-join c joiner m)) (λ e. impossible e)

  -- another one enters
  inside-entered : (q : ℕ) → EntersNow c q → (r : Replica) → replica_of (small_step c (Enters q)).world p ≡ Some r → is_in (small_step c (Enters q)) conf p ≡ true → LivesOn c conf p r
  inside-entered q now r e is = elim (cases_eq p q) [
    | inl same ↦
        let phase : phase_of (small_step c (Enters q)).world.group p ≡ Regular (newest_conf c.world.group) =
        step.stands.phase p ∙ cond-true (p == q) (Regular (newest_conf c.world.group)) (phase_of c.world.group p) (eq-eqb p q same) in
        let at : newest_conf c.world.group ≡ conf = eqb-true (newest_conf c.world.group) conf (sym (ap (is_at conf) phase) ∙ is) in
        absurd (let clash : true ≡ false = sym (sym (ap is_none (ap₂ (told_in c) at (sym same) ∙ told)) ∙ now.may.untold) in cc)
    | inr apart ↦
        let node : node_of (small_step c (Enters q)).world p ≡ node_of c.world p =
        ap (λ (x : Chronicle). node_of x.world p) (enters-is c q now) ∙ node_of-set c.world q (Up (entry_turn c now.replica).replica now.disk) p
        ∙ cond-false (q == p) (Some (record { id = q; life = Up (entry_turn c now.replica).replica now.disk })) (node_of c.world p) (ne_eqb q p (λ x. apart (sym x))) in
        lives-same c i conf number-told (small_step c (Enters q)) p r (ap (λ (o : Option Node). option_and_then (λ s. running s.life) o) node)
        (λ x. sym (ap (is_at conf) (step.stands.phase p ∙ cond-false (p == q) (Regular (newest_conf c.world.group)) (phase_of c.world.group p) (ne_eqb p q apart))) ∙ x) e is
  ] where
    step : OneStep c (small_step c (Enters q)) q (Regular (newest_conf c.world.group)) 0 true
    step = enters-step c q i.net.phase_sound now.may.comes

  -- it knows all that it knew
  knows-inside : (s : Small) (may : may_make c s ≡ true) → AtRest c s → is_in (small_step c s) conf p ≡ true → IfSome (replica_of (small_step c s).world p) (KnowsAsMuch t)
  knows-inside s may rest is = at (replica_of (small_step c s).world p) refl where
    goes : (r : Replica) → LivesOn c conf p r → KnowsAsMuch t r
    goes r on =
        let was = subst (λ (o : Option Told). IfSome o (λ t. IfSome (replica_of c.world p) (KnowsAsMuch t))) told (i.exchange.summary_of_sender.inside conf p on.inside) in
        knows-on t on.old r on.on (subst (λ (o : Option Replica). IfSome o (KnowsAsMuch t)) on.before was)

    lives : (s : Small) (may : may_make c s ≡ true) → AtRest c s → (r : Replica) → replica_of (small_step c s).world p ≡ Some r → is_in (small_step c s) conf p ≡ true → LivesOn c conf p r
    lives (Enters q) may rest r e is = inside-entered q (enters-now c q i.net.phase_sound (i.replica.mode_data q) may) r e is
    lives (Starts set) may rest r e is = inside-step (Starts set) may rest tt (inside-phases (Starts set) may tt) p r e is
    lives (Makes set) may rest r e is = inside-step (Makes set) may rest tt (inside-phases (Makes set) may tt) p r e is
    lives (Orders q) may rest r e is = inside-step (Orders q) may rest tt (inside-phases (Orders q) may tt) p r e is
    lives (Receives q place) may rest r e is = inside-step (Receives q place) may rest tt (inside-phases (Receives q place) may tt) p r e is
    lives (Hands q) may rest r e is = inside-step (Hands q) may rest tt (inside-phases (Hands q) may tt) p r e is
    lives (Leaves q set own places) may rest r e is = inside-step (Leaves q set own places) may rest tt (inside-phases (Leaves q set own places) may tt) p r e is
    lives (Asks q kind) may rest r e is = inside-step (Asks q kind) may rest tt (inside-phases (Asks q kind) may tt) p r e is
    lives (Settles q) may rest r e is = inside-step (Settles q) may rest tt (inside-phases (Settles q) may tt) p r e is
    lives (Commits q) may rest r e is = inside-step (Commits q) may rest tt (inside-phases (Commits q) may tt) p r e is
    lives (Crashes q) may rest r e is = inside-step (Crashes q) may rest tt (inside-phases (Crashes q) may tt) p r e is
    lives (Recovers q) may rest r e is = inside-step (Recovers q) may rest tt (inside-phases (Recovers q) may tt) p r e is
    lives (Copies q joiner) may rest r e is = inside-step (Copies q joiner) may rest tt (inside-phases (Copies q joiner) may tt) p r e is
    lives (Joins joiner) may rest r e is = inside-step (Joins joiner) may rest tt (inside-phases (Joins joiner) may tt) p r e is

    at : (o : Option Replica) → replica_of (small_step c s).world p ≡ o → IfSome o (KnowsAsMuch t)
    at None e = tt
    at (Some r) e = goes r (lives s may rest r e is)

  -- ---- its sender has all of it still

  outdone-still : (s : Small) → may_make c s ≡ true → AtRest c s → JoinersBooked c → (h : Held) → core_of (small_step c s) p ≡ Some h → IsOutdone (small_step c s) t h
  outdone-still s may rest joiners h e = at ((cores-move c s i may rest).move p h e) where
    nodeless : (o : Option Node) → option_map (λ s. held_in s.life) o ≡ None → is_some o ≡ false
    nodeless None n = refl
    nodeless (Some x) n = absurd (let clash : Some (held_in x.life) ≡ None = n in cc)

    at : CoreMove c p h → IsOutdone (small_step c s) t h
    at (Begins none) = absurd (let clash : true ≡ false = sym begun-told ∙ nodeless (node_of c.world p) none in cc)
    at (Was old found index) =
        let is = subst (λ (o : Option Held). IfSome o (IsOutdone c t)) found
        (subst (λ (o : Option Told). IfSome o (λ t. IfSome (core_of c p) (IsOutdone c t))) told (i.exchange.summary_of_sender.outdone conf p)) in
        record {
          greens = Front-trans t.greens (greens_of c t.summary.id) (greens_of (small_step c s) t.summary.id) is.greens (greens-go_on c s i may rest t.summary.id);
          index = (let low = is.index in omega arith);
          created = (let low = is.created in let more = created-grows c s i joiners may rest p old h found e in omega arith);
        }

-- ---- who enters

module _ (c : Chronicle) (i : Invariant c) (p : ℕ) (may : may_make c (Enters p) ≡ true) (now : EntersNow c p) where
  abbrev d : Chronicle
  d = small_step c (Enters p)

  abbrev u : Replica
  u = (entry_turn c now.replica).replica

  state-is : u.state ≡ ExchangeStates (newest_conf c.world.group) (configuration c.world.group (newest_conf c.world.group)).members []
  state-is = (told-newest c.world.group now.replica now.between).state

  up : replica_of d.world p ≡ Some u
  up = up-entered c i p may now

  -- it waits for no own action
  own-none : u.held.own ≡ []
  own-none =
      let mode = subst (λ (o : Option Replica). IfSome o (IsModeData d p)) up (mode_data-kept c (Enters p) i may p) in
      subst (HasModeData d u.held (phase_of d.world.group p)) state-is mode.data_of

  created-is : created u.held ≡ index_in u.held.queue.red_cut u.held.id
  created-is = ap (λ own. max (index_in u.held.queue.red_cut u.held.id) (last_index own)) own-none ∙ (let same : max (index_in u.held.queue.red_cut u.held.id) 0 ≡ index_in u.held.queue.red_cut u.held.id = omega arith in same)

  entry-outdone : IfSome (core_of d p) (IsOutdone d (entry_told c p now.replica))
  unfolding summary_of
  entry-outdone = subst (λ (o : Option Held). IfSome o (IsOutdone d (entry_told c p now.replica))) (sym core) (record {
    greens = subst (λ n. Front (greens_of c p) (greens_of d n)) (sym (summary-id c p now)) (subst (Front (greens_of c p)) (sym (greens-entered c i p may now)) (Front-refl (greens_of c p)));
    index = omega arith;
    created = (let e = created-is in omega arith);
  }) where
    core : core_of d p ≡ Some u.held
    core = of_node (node_of d.world p) up where
      of_life : (l : NodeState) → running l ≡ Some u → held_in l ≡ u.held
      of_life (Up r disk) e = ap (λ (o : Option Replica). option_map_or (λ r. r.held) o r.held) e
      of_life (Down disk green) e = absurd (let clash : None ≡ Some u = e in cc)

      of_node : (o : Option Node) → option_and_then (λ s. running s.life) o ≡ Some u → option_map (λ s. held_in s.life) o ≡ Some u.held
      of_node None e = absurd (let clash : None ≡ Some u = e in cc)
      of_node (Some s) e = ap Some (of_life s.life e)

  entry-inside : IfSome (replica_of d.world p) (KnowsAsMuch (entry_told c p now.replica))
  unfolding summary_of
  entry-inside = subst (λ (o : Option Replica). IfSome o (KnowsAsMuch (entry_told c p now.replica))) (sym up) (record {
    red = λ creator. omega arith;
    made = subst (λ (s : State). HasMadeNothing (entry_told c p now.replica) u.held s) (sym state-is) created-is;
  })

-- ---- behind each small step

pub summary_of_sender-kept : (c : Chronicle) (s : Small) → Invariant c → UnbegunMadeNone c → may_make c s ≡ true → AtRest c s → SummaryOfSender (small_step c s)
summary_of_sender-kept c s i unbegun may rest = record {
  fits = fits-kept c s i may;
  levels = knows-kept c s i may;
  outdone = told-by c s i may (λ conf p t. IfSome (core_of (small_step c s) p) (IsOutdone (small_step c s) t)) old-outdone new-outdone;
  inside = λ conf p is. inside-of conf p is (told_in (small_step c s) conf p)
      (told-by c s i may (λ conf p t. is_in (small_step c s) conf p ≡ true → IfSome (replica_of (small_step c s).world p) (KnowsAsMuch t)) old-inside new-inside conf p);
} where
  inside-of : (conf p : ℕ) → is_in (small_step c s) conf p ≡ true → (o : Option Told) → IfSome o (λ t. is_in (small_step c s) conf p ≡ true → IfSome (replica_of (small_step c s).world p) (KnowsAsMuch t)) →
      IfSome o (λ t. IfSome (replica_of (small_step c s).world p) (KnowsAsMuch t))
  inside-of conf p is None f = tt
  inside-of conf p is (Some t) f = f is

  old-outdone : (conf p : ℕ) (t : Told) → told_in c conf p ≡ Some t → IfSome (core_of (small_step c s) p) (IsOutdone (small_step c s) t)
  old-outdone conf p t e = at (core_of (small_step c s) p) refl where
    at : (o : Option Held) → core_of (small_step c s) p ≡ o → IfSome o (IsOutdone (small_step c s) t)
    at None f = tt
    at (Some h) f = outdone-still c i conf p t e s may rest (joiners-booked c i unbegun) h f

  may-enters : (p : ℕ) → s ≡ Enters p → may_make c (Enters p) ≡ true
  may-enters p e = subst (λ (s : Small). may_make c s ≡ true) e may

  new-outdone : (p : ℕ) (now : EntersNow c p) → s ≡ Enters p → IfSome (core_of (small_step c s) p) (IsOutdone (small_step c s) (entry_told c p now.replica))
  new-outdone p now e = subst (λ (s : Small). IfSome (core_of (small_step c s) p) (IsOutdone (small_step c s) (entry_told c p now.replica))) (sym e) (entry-outdone c i p (may-enters p e) now)

  old-inside : (conf p : ℕ) (t : Told) → told_in c conf p ≡ Some t → is_in (small_step c s) conf p ≡ true → IfSome (replica_of (small_step c s).world p) (KnowsAsMuch t)
  old-inside conf p t e is = knows-inside c i conf p t e s may rest is

  new-inside : (p : ℕ) (now : EntersNow c p) → s ≡ Enters p → is_in (small_step c s) (newest_conf c.world.group) p ≡ true → IfSome (replica_of (small_step c s).world p) (KnowsAsMuch (entry_told c p now.replica))
  new-inside p now e is = subst (λ (s : Small). IfSome (replica_of (small_step c s).world p) (KnowsAsMuch (entry_told c p now.replica))) (sym e) (entry-inside c i p (may-enters p e) now)
