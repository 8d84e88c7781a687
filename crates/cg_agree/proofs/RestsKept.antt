-- What holds at the end of a step holds behind each event: disks agree, and no request waits with who creates.
use Rattle.std.proofs.Common.{◌≡◌, ℕ, suc, ◌≤◌, ◌<◌, max, true, false, not, ◌&&◌, ◌||◌, List, [], ◌∷◌, ◌++◌, length, drop, Option, Some, None, IfSome, refl, sym, ap, ap₂, ◌∙◌, subst, inl, inr, option_and_then, option_map, arith, eqb-true, append-nil, if◌then◌else◌}
use Rattle.std.specs.Prelude.{◌==◌}
use Rattle.std.specs.Option.{option_map_or}
use Rattle.std.proofs.lemmas.Bool.{cases_Bool, cond_both, and_parts}
use Rattle.cg_base.specs.Cuts.{index_in, raise}
use Rattle.cg_base.specs.Sets.{has}
use Rattle.cg_base.specs.ListLaws.{at_place-past}
use Rattle.cg_base.specs.FindLaws.{found_passes}
use Rattle.cg_action.specs.declared.action.Action.{Action}
use Rattle.cg_queue.specs.Queue.{names_of}
use Rattle.cg_records.specs.declared.vulnerable.Vulnerable.{Vulnerable}
use Rattle.cg_knowledge.specs.Summaries.{gone}
use Rattle.cg_knowledge.specs.Verdict.{decides}
use Rattle.cg_wire.specs.declared.message.Msg.{Msg}
use Rattle.cg_group.specs.declared.phase.Phase.{Phase}
use Rattle.cg_group.specs.declared.phase.Phase.TheVariants.{Down as DownPhase, Alone, Regular, Transitional}
use Rattle.cg_group.specs.State.{Configuration, GroupState, no_configuration, phase_of, configuration}
use Rattle.cg_client.specs.Replica.{Held, State, RegPrim, TransPrim, ExchangeStates, ExchangeActions, Construct, No, Un, NonPrim, Left, Replica}
use Rattle.cg_schedule.specs.declared.event.Event.{Event}
use Rattle.cg_model.specs.World.{NodeState, Up, Down, Node, World, running, node_of, replica_of}
use Rattle.cg_model.specs.Admission.{first_refusal}
use Rattle.cg_model.specs.Run.{MayStand}
use Rattle.cg_model.specs.Chronicle.{Attempt, Chronicle}
use Rattle.cg_model.specs.Fronts.{Front, IsSomeWith}
use Rattle.cg_model.specs.Looks.{greens_of, stood_of, members_in, ordered_in, conf_at, attempt_of, on_disk, disk_held}
use Rattle.cg_model.specs.Talk.{Talk, is_full, is_through, is_announced, state_behind, state_in}
use Rattle.cg_model.specs.Levels.{is_record_of}
use Rattle.cg_model.specs.FactsTalk.{handed_talk, IsTransitional, IsStateIn}
use Rattle.cg_model.specs.FactsExchange.{HasRecord, IsRecord}
use Rattle.cg_model.specs.FactsReplica.{GoesOn, IsCore, IsAsOnDisk, is_attempting, is_primary, has_entered, IsCounted, IsModeData, ReplicaRests}
use Rattle.cg_model.specs.Facts.{Invariant}
use Rattle.cg_model.specs.Played.{IsSame, StandsBeside, with_world}
use Rattle.cg_model.specs.Noting.{chronicle_step}
use Rattle.cg_model.specs.Step.{world_step}
use Rattle.cg_agree_lemmas.specs.FrontFacts.{split_by_Front}
use Rattle.cg_disk_records.specs.Holds.{run_on, cut_behind}
use Rattle.cg_disk_records.specs.RunLaws.{cut_behind-append, run_on-append}
use Rattle.cg_disk_records.specs.CutRaiseLaws.{rising-behind, rising-raise, index-same, behind-rises}
use Rattle.cg_agree_lemmas.specs.HeldMarks.{IsOneself, rising-red}
use Rattle.cg_agree.proofs.DeadKept.{said-attempt}
use Rattle.cg_agree.proofs.MadeOfSmalls.{made-of-smalls}
use Rattle.cg_agree_lemmas.specs.AttemptNew.{HasNoRecordYet}
use Rattle.cg_agree_lemmas.specs.LivesRest.{node-in, node-agrees, node-empty}
use Rattle.cg_agree_lemmas.specs.RestsBehind.{LifeSteps, NodeSteps, RestsAt, event-rests}
use Rattle.cg_disk_records.specs.RunMarkLaws.{run-head}

-- ---- records

module _ (c : Chronicle) (i : Invariant c) (q : ℕ) (r : Replica) (here : replica_of c.world q ≡ Some r) where
  recorded : HasRecord c r.held.id r.held.prim.index r.held.vulnerable
  recorded = subst (λ (o : Option Replica). IfSome o (λ r. HasRecord c r.held.id r.held.prim.index r.held.vulnerable)) here (i.attempt.record_of_attempt.memory q)

  mode : IsModeData c q r
  mode = subst (λ (o : Option Replica). IfSome o (IsModeData c q)) here (i.replica.mode_data q)

  -- where no attempt is listed, or the replica hasn't entered it, it has no record of it
  unrecorded : (conf : ℕ) → IfSome (attempt_of c conf) (λ a. (has_entered a r.held.id ≡ false) × IsCounted a r) → is_record_of conf r.held.vulnerable ≡ false
  unrecorded conf counted = at r.held.vulnerable refl where
    of_attempt : (v : Vulnerable) (o : Option Attempt) → attempt_of c conf ≡ o → r.held.vulnerable ≡ Some v → (v.attempt == conf) ≡ true → IsSomeWith o (λ a. IsRecord a v) →
        IfSome o (λ a. (has_entered a r.held.id ≡ false) × IsCounted a r) → ⊥
    of_attempt v None found e same is counted = is
    of_attempt v (Some a) found e same is counted =
        let named : a.conf ≡ conf = eqb-true a.conf conf (found_passes (λ (a : Attempt). a.conf == conf) c.attempts a found) in
        let record_there : is_record_of a.conf r.held.vulnerable ≡ true = ap₂ is_record_of named e ∙ same in
        let clash : true ≡ false = sym (ap₂ (λ x y. x && not y) record_there counted.0) ∙ counted.1.record_of in
        cc

    at : (o : Option Vulnerable) → r.held.vulnerable ≡ o → is_record_of conf o ≡ false
    at None e = refl
    at (Some v) e = elim (cases_Bool (v.attempt == conf)) [
      | inr other ↦ other
      | inl same ↦ absurd (of_attempt v (attempt_of c conf) refl e same
          (subst (λ n. IsSomeWith (attempt_of c n) (λ a. IsRecord a v)) (eqb-true v.attempt conf same) (subst (HasRecord c r.held.id r.held.prim.index) e recorded).2) counted)
    ]

  outside : (conf : ℕ) → conf_at (phase_of c.world.group q) ≡ conf → is_attempting r.state ≡ false → is_primary r.state ≡ false → is_record_of conf r.held.vulnerable ≡ false
  outside conf at_conf idle other = unrecorded conf (each (attempt_of c conf) (subst (λ n. IfSome (attempt_of c n) (λ a. IsCounted a r)) at_conf mode.counted)) where
    each : (o : Option Attempt) → IfSome o (λ a. IsCounted a r) → IfSome o (λ a. (has_entered a r.held.id ≡ false) × IsCounted a r)
    each None is = tt
    each (Some a) is = (is.entered ∙ ap₂ (λ x y. x || y) idle other, is)

  -- nobody has a record of the attempt of a configuration that isn't made
  pub unrecorded-next : is_record_of (suc (length c.world.group.configurations)) r.held.vulnerable ≡ false
  unfolding configuration
  unrecorded-next = unrecorded next (none (attempt_of c next) refl) where
    next : ℕ
    next = suc (length c.world.group.configurations)

    unsaid : ordered_in c next ≡ []
    unsaid = ap (λ (o : Option (Configuration Msg)). (option_map_or (λ c. c) o no_configuration).ordered)
        (at_place-past c.world.group.configurations next (let less : length c.world.group.configurations < suc (length c.world.group.configurations) = omega arith in less))

    none : (o : Option Attempt) → attempt_of c next ≡ o → IfSome o (λ a. (has_entered a r.held.id ≡ false) × IsCounted a r)
    none None e = tt
    none (Some a) e = absurd (let said = said-attempt c next a i e in let few : length (ordered_in c next) ≡ 0 = ap length unsaid in omega arith)

  -- ---- an exchange is that of one's configuration

  conf_of_exchange : State → ℕ → ℕ
  conf_of_exchange (ExchangeStates conf set heard) other = conf
  conf_of_exchange (ExchangeActions conf summaries accepted) other = conf
  conf_of_exchange _ other = other

  exchanges-here : (set : List ℕ) (conf : ℕ) (t : Talk) (me : ℕ) → conf_of_exchange (state_in set conf t me) conf ≡ conf
  unfolding conf_of_exchange
  exchanges-here set conf t me =
      cond_both (not (is_full set t)) (ExchangeStates conf set t.heard) (if not (is_through t) then ExchangeActions conf t.heard t.accepted else state_behind conf t me) (λ s. conf_of_exchange s conf ≡ conf)
      (λ y. refl)
      (λ n. cond_both (not (is_through t)) (ExchangeActions conf t.heard t.accepted) (state_behind conf t me) (λ s. conf_of_exchange s conf ≡ conf)
      (λ y. refl)
      (λ n. cond_both (has (gone t.heard) me) Left (if not (decides t.heard) then NonPrim true else if is_announced t then RegPrim else Construct conf t.announced) (λ s. conf_of_exchange s conf ≡ conf)
      (λ y. refl)
      (λ n. cond_both (not (decides t.heard)) (NonPrim true) (if is_announced t then RegPrim else Construct conf t.announced) (λ s. conf_of_exchange s conf ≡ conf)
      (λ y. refl)
      (λ n. cond_both (is_announced t) RegPrim (Construct conf t.announced) (λ s. conf_of_exchange s conf ≡ conf) (λ y. refl) (λ n. refl)))))

  pub no-record-yet : HasNoRecordYet r r.state
  unfolding conf_of_exchange
  no-record-yet = by_phase (phase_of c.world.group q) refl (subst (λ (o : Option Replica). IfSome o (IsStateIn c q (phase_of c.world.group q))) here (i.talk.mode_fits q)) where
    in_regular : (conf : ℕ) → phase_of c.world.group q ≡ Regular conf → (state : State) → r.state ≡ state → conf_of_exchange state conf ≡ conf → HasNoRecordYet r state
    in_regular conf phase (ExchangeStates at set heard) e same = outside at (ap conf_at phase ∙ sym same) (ap is_attempting e) (ap is_primary e)
    in_regular conf phase (ExchangeActions at summaries accepted) e same = outside at (ap conf_at phase ∙ sym same) (ap is_attempting e) (ap is_primary e)
    in_regular conf phase RegPrim e same = tt
    in_regular conf phase TransPrim e same = tt
    in_regular conf phase (Construct at heard) e same = tt
    in_regular conf phase (No at heard) e same = tt
    in_regular conf phase Un e same = tt
    in_regular conf phase (NonPrim regular) e same = tt
    in_regular conf phase Left e same = tt

    parted : (conf : ℕ) (state : State) → IsTransitional c conf q r.held state → HasNoRecordYet r state
    parted conf (ExchangeStates at set heard) is = absurd is
    parted conf (ExchangeActions at summaries accepted) is = absurd is
    parted conf RegPrim is = tt
    parted conf TransPrim is = tt
    parted conf (Construct at heard) is = tt
    parted conf (No at heard) is = tt
    parted conf Un is = tt
    parted conf (NonPrim regular) is = tt
    parted conf Left is = tt

    by_phase : (x : Phase) → phase_of c.world.group q ≡ x → IsStateIn c q x r → HasNoRecordYet r r.state
    by_phase (Regular conf) e is = in_regular conf e r.state refl (ap (λ s. conf_of_exchange s conf) is ∙ exchanges-here (members_in c conf) conf (handed_talk c conf q) q)
    by_phase (Transitional conf set) e is = parted conf r.state is
    by_phase DownPhase e is = subst (HasNoRecordYet r) (sym is) tt
    by_phase Alone e is = subst (HasNoRecordYet r) (sym is) tt

-- ---- greens in memory and on the disk

-- lists of one cut, of which one is the front of the other, are one
pub same-by_cut : (stood greens : List Action) → Front stood greens → run_on [] (names_of greens) ≡ true → cut_behind [] (names_of greens) ≡ cut_behind [] (names_of stood) → greens ≡ stood
same-by_cut stood greens front run same =
    let is = split_by_Front stood greens front in
    is ∙ at (drop (length stood) greens) is where
      named : (more : List Action) → greens ≡ stood ++ more → names_of greens ≡ names_of stood ++ names_of more
      named more e = ap names_of e ∙ names-append stood more where
        names-append : (xs ys : List Action) → names_of (xs ++ ys) ≡ names_of xs ++ names_of ys
        names-append [] ys = refl
        names-append (x ∷ xs) ys = ap (λ list. x.id ∷ list) (names-append xs ys)

      at : (more : List Action) → greens ≡ stood ++ more → stood ++ more ≡ stood
      at [] e = append-nil stood
      at (a ∷ more) e =
          let cut = cut_behind [] (names_of stood) in
          let list = named (a ∷ more) e in
          let runs : run_on cut (a.id ∷ names_of more) ≡ true =
          (and_parts (run_on [] (names_of stood)) (run_on cut (a.id ∷ names_of more)) (sym (run_on-append [] (names_of stood) (a.id ∷ names_of more)) ∙ ap (run_on []) (sym list) ∙ run)).1 in
          let next : a.id.index ≡ suc (index_in cut a.id.creator) = run-head cut a.id (names_of more) runs in
          let whole : cut_behind (raise cut a.id) (names_of more) ≡ cut = sym (cut_behind-append [] (names_of stood) (a.id ∷ names_of more)) ∙ ap (cut_behind []) (sym list) ∙ same in
          let rising = rising-behind [] (names_of stood) tt in
          let up : index_in (raise cut a.id) a.id.creator ≤ index_in (cut_behind (raise cut a.id) (names_of more)) a.id.creator =
          behind-rises (raise cut a.id) (names_of more) a.id.creator (rising-raise cut a.id rising) in
          let raised : index_in (raise cut a.id) a.id.creator ≡ max (index_in cut a.id.creator) a.id.index = index-same cut a.id rising a.id.creator refl in
          let back : index_in (cut_behind (raise cut a.id) (names_of more)) a.id.creator ≡ index_in cut a.id.creator = ap (λ x. index_in x a.id.creator) whole in
          absurd (omega arith)

-- ---- behind an event

module _ (c : Chronicle) (w : World) (stands : StandsBeside c w) where
  rested : (q : ℕ) → RestsAt w q
  rested q = node-in (node_of w q) (stands.rests.replica.disk_agrees.up q) (stands.rests.replica.buffer_empty q)

  next-is : suc (length c.world.group.configurations) ≡ suc (length w.group.configurations)
  next-is = ap (λ (g : GroupState Msg). suc (length g.configurations)) (sym stands.same.group)

  stepping : (q : ℕ) → NodeSteps c.start (suc (length w.group.configurations)) (node_of w q)
  stepping q = at (node_of w q) refl where
    oneself : {h : Held} {all : List Action} → IsCore c h all → IsOneself c.start h all
    oneself core = record { made_of = core.made_of; contiguous = core.contiguous; yellow_closed = core.yellow_closed }

    life : (l : NodeState) → replica_of w q ≡ running l → disk_held w q ≡ Some (on_disk l) → LifeSteps c.start (suc (length w.group.configurations)) l
    life (Up r disk) runs has_disk =
        let here : replica_of c.world q ≡ Some r = sym (stands.same.running q) ∙ runs in
        let core = oneself (subst (λ (o : Option Replica). IfSome o (λ r. IsCore c r.held (greens_of c q))) here (stands.facts.replica.cores.memory q)) in (
          record { rising = rising-red c.start r.held (greens_of c q) core; run = core.contiguous.own; mine = core.contiguous.mine },
          no-record-yet c stands.facts q r here,
          subst (λ n. is_record_of n r.held.vulnerable ≡ false) next-is (unrecorded-next c stands.facts q r here),
        )
    life (Down disk green) runs has_disk =
        let here : disk_held c.world q ≡ Some disk.content = sym (stands.same.disk q) ∙ has_disk in
        record { greens = stood_of c q; is = oneself (subst (λ (o : Option Held). IfSome o (λ h. IsCore c h (stood_of c q))) here (stands.facts.replica.cores.disk q)) }

    at : (o : Option Node) → node_of w q ≡ o → NodeSteps c.start (suc (length w.group.configurations)) o
    at None e = tt
    at (Some s) e = life s.life (ap (λ (o : Option Node). option_and_then (λ s. running s.life) o) e) (ap (λ (o : Option Node). option_map (λ s. on_disk s.life) o) e)

  -- Behind an event disks agree, and who creates keeps no request.
  pub rests-kept : (e : Event) → MayStand w e → first_refusal w e ≡ None → Invariant (chronicle_step c w e) →
      ReplicaRests (with_world (chronicle_step c w e) (world_step w e).world)
  rests-kept e may admitted facts =
      let d = chronicle_step c w e in
      let v = (world_step w e).world in
      let rest = event-rests c.start w rested stepping e may in
      let same : IsSame v d.world = (made-of-smalls c w e stands may admitted).1 in
      record {
        disk_agrees = record { up = λ q. node-agrees (node_of v q) (rest q); greens = λ q. greens-agree d v facts same q (node-agrees (node_of v q) (rest q)) };
        buffer_empty = λ q. node-empty (node_of v q) (rest q);
      } where
        greens-agree : (d : Chronicle) (v : World) → Invariant d → IsSame v d.world → (q : ℕ) →
            IfSome (replica_of v q) (λ r. IfSome (disk_held v q) (λ disk. GoesOn r.held disk × IsAsOnDisk r.held disk r.state)) → greens_of d q ≡ stood_of d q
        greens-agree d v facts same q agrees = at (replica_of d.world q) refl (disk_held d.world q) refl
            (subst (λ (o : Option Replica). IfSome o (λ r. IfSome (disk_held d.world q) (λ disk. GoesOn r.held disk × IsAsOnDisk r.held disk r.state))) (same.running q)
            (subst (λ (h : Option Held). IfSome (replica_of v q) (λ r. IfSome h (λ disk. GoesOn r.held disk × IsAsOnDisk r.held disk r.state))) (same.disk q) agrees)) where
              hosted : (r : Replica) → replica_of d.world q ≡ Some r → disk_held d.world q ≡ None → ⊥
              hosted r runs none = in_node (node_of d.world q) runs none where
                in_node : (o : Option Node) → option_and_then (λ s. running s.life) o ≡ Some r → option_map (λ s. on_disk s.life) o ≡ None → ⊥
                in_node None runs none = let clash : None ≡ Some r = runs in cc
                in_node (Some s) runs none = let clash : Some (on_disk s.life) ≡ None = none in cc

              at : (o : Option Replica) → replica_of d.world q ≡ o → (h : Option Held) → disk_held d.world q ≡ h → IfSome o (λ r. IfSome h (λ disk. GoesOn r.held disk × IsAsOnDisk r.held disk r.state)) →
                  greens_of d q ≡ stood_of d q
              at None e h f is = facts.replica.disk_behind.down q e
              at (Some r) e None f is = absurd (hosted r e f)
              at (Some r) e (Some h) f is =
                  let memory = subst (λ (o : Option Replica). IfSome o (λ r. IsCore d r.held (greens_of d q))) e (facts.replica.cores.memory q) in
                  let disk = subst (λ (o : Option Held). IfSome o (λ h. IsCore d h (stood_of d q))) f (facts.replica.cores.disk q) in
                  same-by_cut (stood_of d q) (greens_of d q) (facts.replica.disk_behind.behind q) memory.contiguous.greens
                  (sym memory.made_of.green_cut ∙ is.0.green ∙ disk.made_of.green_cut)
