-- What holds of each message that is said holds of every message in the group, behind each small step.
use Rattle.std.proofs.Common.{◌≡◌, ℕ, suc, true, cond, not, List, [], ◌∷◌, ◌++◌, fold, Option, Some, None, refl, sym, subst, inl, inr}
use Rattle.std.specs.Prelude.{◌==◌}
use Rattle.std.specs.Option.{option_map_or}
use Rattle.std.proofs.lemmas.Bool.{cond_both, and_parts, not-true}
use Rattle.cg_base.specs.declared.weighted.Weighted.{Weighted}
use Rattle.cg_base.specs.Weights.{ids}
use Rattle.cg_wire.specs.declared.message.Msg.{Msg}
use Rattle.cg_group.specs.declared.phase.Phase.TheVariants.{Alone, Regular, Transitional}
use Rattle.cg_group.specs.State.{Sent, Configuration, Standing, GroupState, configuration, standing_of, unordered_of, regular_in, phase_of, set_standing, set_configuration, delivered_to}
use Rattle.cg_group.specs.Events.{come_up, go_down, send_from, send, send_all, order_from, order, receive, with_message, with_receipt, with_delivered, become_regular}
use Rattle.cg_base.specs.Lists.{Each}
use Rattle.cg_base.specs.EachLaws.{Each-append}
use Rattle.cg_group.specs.LookupLaws.{unordered_of-set, standing_of-down, standing_of-set_configuration}
use Rattle.cg_client.specs.Replica.{Replica}
use Rattle.cg_client.specs.Turn.{Turn, begin}
use Rattle.cg_client.specs.Requests.{settle}
use Rattle.cg_disk_records.specs.Crash.{Disk, recovered}
use Rattle.cg_model.specs.World.{NodeState, Up, Down, Node, World, node_of, has_begun, replica_of}
use Rattle.cg_model.specs.Step.{begin_replica}
use Rattle.cg_model.specs.Chronicle.{Chronicle}
use Rattle.cg_model.specs.Looks.{conf_of, ordered_in, snapshot_of}
use Rattle.cg_model.specs.FactsNet.{Hosted}
use Rattle.cg_model.specs.Small.{Small, Starts, Makes, Enters, Orders, Receives, Hands, Leaves, Asks, Settles, Commits, Crashes, Recovers, Copies, Joins, small_step, turning, turning_as, coming, handed_next, leaving, take_request, take_newest, take_next, take_parting, make_configuration, newest_conf, commit_as, crash_as, recover_as, copy_as, join_with}
use Rattle.cg_model.specs.Smalls.{may_make, is_running}
use Rattle.cg_agree_lemmas.specs.GroupKept.{orders-conf, receives-conf, leaving-regular}
use Rattle.cg_agree_lemmas.specs.GroupSound.{GroupSound, made-is}
use Rattle.cg_agree.proofs.FixedKept.{confs-begun}
use Rattle.cg_agree_lemmas.specs.NextThere.{orders-now, receives-now}
use Rattle.cg_agree_lemmas.specs.CoresKept.{node-of}
use Rattle.cg_agree_lemmas.specs.OneSteps.{turns-step, hands-step, leaves-step, enters-step, commits-step, copies-step, crashes-step, recovers-step, joins-step, may-join, may-enter}

module _ (P : Msg → Type 0) where
  abbrev pub AreSaid : List (Sent Msg) → Type 0
  AreSaid list = Each (λ s. P s.message) list

  -- each message that has a place, and each that waits for one
  abbrev pub ArePlaced : Chronicle → Type 0
  ArePlaced c = (conf : ℕ) → AreSaid (ordered_in c conf)

  abbrev pub DoWait : GroupState Msg → Type 0
  DoWait g = (q : ℕ) → Each P (unordered_of g q)

  -- ---- messages that wait

  pub waits-set : (g : GroupState Msg) (s : Standing Msg) → Each P s.unordered → DoWait g → DoWait (set_standing g s)
  waits-set g s own w q =
      subst (Each P) (sym (unordered_of-set g s q)) (cond_both (q == s.id) s.unordered (unordered_of g q) (Each P) (λ y. own) (λ n. w q))

  pub waits-down : (g : GroupState Msg) (p : ℕ) → DoWait g → DoWait (go_down g p)
  waits-down g p w q =
      subst (λ (o : Option (Standing Msg)). Each P (option_map_or (λ s. s.unordered) o [])) (sym (standing_of-down g p q))
      (cond_both (q == p) None (standing_of g q) (λ (o : Option (Standing Msg)). Each P (option_map_or (λ s. s.unordered) o [])) (λ y. tt) (λ n. w q))

  waits-configured : (g : GroupState Msg) (conf : ℕ) (k : Configuration Msg) → DoWait g → DoWait (set_configuration g conf k)
  waits-configured g conf k w q =
      subst (λ (o : Option (Standing Msg)). Each P (option_map_or (λ s. s.unordered) o [])) (sym (standing_of-set_configuration g conf k q)) (w q)

  pub waiting-here : (g : GroupState Msg) (p : ℕ) (s : Standing Msg) → standing_of g p ≡ Some s → DoWait g → Each P s.unordered
  waiting-here g p s e w = subst (λ (o : Option (Standing Msg)). Each P (option_map_or (λ s. s.unordered) o [])) e (w p)

  waits-send : (g : GroupState Msg) (p : ℕ) (m : Msg) → P m → DoWait g → DoWait (send g p m)
  unfolding send send_from
  waits-send g p m is w = at (standing_of g p) refl where
    at : (o : Option (Standing Msg)) → standing_of g p ≡ o → DoWait (send_from g o m)
    at None e = w
    at (Some s) e =
        let new : Standing Msg = record s { unordered = s.unordered ++ m ∷ [] } in
        cond_both (regular_in s.phase == 0) g (set_standing g new) DoWait
        (λ y. w) (λ n. waits-set g new (Each-append P s.unordered (m ∷ []) (waiting-here g p s e w) (is, tt)) w)

  pub waits-sent : (ms : List Msg) (g : GroupState Msg) (p : ℕ) → Each P ms → DoWait g → DoWait (send_all g p ms)
  waits-sent [] g p each w = w
  waits-sent (m ∷ ms) g p each w = waits-sent ms (send g p m) p each.1 (waits-send g p m each.0 w)

  pub waits-order : (g : GroupState Msg) (p : ℕ) → DoWait g → DoWait (order g p)
  unfolding order order_from
  waits-order g p w = at (standing_of g p) refl where
    from : (s : Standing Msg) (list : List Msg) → Each P list → DoWait (order_from g s list)
    from s [] each = w
    from s (m ∷ rest) each =
        let conf = regular_in s.phase in
        let new : Standing Msg = record s { unordered = rest } in
        waits-configured (set_standing g new) conf (with_message (configuration g conf) s.id m) (waits-set g new each.1 w)

    at : (o : Option (Standing Msg)) → standing_of g p ≡ o → DoWait (option_map_or (λ s. order_from g s s.unordered) o g)
    at None e = w
    at (Some s) e = from s s.unordered (waiting-here g p s e w)

  pub waits-handed : (g : GroupState Msg) (p n : ℕ) → DoWait g → DoWait (with_delivered g p n)
  waits-handed g p n w = at (standing_of g p) refl where
    at : (o : Option (Standing Msg)) → standing_of g p ≡ o → DoWait (option_map_or (λ s. set_standing g (record s { delivered = n })) o g)
    at None e = w
    at (Some s) e = waits-set g (record s { delivered = n }) (waiting-here g p s e w) w

  pub waits-up : (g : GroupState Msg) (p : ℕ) → DoWait g → DoWait (come_up g p)
  unfolding come_up
  waits-up g p w = waits-set g (record { id = p; phase = Alone; delivered = 0; unordered = [] }) tt w

  waits-begun : (set : List Weighted) (replicas : List ℕ) (w : World) → DoWait w.group → DoWait (fold (begin_replica set) w replicas).group
  waits-begun set [] w h = h
  waits-begun set (p ∷ replicas) w h = waits-begun set replicas (begin_replica set w p) (waits-up w.group p h)

  pub waits-made : (g : GroupState Msg) (set : List ℕ) → DoWait g → DoWait (make_configuration g set)
  unfolding standing_of
  waits-made g set w q = w q

  pub waits-regular : (conf : ℕ) (g : GroupState Msg) (p : ℕ) → DoWait g → DoWait (become_regular conf g p)
  unfolding become_regular
  waits-regular conf g p w = waits-set g (record { id = p; phase = Regular conf; delivered = 0; unordered = [] }) tt w

  pub waits-received : (g : GroupState Msg) (p place : ℕ) → DoWait g → DoWait (receive g p place)
  unfolding receive
  waits-received g p place w = let conf = regular_in (phase_of g p) in waits-configured g conf (with_receipt (configuration g conf) p place) w

  -- ---- what a turn says

  abbrev pub TurnSays : Chronicle → ℕ → (Turn → Turn) → Type 0
  TurnSays c p part = (r : Replica) (disk : Disk) → node_of c.world p ≡ Some (record { id = p; life = Up r disk }) → Each P (part (begin r)).sent

  abbrev pub StepSays : Chronicle → Small → Type 0
  StepSays c (Enters p) = TurnSays c p (take_newest c.world.group)
  StepSays c (Hands p) = TurnSays c p (take_next c.world.group p)
  StepSays c (Leaves p set own places) = TurnSays c p (take_parting c.world.group p set places)
  StepSays c (Asks p kind) = TurnSays c p (take_request kind)
  StepSays c (Settles p) = TurnSays c p settle
  StepSays c _ = Unit {0}

  waits-turning : (c : Chronicle) (p : ℕ) (part : Turn → Turn) → TurnSays c p part → DoWait c.world.group → DoWait (turning c p part).world.group
  waits-turning c p part says w = at (node_of c.world p) refl where
    life : (s : Node) (l : NodeState) → s.life ≡ l → node_of c.world p ≡ Some s → DoWait (turning_as c p part l).world.group
    life s (Up r disk) is e = waits-sent (part (begin r)).sent c.world.group p (says r disk (node-of c p s (Up r disk) is e)) w
    life s (Down disk green) is e = w

    at : (o : Option Node) → node_of c.world p ≡ o → DoWait (option_map_or (λ s. turning_as c p part s.life) o c).world.group
    at None e = w
    at (Some s) e = life s s.life refl e

  at-some : {X : Type 0} (o : Option X) (change : X → Chronicle) (c : Chronicle) → ((x : X) → DoWait (change x).world.group) → DoWait c.world.group → DoWait (option_map_or change o c).world.group
  at-some None change c each w = w
  at-some (Some x) change c each w = each x

  waits-commit : (c : Chronicle) (p : ℕ) (life : NodeState) → DoWait c.world.group → DoWait (commit_as c p life).world.group
  waits-commit c p (Up r disk) w = w
  waits-commit c p (Down disk green) w = w

  waits-crash : (c : Chronicle) (p : ℕ) (life : NodeState) → DoWait c.world.group → DoWait (crash_as c p life).world.group
  waits-crash c p (Up r disk) w = waits-down c.world.group p w
  waits-crash c p (Down disk green) w = w

  waits-recover : (c : Chronicle) (life : NodeState) → DoWait c.world.group → DoWait (recover_as c life).world.group
  waits-recover c (Up r disk) w = w
  waits-recover c (Down disk green) w = waits-up c.world.group (recovered disk).held.id w

  -- Behind a small step it holds of each message that waits.
  pub waits-kept : (c : Chronicle) (s : Small) → StepSays c s → DoWait c.world.group → DoWait (small_step c s).world.group
  unfolding small_step
  waits-kept c (Starts set) says w = waits-begun set (ids set) c.world w
  waits-kept c (Makes set) says w = waits-made c.world.group set w
  waits-kept c (Enters p) says w = let g = c.world.group in waits-turning (coming c p) p (take_newest g) says (waits-regular (newest_conf g) g p w)
  waits-kept c (Orders p) says w = waits-order c.world.group p w
  waits-kept c (Receives p place) says w = waits-received c.world.group p place w
  waits-kept c (Hands p) says w = let g = c.world.group in waits-turning (handed_next c p) p (take_next g p) says (waits-handed g p (suc (delivered_to g p)) w)
  waits-kept c (Leaves p set own places) says w =
      let g = c.world.group in
      waits-turning (leaving c p set own) p (take_parting g p set places) says
      (waits-set g (record { id = p; phase = Transitional (regular_in (phase_of g p)) set; delivered = own; unordered = [] }) tt w)
  waits-kept c (Asks p kind) says w = waits-turning c p (take_request kind) says w
  waits-kept c (Settles p) says w = waits-turning c p settle says w
  waits-kept c (Commits p) says w = at-some (node_of c.world p) (λ s. commit_as c p s.life) c (λ s. waits-commit c p s.life w) w
  waits-kept c (Crashes p) says w = at-some (node_of c.world p) (λ s. crash_as c p s.life) c (λ s. waits-crash c p s.life w) w
  waits-kept c (Recovers p) says w = at-some (node_of c.world p) (λ s. recover_as c s.life) c (λ s. waits-recover c s.life w) w
  waits-kept c (Copies p joiner) says w = at-some (replica_of c.world p) (copy_as c p joiner) c (λ r. w) w
  waits-kept c (Joins joiner) says w = at-some (snapshot_of c.world joiner) (λ s. join_with c joiner s.content) c (λ s. waits-up c.world.group joiner w) w

  -- ---- messages that have a place

  of-conf : (x y : Configuration Msg) → x ≡ y → AreSaid y.ordered → AreSaid x.ordered
  of-conf x y e each = subst (λ (z : Configuration Msg). AreSaid z.ordered) (sym e) each

  same-placed : (c d : Chronicle) → ((k : ℕ) → conf_of d k ≡ conf_of c k) → ArePlaced c → ArePlaced d
  same-placed c d same placed k = of-conf (conf_of d k) (conf_of c k) (same k) (placed k)

  message-placed : (C : Configuration Msg) (p : ℕ) (m : Msg) → P m → AreSaid C.ordered → AreSaid (with_message C p m).ordered
  unfolding with_message
  message-placed C p m is each = Each-append (λ s. P s.message) C.ordered (record { from = p; message = m } ∷ []) each (is, tt)

  receipt-placed : (C : Configuration Msg) (p place : ℕ) → AreSaid C.ordered → AreSaid (with_receipt C p place).ordered
  unfolding with_receipt
  receipt-placed C p place each = each

  -- And of each that has a place.
  pub placed-kept : (c : Chronicle) (s : Small) → Hosted c → may_make c s ≡ true → GroupSound c → DoWait c.world.group → ArePlaced c → ArePlaced (small_step c s)
  unfolding small_step may_make
  placed-kept c (Starts set) nodes m old w placed = λ k. of-conf (conf_of (small_step c (Starts set)) k) (conf_of c k) (confs-begun c set (ids set) c.world k) (placed k)
  placed-kept c (Makes set) nodes m old w placed = λ k. elim (made-is c.world.group set k) [
    | inl same ↦ of-conf (conf_of (small_step c (Makes set)) k) (conf_of c k) same (placed k)
    | inr new ↦ of-conf (conf_of (small_step c (Makes set)) k) (record { members = set; ordered = []; received = [] }) new.1 tt
  ]
  placed-kept c (Enters p) nodes m old w placed = same-placed c (small_step c (Enters p)) (enters-step c p old.phases (may-enter c p m).comes).stands.conf placed
  placed-kept c (Orders p) nodes m old w placed = λ k.
      let next = orders-now c p old.phases (λ k. (old.confs k).places) m in
      let step = orders-conf c p next.conf next.stands next.message next.rest next.at in
      let waited = subst (Each P) next.at.waited (waiting-here c.world.group p next.stands next.at.standing w) in
      of-conf (conf_of (small_step c (Orders p)) k) (cond (k == next.conf) (with_message (conf_of c next.conf) p next.message) (conf_of c k)) (step.changed k)
      (cond_both (k == next.conf) (with_message (conf_of c next.conf) p next.message) (conf_of c k) (λ x. AreSaid x.ordered)
      (λ y. message-placed (conf_of c next.conf) p next.message waited.0 (placed next.conf)) (λ n. placed k))
  placed-kept c (Receives p place) nodes m old w placed = λ k.
      let next = receives-now c p place old.phases m in
      let step = receives-conf c p place next in
      of-conf (conf_of (small_step c (Receives p place)) k) (cond (k == next.conf) (with_receipt (conf_of c next.conf) p place) (conf_of c k)) (step.changed k)
      (cond_both (k == next.conf) (with_receipt (conf_of c next.conf) p place) (conf_of c k) (λ x. AreSaid x.ordered)
      (λ y. receipt-placed (conf_of c next.conf) p place (placed next.conf)) (λ n. placed k))
  placed-kept c (Hands p) nodes m old w placed = same-placed c (small_step c (Hands p)) (hands-step c p old.phases (and_parts _ _ m).0).stands.conf placed
  placed-kept c (Leaves p set own places) nodes m old w placed =
      same-placed c (small_step c (Leaves p set own places)) (leaves-step c p set own places old.phases (leaving-regular c p set own places m)).stands.conf placed
  placed-kept c (Asks p kind) nodes m old w placed = same-placed c (small_step c (Asks p kind)) (turns-step c p (take_request kind) old.phases).stands.conf placed
  placed-kept c (Settles p) nodes m old w placed = same-placed c (small_step c (Settles p)) (turns-step c p settle old.phases).stands.conf placed
  placed-kept c (Commits p) nodes m old w placed = same-placed c (small_step c (Commits p)) (commits-step c p old.phases).stands.conf placed
  placed-kept c (Crashes p) nodes m old w placed = same-placed c (small_step c (Crashes p)) (crashes-step c p m).stands.conf placed
  placed-kept c (Recovers p) nodes m old w placed =
      let parts = and_parts (has_begun c.world p) (not (is_running c p)) m in
      same-placed c (small_step c (Recovers p)) (recovers-step c p nodes parts.0 (not-true (is_running c p) parts.1)).stands.conf placed
  placed-kept c (Copies p joiner) nodes m old w placed = same-placed c (small_step c (Copies p joiner)) (copies-step c p joiner old.phases).stands.conf placed
  placed-kept c (Joins joiner) nodes m old w placed = same-placed c (small_step c (Joins joiner)) (joins-step c joiner (may-join c joiner m)).stands.conf placed
