-- The small steps by which a replica crashes, recovers, begins or is copied keep the facts about what is said.
use Rattle.std.proofs.Common.{◌≡◌, ℕ, true, false, cond, List, [], ◌∷◌, fold, Option, Some, None, IfSome, refl, sym, ap, subst, ◌∙◌, is_some, option_and_then}
use Rattle.std.specs.Prelude.{◌==◌}
use Rattle.std.specs.Option.{option_map_or}
use Rattle.std.proofs.lemmas.Bool.{cond-false}
use Rattle.cg_base.specs.declared.weighted.Weighted.{Weighted}
use Rattle.cg_base.specs.Weights.{ids}
use Rattle.cg_wire.specs.declared.message.Msg.{Msg}
use Rattle.cg_group.specs.declared.phase.Phase.TheVariants.{Alone, Down}
use Rattle.cg_group.specs.State.{Standing, GroupState, standing_of, phase_of, delivered_to, unordered_of, configuration, has_received}
use Rattle.cg_group.specs.Events.{come_up, go_down}
use Rattle.cg_group.specs.LookupLaws.{standing_of-set, standing_of-down, eqb_comm, at-cond}
use Rattle.cg_client.specs.Replica.{NonPrim, Replica, fresh}
use Rattle.cg_client.specs.Turn.{begin}
use Rattle.cg_disk_records.specs.Crash.{Disk, new_disk, at_rest, recovered, disk_recovered}
use Rattle.cg_disk_records.specs.Stored.{recovery_turn}
use Rattle.cg_model.specs.World.{NodeState, Up, Down as DownLife, Node, TransferState, World, running, node_of, has_begun, replica_of, set_life}
use Rattle.cg_model.specs.Step.{begin_replica, joiner_replica}
use Rattle.cg_model.specs.Chronicle.{Chronicle}
use Rattle.cg_model.specs.FactsNet.{Hosted}
use Rattle.cg_model.specs.FactsTalk.{IsStateIn, TalkFacts}
use Rattle.cg_model.specs.Small.{Starts, Crashes, Recovers, Copies, Joins, start, small_step, crash_as, recover_as, copy_as, join_with}
use Rattle.cg_model.specs.Smalls.{is_running}
use Rattle.cg_agree_lemmas.specs.ChronicleFacts.{node_of-set, replica_of-set}
use Rattle.cg_agree_lemmas.specs.EntersTurn.{own-state}
use Rattle.cg_agree_lemmas.specs.NumbersSame.{IsNumberedAs, numbered-itself}
use Rattle.cg_agree_lemmas.specs.OneStands.{Stands, stands-up, stands-down}
use Rattle.cg_agree_lemmas.specs.OneSteps.{MayJoin, node-there, running-begun}
use Rattle.cg_agree_lemmas.specs.TalkApart.{Apart, talk-apart}
use Rattle.cg_agree_lemmas.specs.TalkFrame.{IsShownAs, shown-itself}
use Rattle.cg_agree_lemmas.specs.TalkSame.{talk-same}
use Rattle.cg_agree_lemmas.specs.ToldKept.{told_in-same}
use Rattle.cg_model.specs.Played.{with_world}

-- ---- the others behind a change of one

-- what is shown of another replica's standing
other-standing : {Y : Type 0} (f : Option (Standing Msg) → Y) (g h : GroupState Msg) (p : ℕ) (o : Option (Standing Msg)) →
    ((q : ℕ) → standing_of h q ≡ cond (q == p) o (standing_of g q)) → (q : ℕ) → (q == p) ≡ false → f (standing_of h q) ≡ f (standing_of g q)
other-standing f g h p o is q other = ap f (is q ∙ cond-false (q == p) o (standing_of g q) other)

up-standing : (g : GroupState Msg) (p q : ℕ) → standing_of (come_up g p) q ≡ cond (q == p) (Some (record { id = p; phase = Alone; delivered = 0; unordered = [] })) (standing_of g q)
unfolding come_up
up-standing g p q = standing_of-set g (record { id = p; phase = Alone; delivered = 0; unordered = [] }) q

pub replica-set : (w : World) (p : ℕ) (life : NodeState) (q : ℕ) → replica_of (set_life w p life) q ≡ cond (q == p) (running life) (replica_of w q)
replica-set w p life q =
    ap (λ (o : Option Node). option_and_then (λ s. running s.life) o) (node_of-set w p life q)
    ∙ at-cond (λ (o : Option Node). option_and_then (λ s. running s.life) o) (p == q) (Some (record { id = p; life = life })) (node_of w q)
    ∙ ap (λ b. cond b (running life) (replica_of w q)) (eqb_comm p q)

-- a replica is up with this life, alone
apart-up : (c d : Chronicle) (p : ℕ) (life : NodeState) → d.world.group ≡ come_up c.world.group p → ((q : ℕ) → replica_of d.world q ≡ replica_of (set_life c.world p life) q) → d.told ≡ c.told → Apart c d p Alone
apart-up c d p life group nodes told =
    let up = subst (λ h. Stands c.world.group h p Alone 0 true) (sym group) (stands-up c.world.group p) in
    let stand : (q : ℕ) → standing_of d.world.group q ≡ cond (q == p) (Some (record { id = p; phase = Alone; delivered = 0; unordered = [] })) (standing_of c.world.group q) =
    λ q. ap (λ g. standing_of g q) group ∙ up-standing c.world.group p q in
    record {
      conf = up.conf;
      phase = up.phase;
      out = λ k. refl;
      delivered = λ q other. up.delivered q ∙ cond-false (q == p) 0 (delivered_to c.world.group q) other;
      waits = other-standing (λ o. option_map_or (λ s. s.unordered) o []) c.world.group d.world.group p (Some (record { id = p; phase = Alone; delivered = 0; unordered = [] })) stand;
      told = told_in-same c d told;
      replica = λ q other. nodes q ∙ replica-set c.world p life q ∙ cond-false (q == p) (running life) (replica_of c.world q) other;
    }

apart-down : (c d : Chronicle) (p : ℕ) (life : NodeState) → d.world.group ≡ go_down c.world.group p → ((q : ℕ) → replica_of d.world q ≡ replica_of (set_life c.world p life) q) → d.told ≡ c.told → Apart c d p Down
apart-down c d p life group nodes told =
    let down = subst (λ h. Stands c.world.group h p Down 0 false) (sym group) (stands-down c.world.group p) in
    let stand : (q : ℕ) → standing_of d.world.group q ≡ cond (q == p) None (standing_of c.world.group q) =
    λ q. ap (λ g. standing_of g q) group ∙ standing_of-down c.world.group p q in
    record {
      conf = down.conf;
      phase = down.phase;
      out = λ k. refl;
      delivered = λ q other. down.delivered q ∙ cond-false (q == p) 0 (delivered_to c.world.group q) other;
      waits = other-standing (λ o. option_map_or (λ s. s.unordered) o []) c.world.group d.world.group p None stand;
      told = told_in-same c d told;
      replica = λ q other. nodes q ∙ replica-set c.world p life q ∙ cond-false (q == p) (running life) (replica_of c.world q) other;
    }

-- ---- a crash

crash-life : (c : Chronicle) (p : ℕ) (s : Node) (l : NodeState) → s.life ≡ l → is_some (running s.life) ≡ true → TalkFacts c → TalkFacts (crash_as c p l)
crash-life c p s (DownLife disk green) is runs old = old
crash-life c p s (Up r disk) is runs old =
    let d = crash_as c p (Up r disk) in
    talk-apart c d p Down (apart-down c d p (DownLife (at_rest disk) []) refl (λ q. refl) refl)
    (subst (λ o. IfSome o (IsStateIn d p Down)) (sym (replica_of-set c.world p (DownLife (at_rest disk) []))) tt) old

pub talk-crashes : (c : Chronicle) (p : ℕ) → is_running c p ≡ true → TalkFacts c → TalkFacts (small_step c (Crashes p))
unfolding small_step
talk-crashes c p up old =
    let hosted = node-there c p (running-begun c p up) in
    subst (λ (o : Option Node). TalkFacts (option_map_or (λ s. crash_as c p s.life) o c)) (sym hosted.there)
    (crash-life c p hosted.node hosted.node.life refl (sym (ap (λ (o : Option Node). is_some (option_and_then (λ s. running s.life) o)) hosted.there) ∙ up) old)

-- ---- a recovery

pub recovered-state : (disk : Disk) → (recovered disk).state ≡ NonPrim false
unfolding recovery_turn
recovered-state disk = own-state (begin (record { held = disk.content; state = NonPrim false }))

recover-life : (c : Chronicle) (p : ℕ) (s : Node) (l : NodeState) → s.life ≡ l → node_of c.world p ≡ Some s → Hosted c → TalkFacts c → TalkFacts (recover_as c l)
recover-life c p s (Up r disk) is e nodes old = old
recover-life c p s (DownLife disk green) is e nodes old =
    let d = recover_as c (DownLife disk green) in
    let me = (recovered disk).held.id in
    let life : NodeState = Up (recovered disk) (disk_recovered disk) in
    talk-apart c d me Alone (apart-up c d me life refl (λ q. refl) refl)
    (subst (λ o. IfSome o (IsStateIn d me Alone)) (sym (replica_of-set c.world me life)) (recovered-state disk)) old

pub talk-recovers : (c : Chronicle) (p : ℕ) → Hosted c → has_begun c.world p ≡ true → TalkFacts c → TalkFacts (small_step c (Recovers p))
unfolding small_step
talk-recovers c p nodes begun old =
    let hosted = node-there c p begun in
    subst (λ (o : Option Node). TalkFacts (option_map_or (λ s. recover_as c s.life) o c)) (sym hosted.there)
    (recover-life c p hosted.node hosted.node.life refl hosted.there nodes old)

-- ---- snapshots, and a joiner begins

-- two chronicles with one group, one list of replicas and one of what was told
pub one-talk : (c d : Chronicle) → d.world.group ≡ c.world.group → ((q : ℕ) → replica_of d.world q ≡ replica_of c.world q) → d.told ≡ c.told → TalkFacts c → TalkFacts d
one-talk c d group replicas told old = talk-same c d (record {
  members = λ k. ap (λ g. (configuration g k).members) group;
  ordered = λ k. ap (λ g. (configuration g k).ordered) group;
  phase = λ q. ap (λ g. phase_of g q) group;
  delivered = λ q. ap (λ g. delivered_to g q) group;
  waits = λ q. ap (λ g. unordered_of g q) group;
  told = told_in-same c d told;
  replica = λ q. subst (IsShownAs (replica_of c.world q)) (sym (replicas q)) (shown-itself (replica_of c.world q));
  receipts = λ k q place out. ap (λ g. has_received (configuration g k) q place) group;
}) (λ q. subst (IsNumberedAs (replica_of c.world q)) (sym (replicas q)) (numbered-itself (replica_of c.world q))) old

pub talk-copies : (c : Chronicle) (p joiner : ℕ) → TalkFacts c → TalkFacts (small_step c (Copies p joiner))
unfolding small_step
talk-copies c p joiner old = at (replica_of c.world p) where
  at : (o : Option Replica) → TalkFacts (option_map_or (copy_as c p joiner) o c)
  at None = old
  at (Some r) = one-talk c (copy_as c p joiner r) refl (λ q. refl) refl old

pub talk-joins : (c : Chronicle) (joiner : ℕ) → MayJoin c joiner → TalkFacts c → TalkFacts (small_step c (Joins joiner))
unfolding small_step
talk-joins c joiner may old =
    subst (λ (o : Option TransferState). TalkFacts (option_map_or (λ s. join_with c joiner s.content) o c)) (sym may.there) (
    let r = joiner_replica joiner may.snapshot.content in
    let d = join_with c joiner may.snapshot.content in
    let life : NodeState = Up r (new_disk r.held) in
    talk-apart c d joiner Alone (apart-up c d joiner life refl (λ q. refl) refl)
    (subst (λ o. IfSome o (IsStateIn d joiner Alone)) (sym (replica_of-set c.world joiner life)) refl) old)

-- ---- the start

talk-begun : (c : Chronicle) (set : List Weighted) (replicas : List ℕ) (w : World) → TalkFacts (with_world c w) → TalkFacts (with_world c (fold (begin_replica set) w replicas))
talk-begun c set [] w old = old
talk-begun c set (p ∷ replicas) w old =
    let life : NodeState = Up (fresh p set) (new_disk (fresh p set).held) in
    talk-begun c set replicas (begin_replica set w p)
    (talk-apart (with_world c w) (with_world c (begin_replica set w p)) p Alone (apart-up (with_world c w) (with_world c (begin_replica set w p)) p life refl (λ q. refl) refl)
    (subst (λ o. IfSome o (IsStateIn (with_world c (begin_replica set w p)) p Alone)) (sym (replica_of-set w p life)) refl) old)

pub talk-starts : (c : Chronicle) (set : List Weighted) → TalkFacts c → TalkFacts (small_step c (Starts set))
unfolding small_step
talk-starts c set old = one-talk (with_world c (fold (begin_replica set) c.world (ids set))) (start c set) refl (λ q. refl) refl (talk-begun c set (ids set) c.world old)
