-- What a small step makes of each replica's record: it is the same, its replica begins or comes into a configuration, or a plan is through.
use Rattle.std.proofs.Common.{◌⊎◌, ◌≡◌, ℕ, ◌≤◌, true, false, cond, not, List, [], find, Option, Some, None, IfSome, is_some, option_map, refl, sym, ap, ◌∙◌, subst, inl, inr, arith, eqb-true}
use Rattle.std.specs.Prelude.{◌==◌, option_and_then}
use Rattle.std.specs.Option.{option_map_or}
use Rattle.std.proofs.lemmas.Bool.{cases_Bool, cond-true, cond-false, and_parts, not-true}
use Rattle.std.proofs.lemmas.Option.{same_Some}
use Rattle.cg_base.specs.Text.{is_nil}
use Rattle.cg_base.specs.Weights.{ids}
use Rattle.cg_members.specs.Servers.{is_server}
use Rattle.cg_records.specs.declared.primary.Primary.{Primary}
use Rattle.cg_records.specs.declared.vulnerable.Vulnerable.{Vulnerable}
use Rattle.cg_knowledge.specs.declared.summary.Summary.{Summary}
use Rattle.cg_knowledge.specs.Primary.{known_primary}
use Rattle.cg_knowledge.specs.Vulnerable.{decided}
use Rattle.cg_knowledge.specs.Verdict.{decides}
use Rattle.cg_client.specs.Replica.{Held, NonPrim, Replica}
use Rattle.cg_client.specs.Turn.{Turn, begin}
use Rattle.cg_client.specs.Install.{prim_after}
use Rattle.cg_client.specs.Requests.{settle}
use Rattle.cg_disk_records.specs.Stored.{stored_of, whiten, recovery_turn as recover_disk}
use Rattle.cg_disk_records.specs.Crash.{Disk, at_rest, recovered, disk_recovered, new_disk}
use Rattle.cg_model.specs.Attempts.{held_in}
use Rattle.cg_model.specs.World.{NodeState, Up, Down, Node, node_of, replica_of, running, has_begun}
use Rattle.cg_model.specs.Step.{joiner_replica, without_snapshot}
use Rattle.cg_model.specs.Chronicle.{Chronicle}
use Rattle.cg_model.specs.Looks.{on_disk, disk_held, core_of, snapshot_of}
use Rattle.cg_model.specs.FactsReplica.{GoesOn, IsAsOnDisk, is_attempting, is_primary}
use Rattle.cg_model.specs.Facts.{Invariant}
use Rattle.cg_model.specs.Played.{IsWritten, AtRest}
use Rattle.cg_model.specs.Small.{Small, Starts, Makes, Enters, Orders, Receives, Hands, Leaves, Asks, Settles, Commits, Crashes, Recovers, Copies, Joins, after_turn, turning, turning_as, commit_as, crash_as, recover_as, copy_as, join_with, coming, take_newest, handed_next, take_next, leaving, take_parting, take_request, small_step}
use Rattle.cg_model.specs.Smalls.{may_make, is_set, is_between}
use Rattle.cg_agree_lemmas.specs.ChronicleFacts.{node_of-set}
use Rattle.cg_agree_lemmas.specs.HeldCommit.{recovered-id}
use Rattle.cg_agree.proofs.BegunKept.{nothing-before}
use Rattle.cg_agree_lemmas.specs.CoresKept.{node-of}
use Rattle.cg_agree_lemmas.specs.TurnValues.{even-own_to_red}
use Rattle.cg_agree_lemmas.specs.TurnKinds.{IsQuiet, HasInstalled, Turned, Quiet, Installs, Decides, Attempts, new_record}
use Rattle.cg_agree_lemmas.specs.TurnParts.{HasParted, record_left, settle-quiet, request-quiet, parting-turned, newest-come}
use Rattle.cg_agree_lemmas.specs.HandsNow.{HandsNow, hands-now, new, hand-turned, running-now}
use Rattle.cg_agree_lemmas.specs.PlanEnd.{AtPlanEnd, is_behind, plan-end}
use Rattle.cg_agree_lemmas.specs.AttemptsTurn.{ends-beside}
use Rattle.cg_agree_lemmas.specs.RecordKept.{same-replica, enters-between}
use Rattle.cg_agree_lemmas.specs.Looking.{core_in}

-- ---- a record behind a step

-- a plan is through: what the summaries say of the record, or a new one
abbrev pub IsDecided : List Summary → ℕ → Replica → Option Vulnerable → Type 0
IsDecided heard conf r v = (v ≡ decided heard r.held.vulnerable) ⊎ ((decides heard ≡ true) × (v ≡ Some (new_record conf heard r.held.id)))

pub data RecordMove (c : Chronicle) (p : ℕ) (h : Held) : Type 0 where
  Still : (old : Held) (found : core_of c p ≡ Some old) (index : old.prim.index ≤ h.prim.index) (same : h.vulnerable ≡ old.vulnerable) → RecordMove c p h
  Fresh : (none : core_of c p ≡ None) → RecordMove c p h
  Comes : (r : Replica) (up : replica_of c.world p ≡ Some r) (between : is_between r.state ≡ true) (index : h.prim ≡ r.held.prim) (left : h.vulnerable ≡ record_left r.state r.held.vulnerable) → RecordMove c p h
  Through : (r : Replica) (up : replica_of c.world p ≡ Some r) (conf : ℕ) (heard : List Summary) (end : AtPlanEnd c p r conf heard)
      (beside : (is_attempting r.state ≡ false) × (is_primary r.state ≡ false)) (prim : h.prim ≡ known_primary heard) (record_is : IsDecided heard conf r h.vulnerable) → RecordMove c p h

abbrev pub RecordsMove : Chronicle → Chronicle → Type 0
RecordsMove c d = (p : ℕ) (h : Held) → core_of d p ≡ Some h → RecordMove c p h

runs-in : (c : Chronicle) (p : ℕ) (r : Replica) (disk : Disk) → node_of c.world p ≡ Some (record { id = p; life = Up r disk }) → replica_of c.world p ≡ Some r
runs-in c p r disk node = ap (λ (o : Option Node). option_and_then (λ s. running s.life) o) node

-- nothing has changed
records-none : (c d : Chronicle) → d.world.nodes ≡ c.world.nodes → RecordsMove c d
records-none c d nodes p h e = Still h (ap (λ xs. core_in (find (λ (s : Node). s.id == p) xs)) (sym nodes) ∙ e) (omega arith) refl

-- one replica has another life
records-moved : (c d : Chronicle) (p : ℕ) (life : NodeState) → ((q : ℕ) → node_of d.world q ≡ cond (p == q) (Some (record { id = p; life = life })) (node_of c.world q)) →
    RecordMove c p (held_in life) → RecordsMove c d
records-moved c d p life node move q h e = elim (cases_Bool (p == q)) [
  | inl same ↦
      let now : Some (held_in life) ≡ Some h = sym (ap core_in (node q ∙ cond-true (p == q) (Some (record { id = p; life = life })) (node_of c.world q) same)) ∙ e in
      subst (λ (x : Held). RecordMove c q x) (same_Some (held_in life) h now) (subst (λ n. RecordMove c n (held_in life)) (eqb-true p q same) move)
  | inr apart ↦ Still h (sym (ap core_in (node q ∙ cond-false (p == q) (Some (record { id = p; life = life })) (node_of c.world q) apart)) ∙ e) (omega arith) refl
]

-- ---- turns

turn-records : (c b : Chronicle) (p : ℕ) (part : Turn → Turn) → b.world.nodes ≡ c.world.nodes →
    ((r : Replica) (disk : Disk) → node_of c.world p ≡ Some (record { id = p; life = Up r disk }) → RecordMove c p (part (begin r)).replica.held) → RecordsMove c (turning b p part)
turn-records c b p part nodes move = at (node_of b.world p) refl where
  same-node : (q : ℕ) → node_of b.world q ≡ node_of c.world q
  same-node q = ap (λ xs. find (λ (s : Node). s.id == q) xs) nodes

  turn : (r : Replica) (disk : Disk) → node_of b.world p ≡ Some (record { id = p; life = Up r disk }) → RecordsMove c (after_turn b p r disk (part (begin r)))
  turn r disk node =
      let t = part (begin r) in
      records-moved c (after_turn b p r disk t) p (Up t.replica disk) (λ q. node_of-set b.world p (Up t.replica disk) q ∙ ap (cond (p == q) (Some (record { id = p; life = Up t.replica disk }))) (same-node q))
      (move r disk (sym (same-node p) ∙ node))

  life : (s : Node) (life : NodeState) → s.life ≡ life → node_of b.world p ≡ Some s → RecordsMove c (turning_as b p part life)
  life s (Up r disk) is e = turn r disk (node-of b p s (Up r disk) is e)
  life s (Down disk green) is e = records-none c b nodes

  at : (o : Option Node) → node_of b.world p ≡ o → RecordsMove c (option_map_or (λ s. turning_as b p part s.life) o b)
  at None e = records-none c b nodes
  at (Some s) e = life s s.life refl e

quiet-record : (c : Chronicle) (p : ℕ) (old new' : Replica) (disk : Disk) → node_of c.world p ≡ Some (record { id = p; life = Up old disk }) → IsQuiet old new' → RecordMove c p new'.held
quiet-record c p old new' disk node quiet = Still old.held (ap core_in node) (let e = ap (λ (x : Primary). x.index) quiet.values.prim in omega arith) quiet.values.vulnerable

installed-record : (c : Chronicle) (p : ℕ) (old new' : Replica) (disk : Disk) → node_of c.world p ≡ Some (record { id = p; life = Up old disk }) → HasInstalled old new' → RecordMove c p new'.held
installed-record c p old new' disk node done =
    Still old.held (ap core_in node) (let e = ap (λ (x : Primary). x.index) done.prim in let le = rises old.held.vulnerable in omega (arith, e, le)) done.vulnerable where
      rises : (v : Option Vulnerable) → old.held.prim.index ≤ (prim_after old.held v).index
      rises None = omega arith
      rises (Some v) = omega arith

hands-record : (c : Chronicle) (p : ℕ) (i : Invariant c) (n : HandsNow c p) → RecordMove c p (new c p i n).held
hands-record c p i n = at (hand-turned c p i n) where
  at : Turned n.replica (new c p i n) n.next.message → RecordMove c p (new c p i n).held
  at (Quiet quiet) = quiet-record c p n.replica (new c p i n) n.disk n.node quiet
  at (Installs done) = installed-record c p n.replica (new c p i n) n.disk n.node done
  at (Decides conf heard ends decided) =
      let end = plan-end c p i n conf heard ends decided.remains (ap is_behind decided.state) in
      Through n.replica (running-now c p i n) conf heard (subst (λ k. AtPlanEnd c p n.replica k heard) end.0 end.1) (ends-beside n.replica.state n.next.message conf heard ends) decided.prim (inl decided.vulnerable)
  at (Attempts conf heard ends attempted) =
      let end = plan-end c p i n conf heard ends attempted.remains (ap is_behind attempted.state) in
      Through n.replica (running-now c p i n) conf heard (subst (λ k. AtPlanEnd c p n.replica k heard) end.0 end.1) (ends-beside n.replica.state n.next.message conf heard ends) attempted.prim (inr (attempted.holds, attempted.vulnerable))

parted-record : (c : Chronicle) (p : ℕ) (old new' : Replica) (disk : Disk) → node_of c.world p ≡ Some (record { id = p; life = Up old disk }) → HasParted old new' → RecordMove c p new'.held
parted-record c p old new' disk node (inl quiet) = quiet-record c p old new' disk node quiet
parted-record c p old new' disk node (inr done) = installed-record c p old new' disk node done

-- ---- commits, crashes, recoveries, joiners

commit-records : (c : Chronicle) (p : ℕ) (s : Node) → node_of c.world p ≡ Some s → (life : NodeState) → s.life ≡ life → RecordsMove c (commit_as c p life)
unfolding whiten
commit-records c p s e (Down disk green) is = records-none c c refl
commit-records c p s e (Up r disk) is =
    let new-life = Up (record r { held = whiten r.held }) (record disk { content = stored_of (whiten r.held) }) in
    records-moved c (commit_as c p (Up r disk)) p new-life (λ q. node_of-set c.world p new-life q) (Still r.held (ap core_in (node-of c p s (Up r disk) is e)) (omega arith) refl)

crash-records : (c : Chronicle) (p : ℕ) (rests : IsWritten c p) (s : Node) → node_of c.world p ≡ Some s → (life : NodeState) → s.life ≡ life → RecordsMove c (crash_as c p life)
crash-records c p rests s e (Down disk green) is = records-none c c refl
crash-records c p rests s e (Up r disk) is =
    let node = node-of c p s (Up r disk) is e in
    let both = subst (λ (o : Option Held). IfSome o (λ disk. GoesOn r.held disk × IsAsOnDisk r.held disk r.state)) (ap (λ (o : Option Node). option_map (λ s. on_disk s.life) o) node)
    (subst (λ (o : Option Replica). IfSome o (λ r. IfSome (disk_held c.world p) (λ disk. GoesOn r.held disk × IsAsOnDisk r.held disk r.state))) (runs-in c p r disk node) rests.up) in
    let index = ap (λ (x : Primary). x.index) both.0.prim in
    records-moved c (crash_as c p (Up r disk)) p (Down (at_rest disk) []) (λ q. node_of-set c.world p (Down (at_rest disk) []) q)
    (Still r.held (ap core_in node) (omega (arith, index)) (sym both.0.vulnerable))

recover-records : (c : Chronicle) (p : ℕ) (i : Invariant c) (s : Node) → node_of c.world p ≡ Some s → (life : NodeState) → s.life ≡ life → RecordsMove c (recover_as c life)
unfolding recover_disk
recover-records c p i s e (Up r disk) is = records-none c c refl
recover-records c p i s e (Down disk green) is =
    let node = node-of c p s (Down disk green) is e in
    let own : disk.content.id ≡ p = subst (λ (o : Option Held). IfSome o (λ h. h.id ≡ p)) (ap (λ (o : Option Node). option_map (λ s. on_disk s.life) o) node) (i.net.hosted.disk p) in
    let name : (recovered disk).held.id ≡ p = recovered-id disk.content ∙ own in
    let life = Up (recovered disk) (disk_recovered disk) in
    let even = (even-own_to_red (begin (record { held = disk.content; state = NonPrim false }))).values in
    let index = ap (λ (x : Primary). x.index) even.prim in
    records-moved c (recover_as c (Down disk green)) p life
    (λ q. node_of-set c.world (recovered disk).held.id life q ∙ ap (λ n. cond (n == q) (Some (record { id = n; life = life })) (node_of c.world q)) name)
    (Still disk.content (ap core_in node) (omega (arith, index)) even.vulnerable)

join-records : (c : Chronicle) (joiner : ℕ) → has_begun c.world joiner ≡ false → (content : Held) → RecordsMove c (join_with c joiner content)
join-records c joiner unbegun content =
    let life = Up (joiner_replica joiner content) (new_disk (joiner_replica joiner content).held) in
    records-moved c (join_with c joiner content) joiner life (λ q. node_of-set (without_snapshot c.world joiner) joiner life q) (Fresh (ap core_in (none (node_of c.world joiner) unbegun))) where
      none : (o : Option Node) → is_some o ≡ false → o ≡ None
      none None e = refl
      none (Some s) e = absurd (let clash : true ≡ false = e in cc)

-- ---- each small step

records-some : {X : Type 0} (o : Option X) (change : X → Chronicle) (c : Chronicle) → ((x : X) → o ≡ Some x → RecordsMove c (change x)) → RecordsMove c (option_map_or change o c)
records-some None change c each = records-none c c refl
records-some (Some x) change c each = each x refl

-- What each small step makes of each replica's record.
pub records-move : (c : Chronicle) (s : Small) → Invariant c → may_make c s ≡ true → AtRest c s → RecordsMove c (small_step c s)
unfolding small_step may_make
records-move c (Starts set) i may rest = λ p h e.
    (let empty = nothing-before c i.net.hosted (and_parts (is_nil c.world.nodes) (is_set (ids set)) may).0 in Fresh (ap (λ (x : Chronicle). core_of x p) empty))
records-move c (Makes set) i may rest = records-none c (small_step c (Makes set)) refl
records-move c (Enters p) i may rest = turn-records c (coming c p) p (take_newest c.world.group) refl (λ r disk node.
    (let between = enters-between c p r (runs-in c p r disk node) may in
    let come = newest-come c.world.group r between in Comes r (runs-in c p r disk node) between come.prim come.vulnerable))
records-move c (Orders p) i may rest = records-none c (small_step c (Orders p)) refl
records-move c (Receives p place) i may rest = records-none c (small_step c (Receives p place)) refl
records-move c (Hands p) i may rest = turn-records c (handed_next c p) p (take_next c.world.group p) refl (λ r disk node.
    (let n = hands-now c p i may in
    subst (λ (r : Replica). RecordMove c p (take_next c.world.group p (begin r)).replica.held) (sym (same-replica c p r n.replica disk node (running-now c p i n))) (hands-record c p i n)))
records-move c (Leaves p set own places) i may rest = turn-records c (leaving c p set own) p (take_parting c.world.group p set places) refl (λ r disk node.
    parted-record c p r (take_parting c.world.group p set places (begin r)).replica disk node (parting-turned c.world.group p set places r))
records-move c (Asks p kind) i may rest = turn-records c c p (take_request kind) refl (λ r disk node. quiet-record c p r (take_request kind (begin r)).replica disk node (request-quiet kind r))
records-move c (Settles p) i may rest = turn-records c c p settle refl (λ r disk node. quiet-record c p r (settle (begin r)).replica disk node (settle-quiet r))
records-move c (Commits p) i may rest = records-some (node_of c.world p) (λ s. commit_as c p s.life) c (λ s e. commit-records c p s e s.life refl)
records-move c (Crashes p) i may rest = records-some (node_of c.world p) (λ s. crash_as c p s.life) c (λ s e. crash-records c p rest s e s.life refl)
records-move c (Recovers p) i may rest = records-some (node_of c.world p) (λ s. recover_as c s.life) c (λ s e. recover-records c p i s e s.life refl)
records-move c (Copies p joiner) i may rest = records-some (replica_of c.world p) (copy_as c p joiner) c (λ r e. records-none c (copy_as c p joiner r) refl)
records-move c (Joins joiner) i may rest = records-some (snapshot_of c.world joiner) (λ s. join_with c joiner s.content) c (λ s e. join-records c joiner
    (not-true (has_begun c.world joiner) (and_parts (not (has_begun c.world joiner)) (option_map_or (λ s. is_server s.content.members joiner) (snapshot_of c.world joiner) false) may).0) s.content)
