-- What a small step makes of each replica's core: its index and its greens never fall.
use Rattle.std.proofs.Common.{◌≡◌, ℕ, ◌≤◌, true, false, cond, not, List, [], length, length-append, find, Option, Some, None, IfSome, is_some, option_map, refl, sym, ap, ◌∙◌, subst, inl, inr, arith, eqb-true}
use Rattle.std.specs.Prelude.{◌==◌, option_and_then}
use Rattle.std.specs.Option.{option_map_or}
use Rattle.std.proofs.lemmas.Bool.{cases_Bool, cases_eq, cond-true, cond-false, and_parts, not-true}
use Rattle.std.proofs.lemmas.Option.{same_Some}
use Rattle.cg_base.specs.Text.{is_nil}
use Rattle.cg_base.specs.Weights.{ids}
use Rattle.cg_action.specs.declared.action.Action.{Action}
use Rattle.cg_members.specs.Servers.{is_server}
use Rattle.cg_records.specs.declared.primary.Primary.{Primary}
use Rattle.cg_records.specs.declared.vulnerable.Vulnerable.{Vulnerable}
use Rattle.cg_knowledge.specs.declared.summary.Summary.{Summary}
use Rattle.cg_knowledge.specs.Primary.{newest_index, known_primary}
use Rattle.cg_client.specs.Replica.{Held, NonPrim, Replica}
use Rattle.cg_client.specs.Turn.{Turn, begin}
use Rattle.cg_client.specs.Install.{prim_after}
use Rattle.cg_client.specs.Requests.{settle}
use Rattle.cg_disk_records.specs.Stored.{stored_of, whiten, recovery_turn as recover_disk}
use Rattle.cg_disk_records.specs.Crash.{Disk, at_rest, recovered, disk_recovered, new_disk}
use Rattle.cg_model.specs.Attempts.{held_in}
use Rattle.cg_model.specs.World.{NodeState, Up, Down, Node, node_of, replica_of, running, has_begun}
use Rattle.cg_model.specs.Step.{joiner_replica, without_snapshot}
use Rattle.cg_model.specs.Chronicle.{Past, Chronicle}
use Rattle.cg_model.specs.Looks.{past_of, greens_of, on_disk, disk_held, core_of, snapshot_of, copied_for}
use Rattle.cg_model.specs.FactsReplica.{GoesOn, IsAsOnDisk}
use Rattle.cg_model.specs.Facts.{Invariant}
use Rattle.cg_model.specs.Played.{IsWritten, AtRest}
use Rattle.cg_model.specs.Small.{Small, Starts, Makes, Enters, Orders, Receives, Hands, Leaves, Asks, Settles, Commits, Crashes, Recovers, Copies, Joins, changed_past, written, struck, new_past, newly_green, after_turn, turning, turning_as, commit_as, crash_as, recover_as, copy_as, join_with, coming, take_newest, handed_next, take_next, leaving, take_parting, take_request, small_step}
use Rattle.cg_model.specs.Smalls.{may_make, is_set}
use Rattle.cg_agree_lemmas.specs.ChronicleFacts.{node_of-set, greens_of-other, past-begun}
use Rattle.cg_agree_lemmas.specs.HeldCommit.{recovered-id}
use Rattle.cg_agree.proofs.BegunKept.{nothing-before}
use Rattle.cg_agree_lemmas.specs.CoresKept.{node-of, greens-turn, past-here, past-there}
use Rattle.cg_agree_lemmas.specs.Knowledge.{known-of, each-bounded, some-sender}
use Rattle.cg_agree_lemmas.specs.TurnValues.{even-own_to_red}
use Rattle.cg_agree_lemmas.specs.TurnKinds.{IsQuiet, HasInstalled, Turned, Quiet, Installs, Decides, Attempts}
use Rattle.cg_agree_lemmas.specs.TurnParts.{HasParted, settle-quiet, request-quiet, parting-turned, newest-come}
use Rattle.cg_agree_lemmas.specs.HandsNow.{HandsNow, hands-now, new, hand-turned, running-now}
use Rattle.cg_agree_lemmas.specs.PlanEnd.{AtPlanEnd, is_behind, plan-end, mine-among}
use Rattle.cg_agree_lemmas.specs.RecordKept.{same-replica, enters-between}
use Rattle.cg_agree_lemmas.specs.Looking.{greens-in, core_in}

-- ---- a core behind a step

-- it was there, with no greater index, or its replica begins
pub data CoreMove (c : Chronicle) (p : ℕ) (h : Held) : Type 0 where
  Was : (old : Held) (found : core_of c p ≡ Some old) (index : old.prim.index ≤ h.prim.index) → CoreMove c p h
  Begins : (none : core_of c p ≡ None) → CoreMove c p h

pub record CoresMove (c d : Chronicle) : Type 0 where
  pub move : (p : ℕ) (h : Held) → core_of d p ≡ Some h → CoreMove c p h
  pub greens : (p : ℕ) → length (greens_of c p) ≤ length (greens_of d p)

-- nothing has changed
moves-none : (c d : Chronicle) → d.world.nodes ≡ c.world.nodes → d.pasts ≡ c.pasts → CoresMove c d
moves-none c d nodes pasts = record {
  move = λ p h e. Was h (ap (λ xs. core_in (find (λ (s : Node). s.id == p) xs)) (sym nodes) ∙ e) (omega arith);
  greens = λ p. (let e = ap (λ xs. length (option_map_or (λ (x : Past). x.greens) (find (λ x. x.id == p) xs) [])) pasts in omega arith);
}

-- one replica has another life
pub moved : (c d : Chronicle) (p : ℕ) (life : NodeState) (old : Held) → ((q : ℕ) → node_of d.world q ≡ cond (p == q) (Some (record { id = p; life = life })) (node_of c.world q)) →
    core_of c p ≡ Some old → old.prim.index ≤ (held_in life).prim.index → ((q : ℕ) → length (greens_of c q) ≤ length (greens_of d q)) → CoresMove c d
moved c d p life old node found index greens = record {
  move = λ q h e. elim (cases_Bool (p == q)) [
    | inl same ↦
        let now : Some (held_in life) ≡ Some h = sym (ap core_in (node q ∙ cond-true (p == q) (Some (record { id = p; life = life })) (node_of c.world q) same)) ∙ e in
        Was old (ap (core_of c) (sym (eqb-true p q same)) ∙ found) (subst (λ (x : Held). old.prim.index ≤ x.prim.index) (same_Some (held_in life) h now) index)
    | inr apart ↦ Was h (sym (ap core_in (node q ∙ cond-false (p == q) (Some (record { id = p; life = life })) (node_of c.world q) apart)) ∙ e) (omega arith)
  ];
  greens = greens;
}

-- ---- turns

pub turn-moves : (c b : Chronicle) (p : ℕ) (part : Turn → Turn) (i : Invariant c) → b.world.nodes ≡ c.world.nodes → b.pasts ≡ c.pasts →
    ((r : Replica) (disk : Disk) → node_of c.world p ≡ Some (record { id = p; life = Up r disk }) → r.held.prim.index ≤ (part (begin r)).replica.held.prim.index) → CoresMove c (turning b p part)
turn-moves c b p part i nodes pasts rises = at (node_of b.world p) refl where
  same-node : (q : ℕ) → node_of b.world q ≡ node_of c.world q
  same-node q = ap (λ xs. find (λ (s : Node). s.id == q) xs) nodes

  same-greens : (q : ℕ) → greens_of b q ≡ greens_of c q
  same-greens q = ap (λ xs. option_map_or (λ (x : Past). x.greens) (find (λ x. x.id == q) xs) []) pasts

  begun : (q : ℕ) → is_some (past_of b q) ≡ has_begun b.world q
  begun q = ap (λ xs. is_some (find (λ (x : Past). x.id == q) xs)) pasts ∙ i.net.hosted.past q ∙ ap is_some (sym (same-node q))

  turn : (r : Replica) (disk : Disk) → node_of b.world p ≡ Some (record { id = p; life = Up r disk }) → CoresMove c (after_turn b p r disk (part (begin r)))
  turn r disk node =
      let t = part (begin r) in
      let here = sym (same-node p) ∙ node in
      moved c (after_turn b p r disk t) p (Up t.replica disk) r.held (λ q. node_of-set b.world p (Up t.replica disk) q ∙ ap (cond (p == q) (Some (record { id = p; life = Up t.replica disk }))) (same-node q))
      (ap core_in here) (rises r disk here)
      (λ q. elim (cases_eq q p) [
        | inl same ↦
            let e = ap (λ (xs : List Action). length xs) (ap (greens_of (after_turn b p r disk t)) same ∙ greens-turn b p r disk t begun node) in
            let long = length-append (greens_of b p) (newly_green r t.replica) in
            let old = ap (λ (xs : List Action). length xs) (ap (greens_of c) same ∙ sym (same-greens p)) in
            omega (arith, e, long, old)
        | inr apart ↦ (let e = ap (λ (xs : List Action). length xs) (greens_of-other b p r disk t q apart ∙ same-greens q) in omega (arith, e))
      ])

  life : (s : Node) (life : NodeState) → s.life ≡ life → node_of b.world p ≡ Some s → CoresMove c (turning_as b p part life)
  life s (Up r disk) is e = turn r disk (node-of b p s (Up r disk) is e)
  life s (Down disk green) is e = moves-none c b nodes pasts

  at : (o : Option Node) → node_of b.world p ≡ o → CoresMove c (option_map_or (λ s. turning_as b p part s.life) o b)
  at None e = moves-none c b nodes pasts
  at (Some s) e = life s s.life refl e

quiet-rises : (old new' : Replica) → IsQuiet old new' → old.held.prim.index ≤ new'.held.prim.index
quiet-rises old new' quiet = let e = ap (λ (x : Primary). x.index) quiet.values.prim in omega arith

installed-rises : (old new' : Replica) → HasInstalled old new' → old.held.prim.index ≤ new'.held.prim.index
installed-rises old new' done = let e = ap (λ (x : Primary). x.index) done.prim in let le = rises old.held.vulnerable in omega (arith, e, le) where
  rises : (v : Option Vulnerable) → old.held.prim.index ≤ (prim_after old.held v).index
  rises None = omega arith
  rises (Some v) = omega arith

-- what the members know together is no older than what one knew
pub end-rises : (c : Chronicle) (p conf : ℕ) (r : Replica) (heard : List Summary) → AtPlanEnd c p r conf heard → r.held.prim.index ≤ (known_primary heard).index
end-rises c p conf r heard end =
    let bound = mine-among c p r conf heard end (λ s. s.prim.index ≤ newest_index heard) (each-bounded heard) in
    let mine = ap (λ (x : Primary). x.index) end.holds.prim in
    let known = known-of (λ s. s.prim.index ≤ newest_index heard) heard (some-sender heard p end.listed) (each-bounded heard) in
    let index = ap (λ (x : Primary). x.index) known.prim ∙ known.index in
    omega (arith, bound, mine, index)

hands-rise : (c : Chronicle) (p : ℕ) (i : Invariant c) (n : HandsNow c p) → n.replica.held.prim.index ≤ (new c p i n).held.prim.index
hands-rise c p i n = at (hand-turned c p i n) where
  at : Turned n.replica (new c p i n) n.next.message → n.replica.held.prim.index ≤ (new c p i n).held.prim.index
  at (Quiet quiet) = quiet-rises n.replica (new c p i n) quiet
  at (Installs done) = installed-rises n.replica (new c p i n) done
  at (Decides conf heard ends decided) =
      let le = end-rises c p n.conf n.replica heard (plan-end c p i n conf heard ends decided.remains (ap is_behind decided.state)).1 in
      let e = ap (λ (x : Primary). x.index) decided.prim in omega (arith, le, e)
  at (Attempts conf heard ends attempted) =
      let le = end-rises c p n.conf n.replica heard (plan-end c p i n conf heard ends attempted.remains (ap is_behind attempted.state)).1 in
      let e = ap (λ (x : Primary). x.index) attempted.prim in omega (arith, le, e)

parted-rises : (old new' : Replica) → HasParted old new' → old.held.prim.index ≤ new'.held.prim.index
parted-rises old new' (inl quiet) = quiet-rises old new' quiet
parted-rises old new' (inr done) = installed-rises old new' done

-- ---- commits, crashes, recoveries, joiners

changed-greens : (c d : Chronicle) (change : Past → Past) (p : ℕ) → ((x : Past) → (change x).id ≡ x.id) → d.pasts ≡ changed_past change p c.pasts → length (greens-in (past_of c p)) ≤ length (greens-in (option_map change (past_of c p))) →
    (q : ℕ) → length (greens_of c q) ≤ length (greens_of d q)
changed-greens c d change p keeps pasts le q = elim (cases_eq p q) [
  | inl same ↦
      let e = ap (λ (xs : List Action). length xs) (ap (greens_of d) (sym same) ∙ ap (λ xs. greens-in (find (λ (x : Past). x.id == p) xs)) pasts ∙ ap greens-in (past-here change keeps c p)) in
      let old = ap (λ (xs : List Action). length xs) (ap (greens_of c) (sym same)) in omega (arith, e, old, le)
  | inr apart ↦
      let e = ap (λ (xs : List Action). length xs) (ap (λ xs. greens-in (find (λ (x : Past). x.id == q) xs)) pasts ∙ ap greens-in (past-there change keeps c p q apart)) in omega (arith, e)
]

commit-moves : (c : Chronicle) (p : ℕ) (s : Node) → node_of c.world p ≡ Some s → (life : NodeState) → s.life ≡ life → CoresMove c (commit_as c p life)
unfolding whiten
commit-moves c p s e (Down disk green) is = moves-none c c refl refl
commit-moves c p s e (Up r disk) is =
    let new-life = Up (record r { held = whiten r.held }) (record disk { content = stored_of (whiten r.held) }) in
    moved c (commit_as c p (Up r disk)) p new-life r.held (λ q. node_of-set c.world p new-life q) (ap core_in (node-of c p s (Up r disk) is e)) (omega arith)
    (changed-greens c (commit_as c p (Up r disk)) written p (λ x. refl) refl (same (past_of c p))) where
      same : (o : Option Past) → length (greens-in o) ≤ length (greens-in (option_map written o))
      same None = omega arith
      same (Some x) = omega arith

crash-moves : (c : Chronicle) (p : ℕ) (rests : IsWritten c p) (s : Node) → node_of c.world p ≡ Some s → (life : NodeState) → s.life ≡ life → CoresMove c (crash_as c p life)
crash-moves c p rests s e (Down disk green) is = moves-none c c refl refl
crash-moves c p rests s e (Up r disk) is =
    let node = node-of c p s (Up r disk) is e in
    let both = subst (λ (o : Option Held). IfSome o (λ disk. GoesOn r.held disk × IsAsOnDisk r.held disk r.state)) (ap (λ (o : Option Node). option_map (λ s. on_disk s.life) o) node)
    (subst (λ (o : Option Replica). IfSome o (λ r. IfSome (disk_held c.world p) (λ disk. GoesOn r.held disk × IsAsOnDisk r.held disk r.state))) (ap (λ (o : Option Node). option_and_then (λ s. running s.life) o) node) rests.up) in
    let index = ap (λ (x : Primary). x.index) both.0.prim in
    moved c (crash_as c p (Up r disk)) p (Down (at_rest disk) []) r.held (λ q. node_of-set c.world p (Down (at_rest disk) []) q) (ap core_in node) (omega (arith, index))
    (changed-greens c (crash_as c p (Up r disk)) struck p (λ x. refl) refl (same (past_of c p) (ap (λ (xs : List Action). length xs) rests.greens))) where
      same : (o : Option Past) → length (greens-in o) ≡ length (option_map_or (λ (x : Past). x.stood) o []) → length (greens-in o) ≤ length (greens-in (option_map struck o))
      same None e = omega arith
      same (Some x) e = omega (arith, e)

recover-moves : (c : Chronicle) (p : ℕ) (i : Invariant c) (s : Node) → node_of c.world p ≡ Some s → (life : NodeState) → s.life ≡ life → CoresMove c (recover_as c life)
unfolding recover_disk
recover-moves c p i s e (Up r disk) is = moves-none c c refl refl
recover-moves c p i s e (Down disk green) is =
    let node = node-of c p s (Down disk green) is e in
    let own : disk.content.id ≡ p = subst (λ (o : Option Held). IfSome o (λ h. h.id ≡ p)) (ap (λ (o : Option Node). option_map (λ s. on_disk s.life) o) node) (i.net.hosted.disk p) in
    let name : (recovered disk).held.id ≡ p = recovered-id disk.content ∙ own in
    let life = Up (recovered disk) (disk_recovered disk) in
    let index = ap (λ (x : Primary). x.index) (even-own_to_red (begin (record { held = disk.content; state = NonPrim false }))).values.prim in
    moved c (recover_as c (Down disk green)) p life disk.content
    (λ q. node_of-set c.world (recovered disk).held.id life q ∙ ap (λ n. cond (n == q) (Some (record { id = n; life = life })) (node_of c.world q)) name)
    (ap core_in node) (omega (arith, index)) (λ q. omega arith)

join-moves : (c : Chronicle) (joiner : ℕ) (i : Invariant c) → has_begun c.world joiner ≡ false → (content : Held) → CoresMove c (join_with c joiner content)
join-moves c joiner i unbegun content = record {
  move = λ q h e. elim (cases_Bool (joiner == q)) [
    | inl same ↦ Begins (ap core_in (ap (node_of c.world) (sym (eqb-true joiner q same)) ∙ none (node_of c.world joiner) unbegun))
    | inr apart ↦ Was h (sym (ap core_in (node_of-set (without_snapshot c.world joiner) joiner (Up (joiner_replica joiner content) (new_disk (joiner_replica joiner content).held)) q
        ∙ cond-false (joiner == q) (Some (record { id = joiner; life = Up (joiner_replica joiner content) (new_disk (joiner_replica joiner content).held) })) (node_of c.world q) apart)) ∙ e) (omega arith)
  ];
  greens = λ q. elim (cases_Bool (joiner == q)) [
    | inl same ↦ (let e = ap (λ (xs : List Action). length xs) (ap (λ n. greens_of c n) (sym (eqb-true joiner q same)) ∙ ap greens-in absent) in omega (arith, e))
    | inr apart ↦ (let e = ap (λ (xs : List Action). length xs) (ap greens-in (past-begun c.pasts (new_past (copied_for c joiner) joiner) q absent ∙ cond-false (joiner == q) (Some (new_past (copied_for c joiner) joiner)) (past_of c q) apart)) in omega (arith, e))
  ];
} where
  none : (o : Option Node) → is_some o ≡ false → o ≡ None
  none None e = refl
  none (Some s) e = absurd (let clash : true ≡ false = e in cc)

  nothing : (o : Option Past) → is_some o ≡ false → o ≡ None
  nothing None e = refl
  nothing (Some s) e = absurd (let clash : true ≡ false = e in cc)

  absent : past_of c joiner ≡ None
  absent = nothing (past_of c joiner) (i.net.hosted.past joiner ∙ unbegun)

-- ---- each small step

moves-some : {X : Type 0} (o : Option X) (change : X → Chronicle) (c : Chronicle) → ((x : X) → o ≡ Some x → CoresMove c (change x)) → CoresMove c (option_map_or change o c)
moves-some None change c each = moves-none c c refl refl
moves-some (Some x) change c each = each x refl

-- No index and no greens fall, behind each small step.
pub cores-move : (c : Chronicle) (s : Small) → Invariant c → may_make c s ≡ true → AtRest c s → CoresMove c (small_step c s)
unfolding small_step may_make
cores-move c (Starts set) i may rest =
    let empty = nothing-before c i.net.hosted (and_parts (is_nil c.world.nodes) (is_set (ids set)) may).0 in
    record {
      move = λ p h e. Begins (ap (λ (x : Chronicle). core_of x p) empty);
      greens = λ p. (let none = ap (λ (x : Chronicle). length (greens_of x p)) empty in omega (arith, none));
    }
cores-move c (Makes _) i may rest = moves-none c _ refl refl
cores-move c (Enters p) i may rest = turn-moves c (coming c p) p (take_newest c.world.group) i refl refl (λ r disk node.
    (let come = newest-come c.world.group r (enters-between c p r (ap (λ (o : Option Node). option_and_then (λ s. running s.life) o) node) may) in let e = ap (λ (x : Primary). x.index) come.prim in omega (arith, e)))
cores-move c (Orders p) i may rest = moves-none c _ refl refl
cores-move c (Receives p place) i may rest = moves-none c _ refl refl
cores-move c (Hands p) i may rest = turn-moves c (handed_next c p) p (take_next c.world.group p) i refl refl (λ r disk node.
    (let n = hands-now c p i may in
    subst (λ (r : Replica). r.held.prim.index ≤ (take_next c.world.group p (begin r)).replica.held.prim.index) (sym (same-replica c p r n.replica disk node (running-now c p i n))) (hands-rise c p i n)))
cores-move c (Leaves p set own places) i may rest = turn-moves c (leaving c p set own) p (take_parting c.world.group p set places) i refl refl (λ r disk node.
    parted-rises r (take_parting c.world.group p set places (begin r)).replica (parting-turned c.world.group p set places r))
cores-move c (Asks p kind) i may rest = turn-moves c c p (take_request kind) i refl refl (λ r disk node. quiet-rises r (take_request kind (begin r)).replica (request-quiet kind r))
cores-move c (Settles p) i may rest = turn-moves c c p settle i refl refl (λ r disk node. quiet-rises r (settle (begin r)).replica (settle-quiet r))
cores-move c (Commits p) i may rest = moves-some (node_of c.world p) (λ s. commit_as c p s.life) c (λ s e. commit-moves c p s e s.life refl)
cores-move c (Crashes p) i may rest = moves-some (node_of c.world p) (λ s. crash_as c p s.life) c (λ s e. crash-moves c p rest s e s.life refl)
cores-move c (Recovers p) i may rest = moves-some (node_of c.world p) (λ s. recover_as c s.life) c (λ s e. recover-moves c p i s e s.life refl)
cores-move c (Copies p joiner) i may rest = moves-some (replica_of c.world p) (copy_as c p joiner) c (λ r e. moves-none c _ refl refl)
cores-move c (Joins joiner) i may rest = moves-some (snapshot_of c.world joiner) (λ s. join_with c joiner s.content) c (λ s e. join-moves c joiner i
    (not-true (has_begun c.world joiner) (and_parts (not (has_begun c.world joiner)) (option_map_or (λ s. is_server s.content.members joiner) (snapshot_of c.world joiner) false) may).0) s.content)
