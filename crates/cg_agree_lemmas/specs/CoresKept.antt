-- A fact of every core (what a replica holds in memory, on its disk, and in a snapshot) through a small step: it has to stand
-- behind a commit, a recovery and a joining, and behind the turn where a replica has one.
use Rattle.std.proofs.Common.{◌≡◌, ℕ, ◌≢◌, true, false, cond, not, List, [], ◌++◌, find, filter, Option, Some, None, IfSome, is_some, refl, sym, ap, ap₂, ◌∙◌, subst, inl, inr, eqb-true, eq-eqb, option_map}
use Rattle.std.specs.Prelude.{◌==◌}
use Rattle.std.specs.Option.{option_map_or}
use Rattle.std.proofs.lemmas.Bool.{cases_eq, cond-true, cond-false, ne_eqb}
use Rattle.cg_base.specs.declared.action_id.ActionId.{ActionId}
use Rattle.cg_base.specs.FindLaws.{found_passes}
use Rattle.cg_action.specs.declared.action.Action.{Action}
use Rattle.cg_client.specs.Replica.{Held, Replica}
use Rattle.cg_client.specs.Turn.{Turn, begin}
use Rattle.cg_disk_records.specs.Stored.{stored_of, whiten, recovery_turn as recover_disk}
use Rattle.cg_disk_records.specs.Crash.{Disk, at_rest, recovered, disk_recovered}
use Rattle.cg_model.specs.World.{NodeState, Up, Down, Node, TransferState, node_of, replica_of}
use Rattle.cg_model.specs.Step.{joiner_replica}
use Rattle.cg_model.specs.Chronicle.{Past, Copy, Chronicle}
use Rattle.cg_model.specs.Looks.{past_of, greens_of, stood_of, on_disk, disk_held, snapshot_of, copied_for, OfCores}
use Rattle.cg_model.specs.Small.{changed_past, written, struck, after_turn, turning, turning_as, newly_green, commit, commit_as, crash, crash_as, note_recovery, recover_as, copy, copy_as}
use Rattle.cg_agree_lemmas.specs.ChronicleFacts.{node_of-set, greens_of-own, greens_of-other}
use Rattle.cg_agree_lemmas.specs.Keyed.{found-changed}
use Rattle.cg_agree_lemmas.specs.HeldCommit.{recovered-id}
use Rattle.cg_agree_lemmas.specs.OneselfWorld.{HavePasts, rehosted, stood-same}
use Rattle.cg_agree_lemmas.specs.OneselfCopies.{found-without}
use Rattle.cg_agree_lemmas.specs.Looking.{life_in, greens-in, stood-in, written-greens, written-stood, struck-stood, struck-greens}

-- it stands behind what a commit, a recovery and a joining make of what is held
pub record IsClosed (Q : Held → List Action → Type 0) : Type 0 where
  pub whitened : (h : Held) (all : List Action) → Q h all → Q (whiten h) all
  pub stored : (h : Held) (all : List Action) → Q h all → Q (stored_of h) all
  pub recovers : (h : Held) (all : List Action) → Q h all → Q (recover_disk h).replica.held all
  pub joins : (p : ℕ) (h : Held) (all : List Action) → Q h all → Q (joiner_replica p h).held all

-- but for a joiner's
pub record IsHeldClosed (Q : Held → List Action → Type 0) : Type 0 where
  pub whitened : (h : Held) (all : List Action) → Q h all → Q (whiten h) all
  pub stored : (h : Held) (all : List Action) → Q h all → Q (stored_of h) all
  pub recovers : (h : Held) (all : List Action) → Q h all → Q (recover_disk h).replica.held all

pub held-closed : (Q : Held → List Action → Type 0) → IsClosed Q → IsHeldClosed Q
held-closed Q closed = record { whitened = closed.whitened; stored = closed.stored; recovers = closed.recovers }

-- a weaker fact
pub cores-weaker : (P Q : Held → List Action → Type 0) (c : Chronicle) → ((h : Held) (all : List Action) → P h all → Q h all) → OfCores c P → OfCores c Q
cores-weaker P Q c weaker f = record {
  memory = λ p. each (replica_of c.world p) (λ r. r.held) (λ r. greens_of c p) (f.memory p);
  disk = λ p. each (disk_held c.world p) (λ h. h) (λ h. stood_of c p) (f.disk p);
  snapshot = λ joiner. each (snapshot_of c.world joiner) (λ s. (joiner_replica joiner s.content).held) (λ s. copied_for c joiner) (f.snapshot joiner);
} where
  each : {X : Type 0} (o : Option X) (h : X → Held) (all : X → List Action) → IfSome o (λ x. P (h x) (all x)) → IfSome o (λ x. Q (h x) (all x))
  each None h all is = tt
  each (Some x) h all is = weaker (h x) (all x) is

abbrev disk_in : Option Node → Option Held
disk_in o = option_map (λ s. on_disk s.life) o

-- what is known of the memory and of the disk of a replica that is up
pub held-known : (Q : Held → List Action → Type 0) (c : Chronicle) (p : ℕ) (r : Replica) → replica_of c.world p ≡ Some r → OfCores c Q → Q r.held (greens_of c p)
held-known Q c p r e f = subst (λ (o : Option Replica). IfSome o (λ r. Q r.held (greens_of c p))) e (f.memory p)

disk-known : (Q : Held → List Action → Type 0) (c : Chronicle) (p : ℕ) (life : NodeState) → node_of c.world p ≡ Some (record { id = p; life = life }) → OfCores c Q → Q (on_disk life) (stood_of c p)
disk-known Q c p life node f = subst (λ (o : Option Held). IfSome o (λ h. Q h (stood_of c p))) (ap disk_in node) (f.disk p)

-- what is found as a node is that replica's
pub node-of : (c : Chronicle) (p : ℕ) (s : Node) (life : NodeState) → s.life ≡ life → node_of c.world p ≡ Some s → node_of c.world p ≡ Some (record { id = p; life = life })
node-of c p s life is e = e ∙ ap₂ (λ i l. Some (record { id = i; life = l })) (eqb-true s.id p (found_passes (λ (s : Node). s.id == p) c.world.nodes s e)) is

-- ---- a turn

-- what a replica's turn makes of it, where it has one
abbrev pub TurnKeeps : Chronicle → ℕ → (Turn → Turn) → (Held → List Action → Type 0) → Type 0
TurnKeeps c p part Q =
    (r : Replica) (disk : Disk) → node_of c.world p ≡ Some (record { id = p; life = Up r disk }) →
    Q (part (begin r)).replica.held (greens_of c p ++ newly_green r (part (begin r)).replica)

-- the greens of the replica whose turn it is
pub greens-turn : (c : Chronicle) (p : ℕ) (r : Replica) (disk : Disk) (t : Turn) → HavePasts c → node_of c.world p ≡ Some (record { id = p; life = Up r disk }) →
    greens_of (after_turn c p r disk t) p ≡ greens_of c p ++ newly_green r t.replica
greens-turn c p r disk t pasts node = at (past_of c p) refl (pasts p ∙ ap is_some node) where
  at : (o : Option Past) → past_of c p ≡ o → is_some o ≡ true → greens_of (after_turn c p r disk t) p ≡ greens_of c p ++ newly_green r t.replica
  at None e some = absurd (let clash : false ≡ true = some in cc)
  at (Some x) e some = greens_of-own c p r disk t x e

pub turning-cores : (Q : Held → List Action → Type 0) (c : Chronicle) (p : ℕ) (part : Turn → Turn) → HavePasts c → TurnKeeps c p part Q → OfCores c Q → OfCores (turning c p part) Q
turning-cores Q c p part pasts keeps f = at (node_of c.world p) refl where
  turn : (r : Replica) (disk : Disk) → node_of c.world p ≡ Some (record { id = p; life = Up r disk }) → OfCores (after_turn c p r disk (part (begin r))) Q
  turn r disk node =
      let t = part (begin r) in
      rehosted Q c (after_turn c p r disk t) p (Up t.replica disk) (greens_of c p ++ newly_green r t.replica) (stood_of c p)
      (record {
        node = λ q. node_of-set c.world p (Up t.replica disk) q;
        greens = greens-turn c p r disk t pasts node;
        disk = stood-same c p r disk t p;
        other_greens = λ q apart. greens_of-other c p r disk t q (λ e. apart (sym e));
        other_disks = λ q apart. stood-same c p r disk t q;
      }) (keeps r disk node) (disk-known Q c p (Up r disk) node f) f.snapshot f

  life : (s : Node) (life : NodeState) → s.life ≡ life → node_of c.world p ≡ Some s → OfCores (turning_as c p part life) Q
  life s (Up r disk) is e = turn r disk (node-of c p s (Up r disk) is e)
  life s (Down disk green) is e = f

  at : (o : Option Node) → node_of c.world p ≡ o → OfCores (option_map_or (λ s. turning_as c p part s.life) o c) Q
  at None e = f
  at (Some s) e = life s s.life refl e

-- ---- a commit and a crash

past-changed : (change : Past → Past) → ((x : Past) → (change x).id ≡ x.id) → (c : Chronicle) (p q : ℕ) →
    (let d : Chronicle = record c { pasts = changed_past change p c.pasts } in past_of d q) ≡ cond (q == p) (option_map change (past_of c q)) (past_of c q)
past-changed change keeps c p q = found-changed (λ (x : Past). x.id) change keeps p c.pasts q

pub past-here : (change : Past → Past) → ((x : Past) → (change x).id ≡ x.id) → (c : Chronicle) (p : ℕ) →
    (let d : Chronicle = record c { pasts = changed_past change p c.pasts } in past_of d p) ≡ option_map change (past_of c p)
past-here change keeps c p = past-changed change keeps c p p ∙ cond-true (p == p) (option_map change (past_of c p)) (past_of c p) (eq-eqb p p refl)

pub past-there : (change : Past → Past) → ((x : Past) → (change x).id ≡ x.id) → (c : Chronicle) (p q : ℕ) → p ≢ q →
    (let d : Chronicle = record c { pasts = changed_past change p c.pasts } in past_of d q) ≡ past_of c q
past-there change keeps c p q apart = past-changed change keeps c p q ∙ cond-false (q == p) (option_map change (past_of c q)) (past_of c q) (ne_eqb q p (λ e. apart (sym e)))

pub commit-cores : (Q : Held → List Action → Type 0) (c : Chronicle) (p : ℕ) → IsHeldClosed Q → OfCores c Q → OfCores (commit c p) Q
commit-cores Q c p closed f = at (node_of c.world p) refl where
  done : (r : Replica) (disk : Disk) → node_of c.world p ≡ Some (record { id = p; life = Up r disk }) → OfCores (commit_as c p (Up r disk)) Q
  done r disk node =
      let white = closed.whitened r.held (greens_of c p) (held-known Q c p r (ap life_in node) f) in
      let life = Up (record r { held = whiten r.held }) (record disk { content = stored_of (whiten r.held) }) in
      rehosted Q c (commit_as c p (Up r disk)) p life (greens_of c p) (greens_of c p)
      (record {
        node = λ q. node_of-set c.world p life q;
        greens = ap greens-in (past-here written (λ x. refl) c p) ∙ written-greens (past_of c p);
        disk = ap stood-in (past-here written (λ x. refl) c p) ∙ written-stood (past_of c p);
        other_greens = λ q apart. ap greens-in (past-there written (λ x. refl) c p q apart);
        other_disks = λ q apart. ap stood-in (past-there written (λ x. refl) c p q apart);
      }) white (closed.stored (whiten r.held) (greens_of c p) white) f.snapshot f

  life : (s : Node) (life : NodeState) → s.life ≡ life → node_of c.world p ≡ Some s → OfCores (commit_as c p life) Q
  life s (Up r disk) is e = done r disk (node-of c p s (Up r disk) is e)
  life s (Down disk green) is e = f

  at : (o : Option Node) → node_of c.world p ≡ o → OfCores (option_map_or (λ s. commit_as c p s.life) o c) Q
  at None e = f
  at (Some s) e = life s s.life refl e

-- the snapshots behind a step are as the fact wants it
abbrev pub SnapshotsKeep : Chronicle → (Held → List Action → Type 0) → Type 0
SnapshotsKeep d Q = (joiner : ℕ) → IfSome (snapshot_of d.world joiner) (λ s. Q (joiner_replica joiner s.content).held (copied_for d joiner))

pub crash-cores : (Q : Held → List Action → Type 0) (c : Chronicle) (p : ℕ) → SnapshotsKeep (crash c p) Q → OfCores c Q → OfCores (crash c p) Q
crash-cores Q c p left f = at (node_of c.world p) refl left where
  done : (r : Replica) (disk : Disk) → node_of c.world p ≡ Some (record { id = p; life = Up r disk }) → SnapshotsKeep (crash_as c p (Up r disk)) Q → OfCores (crash_as c p (Up r disk)) Q
  done r disk node left =
      rehosted Q c (crash_as c p (Up r disk)) p (Down (at_rest disk) []) (stood_of c p) (stood_of c p)
      (record {
        node = λ q. node_of-set c.world p (Down (at_rest disk) []) q;
        greens = ap greens-in (past-here struck (λ x. refl) c p) ∙ struck-greens (past_of c p);
        disk = ap stood-in (past-here struck (λ x. refl) c p) ∙ struck-stood (past_of c p);
        other_greens = λ q apart. ap greens-in (past-there struck (λ x. refl) c p q apart);
        other_disks = λ q apart. ap stood-in (past-there struck (λ x. refl) c p q apart);
      }) tt (disk-known Q c p (Up r disk) node f) left f

  life : (s : Node) (life : NodeState) → s.life ≡ life → node_of c.world p ≡ Some s → SnapshotsKeep (crash_as c p life) Q → OfCores (crash_as c p life) Q
  life s (Up r disk) is e left = done r disk (node-of c p s (Up r disk) is e) left
  life s (Down disk green) is e left = f

  at : (o : Option Node) → node_of c.world p ≡ o → SnapshotsKeep (option_map_or (λ s. crash_as c p s.life) o c) Q → OfCores (option_map_or (λ s. crash_as c p s.life) o c) Q
  at None e left = f
  at (Some s) e left = life s s.life refl e left

-- ---- a recovery and a snapshot

-- of a replica that is down what is noted as green is what stands on its disk
pub recover-cores : (Q : Held → List Action → Type 0) (c : Chronicle) (p : ℕ) → ((q : ℕ) → IfSome (disk_held c.world q) (λ h. h.id ≡ q)) →
    ((q : ℕ) → replica_of c.world q ≡ None → greens_of c q ≡ stood_of c q) → IsHeldClosed Q → OfCores c Q → OfCores (note_recovery c p) Q
recover-cores Q c p own down closed f = at (node_of c.world p) refl where
  done : (disk : Disk) (green : List ActionId) → node_of c.world p ≡ Some (record { id = p; life = Down disk green }) → OfCores (recover_as c (Down disk green)) Q
  done disk green node =
      let name : (recovered disk).held.id ≡ p = recovered-id disk.content ∙ subst (λ (o : Option Held). IfSome o (λ h. h.id ≡ p)) (ap disk_in node) (own p) in
      let life = Up (recovered disk) (disk_recovered disk) in
      let known = disk-known Q c p (Down disk green) node f in
      rehosted Q c (recover_as c (Down disk green)) p life (greens_of c p) (stood_of c p)
      (record {
        node = λ q. node_of-set c.world (recovered disk).held.id life q ∙ ap (λ n. cond (n == q) (Some (record { id = n; life = life })) (node_of c.world q)) name;
        greens = refl;
        disk = refl;
        other_greens = λ q apart. refl;
        other_disks = λ q apart. refl;
      })
      (subst (Q (recovered disk).held) (sym (down p (ap life_in node))) (closed.recovers disk.content (stood_of c p) known)) known f.snapshot f

  life : (s : Node) (life : NodeState) → s.life ≡ life → node_of c.world p ≡ Some s → OfCores (recover_as c life) Q
  life s (Up r disk) is e = f
  life s (Down disk green) is e = done disk green (node-of c p s (Down disk green) is e)

  at : (o : Option Node) → node_of c.world p ≡ o → OfCores (option_map_or (λ s. recover_as c s.life) o c) Q
  at None e = f
  at (Some s) e = life s s.life refl e

pub copy-cores : (Q : Held → List Action → Type 0) (c : Chronicle) (p joiner : ℕ) → ((h : Held) (all : List Action) → Q h all → Q (joiner_replica joiner h).held all) → OfCores c Q → OfCores (copy c p joiner) Q
copy-cores Q c p joiner joins f = at (replica_of c.world p) (f.memory p) where
  taken : (r : Replica) → Q r.held (greens_of c p) → (q : ℕ) →
      (let d = copy_as c p joiner r in IfSome (snapshot_of d.world q) (λ s. Q (joiner_replica q s.content).held (copied_for d q)))
  taken r is q = elim (cases_eq joiner q) [
    | inl same ↦ rw (eq-eqb joiner q same) (subst (λ n. Q (joiner_replica n r.held).held (greens_of c p)) same (joins r.held (greens_of c p) is))
    | inr apart ↦ rw (ne_eqb joiner q apart)
        (subst (λ (o : Option TransferState). IfSome o (λ s. Q (joiner_replica q s.content).held (option_map_or (λ x. x.greens) (find (λ x. x.joiner == q) (filter (λ x. not (x.joiner == joiner)) c.copies)) [])))
        (sym (found-without (λ (s : TransferState). s.joiner) joiner q c.world.snapshots apart))
        (subst (λ (o : Option Copy). IfSome (snapshot_of c.world q) (λ s. Q (joiner_replica q s.content).held (option_map_or (λ x. x.greens) o [])))
        (sym (found-without (λ (x : Copy). x.joiner) joiner q c.copies apart)) (f.snapshot q)))
  ]

  at : (o : Option Replica) → IfSome o (λ r. Q r.held (greens_of c p)) → OfCores (option_map_or (copy_as c p joiner) o c) Q
  at None is = f
  at (Some r) is = record { memory = f.memory; disk = f.disk; snapshot = taken r is }
