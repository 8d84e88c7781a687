-- A fact of every core through each of the small steps.
use Rattle.std.proofs.Common.{◌⊎◌, ◌≡◌, ℕ, ◌≢◌, true, false, not, List, [], ◌∷◌, map, fold, find, filter, Option, Some, None, IfSome, refl, sym, ap, ◌∙◌, subst, inl, inr, eq-eqb, option_map}
use Rattle.std.specs.Prelude.{◌==◌, option_and_then}
use Rattle.std.specs.Option.{option_map_or}
use Rattle.std.proofs.lemmas.Bool.{cases_eq, cases_Bool, cond-true, cond-false, ne_eqb, and_parts, not-true}
use Rattle.cg_base.specs.declared.weighted.Weighted.{Weighted}
use Rattle.cg_base.specs.Weights.{ids}
use Rattle.cg_base.specs.Text.{is_nil}
use Rattle.cg_base.specs.OptionLaws.{is_some_false}
use Rattle.cg_action.specs.declared.action.Action.{Action}
use Rattle.cg_members.specs.Servers.{is_server}
use Rattle.cg_client.specs.Replica.{Held, fresh_held, fresh}
use Rattle.cg_client.specs.Requests.{settle}
use Rattle.cg_disk_records.specs.Crash.{new_disk}
use Rattle.cg_model.specs.World.{NodeState, Up, Node, World, TransferState, running, node_of, replica_of, has_begun}
use Rattle.cg_model.specs.Step.{begin_replica, joiner_replica, without_snapshot}
use Rattle.cg_model.specs.Chronicle.{Past, Copy, Chronicle, no_chronicle}
use Rattle.cg_model.specs.Looks.{past_of, greens_of, stood_of, on_disk, disk_held, snapshot_of, copied_for, OfCores}
use Rattle.cg_model.specs.Small.{Small, Starts, Makes, Enters, Orders, Receives, Hands, Leaves, Asks, Settles, Commits, Crashes, Recovers, Copies, Joins, new_past, start, crash, join, join_with, coming, take_newest, handed_next, take_next, leaving, take_parting, take_request, small_step}
use Rattle.cg_model.specs.Smalls.{may_make, is_set}
use Rattle.cg_agree_lemmas.specs.ChronicleFacts.{node_of-set, past-begun}
use Rattle.cg_model.specs.FactsNet.{Hosted}
use Rattle.cg_model.specs.FactsReplica.{DiskBehind}
use Rattle.cg_agree_lemmas.specs.CrashCopies.{crash-left}
use Rattle.cg_agree_lemmas.specs.OneselfWorld.{HavePasts, rehosted}
use Rattle.cg_agree_lemmas.specs.OneselfCopies.{found-without}
use Rattle.cg_agree_lemmas.specs.CoresKept.{IsClosed, IsHeldClosed, held-closed, TurnKeeps, turning-cores, commit-cores, crash-cores, recover-cores, copy-cores, SnapshotsKeep}

-- ---- a joiner begins

module _ {X : Type 0} (key : X → ℕ) where
  found-gone : (j : ℕ) (xs : List X) → find (λ x. key x == j) (filter (λ x. not (key x == j)) xs) ≡ None
  found-gone j [] = refl
  found-gone j (x ∷ xs) = elim (cases_eq (key x) j) [
    | inl same ↦ rw (eq-eqb (key x) j same) (found-gone j xs)
    | inr other ↦ rw (ne_eqb (key x) j other, ne_eqb (key x) j other) (found-gone j xs)
  ]

module _ (Q : Held → List Action → Type 0) (c : Chronicle) (joiner : ℕ) (content : Held) (f : OfCores c Q) (absent : past_of c joiner ≡ None)
    (is : Q (joiner_replica joiner content).held (copied_for c joiner)) where
  abbrev d : Chronicle
  d = join_with c joiner content

  found-last : past_of d joiner ≡ Some (new_past (copied_for c joiner) joiner)
  found-last = past-begun c.pasts (new_past (copied_for c joiner) joiner) joiner absent ∙ cond-true (joiner == joiner) (Some (new_past (copied_for c joiner) joiner)) (past_of c joiner) (eq-eqb joiner joiner refl)

  found-other : (q : ℕ) → joiner ≢ q → past_of d q ≡ past_of c q
  found-other q apart = past-begun c.pasts (new_past (copied_for c joiner) joiner) q absent ∙ cond-false (joiner == q) (Some (new_past (copied_for c joiner) joiner)) (past_of c q) (ne_eqb joiner q apart)

  snapshots : (q : ℕ) → IfSome (snapshot_of d.world q) (λ s. Q (joiner_replica q s.content).held (copied_for d q))
  snapshots q = elim (cases_eq joiner q) [
    | inl same ↦ subst (λ n. IfSome (snapshot_of d.world n) (λ s. Q (joiner_replica n s.content).held (copied_for d n))) same
        (subst (λ (o : Option TransferState). IfSome o (λ s. Q (joiner_replica joiner s.content).held (copied_for d joiner)))
        (sym (found-gone (λ (s : TransferState). s.joiner) joiner c.world.snapshots)) tt)
    | inr apart ↦
        subst (λ (o : Option TransferState). IfSome o (λ s. Q (joiner_replica q s.content).held (copied_for d q)))
        (sym (found-without (λ (s : TransferState). s.joiner) joiner q c.world.snapshots apart))
        (subst (λ (o : Option Copy). IfSome (snapshot_of c.world q) (λ s. Q (joiner_replica q s.content).held (option_map_or (λ x. x.greens) o [])))
        (sym (found-without (λ (x : Copy). x.joiner) joiner q c.copies apart)) (f.snapshot q))
  ]

  joined-cores : OfCores (join_with c joiner content) Q
  joined-cores =
      let r = joiner_replica joiner content in
      rehosted Q c d joiner (Up r (new_disk r.held)) (copied_for c joiner) (copied_for c joiner)
      (record {
        node = λ q. node_of-set (without_snapshot c.world joiner) joiner (Up r (new_disk r.held)) q;
        greens = ap (λ (o : Option Past). option_map_or (λ x. x.greens) o []) found-last;
        disk = ap (λ (o : Option Past). option_map_or (λ x. x.stood) o []) found-last;
        other_greens = λ q apart. ap (λ (o : Option Past). option_map_or (λ x. x.greens) o []) (found-other q apart);
        other_disks = λ q apart. ap (λ (o : Option Past). option_map_or (λ x. x.stood) o []) (found-other q apart);
      }) is is snapshots f

pub join-cores : (Q : Held → List Action → Type 0) (c : Chronicle) (joiner : ℕ) → HavePasts c → may_make c (Joins joiner) ≡ true → OfCores c Q → OfCores (join c joiner) Q
unfolding may_make
join-cores Q c joiner pasts may f = at (snapshot_of c.world joiner) (f.snapshot joiner) where
  absent : past_of c joiner ≡ None
  absent = is_some_false (past_of c joiner) (pasts joiner
      ∙ not-true (has_begun c.world joiner) (and_parts (not (has_begun c.world joiner)) (option_map_or (λ s. is_server s.content.members joiner) (snapshot_of c.world joiner) false) may).0)

  at : (o : Option TransferState) → IfSome o (λ s. Q (joiner_replica joiner s.content).held (copied_for c joiner)) → OfCores (option_map_or (λ s. join_with c joiner s.content) o c) Q
  at None is = f
  at (Some s) is = joined-cores Q c joiner s.content f absent is

-- ---- the start

abbrev pub IsFresh : List Weighted → World → Type 0
IsFresh set w = (q : ℕ) → IfSome (node_of w q) (λ s. s.life ≡ Up (fresh q set) (new_disk (fresh_held q set)))

fresh-begun : (set : List Weighted) (w : World) (p : ℕ) → IsFresh set w → IsFresh set (begin_replica set w p)
fresh-begun set w p f q = subst (λ (o : Option Node). IfSome o (λ s. s.life ≡ Up (fresh q set) (new_disk (fresh_held q set)))) (sym (node_of-set w p (Up (fresh p set) (new_disk (fresh_held p set))) q))
    (elim (cases_eq p q) [
      | inl same ↦ rw (eq-eqb p q same) (ap (λ n. Up (fresh n set) (new_disk (fresh_held n set))) same)
      | inr apart ↦ rw (ne_eqb p q apart) (f q)
    ])

pub fresh-all : (set : List Weighted) (list : List ℕ) (w : World) → IsFresh set w → IsFresh set (fold (begin_replica set) w list)
fresh-all set [] w f = f
fresh-all set (p ∷ list) w f = fresh-all set list (begin_replica set w p) (fresh-begun set w p f)

pub snapshots-begun : (set : List Weighted) (list : List ℕ) (w : World) → (fold (begin_replica set) w list).snapshots ≡ w.snapshots
snapshots-begun set [] w = refl
snapshots-begun set (p ∷ list) w = snapshots-begun set list (begin_replica set w p)

pub nothing-green : (list : List ℕ) (q : ℕ) → option_map_or (λ (x : Past). x.greens) (find (λ x. x.id == q) (map (new_past []) list)) [] ≡ []
nothing-green [] q = refl
nothing-green (p ∷ list) q = elim (cases_Bool (p == q)) [
  | inl same ↦ rw same refl
  | inr apart ↦ rw apart (nothing-green list q)
]

pub nothing-stood : (list : List ℕ) (q : ℕ) → option_map_or (λ (x : Past). x.stood) (find (λ x. x.id == q) (map (new_past []) list)) [] ≡ []
nothing-stood [] q = refl
nothing-stood (p ∷ list) q = elim (cases_Bool (p == q)) [
  | inl same ↦ rw same refl
  | inr apart ↦ rw apart (nothing-stood list q)
]

abbrev begun : List Weighted → Chronicle
begun set = start no_chronicle set

pub start-cores : (Q : Held → List Action → Type 0) (set : List Weighted) → ((p : ℕ) → Q (fresh_held p set) []) → OfCores (start no_chronicle set) Q
start-cores Q set is = record {
  memory = λ q. memory q (node_of (begun set).world q) (fresh-all set (ids set) no_chronicle.world (λ q. tt) q);
  disk = λ q. disk q (node_of (begun set).world q) (fresh-all set (ids set) no_chronicle.world (λ q. tt) q);
  snapshot = λ joiner. subst (λ xs. IfSome (find (λ (s : TransferState). s.joiner == joiner) xs) (λ s. Q (joiner_replica joiner s.content).held (copied_for (begun set) joiner))) (sym (snapshots-begun set (ids set) no_chronicle.world)) tt;
} where
  memory : (q : ℕ) (o : Option Node) → IfSome o (λ s. s.life ≡ Up (fresh q set) (new_disk (fresh_held q set))) → IfSome (option_and_then (λ s. running s.life) o) (λ r. Q r.held (greens_of (begun set) q))
  memory q None f = tt
  memory q (Some s) f = subst (λ (l : NodeState). IfSome (running l) (λ r. Q r.held (greens_of (begun set) q))) (sym f) (subst (Q (fresh_held q set)) (sym (nothing-green (ids set) q)) (is q))

  disk : (q : ℕ) (o : Option Node) → IfSome o (λ s. s.life ≡ Up (fresh q set) (new_disk (fresh_held q set))) → IfSome (option_map (λ s. on_disk s.life) o) (λ h. Q h (stood_of (begun set) q))
  disk q None f = tt
  disk q (Some s) f = subst (λ (l : NodeState). Q (on_disk l) (stood_of (begun set) q)) (sym f) (subst (Q (fresh_held q set)) (sym (nothing-stood (ids set) q)) (is q))

-- ---- all small steps

-- what a chronicle has to be for that: replicas have greens and disks of their own, of one that is down the disk is all, nothing
-- is there before the start, and the snapshots that a crash leaves are those of the chronicle before it
pub record IsReady (c : Chronicle) : Type 0 where
  pub pasts : HavePasts c
  pub own : (q : ℕ) → IfSome (disk_held c.world q) (λ h. h.id ≡ q)
  pub down : (q : ℕ) → replica_of c.world q ≡ None → greens_of c q ≡ stood_of c q
  pub before : c.world.nodes ≡ [] → c ≡ no_chronicle
  pub left : (p joiner : ℕ) → (let d = small_step c (Crashes p) in (snapshot_of d.world joiner ≡ None)
      ⊎ ((snapshot_of d.world joiner ≡ snapshot_of c.world joiner) × (copied_for d joiner ≡ copied_for c joiner)))

-- what a small step has to keep: at its turn, or at the start
abbrev pub StepKeeps : Chronicle → Small → (Held → List Action → Type 0) → Type 0
StepKeeps c (Starts set) Q = (p : ℕ) → Q (fresh_held p set) []
StepKeeps c (Enters p) Q = TurnKeeps c p (take_newest c.world.group) Q
StepKeeps c (Hands p) Q = TurnKeeps c p (take_next c.world.group p) Q
StepKeeps c (Leaves p set own places) Q = TurnKeeps c p (take_parting c.world.group p set places) Q
StepKeeps c (Asks p kind) Q = TurnKeeps c p (take_request kind) Q
StepKeeps c (Settles p) Q = TurnKeeps c p settle Q
StepKeeps c _ Q = Unit {0}

pub nil-is : {X : Type 0} (xs : List X) → is_nil xs ≡ true → xs ≡ []
nil-is [] e = refl
nil-is (x ∷ xs) e = absurd (let clash : false ≡ true = e in cc)

-- what a new copy has to keep
abbrev pub JoinsKeep : Chronicle → Small → (Held → List Action → Type 0) → Type 0
JoinsKeep c (Copies p joiner) Q = (h : Held) (all : List Action) → Q h all → Q (joiner_replica joiner h).held all
JoinsKeep c _ Q = Unit {0}

joins-all : (c : Chronicle) (s : Small) (Q : Held → List Action → Type 0) → IsClosed Q → JoinsKeep c s Q
joins-all c (Copies p joiner) Q closed = closed.joins joiner
joins-all c (Starts set) Q closed = tt
joins-all c (Makes set) Q closed = tt
joins-all c (Enters p) Q closed = tt
joins-all c (Orders p) Q closed = tt
joins-all c (Receives p place) Q closed = tt
joins-all c (Hands p) Q closed = tt
joins-all c (Leaves p set own places) Q closed = tt
joins-all c (Asks p kind) Q closed = tt
joins-all c (Settles p) Q closed = tt
joins-all c (Commits p) Q closed = tt
joins-all c (Crashes p) Q closed = tt
joins-all c (Recovers p) Q closed = tt
joins-all c (Joins joiner) Q closed = tt

pub cores-kept-given : (Q : Held → List Action → Type 0) (c : Chronicle) (s : Small) → IsReady c → may_make c s ≡ true → IsHeldClosed Q → JoinsKeep c s Q → StepKeeps c s Q → OfCores c Q → OfCores (small_step c s) Q
unfolding small_step may_make
cores-kept-given Q c (Starts set) ready may closed joins keeps f = subst (λ (c : Chronicle). OfCores (start c set) Q) (sym (ready.before (nil-is c.world.nodes (and_parts (is_nil c.world.nodes) (is_set (ids set)) may).0))) (start-cores Q set keeps)
cores-kept-given Q c (Makes set) ready may closed joins keeps f = record { memory = f.memory; disk = f.disk; snapshot = f.snapshot }
cores-kept-given Q c (Enters p) ready may closed joins keeps f = turning-cores Q (coming c p) p (take_newest c.world.group) ready.pasts keeps (record { memory = f.memory; disk = f.disk; snapshot = f.snapshot })
cores-kept-given Q c (Orders p) ready may closed joins keeps f = record { memory = f.memory; disk = f.disk; snapshot = f.snapshot }
cores-kept-given Q c (Receives p place) ready may closed joins keeps f = record { memory = f.memory; disk = f.disk; snapshot = f.snapshot }
cores-kept-given Q c (Hands p) ready may closed joins keeps f = turning-cores Q (handed_next c p) p (take_next c.world.group p) ready.pasts keeps (record { memory = f.memory; disk = f.disk; snapshot = f.snapshot })
cores-kept-given Q c (Leaves p set own places) ready may closed joins keeps f = turning-cores Q (leaving c p set own) p (take_parting c.world.group p set places) ready.pasts keeps (record { memory = f.memory; disk = f.disk; snapshot = f.snapshot })
cores-kept-given Q c (Asks p kind) ready may closed joins keeps f = turning-cores Q c p (take_request kind) ready.pasts keeps f
cores-kept-given Q c (Settles p) ready may closed joins keeps f = turning-cores Q c p settle ready.pasts keeps f
cores-kept-given Q c (Commits p) ready may closed joins keeps f = commit-cores Q c p closed f
cores-kept-given Q c (Crashes p) ready may closed joins keeps f = crash-cores Q c p left f where
  left : SnapshotsKeep (crash c p) Q
  left joiner = elim (ready.left p joiner) [
    | inl none ↦ subst (λ (o : Option TransferState). IfSome o (λ s. Q (joiner_replica joiner s.content).held (copied_for (crash c p) joiner))) (sym none) tt
    | inr same ↦ subst (λ (o : Option TransferState). IfSome o (λ s. Q (joiner_replica joiner s.content).held (copied_for (crash c p) joiner))) (sym same.0)
        (subst (λ xs. IfSome (snapshot_of c.world joiner) (λ s. Q (joiner_replica joiner s.content).held xs)) (sym same.1) (f.snapshot joiner))
  ]
cores-kept-given Q c (Recovers p) ready may closed joins keeps f = recover-cores Q c p ready.own ready.down closed f
cores-kept-given Q c (Copies p joiner) ready may closed joins keeps f = copy-cores Q c p joiner joins f
cores-kept-given Q c (Joins joiner) ready may closed joins keeps f = join-cores Q c joiner ready.pasts may f

pub cores-kept : (Q : Held → List Action → Type 0) (c : Chronicle) (s : Small) → IsReady c → may_make c s ≡ true → IsClosed Q → StepKeeps c s Q → OfCores c Q → OfCores (small_step c s) Q
cores-kept Q c s ready may closed keeps f = cores-kept-given Q c s ready may (held-closed Q closed) (joins-all c s Q closed) keeps f

-- the facts make it ready
pub ready-of : (c : Chronicle) → Hosted c → DiskBehind c → IsReady c
ready-of c hosted behind = record {
  pasts = hosted.past;
  own = hosted.disk;
  down = behind.down;
  before = hosted.before;
  left = λ p joiner. crash-left c p joiner hosted;
}
