-- Every small step keeps the fact that members have begun, and that who has begun is or was a server as its own greens say.
use Rattle.std.proofs.Common.{◌≡◌, ℕ, Bool, true, false, cond, not, ◌&&◌, ◌⊎◌, inl, inr, List, [], ◌∷◌, find, fold, Option, Some, None, IfSome, refl, sym, ap, subst, ◌∙◌, ⊎_elim, is_some, option_map, eqb-true, eq-eqb}
use Rattle.std.specs.Prelude.{◌==◌}
use Rattle.std.specs.Option.{option_map_or}
use Rattle.std.specs.List.{list_all}
use Rattle.std.proofs.lemmas.Bool.{cases_Bool, cond-true, cond-false, cond_both, and_parts, or_left, or_right, or_cases, not-true}
use Rattle.cg_base.specs.declared.weighted.Weighted.{Weighted}
use Rattle.cg_base.specs.Text.{is_nil}
use Rattle.cg_base.specs.Weights.{ids}
use Rattle.cg_base.specs.Sets.{has}
use Rattle.cg_action.specs.declared.action.Action.{Action}
use Rattle.cg_members.specs.Servers.{members_of, is_server, was_ever}
use Rattle.cg_wire.specs.declared.message.Msg.{Msg}
use Rattle.cg_group.specs.declared.phase.Phase.{Phase}
use Rattle.cg_group.specs.State.{Configuration, is_regular}
use Rattle.cg_group.specs.Events.{with_message, with_receipt}
use Rattle.cg_client.specs.Replica.{Held, Replica, fresh}
use Rattle.cg_client.specs.Requests.{settle}
use Rattle.cg_client.specs.Turn.{Turn, begin}
use Rattle.cg_disk_records.specs.Crash.{new_disk}
use Rattle.cg_model.specs.World.{NodeState, Up, Down as DownLife, Node, TransferState, World, node_of, replica_of, has_begun}
use Rattle.cg_model.specs.Step.{begin_replica, joiner_replica}
use Rattle.cg_model.specs.Chronicle.{Past, Chronicle, no_chronicle, Told}
use Rattle.cg_model.specs.Fronts.{Front}
use Rattle.cg_model.specs.Looks.{conf_of, past_of, stood_of, greens_of, is_member, copied_for, OfCores, told_in, snapshot_of}
use Rattle.cg_model.specs.FactsNet.{MembersBegun, Hosted, PhaseSound}
use Rattle.cg_model.specs.FactsReplica.{IsCore, DiskBehind, IsModeData}
use Rattle.cg_model.specs.Small.{Small, Starts, Makes, Enters, Orders, Receives, Hands, Leaves, Asks, Settles, Commits, Crashes, Recovers, Copies, Joins, start, small_step, turning_as, turning, commit_as, crash_as, recover_as, copy_as, join_with, changed_past, with_greens, written, struck, new_past, with_past, newly_green, take_request, take_newest, take_next, take_parting, coming, handed_next, leaving, newest_conf}
use Rattle.cg_model.specs.Smalls.{may_make, is_set, may_come, is_between, is_running}
use Rattle.cg_agree_lemmas.specs.ChronicleFacts.{past-begun}
use Rattle.cg_group.specs.LookupLaws.{eqb_comm}
use Rattle.cg_agree_lemmas.specs.EverServer.{was_ever-front, was_ever-start}
use Rattle.cg_agree.proofs.FixedKept.{confs-begun}
use Rattle.cg_agree_lemmas.specs.FrontFacts.{Front-refl}
use Rattle.cg_agree_lemmas.specs.GroupKept.{orders-conf, receives-conf, leaving-regular}
use Rattle.cg_agree_lemmas.specs.GroupSound.{GroupSound, ConfStep, made-is}
use Rattle.cg_agree_lemmas.specs.Keyed.{found-changed}
use Rattle.cg_agree.proofs.MoreThere.{NoneBegins, begun-same, begun-kept}
use Rattle.cg_agree_lemmas.specs.NextThere.{orders-now, receives-now}
use Rattle.cg_agree_lemmas.specs.OneSteps.{OneStep, MayJoin, may-join, may-enter, begun-set, running-begun, turns-step, hands-step, leaves-step, enters-step, commits-step, copies-step, crashes-step, recovers-step, joins-step}
use Rattle.cg_agree.proofs.PastKept.{EntersNow, enters-now, entry_told, told_in-enters}
use Rattle.cg_agree_lemmas.specs.ToldKept.{told-same, told_in-same}
use Rattle.cg_agree_lemmas.specs.CoresSmall.{nil-is, nothing-stood}

-- ---- what stands on disks

stood-changed : (c d : Chronicle) (f : Past → Past) (p : ℕ) → ((x : Past) → (f x).id ≡ x.id) → d.pasts ≡ changed_past f p c.pasts → (q : ℕ) →
    stood_of d q ≡ cond (q == p) (option_map_or (λ x. (f x).stood) (past_of c q) []) (stood_of c q)
stood-changed c d f p keeps is q =
    ap (λ xs. option_map_or (λ (x : Past). x.stood) (find (λ x. x.id == q) xs) []) is
    ∙ ap (λ (o : Option Past). option_map_or (λ x. x.stood) o []) (found-changed (λ (x : Past). x.id) f keeps p c.pasts q) ∙ at (q == p) (past_of c q) where
      mapped : (o : Option Past) → option_map_or (λ x. x.stood) (option_map f o) [] ≡ option_map_or (λ x. (f x).stood) o []
      mapped None = refl
      mapped (Some x) = refl

      at : (b : Bool) (o : Option Past) → option_map_or (λ x. x.stood) (cond b (option_map f o) o) [] ≡ cond b (option_map_or (λ x. (f x).stood) o []) (option_map_or (λ x. x.stood) o [])
      at true o = mapped o
      at false o = refl

-- a change of other things
stood-same : (c d : Chronicle) (f : Past → Past) (p : ℕ) → ((x : Past) → (f x).id ≡ x.id) → ((x : Past) → (f x).stood ≡ x.stood) → d.pasts ≡ changed_past f p c.pasts → (q : ℕ) → stood_of d q ≡ stood_of c q
stood-same c d f p keeps same is q = stood-changed c d f p keeps is q ∙ at (q == p) (past_of c q) where
  looked : (o : Option Past) → option_map_or (λ x. (f x).stood) o [] ≡ option_map_or (λ x. x.stood) o []
  looked None = refl
  looked (Some x) = same x

  at : (b : Bool) (o : Option Past) → cond b (option_map_or (λ x. (f x).stood) o []) (option_map_or (λ x. x.stood) o []) ≡ option_map_or (λ x. x.stood) o []
  at true o = looked o
  at false o = refl

-- what stands goes on, and the servers of the start are the same
pub record StoodOn (c d : Chronicle) : Type 0 where
  pub stood : (q : ℕ) → Front (stood_of c q) (stood_of d q)
  pub start : d.start ≡ c.start

stood-itself : (c : Chronicle) → StoodOn c c
stood-itself c = record { stood = λ q. Front-refl (stood_of c q); start = refl }

as-before : (c d : Chronicle) → ((q : ℕ) → stood_of d q ≡ stood_of c q) → d.start ≡ c.start → StoodOn c d
as-before c d same start = record { stood = λ q. subst (Front (stood_of c q)) (sym (same q)) (Front-refl (stood_of c q)); start = start }

pub stood-turning : (c : Chronicle) (p : ℕ) (part : Turn → Turn) (q : ℕ) → stood_of (turning c p part) q ≡ stood_of c q
stood-turning c p part q = at (node_of c.world p) where
  life : (l : NodeState) → stood_of (turning_as c p part l) q ≡ stood_of c q
  life (Up r disk) = stood-same c (turning_as c p part (Up r disk)) (with_greens (newly_green r (part (begin r)).replica)) p (λ x. refl) (λ x. refl) refl q
  life (DownLife disk green) = refl

  at : (o : Option Node) → stood_of (option_map_or (λ s. turning_as c p part s.life) o c) q ≡ stood_of c q
  at None = refl
  at (Some s) = life s.life

pub start-turning : (c : Chronicle) (p : ℕ) (part : Turn → Turn) → (turning c p part).start ≡ c.start
start-turning c p part = at (node_of c.world p) where
  life : (l : NodeState) → (turning_as c p part l).start ≡ c.start
  life (Up r disk) = refl
  life (DownLife disk green) = refl

  at : (o : Option Node) → (option_map_or (λ s. turning_as c p part s.life) o c).start ≡ c.start
  at None = refl
  at (Some s) = life s.life

-- a turn, also behind a change of the group
turned : (c b : Chronicle) (p : ℕ) (part : Turn → Turn) → b.pasts ≡ c.pasts → b.start ≡ c.start → StoodOn c (turning b p part)
turned c b p part pasts start =
    as-before c (turning b p part) (λ q. stood-turning b p part q ∙ ap (λ xs. option_map_or (λ (x : Past). x.stood) (find (λ x. x.id == q) xs) []) pasts) (start-turning b p part ∙ start)

stood-commit : (c : Chronicle) (p : ℕ) (l : NodeState) → DiskBehind c → StoodOn c (commit_as c p l)
stood-commit c p (DownLife disk green) behind = stood-itself c
stood-commit c p (Up r disk) behind = record {
  stood = λ q. subst (Front (stood_of c q)) (sym (stood-changed c (commit_as c p (Up r disk)) written p (λ x. refl) refl q))
      (cond_both (q == p) (greens_of c q) (stood_of c q) (Front (stood_of c q)) (λ y. behind.behind q) (λ n. Front-refl (stood_of c q)));
  start = refl;
}

stood-crash : (c : Chronicle) (p : ℕ) (l : NodeState) → StoodOn c (crash_as c p l)
stood-crash c p (DownLife disk green) = stood-itself c
stood-crash c p (Up r disk) = as-before c (crash_as c p (Up r disk)) (stood-same c (crash_as c p (Up r disk)) struck p (λ x. refl) (λ x. refl) refl) refl

stood-recover : (c : Chronicle) (l : NodeState) → StoodOn c (recover_as c l)
stood-recover c (Up r disk) = stood-itself c
stood-recover c (DownLife disk green) = as-before c (recover_as c (DownLife disk green)) (λ q. refl) refl

at-some : {X : Type 0} (o : Option X) (change : X → Chronicle) (c : Chronicle) → ((x : X) → StoodOn c (change x)) → StoodOn c (option_map_or change o c)
at-some None change c each = stood-itself c
at-some (Some x) change c each = each x

pub stood-on : (c : Chronicle) (s : Small) → NoneBegins s → DiskBehind c → StoodOn c (small_step c s)
unfolding small_step
stood-on c (Starts set) none behind = absurd none
stood-on c (Joins joiner) none behind = absurd none
stood-on c (Makes set) none behind = as-before c _ (λ q. refl) refl
stood-on c (Enters p) none behind = turned c (coming c p) p (take_newest c.world.group) refl refl
stood-on c (Orders p) none behind = as-before c _ (λ q. refl) refl
stood-on c (Receives p place) none behind = as-before c _ (λ q. refl) refl
stood-on c (Hands p) none behind = turned c (handed_next c p) p (take_next c.world.group p) refl refl
stood-on c (Leaves p set own places) none behind = turned c (leaving c p set own) p (take_parting c.world.group p set places) refl refl
stood-on c (Asks p kind) none behind = turned c c p (take_request kind) refl refl
stood-on c (Settles p) none behind = turned c c p settle refl refl
stood-on c (Commits p) none behind = at-some (node_of c.world p) (λ s. commit_as c p s.life) c (λ s. stood-commit c p s.life behind)
stood-on c (Crashes p) none behind = at-some (node_of c.world p) (λ s. crash_as c p s.life) c (λ s. stood-crash c p s.life)
stood-on c (Recovers p) none behind = at-some (node_of c.world p) (λ s. recover_as c s.life) c (λ s. stood-recover c s.life)
stood-on c (Copies p joiner) none behind = at-some (replica_of c.world p) (copy_as c p joiner) c (λ r. as-before c (copy_as c p joiner r) (λ q. refl) refl)

-- ---- servers

server-on : (c : Chronicle) (s : Small) → NoneBegins s → Hosted c → DiskBehind c → MembersBegun c → (q : ℕ) → has_begun (small_step c s).world q ≡ true →
    was_ever (members_of (small_step c s).start (stood_of (small_step c s) q)) q ≡ true
server-on c s none nodes behind old q begun =
    let on = stood-on c s none behind in
    subst (λ st. was_ever (members_of st (stood_of (small_step c s) q)) q ≡ true) (sym on.start)
    (was_ever-front c.start (stood_of c q) (stood_of (small_step c s) q) q (on.stood q) (old.server q (sym (begun-same c s none nodes q) ∙ begun)))

-- a joiner is a server as its copy says
server-joins : (c : Chronicle) (joiner : ℕ) → Hosted c → OfCores c (IsCore c) → MembersBegun c → MayJoin c joiner → (q : ℕ) → has_begun (small_step c (Joins joiner)).world q ≡ true →
    was_ever (members_of (small_step c (Joins joiner)).start (stood_of (small_step c (Joins joiner)) q)) q ≡ true
unfolding small_step
server-joins c joiner nodes cores old may q = subst (λ (o : Option TransferState).
    has_begun (option_map_or (λ s. join_with c joiner s.content) o c).world q ≡ true →
    was_ever (members_of (option_map_or (λ s. join_with c joiner s.content) o c).start (stood_of (option_map_or (λ s. join_with c joiner s.content) o c) q)) q ≡ true) (sym may.there) begins where
      content : Held
      content = may.snapshot.content

      new : Past
      new = new_past (copied_for c joiner) joiner

      stood : (list : List Past) → List Action
      stood list = option_map_or (λ (x : Past). x.stood) (find (λ x. x.id == q) list) []

      no-past : (o : Option Past) → is_some o ≡ false → o ≡ None
      no-past None e = refl
      no-past (Some x) e = absurd (let clash : true ≡ false = e in cc)

      core : content.members ≡ members_of c.start (copied_for c joiner)
      core = (subst (λ (o : Option TransferState). IfSome o (λ s. IsCore c (joiner_replica joiner s.content).held (copied_for c joiner))) may.there (cores.snapshot joiner)).made_of.members

      absent : past_of c joiner ≡ None
      absent = no-past (past_of c joiner) (nodes.past joiner ∙ may.fresh)

      behind : find (λ (x : Past). x.id == q) (with_past c.pasts new) ≡ cond (joiner == q) (Some new) (past_of c q)
      behind = past-begun c.pasts new q absent

      own : q ≡ joiner → was_ever (members_of c.start (stood (with_past c.pasts new))) q ≡ true
      own is =
          let found : stood (with_past c.pasts new) ≡ copied_for c joiner =
          ap (λ (o : Option Past). option_map_or (λ x. x.stood) o []) (behind ∙ cond-true (joiner == q) (Some new) (past_of c q) (eq-eqb joiner q (sym is))) in
          let server : is_server (members_of c.start (copied_for c joiner)) q ≡ true = ap (λ x. is_server (members_of c.start (copied_for c joiner)) x) is ∙ ap (λ m. is_server m joiner) (sym core) ∙ may.server in
          ap (λ xs. was_ever (members_of c.start xs) q) found ∙ or_left (is_server (members_of c.start (copied_for c joiner)) q) (has (members_of c.start (copied_for c joiner)).left q) server

      before : (q == joiner) ≡ false → has_begun c.world q ≡ true → was_ever (members_of c.start (stood (with_past c.pasts new))) q ≡ true
      before other begun =
          ap (λ (o : Option Past). was_ever (members_of c.start (option_map_or (λ x. x.stood) o [])) q) (behind ∙ cond-false (joiner == q) (Some new) (past_of c q) (eqb_comm joiner q ∙ other)) ∙ old.server q begun

      begins : has_begun (join_with c joiner content).world q ≡ true → was_ever (members_of c.start (stood (with_past c.pasts new))) q ≡ true
      begins begun = ⊎_elim (λ y. own (eqb-true q joiner y))
          (λ n. before n (sym (begun-set c.world joiner _ q ∙ cond-false (q == joiner) true (has_begun c.world q) n) ∙ begun))
          (cases_Bool (q == joiner))

-- at the start those named have begun
named-begun : (set : List Weighted) (replicas : List ℕ) (w : World) (q : ℕ) → has_begun (fold (begin_replica set) w replicas) q ≡ true → (has_begun w q ≡ true) ⊎ (has replicas q ≡ true)
named-begun set [] w q begun = inl begun
named-begun set (p ∷ replicas) w q begun = ⊎_elim
    (λ was. ⊎_elim (λ y. inr (or_left (p == q) (has replicas q) (eq-eqb p q (sym (eqb-true q p y)))))
    (λ n. inl (sym (begun-set w p (Up (fresh p set) (new_disk (fresh p set).held)) q ∙ cond-false (q == p) true (has_begun w q) n) ∙ was)) (cases_Bool (q == p)))
    (λ rest. inr (or_right (p == q) (has replicas q) rest))
    (named-begun set replicas (begin_replica set w p) q begun)

server-starts : (c : Chronicle) (set : List Weighted) → c ≡ no_chronicle → (q : ℕ) → has_begun (start c set).world q ≡ true → was_ever (members_of set (stood_of (start c set) q)) q ≡ true
server-starts c set is q = subst (λ (x : Chronicle). has_begun (start x set).world q ≡ true → was_ever (members_of set (stood_of (start x set) q)) q ≡ true) (sym is) (λ begun.
    ap (λ xs. was_ever (members_of set xs) q) (nothing-stood (ids set) q) ∙ was_ever-start set q (⊎_elim (λ was. absurd (let clash : false ≡ true = was in cc)) (λ named. named) (named-begun set (ids set) no_chronicle.world q begun)))

-- before the start there is nothing
pub nothing-before : (c : Chronicle) → Hosted c → is_nil c.world.nodes ≡ true → c ≡ no_chronicle
nothing-before c nodes none = nodes.before (nil-is c.world.nodes none)

-- ---- members

-- where members are the same
member-same : (c d : Chronicle) → ((k q : ℕ) → is_member d k q ≡ is_member c k q) → ((q : ℕ) → has_begun c.world q ≡ true → has_begun d.world q ≡ true) → MembersBegun c →
    (k q : ℕ) → is_member d k q ≡ true → has_begun d.world q ≡ true
member-same c d same begun old k q member = begun q (old.member k q (sym (same k q) ∙ member))

of-one : (c d : Chronicle) (p : ℕ) (now : Phase) (n : ℕ) (is : Bool) → OneStep c d p now n is → (k q : ℕ) → is_member d k q ≡ is_member c k q
of-one c d p now n is step k q = ap (λ (x : Configuration Msg). has x.members q) (step.stands.conf k)

of-conf : (c d : Chronicle) (conf : ℕ) (D : Configuration Msg) → ConfStep c d conf D → D.members ≡ (conf_of c conf).members → (k q : ℕ) → is_member d k q ≡ is_member c k q
of-conf c d conf D step same k q = ap (λ (x : Configuration Msg). has x.members q) (step.changed k)
    ∙ cond_both (k == conf) D (conf_of c k) (λ x. has x.members q ≡ is_member c k q) (λ y. ap (λ set. has set q) (same ∙ ap (λ x. (conf_of c x).members) (sym (eqb-true k conf y)))) (λ n. refl)

message-members : (C : Configuration Msg) (p : ℕ) (m : Msg) → (with_message C p m).members ≡ C.members
unfolding with_message
message-members C p m = refl

receipt-members : (C : Configuration Msg) (p place : ℕ) → (with_receipt C p place).members ≡ C.members
unfolding with_receipt
receipt-members C p place = refl

pub coming-begun : (c : Chronicle) (set : List ℕ) (q : ℕ) → list_all (may_come c) set ≡ true → has set q ≡ true → has_begun c.world q ≡ true
coming-begun c [] q all member = absurd (let clash : false ≡ true = member in cc)
coming-begun c (p ∷ set) q all member =
    let parts = and_parts (may_come c p) (list_all (may_come c) set) all in
    ⊎_elim
    (λ y. (let up = and_parts (not (is_regular c.world.group p)) (option_map_or (λ r. is_between r.state) (replica_of c.world p) false) parts.0 in
    ap (has_begun c.world) (sym (eqb-true p q y)) ∙ running-begun c p (there (replica_of c.world p) up.1)))
    (λ rest. coming-begun c set q parts.1 rest) (or_cases (p == q) (has set q) member) where
      there : (o : Option Replica) → option_map_or (λ r. is_between r.state) o false ≡ true → is_some o ≡ true
      there None e = e
      there (Some r) e = refl

members-begun : (c : Chronicle) (s : Small) → Hosted c → may_make c s ≡ true → GroupSound c → MembersBegun c → (k q : ℕ) → is_member (small_step c s) k q ≡ true → has_begun (small_step c s).world q ≡ true
unfolding small_step may_make
members-begun c (Starts set) nodes m sound old =
    member-same c (small_step c (Starts set)) (λ k q. ap (λ (x : Configuration Msg). has x.members q) (confs-begun c set (ids set) c.world k)) (begun-kept c (Starts set) nodes m) old
members-begun c (Makes set) nodes m sound old = λ k q member. ⊎_elim
    (λ same. old.member k q (ap (λ (x : Configuration Msg). has x.members q) (sym same) ∙ member))
    (λ new. coming-begun c set q (and_parts (not (is_nil set) && is_set set) (list_all (may_come c) set) m).1 (ap (λ (x : Configuration Msg). has x.members q) (sym new.1) ∙ member))
    (made-is c.world.group set k)
members-begun c (Enters p) nodes m sound old = member-same c (small_step c (Enters p)) (of-one c (small_step c (Enters p)) p _ 0 true (enters-step c p sound.phases (may-enter c p m).comes)) (begun-kept c (Enters p) nodes m) old
members-begun c (Orders p) nodes m sound old =
    let next = orders-now c p sound.phases (λ k. (sound.confs k).places) m in
    member-same c (small_step c (Orders p)) (of-conf c (small_step c (Orders p)) next.conf _ (orders-conf c p next.conf next.stands next.message next.rest next.at) (message-members (conf_of c next.conf) p next.message)) (begun-kept c (Orders p) nodes m) old
members-begun c (Receives p place) nodes m sound old =
    let next = receives-now c p place sound.phases m in
    member-same c (small_step c (Receives p place)) (of-conf c (small_step c (Receives p place)) next.conf _ (receives-conf c p place next) (receipt-members (conf_of c next.conf) p place)) (begun-kept c (Receives p place) nodes m) old
members-begun c (Hands p) nodes m sound old = member-same c (small_step c (Hands p)) (of-one c (small_step c (Hands p)) p _ _ true (hands-step c p sound.phases (and_parts _ _ m).0)) (begun-kept c (Hands p) nodes m) old
members-begun c (Leaves p set own places) nodes m sound old =
    member-same c (small_step c (Leaves p set own places)) (of-one c (small_step c (Leaves p set own places)) p _ own true (leaves-step c p set own places sound.phases (leaving-regular c p set own places m))) (begun-kept c (Leaves p set own places) nodes m) old
members-begun c (Asks p kind) nodes m sound old = member-same c (small_step c (Asks p kind)) (of-one c (small_step c (Asks p kind)) p _ _ _ (turns-step c p (take_request kind) sound.phases)) (begun-kept c (Asks p kind) nodes m) old
members-begun c (Settles p) nodes m sound old = member-same c (small_step c (Settles p)) (of-one c (small_step c (Settles p)) p _ _ _ (turns-step c p settle sound.phases)) (begun-kept c (Settles p) nodes m) old
members-begun c (Commits p) nodes m sound old = member-same c (small_step c (Commits p)) (of-one c (small_step c (Commits p)) p _ _ _ (commits-step c p sound.phases)) (begun-kept c (Commits p) nodes m) old
members-begun c (Crashes p) nodes m sound old = member-same c (small_step c (Crashes p)) (of-one c (small_step c (Crashes p)) p _ 0 false (crashes-step c p m)) (begun-kept c (Crashes p) nodes m) old
members-begun c (Recovers p) nodes m sound old =
    let parts = and_parts (has_begun c.world p) (not (is_running c p)) m in
    member-same c (small_step c (Recovers p)) (of-one c (small_step c (Recovers p)) p _ 0 true (recovers-step c p nodes parts.0 (not-true (is_running c p) parts.1))) (begun-kept c (Recovers p) nodes m) old
members-begun c (Copies p joiner) nodes m sound old = member-same c (small_step c (Copies p joiner)) (of-one c (small_step c (Copies p joiner)) p _ _ _ (copies-step c p joiner sound.phases)) (begun-kept c (Copies p joiner) nodes m) old
members-begun c (Joins joiner) nodes m sound old = member-same c (small_step c (Joins joiner)) (of-one c (small_step c (Joins joiner)) joiner _ 0 true (joins-step c joiner (may-join c joiner m))) (begun-kept c (Joins joiner) nodes m) old

-- ---- servers in each small step

server-kept : (c : Chronicle) (s : Small) → Hosted c → OfCores c (IsCore c) → DiskBehind c → may_make c s ≡ true → MembersBegun c → (q : ℕ) → has_begun (small_step c s).world q ≡ true →
    was_ever (members_of (small_step c s).start (stood_of (small_step c s) q)) q ≡ true
unfolding may_make small_step
server-kept c (Starts set) nodes cores behind m old = server-starts c set (nothing-before c nodes (and_parts (is_nil c.world.nodes) (is_set (ids set)) m).0)
server-kept c (Joins joiner) nodes cores behind m old = server-joins c joiner nodes cores old (may-join c joiner m)
server-kept c (Makes set) nodes cores behind m old = server-on c (Makes set) tt nodes behind old
server-kept c (Enters p) nodes cores behind m old = server-on c (Enters p) tt nodes behind old
server-kept c (Orders p) nodes cores behind m old = server-on c (Orders p) tt nodes behind old
server-kept c (Receives p place) nodes cores behind m old = server-on c (Receives p place) tt nodes behind old
server-kept c (Hands p) nodes cores behind m old = server-on c (Hands p) tt nodes behind old
server-kept c (Leaves p set own places) nodes cores behind m old = server-on c (Leaves p set own places) tt nodes behind old
server-kept c (Asks p kind) nodes cores behind m old = server-on c (Asks p kind) tt nodes behind old
server-kept c (Settles p) nodes cores behind m old = server-on c (Settles p) tt nodes behind old
server-kept c (Commits p) nodes cores behind m old = server-on c (Commits p) tt nodes behind old
server-kept c (Crashes p) nodes cores behind m old = server-on c (Crashes p) tt nodes behind old
server-kept c (Recovers p) nodes cores behind m old = server-on c (Recovers p) tt nodes behind old
server-kept c (Copies p joiner) nodes cores behind m old = server-on c (Copies p joiner) tt nodes behind old

-- ---- who has told something

-- it was a server as its greens said then
abbrev WasEver : List Weighted → ℕ → Told → Type 0
WasEver start p t = was_ever (members_of start t.greens) p ≡ true

-- where nothing is told, and the start is the same
told-before : (c d : Chronicle) → d.told ≡ c.told → d.start ≡ c.start → MembersBegun c → (k q : ℕ) → IfSome (told_in d k q) (WasEver d.start q)
told-before c d told start old k q =
    subst (λ o. IfSome o (WasEver d.start q)) (sym (told_in-same c d told k q)) (subst (λ st. IfSome (told_in c k q) (WasEver st q)) (sym start) (old.told k q))

pub start-joins : (c : Chronicle) (joiner : ℕ) → (small_step c (Joins joiner)).start ≡ c.start
unfolding small_step
start-joins c joiner = at (snapshot_of c.world joiner) where
  at : (o : Option TransferState) → (option_map_or (λ s. join_with c joiner s.content) o c).start ≡ c.start
  at None = refl
  at (Some s) = refl

told-starts : (c : Chronicle) (set : List Weighted) → c ≡ no_chronicle → (k q : ℕ) → IfSome (told_in (start c set) k q) (WasEver set q)
told-starts c set is k q = subst (λ (x : Chronicle). IfSome (told_in (start x set) k q) (WasEver set q)) (sym is) tt

-- an entry tells the greens that are held
told-enters : (c : Chronicle) (p : ℕ) → EntersNow c p → DiskBehind c → MembersBegun c → (k q : ℕ) → IfSome (told_in (small_step c (Enters p)) k q) (WasEver (small_step c (Enters p)).start q)
told-enters c p now behind old k q =
    let d = small_step c (Enters p) in
    let new = newest_conf c.world.group in
    let begun : has_begun c.world p ≡ true = ap (λ (o : Option Node). is_some o) now.node in
    let own : WasEver c.start p (entry_told c p now.replica) = was_ever-front c.start (stood_of c p) (greens_of c p) p (behind.behind p) (old.server p begun) in
    subst (λ st. IfSome (told_in d k q) (WasEver st q)) (sym (stood-on c (Enters p) tt behind).start)
    (subst (λ o. IfSome o (WasEver c.start q)) (sym (told_in-enters c p now k q))
    (cond_both ((k == new) && (q == p)) (Some (entry_told c p now.replica)) (told_in c k q) (λ o. IfSome o (WasEver c.start q))
    (λ y. subst (λ x. WasEver c.start x (entry_told c p now.replica)) (sym (eqb-true q p (and_parts (k == new) (q == p) y).1)) own)
    (λ n. old.told k q)))

told-kept : (c : Chronicle) (s : Small) → Hosted c → PhaseSound c → DiskBehind c → ((q : ℕ) → IfSome (replica_of c.world q) (IsModeData c q)) → may_make c s ≡ true → MembersBegun c →
    (k q : ℕ) → IfSome (told_in (small_step c s) k q) (WasEver (small_step c s).start q)
unfolding may_make small_step
told-kept c (Starts set) nodes sound behind mode m old = told-starts c set (nothing-before c nodes (and_parts (is_nil c.world.nodes) (is_set (ids set)) m).0)
told-kept c (Joins joiner) nodes sound behind mode m old = told-before c (small_step c (Joins joiner)) (told-same c (Joins joiner) tt) (start-joins c joiner) old
told-kept c (Enters p) nodes sound behind mode m old = told-enters c p (enters-now c p sound (mode p) m) behind old
told-kept c (Makes set) nodes sound behind mode m old = told-before c (small_step c (Makes set)) (told-same c (Makes set) tt) (stood-on c (Makes set) tt behind).start old
told-kept c (Orders p) nodes sound behind mode m old = told-before c (small_step c (Orders p)) (told-same c (Orders p) tt) (stood-on c (Orders p) tt behind).start old
told-kept c (Receives p place) nodes sound behind mode m old = told-before c (small_step c (Receives p place)) (told-same c (Receives p place) tt) (stood-on c (Receives p place) tt behind).start old
told-kept c (Hands p) nodes sound behind mode m old = told-before c (small_step c (Hands p)) (told-same c (Hands p) tt) (stood-on c (Hands p) tt behind).start old
told-kept c (Leaves p set own places) nodes sound behind mode m old = told-before c (small_step c (Leaves p set own places)) (told-same c (Leaves p set own places) tt) (stood-on c (Leaves p set own places) tt behind).start old
told-kept c (Asks p kind) nodes sound behind mode m old = told-before c (small_step c (Asks p kind)) (told-same c (Asks p kind) tt) (stood-on c (Asks p kind) tt behind).start old
told-kept c (Settles p) nodes sound behind mode m old = told-before c (small_step c (Settles p)) (told-same c (Settles p) tt) (stood-on c (Settles p) tt behind).start old
told-kept c (Commits p) nodes sound behind mode m old = told-before c (small_step c (Commits p)) (told-same c (Commits p) tt) (stood-on c (Commits p) tt behind).start old
told-kept c (Crashes p) nodes sound behind mode m old = told-before c (small_step c (Crashes p)) (told-same c (Crashes p) tt) (stood-on c (Crashes p) tt behind).start old
told-kept c (Recovers p) nodes sound behind mode m old = told-before c (small_step c (Recovers p)) (told-same c (Recovers p) tt) (stood-on c (Recovers p) tt behind).start old
told-kept c (Copies p joiner) nodes sound behind mode m old = told-before c (small_step c (Copies p joiner)) (told-same c (Copies p joiner) tt) (stood-on c (Copies p joiner) tt behind).start old

-- ---- all of it

pub members_begun-kept : (c : Chronicle) (s : Small) → Hosted c → GroupSound c → OfCores c (IsCore c) → DiskBehind c → ((q : ℕ) → IfSome (replica_of c.world q) (IsModeData c q)) → may_make c s ≡ true →
    MembersBegun c → MembersBegun (small_step c s)
members_begun-kept c s nodes sound cores behind mode may old = record {
  member = members-begun c s nodes may sound old;
  server = server-kept c s nodes cores behind may old;
  told = told-kept c s nodes sound.phases behind mode may old;
}
