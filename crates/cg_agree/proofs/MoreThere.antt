-- Members of a configuration stay members in every small step, and who has begun has begun; nobody else has begun but by a start
-- and a join.
use Rattle.std.proofs.Common.{◌≡◌, ℕ, Bool, true, false, not, List, [], ◌∷◌, fold, Option, Some, None, refl, sym, ap, subst, ◌∙◌, is_some}
use Rattle.std.specs.Prelude.{IfSome, option_map}
use Rattle.std.specs.Option.{option_map_or}
use Rattle.std.proofs.lemmas.Bool.{and_parts, not-true}
use Rattle.cg_base.specs.declared.weighted.Weighted.{Weighted}
use Rattle.cg_base.specs.Weights.{ids}
use Rattle.cg_base.specs.Sets.{has}
use Rattle.cg_wire.specs.declared.message.Msg.{Msg}
use Rattle.cg_group.specs.declared.phase.Phase.{Phase}
use Rattle.cg_group.specs.declared.phase.Phase.TheVariants.{Down, Alone}
use Rattle.cg_group.specs.State.{Configuration}
use Rattle.cg_group.specs.Events.{with_message, with_receipt}
use Rattle.cg_group.specs.GrownLaws.{Grows-message, Grows-receipt}
use Rattle.cg_client.specs.Requests.{settle}
use Rattle.cg_disk_records.specs.Crash.{Disk, recovered}
use Rattle.cg_client.specs.Replica.{Held, Replica}
use Rattle.cg_model.specs.World.{NodeState, Up, Down as DownLife, Node, World, running, node_of, has_begun, replica_of}
use Rattle.cg_model.specs.Step.{begin_replica}
use Rattle.cg_model.specs.Chronicle.{Chronicle}
use Rattle.cg_model.specs.Looks.{conf_of, is_member, on_disk}
use Rattle.cg_model.specs.FactsNet.{Hosted}
use Rattle.cg_model.specs.Small.{Small, Starts, Makes, Enters, Orders, Receives, Hands, Leaves, Asks, Settles, Commits, Crashes, Recovers, Copies, Joins, small_step, take_request, take_newest, take_next, take_parting, coming, handed_next, leaving, commit_as, crash_as, recover_as, copy_as}
use Rattle.cg_model.specs.Smalls.{may_make, is_running}
use Rattle.cg_agree.proofs.FixedKept.{confs-begun}
use Rattle.cg_agree_lemmas.specs.GroupKept.{begins-step, orders-conf, receives-conf, leaving-regular}
use Rattle.cg_agree_lemmas.specs.GroupSound.{GroupSound, same-where_member, members}
use Rattle.cg_agree_lemmas.specs.GroupTurn.{put-same}
use Rattle.cg_agree_lemmas.specs.NextThere.{orders-now, receives-now}
use Rattle.cg_agree_lemmas.specs.OneSteps.{OneStep, turns-step, hands-step, leaves-step, enters-step, commits-step, copies-step, crashes-step, recovers-step, joins-step, may-join, may-enter, nodes-turning, same-life, begun-set}
use Rattle.cg_agree_lemmas.specs.HeldCommit.{recovered-id}

-- ---- members

abbrev pub MembersMore : Chronicle → Chronicle → Type 0
MembersMore c d = (k q : ℕ) → is_member c k q ≡ true → is_member d k q ≡ true

pub more-one : (c d : Chronicle) (p : ℕ) (now : Phase) (n : ℕ) (is : Bool) → OneStep c d p now n is → MembersMore c d
more-one c d p now n is step k q member = ap (λ (x : Configuration Msg). has x.members q) (step.stands.conf k) ∙ member

pub members-more : (c : Chronicle) (s : Small) → Hosted c → may_make c s ≡ true → GroupSound c → MembersMore c (small_step c s)
unfolding small_step may_make
members-more c (Starts set) nodes m old = λ k q member. ap (λ (x : Configuration Msg). has x.members q) (confs-begun c set (ids set) c.world k) ∙ member
members-more c (Makes set) nodes m old = λ k q member.
    ap (λ (x : Configuration Msg). has x.members q) (same-where_member c (small_step c (Makes set)) set refl (λ q. refl) k q member) ∙ member
members-more c (Enters p) nodes m old = more-one c _ p _ 0 true (enters-step c p old.phases (may-enter c p m).comes)
members-more c (Orders p) nodes m old = λ k q member.
    let next = orders-now c p old.phases (λ k. (old.confs k).places) m in
    members c _ next.conf (with_message (conf_of c next.conf) p next.message) (orders-conf c p next.conf next.stands next.message next.rest next.at) p
    (Grows-message (conf_of c next.conf) p next.message (old.confs next.conf).places) q k member
members-more c (Receives p place) nodes m old = λ k q member.
    let next = receives-now c p place old.phases m in
    members c _ next.conf (with_receipt (conf_of c next.conf) p place) (receives-conf c p place next) p
    (Grows-receipt (conf_of c next.conf) p place next.above next.within (old.confs next.conf).places) q k member
members-more c (Hands p) nodes m old = more-one c _ p _ _ true (hands-step c p old.phases (and_parts _ _ m).0)
members-more c (Leaves p set own places) nodes m old = more-one c _ p _ own true (leaves-step c p set own places old.phases (leaving-regular c p set own places m))
members-more c (Asks p kind) nodes m old = more-one c _ p _ _ _ (turns-step c p (take_request kind) old.phases)
members-more c (Settles p) nodes m old = more-one c _ p _ _ _ (turns-step c p settle old.phases)
members-more c (Commits p) nodes m old = more-one c _ p _ _ _ (commits-step c p old.phases)
members-more c (Crashes p) nodes m old = more-one c _ p Down 0 false (crashes-step c p m)
members-more c (Recovers p) nodes m old =
    let parts = and_parts (has_begun c.world p) (not (is_running c p)) m in
    more-one c _ p Alone 0 true (recovers-step c p nodes parts.0 (not-true (is_running c p) parts.1))
members-more c (Copies p joiner) nodes m old = more-one c _ p _ _ _ (copies-step c p joiner old.phases)
members-more c (Joins joiner) nodes m old = more-one c _ joiner Alone 0 true (joins-step c joiner (may-join c joiner m))

-- ---- who has begun

pub begun-all : (c : Chronicle) (set : List Weighted) (replicas : List ℕ) (w : World) (q : ℕ) → has_begun w q ≡ true → has_begun (fold (begin_replica set) w replicas) q ≡ true
begun-all c set [] w q was = was
begun-all c set (p ∷ replicas) w q was = begun-all c set replicas (begin_replica set w p) q ((begins-step c set w p).begun q was)

-- a small step by which none begins
abbrev pub NoneBegins : Small → Type 0
NoneBegins (Starts set) = ⊥
NoneBegins (Joins joiner) = ⊥
NoneBegins _ = Unit {0}

at-node : (c : Chronicle) (p q : ℕ) (change : NodeState → Chronicle) → ((s : Node) → node_of c.world p ≡ Some s → has_begun (change s.life).world q ≡ has_begun c.world q) →
    has_begun (option_map_or (λ (s : Node). change s.life) (node_of c.world p) c).world q ≡ has_begun c.world q
at-node c p q change each = at (node_of c.world p) refl where
  at : (o : Option Node) → node_of c.world p ≡ o → has_begun (option_map_or (λ (s : Node). change s.life) o c).world q ≡ has_begun c.world q
  at None e = refl
  at (Some s) e = each s e

begun-commit : (c : Chronicle) (p q : ℕ) (s : Node) (l : NodeState) → s.life ≡ l → node_of c.world p ≡ Some s → has_begun (commit_as c p l).world q ≡ has_begun c.world q
begun-commit c p q s (Up r disk) is e = (same-life c.world p s _ e (ap (λ l. is_some (running l)) (sym is))).begun q
begun-commit c p q s (DownLife disk green) is e = refl

begun-crash : (c : Chronicle) (p q : ℕ) (s : Node) (l : NodeState) → s.life ≡ l → node_of c.world p ≡ Some s → has_begun (crash_as c p l).world q ≡ has_begun c.world q
begun-crash c p q s (Up r disk) is e = begun-set c.world p _ q ∙ put-same (λ q. has_begun c.world q) p true (ap (λ (o : Option Node). is_some o) e) q
begun-crash c p q s (DownLife disk green) is e = refl

begun-recover : (c : Chronicle) (p q : ℕ) (s : Node) (l : NodeState) → Hosted c → s.life ≡ l → node_of c.world p ≡ Some s → has_begun (recover_as c l).world q ≡ has_begun c.world q
begun-recover c p q s (Up r disk) nodes is e = refl
begun-recover c p q s (DownLife disk green) nodes is e =
    begun-set c.world (recovered disk).held.id _ q ∙ put-same (λ q. has_begun c.world q) (recovered disk).held.id true
    (ap (has_begun c.world) (recovered-here c p s disk is e nodes) ∙ ap (λ (o : Option Node). is_some o) e) q where
      recovered-here : (c : Chronicle) (p : ℕ) (s : Node) (disk : Disk) → s.life ≡ DownLife disk green → node_of c.world p ≡ Some s → Hosted c → (recovered disk).held.id ≡ p
      recovered-here c p s disk is e nodes =
          recovered-id disk.content ∙ subst (λ (o : Option Held). IfSome o (λ h. h.id ≡ p))
          (ap (λ (o : Option Node). option_map (λ s. on_disk s.life) o) e ∙ ap (λ l. Some (on_disk l)) is) (nodes.disk p)

-- the same have begun
pub begun-same : (c : Chronicle) (s : Small) → NoneBegins s → Hosted c → (q : ℕ) → has_begun (small_step c s).world q ≡ has_begun c.world q
unfolding small_step
begun-same c (Starts set) none nodes q = absurd none
begun-same c (Makes set) none nodes q = refl
begun-same c (Enters p) none nodes q = (nodes-turning (coming c p) p (take_newest c.world.group)).begun q
begun-same c (Orders p) none nodes q = refl
begun-same c (Receives p place) none nodes q = refl
begun-same c (Hands p) none nodes q = (nodes-turning (handed_next c p) p (take_next c.world.group p)).begun q
begun-same c (Leaves p set own places) none nodes q = (nodes-turning (leaving c p set own) p (take_parting c.world.group p set places)).begun q
begun-same c (Asks p kind) none nodes q = (nodes-turning c p (take_request kind)).begun q
begun-same c (Settles p) none nodes q = (nodes-turning c p settle).begun q
begun-same c (Commits p) none nodes q = at-node c p q (commit_as c p) (λ s e. begun-commit c p q s s.life refl e)
begun-same c (Crashes p) none nodes q = at-node c p q (crash_as c p) (λ s e. begun-crash c p q s s.life refl e)
begun-same c (Recovers p) none nodes q = at-node c p q (recover_as c) (λ s e. begun-recover c p q s s.life nodes refl e)
begun-same c (Copies p joiner) none nodes q = at (replica_of c.world p) where
  at : (o : Option Replica) → has_begun (option_map_or (copy_as c p joiner) o c).world q ≡ has_begun c.world q
  at None = refl
  at (Some r) = refl
begun-same c (Joins joiner) none nodes q = absurd none

pub begun-kept : (c : Chronicle) (s : Small) → Hosted c → may_make c s ≡ true → (q : ℕ) → has_begun c.world q ≡ true → has_begun (small_step c s).world q ≡ true
unfolding small_step may_make
begun-kept c (Starts set) nodes m q was = begun-all c set (ids set) c.world q was
begun-kept c (Joins joiner) nodes m q was = (joins-step c joiner (may-join c joiner m)).begun q was
begun-kept c (Makes set) nodes m q was = begun-same c (Makes set) tt nodes q ∙ was
begun-kept c (Enters p) nodes m q was = begun-same c (Enters p) tt nodes q ∙ was
begun-kept c (Orders p) nodes m q was = begun-same c (Orders p) tt nodes q ∙ was
begun-kept c (Receives p place) nodes m q was = begun-same c (Receives p place) tt nodes q ∙ was
begun-kept c (Hands p) nodes m q was = begun-same c (Hands p) tt nodes q ∙ was
begun-kept c (Leaves p set own places) nodes m q was = begun-same c (Leaves p set own places) tt nodes q ∙ was
begun-kept c (Asks p kind) nodes m q was = begun-same c (Asks p kind) tt nodes q ∙ was
begun-kept c (Settles p) nodes m q was = begun-same c (Settles p) tt nodes q ∙ was
begun-kept c (Commits p) nodes m q was = begun-same c (Commits p) tt nodes q ∙ was
begun-kept c (Crashes p) nodes m q was = begun-same c (Crashes p) tt nodes q ∙ was
begun-kept c (Recovers p) nodes m q was = begun-same c (Recovers p) tt nodes q ∙ was
begun-kept c (Copies p joiner) nodes m q was = begun-same c (Copies p joiner) tt nodes q ∙ was
