-- Every small step keeps the facts about nodes: who has begun has greens and a disk of its own, a joiner has one snapshot at most
-- and with it a copy, and before the start there is nothing.
use Rattle.std.proofs.Common.{◌≡◌, ℕ, ◌≤◌, Bool, true, false, cond, not, ◌&&◌, List, [], ◌∷◌, map, filter, find, fold, length, Option, Some, None, IfSome, refl, sym, ap, ap₂, subst, ◌∙◌, ⊎_elim, arith, is_some, option_map, option_and_then, eqb-true, eq-eqb}
use Rattle.std.specs.Prelude.{◌==◌, ◌||◌, nat_lt, is_none}
use Rattle.std.specs.Option.{option_map_or}
use Rattle.std.specs.List.{list_all}
use Rattle.std.proofs.lemmas.Bool.{cases_Bool, cond-true, cond-false, and_parts, and_from, or_left}
use Rattle.cg_base.specs.declared.weighted.Weighted.{Weighted}
use Rattle.cg_base.specs.Sets.{has}
use Rattle.cg_base.specs.Text.{is_nil}
use Rattle.cg_base.specs.Weights.{ids}
use Rattle.cg_group.specs.State.{is_regular}
use Rattle.cg_group.specs.Ready.{ready}
use Rattle.cg_group.specs.Refusals.{receive_refusal, not_up, not_regular, no_such_place, already_received, earlier_missing}
use Rattle.cg_group.specs.LookupLaws.{at-cond, eqb_comm}
use Rattle.cg_client.specs.Replica.{Held, Replica, fresh}
use Rattle.cg_client.specs.Requests.{settle}
use Rattle.cg_client.specs.Turn.{Turn, begin}
use Rattle.cg_disk_records.specs.Stored.{stored_of, whiten}
use Rattle.cg_disk_records.specs.Crash.{new_disk, at_rest, recovered, disk_recovered}
use Rattle.cg_members.specs.Servers.{is_server}
use Rattle.cg_model.specs.World.{NodeState, Up, Down as DownLife, Node, TransferState, World, running, node_of, replica_of, has_begun, set_life, is_left}
use Rattle.cg_model.specs.Step.{begin_replica, joiner_replica, without_snapshot}
use Rattle.cg_model.specs.Chronicle.{Past, Copy, Chronicle, no_chronicle}
use Rattle.cg_model.specs.Looks.{past_of, greens_of, disk_held, on_disk, copied_for}
use Rattle.cg_model.specs.FactsNet.{PhaseSound, Hosted}
use Rattle.cg_model.specs.FactsReplica.{IsModeData}
use Rattle.cg_model.specs.Small.{Small, Starts, Makes, Enters, Orders, Receives, Hands, Leaves, Asks, Settles, Commits, Crashes, Recovers, Copies, Joins, start, small_step, turning_as, turning, commit_as, crash_as, recover_as, copy_as, join_with, changed_past, with_greens, written, struck, new_past, newly_green, take_request, take_newest, take_next, take_parting, coming, handed_next, leaving}
use Rattle.cg_model.specs.Smalls.{may_make, is_set, may_come, is_running}
use Rattle.cg_agree.proofs.BegunKept.{nothing-before, coming-begun}
use Rattle.cg_agree_lemmas.specs.ChronicleFacts.{node_of-set, past-begun}
use Rattle.cg_agree_lemmas.specs.GivenKept.{without-own, OneSnapshotEach, given-same, given-crashed, given-joined, given-more}
use Rattle.cg_agree_lemmas.specs.GroupKept.{leaving-regular}
use Rattle.cg_agree_lemmas.specs.HeldCommit.{recovered-id}
use Rattle.cg_agree_lemmas.specs.Keyed.{found-changed}
use Rattle.cg_agree.proofs.MoreThere.{NoneBegins, begun-same, begun-kept}
use Rattle.cg_agree_lemmas.specs.OneSteps.{MayJoin, may-join, may-enter, begun-set, running-begun}
use Rattle.cg_agree_lemmas.specs.UnorderedKept.{regular-where_ordered, first-none, refused-not}
use Rattle.cg_group.specs.RefusalLaws.{regular-up}
use Rattle.cg_agree_lemmas.specs.CoresSmall.{snapshots-begun}

-- ---- pasts

past-some : (c d : Chronicle) (f : Past → Past) (p : ℕ) → ((x : Past) → (f x).id ≡ x.id) → d.pasts ≡ changed_past f p c.pasts → (q : ℕ) → is_some (past_of d q) ≡ is_some (past_of c q)
past-some c d f p keeps is q =
    ap (λ xs. is_some (find (λ (x : Past). x.id == q) xs)) is ∙ ap (λ (o : Option Past). is_some o) (found-changed (λ (x : Past). x.id) f keeps p c.pasts q) ∙ at (q == p) (past_of c q) where
      mapped : (o : Option Past) → is_some (option_map f o) ≡ is_some o
      mapped None = refl
      mapped (Some x) = refl

      at : (b : Bool) (o : Option Past) → is_some (cond b (option_map f o) o) ≡ is_some o
      at true o = mapped o
      at false o = refl

-- ---- disks

abbrev pub OwnDisks : World → Type 0
OwnDisks w = (q : ℕ) → IfSome (disk_held w q) (λ h. h.id ≡ q)

disks-set : (w : World) (p : ℕ) (life : NodeState) → (on_disk life).id ≡ p → OwnDisks w → OwnDisks (set_life w p life)
disks-set w p life id old q = subst (λ o. IfSome o (λ h. h.id ≡ q)) (sym behind) (⊎_elim
    (λ y. subst (λ o. IfSome o (λ h. h.id ≡ q)) (sym (cond-true (q == p) (Some (on_disk life)) (disk_held w q) y)) (id ∙ sym (eqb-true q p y)))
    (λ n. subst (λ o. IfSome o (λ h. h.id ≡ q)) (sym (cond-false (q == p) (Some (on_disk life)) (disk_held w q) n)) (old q))
    (cases_Bool (q == p))) where
      behind : disk_held (set_life w p life) q ≡ cond (q == p) (Some (on_disk life)) (disk_held w q)
      behind = ap (λ (o : Option Node). option_map (λ s. on_disk s.life) o) (node_of-set w p life q)
          ∙ at-cond (λ (o : Option Node). option_map (λ s. on_disk s.life) o) (p == q) (Some (record { id = p; life = life })) (node_of w q)
          ∙ ap (λ b. cond b (Some (on_disk life)) (disk_held w q)) (eqb_comm p q)

disk-id : (c : Chronicle) (p : ℕ) (s : Node) → OwnDisks c.world → node_of c.world p ≡ Some s → (on_disk s.life).id ≡ p
disk-id c p s old e = subst (λ o. IfSome o (λ h. h.id ≡ p)) (ap (λ (o : Option Node). option_map (λ s. on_disk s.life) o) e) (old p)

-- ---- steps by which none begins

-- what such a step keeps
pub record Kept (c d : Chronicle) : Type 0 where
  pub past : (q : ℕ) → is_some (past_of d q) ≡ is_some (past_of c q)
  pub disk : OwnDisks d.world
  pub given : OneSnapshotEach d

given-of : (c : Chronicle) → Hosted c → OneSnapshotEach c
given-of c s = record { copied = s.copied; once = s.once }

kept-itself : (c d : Chronicle) → d.pasts ≡ c.pasts → d.world.nodes ≡ c.world.nodes → d.copies ≡ c.copies → d.world.snapshots ≡ c.world.snapshots → Hosted c → Kept c d
kept-itself c d pasts same copies snapshots old = record {
  past = λ q. ap (λ xs. is_some (find (λ (x : Past). x.id == q) xs)) pasts;
  disk = λ q. subst (λ xs. IfSome (option_map (λ (s : Node). on_disk s.life) (find (λ s. s.id == q) xs)) (λ h. h.id ≡ q)) (sym same) (old.disk q);
  given = given-same c d copies snapshots (given-of c old);
}

-- a turn, behind a change of the group
kept-turning : (c b : Chronicle) (p : ℕ) (part : Turn → Turn) → b.pasts ≡ c.pasts → b.world.nodes ≡ c.world.nodes → b.copies ≡ c.copies → b.world.snapshots ≡ c.world.snapshots → Hosted c → Kept c (turning b p part)
kept-turning c b p part pasts same copies snapshots old = at (node_of b.world p) refl where
  disks : OwnDisks b.world
  disks = (kept-itself c b pasts same copies snapshots old).disk

  life : (s : Node) (l : NodeState) → s.life ≡ l → node_of b.world p ≡ Some s → Kept c (turning_as b p part l)
  life s (DownLife disk green) is e = kept-itself c b pasts same copies snapshots old
  life s (Up r disk) is e =
      let d = turning_as b p part (Up r disk) in
      record {
        past = λ q. past-some b d (with_greens (newly_green r (part (begin r)).replica)) p (λ x. refl) refl q ∙ (kept-itself c b pasts same copies snapshots old).past q;
        disk = disks-set b.world p (Up (part (begin r)).replica disk) (ap (λ l. (on_disk l).id) (sym is) ∙ disk-id b p s disks e) disks;
        given = given-same c d copies snapshots (given-of c old);
      }

  at : (o : Option Node) → node_of b.world p ≡ o → Kept c (option_map_or (λ s. turning_as b p part s.life) o b)
  at None e = kept-itself c b pasts same copies snapshots old
  at (Some s) e = life s s.life refl e

whitened-id : (h : Held) → (stored_of (whiten h)).id ≡ h.id
unfolding whiten
whitened-id h = refl

kept-commits : (c : Chronicle) (p : ℕ) → IfSome (replica_of c.world p) (IsModeData c p) → Hosted c → Kept c (small_step c (Commits p))
unfolding small_step
kept-commits c p mode old = at (node_of c.world p) refl where
  life : (s : Node) (l : NodeState) → s.life ≡ l → node_of c.world p ≡ Some s → Kept c (commit_as c p l)
  life s (DownLife disk green) is e = kept-itself c c refl refl refl refl old
  life s (Up r disk) is e =
      let runs : replica_of c.world p ≡ Some r = ap (λ (o : Option Node). option_and_then (λ s. running s.life) o) e ∙ ap running is in
      let id = (subst (λ (o : Option Replica). IfSome o (IsModeData c p)) runs mode).id in
      record {
        past = past-some c (commit_as c p (Up r disk)) written p (λ x. refl) refl;
        disk = disks-set c.world p (Up (record r { held = whiten r.held }) (record disk { content = stored_of (whiten r.held) })) (whitened-id r.held ∙ id) old.disk;
        given = given-same c (commit_as c p (Up r disk)) refl refl (given-of c old);
      }

  at : (o : Option Node) → node_of c.world p ≡ o → Kept c (option_map_or (λ s. commit_as c p s.life) o c)
  at None e = kept-itself c c refl refl refl refl old
  at (Some s) e = life s s.life refl e

kept-crashes : (c : Chronicle) (p : ℕ) → Hosted c → Kept c (small_step c (Crashes p))
unfolding small_step
kept-crashes c p old = at (node_of c.world p) refl where
  life : (s : Node) (l : NodeState) → s.life ≡ l → node_of c.world p ≡ Some s → Kept c (crash_as c p l)
  life s (DownLife disk green) is e = kept-itself c c refl refl refl refl old
  life s (Up r disk) is e = record {
    past = past-some c (crash_as c p (Up r disk)) struck p (λ x. refl) refl;
    disk = disks-set c.world p (DownLife (at_rest disk) []) (ap (λ l. (on_disk l).id) (sym is) ∙ disk-id c p s old.disk e) old.disk;
    given = given-crashed c (crash_as c p (Up r disk)) p refl refl (given-of c old);
  }

  at : (o : Option Node) → node_of c.world p ≡ o → Kept c (option_map_or (λ s. crash_as c p s.life) o c)
  at None e = kept-itself c c refl refl refl refl old
  at (Some s) e = life s s.life refl e

kept-recovers : (c : Chronicle) (p : ℕ) → Hosted c → Kept c (small_step c (Recovers p))
unfolding small_step
kept-recovers c p old = at (node_of c.world p) refl where
  life : (s : Node) (l : NodeState) → s.life ≡ l → node_of c.world p ≡ Some s → Kept c (recover_as c l)
  life s (Up r disk) is e = kept-itself c c refl refl refl refl old
  life s (DownLife disk green) is e = record {
    past = λ q. refl;
    disk = disks-set c.world (recovered disk).held.id (Up (recovered disk) (disk_recovered disk)) (sym (recovered-id disk.content)) old.disk;
    given = given-same c (recover_as c (DownLife disk green)) refl refl (given-of c old);
  }

  at : (o : Option Node) → node_of c.world p ≡ o → Kept c (option_map_or (λ s. recover_as c s.life) o c)
  at None e = kept-itself c c refl refl refl refl old
  at (Some s) e = life s s.life refl e

-- a snapshot in place of another
kept-copies : (c : Chronicle) (p joiner : ℕ) → Hosted c → Kept c (small_step c (Copies p joiner))
unfolding small_step
kept-copies c p joiner old = at (replica_of c.world p) where
  at : (o : Option Replica) → Kept c (option_map_or (copy_as c p joiner) o c)
  at None = kept-itself c c refl refl refl refl old
  at (Some r) =
      let w = without_snapshot c.world joiner in
      let b : Chronicle = record c { world = w; copies = filter (λ x. not (x.joiner == joiner)) c.copies } in
      let d = copy_as c p joiner r in
      record {
        past = λ q. refl;
        disk = old.disk;
        given = given-more b d (record { joiner = joiner; giver = p; greens = greens_of c p }) (record { joiner = joiner; giver = p; content = r.held; taken = 0 }) refl refl
            (without-own (λ (x : Copy). x.giver) (λ x. x.joiner) joiner c.copies) (without-own (λ (s : TransferState). s.giver) (λ s. s.joiner) joiner c.world.snapshots) refl refl
            (given-joined c b joiner refl refl (given-of c old));
      }

pub kept-step : (c : Chronicle) (s : Small) → NoneBegins s → ((q : ℕ) → IfSome (replica_of c.world q) (IsModeData c q)) → Hosted c → Kept c (small_step c s)
unfolding small_step
kept-step c (Starts set) none mode old = absurd none
kept-step c (Joins joiner) none mode old = absurd none
kept-step c (Makes set) none mode old = kept-itself c (small_step c (Makes set)) refl refl refl refl old
kept-step c (Enters p) none mode old = kept-turning c (coming c p) p (take_newest c.world.group) refl refl refl refl old
kept-step c (Orders p) none mode old = kept-itself c (small_step c (Orders p)) refl refl refl refl old
kept-step c (Receives p place) none mode old = kept-itself c (small_step c (Receives p place)) refl refl refl refl old
kept-step c (Hands p) none mode old = kept-turning c (handed_next c p) p (take_next c.world.group p) refl refl refl refl old
kept-step c (Leaves p set own places) none mode old = kept-turning c (leaving c p set own) p (take_parting c.world.group p set places) refl refl refl refl old
kept-step c (Asks p kind) none mode old = kept-turning c c p (take_request kind) refl refl refl refl old
kept-step c (Settles p) none mode old = kept-turning c c p settle refl refl refl refl old
kept-step c (Commits p) none mode old = kept-commits c p (mode p) old
kept-step c (Crashes p) none mode old = kept-crashes c p old
kept-step c (Recovers p) none mode old = kept-recovers c p old
kept-step c (Copies p joiner) none mode old = kept-copies c p joiner old

-- ---- before the start

nodes-some : (w : World) (q : ℕ) → has_begun w q ≡ true → w.nodes ≡ [] → ⊥
nodes-some w q begun none = let clash : false ≡ true = sym (ap (λ xs. is_some (find (λ (s : Node). s.id == q) xs)) none) ∙ begun in cc

-- who receives a place is regular
received-regular : (c : Chronicle) (p place : ℕ) → is_none (receive_refusal c.world.group p place) ≡ true → is_regular c.world.group p ≡ true
unfolding receive_refusal
received-regular c p place e =
    let g = c.world.group in
    let up = first-none (not_up g p) (not_regular g p ∷ no_such_place g p place ∷ already_received g p place ∷ earlier_missing g p place ∷ []) e in
    let regular = first-none (not_regular g p) (no_such_place g p place ∷ already_received g p place ∷ earlier_missing g p place ∷ []) up.1 in
    refused-not (is_regular g p) _ regular.0

-- somebody has begun where a step may be made that isn't a start
someone : (c : Chronicle) (s : Small) → NoneBegins s → PhaseSound c → may_make c s ≡ true → (q : ℕ) × (has_begun c.world q ≡ true)
unfolding may_make
someone c (Starts set) none sound m = absurd none
someone c (Joins joiner) none sound m = absurd none
someone c (Makes set) none sound m = first set (and_parts (not (is_nil set) && is_set set) (list_all (may_come c) set) m) where
  first : (list : List ℕ) → ((not (is_nil list) && is_set list) ≡ true) × (list_all (may_come c) list ≡ true) → (q : ℕ) × (has_begun c.world q ≡ true)
  first [] parts = absurd (let clash : false ≡ true = parts.0 in cc)
  first (q ∷ list) parts = (q, coming-begun c (q ∷ list) q parts.1 (or_left (q == q) (has list q) (eq-eqb q q refl)))
someone c (Enters p) none sound m =
    let comes = (may-enter c p m).comes in
    (p, coming-begun c (p ∷ []) p (and_from (may_come c p) true comes refl) (or_left (p == p) false (eq-eqb p p refl)))
someone c (Orders p) none sound m = (p, running-begun c p (sound.up p ∙ regular-up c.world.group p (regular-where_ordered c.world.group p m)))
someone c (Receives p place) none sound m = (p, running-begun c p (sound.up p ∙ regular-up c.world.group p (received-regular c p place m)))
someone c (Hands p) none sound m = (p, running-begun c p (sound.up p ∙ regular-up c.world.group p (and_parts (is_regular c.world.group p) (nat_lt 0 (ready c.world.group p)) m).0))
someone c (Leaves p set own places) none sound m = (p, running-begun c p (sound.up p ∙ regular-up c.world.group p (leaving-regular c p set own places m)))
someone c (Asks p kind) none sound m = (p, running-begun c p (and_parts (is_running c p) (not (is_left c.world p)) m).0)
someone c (Settles p) none sound m = (p, running-begun c p m)
someone c (Commits p) none sound m = (p, running-begun c p m)
someone c (Crashes p) none sound m = (p, running-begun c p m)
someone c (Recovers p) none sound m = (p, (and_parts (has_begun c.world p) (not (is_running c p)) m).0)
someone c (Copies p joiner) none sound m = (p, running-begun c p (given-runs (replica_of c.world p) (and_parts (not (has_begun c.world joiner)) (option_map_or (λ (r : Replica). is_server r.held.members joiner) (replica_of c.world p) false) m).1)) where
  given-runs : (o : Option Replica) → option_map_or (λ r. is_server r.held.members joiner) o false ≡ true → is_some o ≡ true
  given-runs None e = e
  given-runs (Some r) e = refl

hosted-on : (c : Chronicle) (s : Small) → NoneBegins s → PhaseSound c → ((q : ℕ) → IfSome (replica_of c.world q) (IsModeData c q)) → may_make c s ≡ true → Hosted c → Hosted (small_step c s)
hosted-on c s none sound mode m old =
    let kept = kept-step c s none mode old in
    let one = someone c s none sound m in
    record {
      past = λ q. kept.past q ∙ old.past q ∙ sym (begun-same c s none old q);
      disk = kept.disk;
      copied = kept.given.copied;
      once = kept.given.once;
      before = λ empty. absurd (nodes-some (small_step c s).world one.0 (begun-kept c s old m one.0 one.1) empty);
    }

-- ---- a joiner

hosted-joins : (c : Chronicle) (joiner : ℕ) → MayJoin c joiner → Hosted c → Hosted (small_step c (Joins joiner))
unfolding small_step
hosted-joins c joiner may old = subst (λ (o : Option TransferState). Hosted (option_map_or (λ s. join_with c joiner s.content) o c)) (sym may.there) (record {
  past = λ q. ap (λ (o : Option Past). is_some o) (past-begun c.pasts new q absent) ∙ at-cond (λ (o : Option Past). is_some o) (joiner == q) (Some new) (past_of c q)
      ∙ ap₂ (λ b x. cond b true x) (eqb_comm joiner q) (old.past q) ∙ sym (begun-set (without_snapshot c.world joiner) joiner life q);
  disk = disks-set (without_snapshot c.world joiner) joiner life refl old.disk;
  copied = (given-joined c d joiner refl refl (given-of c old)).copied;
  once = (given-joined c d joiner refl refl (given-of c old)).once;
  before = λ empty. absurd (nodes-some d.world joiner (begun-set (without_snapshot c.world joiner) joiner life joiner ∙ cond-true (joiner == joiner) true (has_begun c.world joiner) (eq-eqb joiner joiner refl)) empty);
}) where
  content : Held
  content = may.snapshot.content

  new : Past
  new = new_past (copied_for c joiner) joiner

  life : NodeState
  life = Up (joiner_replica joiner content) (new_disk (joiner_replica joiner content).held)

  d : Chronicle
  d = join_with c joiner content

  no-past : (o : Option Past) → is_some o ≡ false → o ≡ None
  no-past None e = refl
  no-past (Some x) e = absurd (let clash : true ≡ false = e in cc)

  absent : past_of c joiner ≡ None
  absent = no-past (past_of c joiner) (old.past joiner ∙ may.fresh)

-- ---- the start

disks-begun : (set : List Weighted) (replicas : List ℕ) (w : World) → OwnDisks w → OwnDisks (fold (begin_replica set) w replicas)
disks-begun set [] w old = old
disks-begun set (p ∷ replicas) w old = disks-begun set replicas (begin_replica set w p) (disks-set w p (Up (fresh p set) (new_disk (fresh p set).held)) refl old)

begun-where : (set : List Weighted) (replicas : List ℕ) (w : World) (q : ℕ) → has_begun (fold (begin_replica set) w replicas) q ≡ cond (has replicas q) true (has_begun w q)
begun-where set [] w q = refl
begun-where set (p ∷ replicas) w q =
    begun-where set replicas (begin_replica set w p) q ∙ ap (cond (has replicas q) true) (begun-set w p (Up (fresh p set) (new_disk (fresh p set).held)) q)
    ∙ ap (λ b. cond (has replicas q) true (cond b true (has_begun w q))) (eqb_comm q p) ∙ by (p == q) (has replicas q) (has_begun w q) where
      by : (a b x : Bool) → cond b true (cond a true x) ≡ cond (a || b) true x
      by true true x = refl
      by true false x = refl
      by false true x = refl
      by false false x = refl

pasts-where : (replicas : List ℕ) (q : ℕ) → is_some (find (λ (x : Past). x.id == q) (map (new_past []) replicas)) ≡ cond (has replicas q) true false
pasts-where [] q = refl
pasts-where (p ∷ replicas) q = ⊎_elim
    (λ y. rw y refl)
    (λ n. rw n (pasts-where replicas q))
    (cases_Bool (p == q))

hosted-starts : (c : Chronicle) (set : List Weighted) → c ≡ no_chronicle → Hosted c → Hosted (start c set)
hosted-starts c set is old = subst (λ (x : Chronicle). Hosted x → Hosted (start x set)) (sym is) begins old where
  nobody : (set : List Weighted) → (start no_chronicle set).world.nodes ≡ [] → start no_chronicle set ≡ no_chronicle
  nobody [] empty = refl
  nobody (w ∷ rest) empty = absurd (nodes-some (start no_chronicle (w ∷ rest)).world w.id
      (begun-where (w ∷ rest) (ids (w ∷ rest)) no_chronicle.world w.id ∙ cond-true (has (ids (w ∷ rest)) w.id) true false (or_left (w.id == w.id) (has (ids rest) w.id) (eq-eqb w.id w.id refl))) empty)

  begins : Hosted no_chronicle → Hosted (start no_chronicle set)
  begins first = record {
    past = λ q. pasts-where (ids set) q ∙ sym (begun-where set (ids set) no_chronicle.world q);
    disk = disks-begun set (ids set) no_chronicle.world first.disk;
    copied = λ j. ap (λ xs. map (λ (s : TransferState). s.giver) (filter (λ s. s.joiner == j) xs)) (sym (snapshots-begun set (ids set) no_chronicle.world));
    once = λ j. subst (λ xs. length (filter (λ (s : TransferState). s.joiner == j) xs) ≤ 1) (sym (snapshots-begun set (ids set) no_chronicle.world)) (let e : 0 ≤ 1 = omega arith in e);
    before = λ empty. nobody set empty;
  }

-- ---- all of them

pub hosted-kept : (c : Chronicle) (s : Small) → Hosted c → PhaseSound c → ((q : ℕ) → IfSome (replica_of c.world q) (IsModeData c q)) → may_make c s ≡ true → Hosted (small_step c s)
unfolding may_make small_step
hosted-kept c (Starts set) old sound mode m = hosted-starts c set (nothing-before c old (and_parts (is_nil c.world.nodes) (is_set (ids set)) m).0) old
hosted-kept c (Joins joiner) old sound mode m = hosted-joins c joiner (may-join c joiner m) old
hosted-kept c (Makes set) old sound mode m = hosted-on c (Makes set) tt sound mode m old
hosted-kept c (Enters p) old sound mode m = hosted-on c (Enters p) tt sound mode m old
hosted-kept c (Orders p) old sound mode m = hosted-on c (Orders p) tt sound mode m old
hosted-kept c (Receives p place) old sound mode m = hosted-on c (Receives p place) tt sound mode m old
hosted-kept c (Hands p) old sound mode m = hosted-on c (Hands p) tt sound mode m old
hosted-kept c (Leaves p set own places) old sound mode m = hosted-on c (Leaves p set own places) tt sound mode m old
hosted-kept c (Asks p kind) old sound mode m = hosted-on c (Asks p kind) tt sound mode m old
hosted-kept c (Settles p) old sound mode m = hosted-on c (Settles p) tt sound mode m old
hosted-kept c (Commits p) old sound mode m = hosted-on c (Commits p) tt sound mode m old
hosted-kept c (Crashes p) old sound mode m = hosted-on c (Crashes p) tt sound mode m old
hosted-kept c (Recovers p) old sound mode m = hosted-on c (Recovers p) tt sound mode m old
hosted-kept c (Copies p joiner) old sound mode m = hosted-on c (Copies p joiner) tt sound mode m old
