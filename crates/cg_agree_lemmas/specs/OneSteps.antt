-- Small steps in which one replica stands otherwise, and none of the others: what each makes of the group and of who is up.
use Rattle.std.proofs.Common.{◌≡◌, ℕ, suc, Bool, true, false, cond, not, ◌&&◌, List, Option, Some, None, IfSome, refl, sym, ap, ◌∙◌, subst, is_some, option_and_then, option_map}
use Rattle.std.specs.Prelude.{◌==◌, is_none}
use Rattle.std.specs.Option.{option_map_or}
use Rattle.std.proofs.lemmas.Bool.{and_parts, not-true}
use Rattle.cg_base.specs.Text.{is_nil}
use Rattle.cg_members.specs.Servers.{is_server}
use Rattle.cg_group.specs.declared.phase.Phase.{Phase}
use Rattle.cg_group.specs.declared.phase.Phase.TheVariants.{Down, Alone, Regular, Transitional}
use Rattle.cg_group.specs.State.{phase_of, is_up, is_regular, regular_in, delivered_to}
use Rattle.cg_group.specs.LookupLaws.{at-cond, eqb_comm, same_both}
use Rattle.cg_client.specs.Replica.{Held, Replica}
use Rattle.cg_client.specs.Turn.{Turn, begin}
use Rattle.cg_disk_records.specs.Crash.{recovered}
use Rattle.cg_model.specs.World.{NodeState, Up, Down as DownLife, Node, World, TransferState, running, node_of, has_begun, replica_of, set_life}
use Rattle.cg_model.specs.Chronicle.{Chronicle}
use Rattle.cg_model.specs.Looks.{disk_held, on_disk, snapshot_of, told_in, is_member, ordered_in}
use Rattle.cg_model.specs.FactsNet.{PhaseSound, Hosted}
use Rattle.cg_model.specs.Small.{Enters, Hands, Leaves, Commits, Crashes, Recovers, Copies, Joins, small_step, turning_as, turning, newest_conf, commit_as, crash_as, recover_as, copy_as, join_with, coming, take_newest, handed_next, take_next, leaving, take_parting}
use Rattle.cg_model.specs.Smalls.{may_join, may_enter, may_come, is_between, is_running}
use Rattle.cg_agree_lemmas.specs.ChronicleFacts.{node_of-set}
use Rattle.cg_agree_lemmas.specs.GroupTurn.{put-same}
use Rattle.cg_agree_lemmas.specs.HeldCommit.{recovered-id}
use Rattle.cg_agree_lemmas.specs.OneStands.{Stands, stands-refl, stands-again, stands-handed, stands-up, stands-entered, stands-parted, stands-down, stands-turning}
use Rattle.cg_group.specs.RefusalLaws.{regular-up}

-- behind the step one replica stands so, and is up or not; and who has begun has begun
pub record OneStep (c d : Chronicle) (p : ℕ) (now : Phase) (n : ℕ) (is : Bool) : Type 0 where
  pub stands : Stands c.world.group d.world.group p now n is
  pub runs : (q : ℕ) → is_some (replica_of d.world q) ≡ cond (q == p) is (is_some (replica_of c.world q))
  pub begun : (q : ℕ) → has_begun c.world q ≡ true → has_begun d.world q ≡ true

-- ---- nodes

-- a node with another life: it is up or not
pub runs-set : (w : World) (p : ℕ) (life : NodeState) (q : ℕ) → is_some (replica_of (set_life w p life) q) ≡ cond (q == p) (is_some (running life)) (is_some (replica_of w q))
runs-set w p life q =
    ap (λ (o : Option Node). is_some (option_and_then (λ s. running s.life) o)) (node_of-set w p life q)
    ∙ at-cond (λ (o : Option Node). is_some (option_and_then (λ s. running s.life) o)) (p == q) (Some (record { id = p; life = life })) (node_of w q)
    ∙ ap (λ b. cond b (is_some (running life)) (is_some (replica_of w q))) (eqb_comm p q)

pub begun-set : (w : World) (p : ℕ) (life : NodeState) (q : ℕ) → has_begun (set_life w p life) q ≡ cond (q == p) true (has_begun w q)
begun-set w p life q =
    ap (λ (o : Option Node). is_some o) (node_of-set w p life q)
    ∙ at-cond (λ (o : Option Node). is_some o) (p == q) (Some (record { id = p; life = life })) (node_of w q)
    ∙ ap (λ b. cond b true (has_begun w q)) (eqb_comm p q)

pub begun-more : (w : World) (p : ℕ) (life : NodeState) (q : ℕ) → has_begun w q ≡ true → has_begun (set_life w p life) q ≡ true
begun-more w p life q was = begun-set w p life q ∙ ap (cond (q == p) true) was ∙ same_both (q == p) true

-- the same nodes are there, and the same are up
pub record SameNodes (v w : World) : Type 0 where
  pub runs : (q : ℕ) → is_some (replica_of w q) ≡ is_some (replica_of v q)
  pub begun : (q : ℕ) → has_begun w q ≡ has_begun v q

pub same-life : (w : World) (p : ℕ) (s : Node) (life : NodeState) → node_of w p ≡ Some s → is_some (running life) ≡ is_some (running s.life) → SameNodes w (set_life w p life)
same-life w p s life e same = record {
  runs = λ q. runs-set w p life q ∙ put-same (λ q. is_some (replica_of w q)) p (is_some (running life))
      (ap (λ (o : Option Node). is_some (option_and_then (λ s. running s.life) o)) e ∙ sym same) q;
  begun = λ q. begun-set w p life q ∙ put-same (λ q. has_begun w q) p true (ap (λ (o : Option Node). is_some o) e) q;
}

pub nodes-turning : (c : Chronicle) (p : ℕ) (part : Turn → Turn) → SameNodes c.world (turning c p part).world
nodes-turning c p part = at (node_of c.world p) refl where
  life : (s : Node) (l : NodeState) → s.life ≡ l → node_of c.world p ≡ Some s → SameNodes c.world (turning_as c p part l).world
  life s (Up r disk) is e =
      let same = same-life c.world p s (Up (part (begin r)).replica disk) e (ap (λ l. is_some (running l)) (sym is)) in
      record { runs = same.runs; begun = same.begun }
  life s (DownLife disk green) is e = record { runs = λ q. refl; begun = λ q. refl }

  at : (o : Option Node) → node_of c.world p ≡ o → SameNodes c.world (option_map_or (λ s. turning_as c p part s.life) o c).world
  at None e = record { runs = λ q. refl; begun = λ q. refl }
  at (Some s) e = life s s.life refl e

-- ---- turns

-- a turn behind a change of how one replica stands
pub turning-step : (c b : Chronicle) (p : ℕ) (part : Turn → Turn) (now : Phase) (n : ℕ) → PhaseSound c → Stands c.world.group b.world.group p now n true → SameNodes c.world b.world →
    is_up c.world.group p ≡ true → OneStep c (turning b p part) p now n true
turning-step c b p part now n sound stands nodes up =
    let behind = nodes-turning b p part in
    record {
      stands = stands-again c.world.group b.world.group (turning b p part).world.group p now n true stands (stands-turning b p part);
      runs = λ q. behind.runs q ∙ nodes.runs q ∙ sym (put-same (λ q. is_some (replica_of c.world q)) p true (sound.up p ∙ up) q);
      begun = λ q was. behind.begun q ∙ nodes.begun q ∙ was;
    }

itself : (w : World) → SameNodes w w
itself w = record { runs = λ q. refl; begun = λ q. refl }

-- a replica that is up takes a turn in which it stands as before
pub turns-step : (c : Chronicle) (p : ℕ) (part : Turn → Turn) → PhaseSound c →
    OneStep c (turning c p part) p (phase_of c.world.group p) (delivered_to c.world.group p) (is_up c.world.group p)
turns-step c p part sound =
    let behind = nodes-turning c p part in
    record {
      stands = stands-turning c p part;
      runs = λ q. behind.runs q ∙ sym (put-same (λ q. is_some (replica_of c.world q)) p (is_up c.world.group p) (sound.up p) q);
      begun = λ q was. behind.begun q ∙ was;
    }

pub hands-step : (c : Chronicle) (p : ℕ) → PhaseSound c → is_regular c.world.group p ≡ true →
    OneStep c (small_step c (Hands p)) p (phase_of c.world.group p) (suc (delivered_to c.world.group p)) true
unfolding small_step
hands-step c p sound regular =
    let g = c.world.group in
    let up = regular-up g p regular in
    turning-step c (handed_next c p) p (take_next g p) (phase_of g p) (suc (delivered_to g p)) sound (stands-handed g p (suc (delivered_to g p)) up) (record { runs = λ q. refl; begun = λ q. refl }) up

pub leaves-step : (c : Chronicle) (p : ℕ) (set : List ℕ) (own : ℕ) (places : List ℕ) → PhaseSound c → is_regular c.world.group p ≡ true →
    OneStep c (small_step c (Leaves p set own places)) p (Transitional (regular_in (phase_of c.world.group p)) set) own true
unfolding small_step
leaves-step c p set own places sound regular =
    let g = c.world.group in
    turning-step c (leaving c p set own) p (take_parting g p set places) (Transitional (regular_in (phase_of g p)) set) own sound (stands-parted g p set own) (record { runs = λ q. refl; begun = λ q. refl }) (regular-up g p regular)

-- who may come is up, and not regular
pub coming-is_up : (c : Chronicle) (p : ℕ) → PhaseSound c → may_come c p ≡ true → is_up c.world.group p ≡ true
coming-is_up c p sound may =
    sym (sound.up p) ∙ at (replica_of c.world p) (and_parts (not (is_regular c.world.group p)) (option_map_or (λ r. is_between r.state) (replica_of c.world p) false) may).1 where
      at : (o : Option Replica) → option_map_or (λ r. is_between r.state) o false ≡ true → is_some o ≡ true
      at None e = absurd (let no' : false ≡ true = e in cc)
      at (Some r) e = refl

-- what may be entered
pub record MayEnter (c : Chronicle) (p : ℕ) : Type 0 where
  pub member : is_member c (newest_conf c.world.group) p ≡ true
  pub comes : may_come c p ≡ true
  pub untold : is_none (told_in c (newest_conf c.world.group) p) ≡ true
  pub unsaid : is_nil (ordered_in c (newest_conf c.world.group)) ≡ true

pub may-enter : (c : Chronicle) (p : ℕ) → may_enter c p ≡ true → MayEnter c p
may-enter c p may =
    let conf = newest_conf c.world.group in
    let one = and_parts (is_member c conf p && may_come c p && is_none (told_in c conf p)) (is_nil (ordered_in c conf)) may in
    let two = and_parts (is_member c conf p && may_come c p) (is_none (told_in c conf p)) one.0 in
    let three = and_parts (is_member c conf p) (may_come c p) two.0 in
    record { member = three.0; comes = three.1; untold = two.1; unsaid = one.1 }

pub enters-step : (c : Chronicle) (p : ℕ) → PhaseSound c → may_come c p ≡ true → OneStep c (small_step c (Enters p)) p (Regular (newest_conf c.world.group)) 0 true
unfolding small_step
enters-step c p sound may =
    let g = c.world.group in
    turning-step c (coming c p) p (take_newest g) (Regular (newest_conf g)) 0 sound (stands-entered (newest_conf g) g p) (record { runs = λ q. refl; begun = λ q. refl }) (coming-is_up c p sound may)

-- ---- commits, snapshots

pub commits-step : (c : Chronicle) (p : ℕ) → PhaseSound c → OneStep c (small_step c (Commits p)) p (phase_of c.world.group p) (delivered_to c.world.group p) (is_up c.world.group p)
unfolding small_step
commits-step c p sound = at (node_of c.world p) refl where
  same : (d : Chronicle) → d.world.group ≡ c.world.group → SameNodes c.world d.world → OneStep c d p (phase_of c.world.group p) (delivered_to c.world.group p) (is_up c.world.group p)
  same d e nodes = record {
    stands = subst (λ g. Stands c.world.group g p (phase_of c.world.group p) (delivered_to c.world.group p) (is_up c.world.group p)) (sym e) (stands-refl c.world.group p);
    runs = λ q. nodes.runs q ∙ sym (put-same (λ q. is_some (replica_of c.world q)) p (is_up c.world.group p) (sound.up p) q);
    begun = λ q was. nodes.begun q ∙ was;
  }

  life : (s : Node) (l : NodeState) → s.life ≡ l → node_of c.world p ≡ Some s → OneStep c (commit_as c p l) p (phase_of c.world.group p) (delivered_to c.world.group p) (is_up c.world.group p)
  life s (Up r disk) is e = same (commit_as c p (Up r disk)) refl (same-life c.world p s _ e (ap (λ l. is_some (running l)) (sym is)))
  life s (DownLife disk green) is e = same c refl (itself c.world)

  at : (o : Option Node) → node_of c.world p ≡ o → OneStep c (option_map_or (λ s. commit_as c p s.life) o c) p (phase_of c.world.group p) (delivered_to c.world.group p) (is_up c.world.group p)
  at None e = same c refl (itself c.world)
  at (Some s) e = life s s.life refl e

pub copies-step : (c : Chronicle) (p joiner : ℕ) → PhaseSound c → OneStep c (small_step c (Copies p joiner)) p (phase_of c.world.group p) (delivered_to c.world.group p) (is_up c.world.group p)
unfolding small_step
copies-step c p joiner sound = at (replica_of c.world p) where
  at : (o : Option Replica) → OneStep c (option_map_or (copy_as c p joiner) o c) p (phase_of c.world.group p) (delivered_to c.world.group p) (is_up c.world.group p)
  at None = record { stands = stands-refl c.world.group p; runs = λ q. sym (put-same (λ q. is_some (replica_of c.world q)) p (is_up c.world.group p) (sound.up p) q); begun = λ q was. was }
  at (Some r) = record { stands = stands-refl c.world.group p; runs = λ q. sym (put-same (λ q. is_some (replica_of c.world q)) p (is_up c.world.group p) (sound.up p) q); begun = λ q was. was }

-- ---- crashes, recoveries, joins

-- who is running sits there
pub record IsHosted (c : Chronicle) (p : ℕ) : Type 0 where
  pub node : Node
  pub there : node_of c.world p ≡ Some node

pub node-there : (c : Chronicle) (p : ℕ) → has_begun c.world p ≡ true → IsHosted c p
node-there c p begun = at (node_of c.world p) refl begun where
  at : (o : Option Node) → node_of c.world p ≡ o → is_some o ≡ true → IsHosted c p
  at None e no' = absurd (let clash : false ≡ true = no' in cc)
  at (Some s) e no' = record { node = s; there = e }

pub running-begun : (c : Chronicle) (p : ℕ) → is_running c p ≡ true → has_begun c.world p ≡ true
running-begun c p runs = at (node_of c.world p) runs where
  at : (o : Option Node) → is_some (option_and_then (λ s. running s.life) o) ≡ true → is_some o ≡ true
  at None e = e
  at (Some s) e = refl

pub crashes-step : (c : Chronicle) (p : ℕ) → is_running c p ≡ true → OneStep c (small_step c (Crashes p)) p Down 0 false
unfolding small_step
crashes-step c p up =
    let hosted = node-there c p (running-begun c p up) in
    subst (λ (o : Option Node). OneStep c (option_map_or (λ s. crash_as c p s.life) o c) p Down 0 false) (sym hosted.there)
    (life hosted.node hosted.node.life refl hosted.there (sym (ap (λ (o : Option Node). is_some (option_and_then (λ s. running s.life) o)) hosted.there) ∙ up)) where
      life : (s : Node) (l : NodeState) → s.life ≡ l → node_of c.world p ≡ Some s → is_some (running s.life) ≡ true → OneStep c (crash_as c p l) p Down 0 false
      life s (Up r disk) is e runs = record {
        stands = stands-down c.world.group p;
        runs = λ q. runs-set c.world p _ q;
        begun = λ q was. begun-more c.world p _ q was;
      }
      life s (DownLife disk green) is e runs = absurd (let clash : true ≡ false = sym runs ∙ ap (λ l. is_some (running l)) is in cc)

pub recovers-step : (c : Chronicle) (p : ℕ) → Hosted c → has_begun c.world p ≡ true → is_running c p ≡ false → OneStep c (small_step c (Recovers p)) p Alone 0 true
unfolding small_step
recovers-step c p nodes begun down =
    let hosted = node-there c p begun in
    subst (λ (o : Option Node). OneStep c (option_map_or (λ s. recover_as c s.life) o c) p Alone 0 true) (sym hosted.there)
    (life hosted.node hosted.node.life refl hosted.there (sym (ap (λ (o : Option Node). is_some (option_and_then (λ s. running s.life) o)) hosted.there) ∙ down)) where
      life : (s : Node) (l : NodeState) → s.life ≡ l → node_of c.world p ≡ Some s → is_some (running s.life) ≡ false → OneStep c (recover_as c l) p Alone 0 true
      life s (Up r disk) is e runs = absurd (let clash : false ≡ true = sym runs ∙ ap (λ l. is_some (running l)) is in cc)
      life s (DownLife disk green) is e runs =
          let of_disk : disk_held c.world p ≡ Some disk.content = ap (λ (o : Option Node). option_map (λ s. on_disk s.life) o) e ∙ ap (λ l. Some (on_disk l)) is in
          let id : disk.content.id ≡ p = subst (λ (o : Option Held). IfSome o (λ h. h.id ≡ p)) of_disk (nodes.disk p) in
          let own : (recovered disk).held.id ≡ p = recovered-id disk.content ∙ id in
          subst (λ (x : ℕ). OneStep c (recover_as c (DownLife disk green)) x Alone 0 true) own (record {
            stands = stands-up c.world.group (recovered disk).held.id;
            runs = λ q. runs-set c.world (recovered disk).held.id _ q;
            begun = λ q was. begun-more c.world (recovered disk).held.id _ q was;
          })

-- what may be joined
pub record MayJoin (c : Chronicle) (joiner : ℕ) : Type 0 where
  pub fresh : has_begun c.world joiner ≡ false
  pub snapshot : TransferState
  pub there : snapshot_of c.world joiner ≡ Some snapshot
  pub server : is_server snapshot.content.members joiner ≡ true

pub may-join : (c : Chronicle) (joiner : ℕ) → may_join c joiner ≡ true → MayJoin c joiner
may-join c joiner may =
    let parts = and_parts (not (has_begun c.world joiner)) (option_map_or (λ s. is_server s.content.members joiner) (snapshot_of c.world joiner) false) may in
    at (snapshot_of c.world joiner) refl (not-true (has_begun c.world joiner) parts.0) parts.1 where
      at : (o : Option TransferState) → snapshot_of c.world joiner ≡ o → has_begun c.world joiner ≡ false → option_map_or (λ s. is_server s.content.members joiner) o false ≡ true → MayJoin c joiner
      at None e fresh server = absurd (let clash : false ≡ true = server in cc)
      at (Some s) e fresh server = record { fresh = fresh; snapshot = s; there = e; server = server }

pub joins-step : (c : Chronicle) (joiner : ℕ) → MayJoin c joiner → OneStep c (small_step c (Joins joiner)) joiner Alone 0 true
unfolding small_step
joins-step c joiner may =
    subst (λ (o : Option TransferState). OneStep c (option_map_or (λ s. join_with c joiner s.content) o c) joiner Alone 0 true) (sym may.there) (record {
      stands = stands-up c.world.group joiner;
      runs = λ q. runs-set c.world joiner _ q;
      begun = λ q was. begun-more c.world joiner _ q was;
    })
