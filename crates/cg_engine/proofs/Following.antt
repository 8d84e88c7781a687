-- A replica follows what an event, a new disk and a recovery leave on its disk.
use Rattle.std.proofs.Common.{◌≡◌, List, [], refl, sym, ◌∙◌, ap, subst}
use Rattle.cg_base.specs.declared.action_id.ActionId.{ActionId}
use Rattle.cg_action.specs.declared.action.Action.{Action}
use Rattle.cg_client.specs.Replica.{Held, Replica}
use Rattle.cg_disk_records.specs.Stored.{Stored, stored_of, whiten, recovery_turn}
use Rattle.cg_disk_records.specs.Following.{IsAhead}
use Rattle.cg_disk_records.specs.Crash.{Disk}
use Rattle.cg_model.specs.Following.{Follows}
use Rattle.cg_disk_records.specs.Holds.{Holds}
use Rattle.cg_disk_records.specs.Always.{AlwaysHolds, AlwaysCounts, AlwaysSettled}
use Rattle.cg_model.specs.Recorded.{AlwaysKept, AlwaysRecorded, AlwaysAhead, AreBooked}
use Rattle.cg_states.specs.ReplicaStep.{Input, replica_step}
use Rattle.cg_store.specs.Opening.{IsSound}
use Rattle.cg_store.specs.Stands.{OnDisk, disk_of, committed, checkpointed}
use Rattle.cg_engine.specs.Ending.{MayEnd}
use Rattle.cg_engine.proofs.Values.{same_commits}

module _ (holds : AlwaysHolds) (counts : AlwaysCounts) (settled : AlwaysSettled) (records : AlwaysRecorded) (ahead : AlwaysAhead) where
  -- a disk that has what a commit leaves
  behind_commit : (disk : Disk) (h : Held) → Holds h → disk.content ≡ stored_of (whiten h) → disk.unwritten ≡ [] → Follows disk (whiten h)
  behind_commit disk h is same none = record {
    on_disk = record {
      content = subst Holds (sym same) (holds.stored (whiten h) (holds.whitened h is));
      buffered = ap (λ (s : Stored). s.buffered) same;
      owed = ap (λ (s : Stored). s.owed) same;
    };
    held = holds.whitened h is;
    ahead = subst (λ (u : List Action). IsAhead disk.content u (whiten h)) (sym none) (subst (λ (s : Stored). IsAhead s [] (whiten h)) (sym same) (ahead.committed h));
  }

  pub may_end : AlwaysKept → (unwritten : List Action) (u : OnDisk) (r : Replica) (input : Input) (book : ActionId → Action) → Follows (disk_of unwritten u) r.held → AreBooked book r.held input →
      MayEnd unwritten u (replica_step r input)
  may_end kept unwritten u r input book follows booked =
      let t = replica_step r input in
      let is = kept.step r input follows.held in
      let recorded = records u.content unwritten r input book follows.held follows.ahead booked in
      record {
        recorded = recorded.commit;
        agrees = settled t.replica.held is;
        line = counts.line t.replica.held is;
        changed = behind_commit (disk_of [] (committed unwritten t u)) t.replica.held is refl refl;
        saved = behind_commit (disk_of [] (checkpointed (committed unwritten t u))) t.replica.held is refl refl;
        kept = λ none. record {
          on_disk = record { content = follows.on_disk.content; buffered = follows.on_disk.buffered; owed = follows.on_disk.owed };
          held = is;
          ahead = recorded.keep (sym (same_commits u.content unwritten r.held t follows.ahead) ∙ none);
        };
      }

  -- a replica that has come up follows its disk
  pub recovered_follows : (u : OnDisk) → IsSound u.content → Follows (disk_of (recovery_turn u.content).known u) (recovery_turn u.content).replica.held
  recovered_follows u sound = record {
    on_disk = record { content = sound.holds; buffered = sound.buffered; owed = sound.owed };
    held = holds.recovered u.content sound.holds;
    ahead = ahead.recovered u.content sound.holds sound.buffered sound.owed;
  }
