-- A replica follows its disk, event by event, whatever strikes.
use Rattle.std.proofs.Common.{nat_lt, ◌⊎◌, ◌≡◌, ◌-◌, List, [], ◌++◌, cond, Bool, true, false, Option, Some, None, refl, sym, ap, subst, inl, inr, if◌then◌else◌, nat_le}
use Rattle.std.proofs.lemmas.Bool.{cases_Bool}
use Rattle.cg_base.specs.declared.action_id.ActionId.{ActionId}
use Rattle.cg_action.specs.declared.action.Action.{Action}
use Rattle.cg_client.specs.Replica.{Held, Replica}
use Rattle.cg_client.specs.Turn.{Turn}
use Rattle.cg_disk_records.specs.Stored.{Stored, stored_of, whiten}
use Rattle.cg_disk_records.specs.Following.{IsAhead}
use Rattle.cg_states.specs.ReplicaStep.{Input, replica_step}
use Rattle.cg_disk_records.specs.Commit.{commits}
use Rattle.cg_disk_records.specs.Checkpoint.{size_limit}
use Rattle.cg_disk_records.specs.Crash.{Strike, Disk, new_disk, with_change, with_checkpoint, calls_of, checkpointed, is_committed, is_checkpointed, at_rest, crash_outcome, Runs, whitened, struck, commit_under, end_event}
use Rattle.cg_disk_records.specs.Holds.{Holds}
use Rattle.cg_model.specs.Recorded.{AreBooked}
use Rattle.cg_model.specs.Following.{DiskHolds, Follows, EndsFollowing, AlwaysFollows}
use Rattle.cg_disk_records.specs.HoldsValueLaws.{holds-stored, holds-whiten}
use Rattle.cg_disk_records.specs.KnownLaws.{holds-recovered}
use Rattle.cg_model.proofs.Steps.{holds-step}
use Rattle.cg_model.proofs.Recording.{always-recorded, always-ahead}

-- a disk that has what a commit leaves
committed-holds : (disk : Disk) (h : Held) → Holds h → disk.content ≡ stored_of (whiten h) → DiskHolds disk
committed-holds disk h is same = record {
  content = subst Holds (sym same) (holds-stored (whiten h) (holds-whiten h is));
  buffered = ap (λ (s : Stored). s.buffered) same;
  owed = ap (λ (s : Stored). s.owed) same;
}

committed-follows : (disk : Disk) (h : Held) → Holds h → disk.content ≡ stored_of (whiten h) → disk.unwritten ≡ [] → Follows disk (whiten h)
committed-follows disk h is same none = record {
  on_disk = committed-holds disk h is same;
  held = holds-whiten h is;
  ahead = subst (λ (u : List Action). IsAhead disk.content u (whiten h)) (sym none)
      (subst (λ (s : Stored). IsAhead s [] (whiten h)) (sym same) (always-ahead.committed h));
}

record Committed (disk : Disk) (h : Held) : Type 0 where
  content : disk.content ≡ stored_of (whiten h)
  unwritten : disk.unwritten ≡ []

changed : (disk : Disk) (t : Turn) → Committed (with_change disk t) t.replica.held
unfolding with_change
changed disk t = record { content = refl; unwritten = refl }

with-checkpoint : (disk : Disk) (h : Held) → Committed disk h → Committed (with_checkpoint disk) h
unfolding with_checkpoint
with-checkpoint disk h is = record { content = is.content; unwritten = is.unwritten }

with-long : (disk : Disk) (h : Held) → Committed disk h → Committed (checkpointed disk) h
with-long disk h is = at (nat_lt size_limit disk.size) where
  at : (b : Bool) → Committed (if b then with_checkpoint disk else disk) h
  at true = with-checkpoint disk h is
  at false = is

-- ---- a commit

rest-holds : (disk : Disk) → DiskHolds disk → DiskHolds (at_rest disk)
rest-holds disk is = record { content = is.content; buffered = is.buffered; owed = is.owed }

struck-ends : (disk : Disk) (t : Turn) (strike : Strike) → DiskHolds disk → Holds t.replica.held → EndsFollowing disk t (struck disk t strike)
unfolding crash_outcome
struck-ends disk t strike on_disk is =
    (rest-holds (crash_outcome disk t strike) (outcome (is_checkpointed strike) (is_committed strike)), refl, stands (is_checkpointed strike) (is_committed strike))
  where
    outcome : (a b : Bool) → DiskHolds (if a then with_checkpoint (with_change disk t) else if b then with_change disk t else disk)
    outcome true b = let c = with-checkpoint (with_change disk t) t.replica.held (changed disk t) in committed-holds (with_checkpoint (with_change disk t)) t.replica.held is c.content
    outcome false true = let c = changed disk t in committed-holds (with_change disk t) t.replica.held is c.content
    outcome false false = on_disk

    stands : (a b : Bool) → let d = (if a then with_checkpoint (with_change disk t) else if b then with_change disk t else disk) in
        (d.content ≡ disk.content) ⊎ (d.content ≡ stored_of (whiten t.replica.held))
    stands true b = inr (with-checkpoint (with_change disk t) t.replica.held (changed disk t)).content
    stands false true = inr (changed disk t).content
    stands false false = inl refl

commit-ends : (armed : Option Strike) (disk : Disk) (t : Turn) → DiskHolds disk → Holds t.replica.held → EndsFollowing disk t (commit_under armed disk t)
commit-ends None disk t on_disk is =
    let c = with-long (with_change disk t) t.replica.held (changed disk t) in
    committed-follows (checkpointed (with_change disk t)) t.replica.held is c.content c.unwritten
commit-ends (Some strike) disk t on_disk is = at (nat_le strike.call (calls_of (with_change disk t))) where
  at : (b : Bool) → EndsFollowing disk t (if b then struck disk t strike else (let d = checkpointed (with_change disk t) in Runs (whitened t.replica) (record d { armed = Some (record strike { call = strike.call - calls_of (with_change disk t) }) })))
  at true = struck-ends disk t strike on_disk is
  at false =
      let c = with-long (with_change disk t) t.replica.held (changed disk t) in
      let d = checkpointed (with_change disk t) in
      committed-follows (record d { armed = Some (record strike { call = strike.call - calls_of (with_change disk t) }) }) t.replica.held is c.content c.unwritten

event-ends : (disk : Disk) (r : Replica) (input : Input) (book : ActionId → Action) → Follows disk r.held → AreBooked book r.held input →
    EndsFollowing disk (replica_step r input) (end_event disk r.held (replica_step r input))
unfolding end_event
event-ends disk r input book follows booked =
    let t = replica_step r input in
    let is = holds-step r input follows.held in
    let recorded = always-recorded disk.content disk.unwritten r input book follows.held follows.ahead booked in
    elim (cases_Bool (commits r.held t)) [
      | inl writes ↦ subst (λ b. EndsFollowing disk t (cond b (commit_under disk.armed disk t) (Runs t.replica (record disk { unwritten = disk.unwritten ++ t.known })))) (sym writes) (commit-ends disk.armed disk t follows.on_disk is)
      | inr none ↦ subst (λ b. EndsFollowing disk t (cond b (commit_under disk.armed disk t) (Runs t.replica (record disk { unwritten = disk.unwritten ++ t.known })))) (sym none) (record {
        on_disk = record { content = follows.on_disk.content; buffered = follows.on_disk.buffered; owed = follows.on_disk.owed };
        held = is;
        ahead = recorded.keep none;
      })
    ]

-- ---- a new disk, and a recovery

new-follows : (s : Stored) → Holds s → s.buffered ≡ [] → s.owed ≡ [] → Follows (new_disk s) s
new-follows s is buffered owed = record {
  on_disk = record { content = is; buffered = buffered; owed = owed };
  held = is;
  ahead = λ i. Some (record s { buffered = buffered i; owed = owed i });
}

pub always-follows : AlwaysFollows
always-follows = record {
  new = λ s is buffered owed. new-follows s is buffered owed;
  event = λ disk r input book follows booked. event-ends disk r input book follows booked;
  crash = λ disk is. rest-holds disk is;
  recovery = λ disk is. record {
    on_disk = record { content = is.content; buffered = is.buffered; owed = is.owed };
    held = holds-recovered disk.content is.content;
    ahead = always-ahead.recovered disk.content is.content is.buffered is.owed;
  };
}
