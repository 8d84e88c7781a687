-- What each call of an engine answers.
use Rattle.std.specs.Prelude.{◌≡◌, ◌⊎◌, ℕ, Bool, List, [], Result, Ok, Err, if◌then◌else◌}
use Rattle.cg_base.specs.declared.action_id.ActionId.{ActionId}
use Rattle.cg_base.specs.declared.weighted.Weighted.{Weighted}
use Rattle.cg_base.specs.Choice.{Either}
use Rattle.cg_disk.specs.Calls.{Begins}
use Rattle.cg_disk.specs.Sides.{Image}
use Rattle.cg_disk.specs.View.{DiskView, LeavesOnly}
use Rattle.cg_journal.specs.Fresh.{IsLostWithin, IsRefusedWithin}
use Rattle.cg_queue.specs.Queue.{green_count}
use Rattle.cg_client.specs.declared.parts.DraftParts.{DraftParts}
use Rattle.cg_client.specs.Replica.{Replica, fresh_held, fresh}
use Rattle.cg_client.specs.Turn.{Turn}
use Rattle.cg_disk_records.specs.Stored.{recovery_turn}
use Rattle.cg_disk_records.specs.Commit.{commits}
use Rattle.cg_disk_records.specs.Crash.{whitened}
use Rattle.cg_disk_records.specs.Recovery.{recovery_calls}
use Rattle.cg_store.specs.Answers.{IsReached, EachMoment}
use Rattle.cg_store.specs.Calls.{Keeps, EndsWritten, IsOneOfThree}
use Rattle.cg_store.specs.StoreState.{StoreState}
use Rattle.cg_store.specs.Formats.{Standing, StandsFor, opened}
use Rattle.cg_store.specs.Migrating.{IsOpening, IsLostOpening, IsOpeningRefused}
use Rattle.cg_store.specs.Opening.{IsNoStore}
use Rattle.cg_store.specs.Stands.{OnDisk, Stands, committed, checkpointed, created}
use Rattle.cg_store.specs.declared.errors.CommitErr.{CommitErr}
use Rattle.cg_store.specs.declared.errors.CommitErr.TheVariants.{Lost, NoMemory as NoMemoryErr}
use Rattle.cg_store.specs.declared.outputs.Outputs.{Outputs}
use Rattle.cg_engine.specs.Engines.{Up, Fallen, told}
use Rattle.cg_engine.specs.declared.answers.Started.{Started}
use Rattle.cg_engine.specs.declared.answers.Started.TheVariants as started
use Rattle.cg_engine.specs.declared.answers.Handled.{Handled}
use Rattle.cg_engine.specs.declared.answers.Handled.TheVariants as handled
use Rattle.cg_engine.specs.declared.answers.Recovered.{Recovered}
use Rattle.cg_engine.specs.declared.answers.Recovered.TheVariants as recovered

-- ---- an event

-- what an event has brought about
abbrev pub parts_of : Turn → DraftParts
parts_of t = record {
  known = t.known;
  green = t.green;
  made = t.made;
  sent = t.sent;
  replies = t.replies;
  marked_own = t.marked_own;
}

-- how the event ended at the store
abbrev pub answer_of : {D : Type 0} → Handled D → Result (StoreState D × Outputs) (CommitErr D)
answer_of (handled.Running e outputs) = Ok (e.store, outputs)
answer_of (handled.Down w) = Err (Lost w.disk)
answer_of (handled.NoMemory w) = Err (NoMemoryErr w.disk)

-- the replica behind an event: where it was written its white count has risen
abbrev pub replica_behind : Bool → Replica → Replica
replica_behind written r = if written then whitened r else r

-- whose the disk is that is left, and how many greens stood before the event
pub record IsLeft {D : Type 0} (id count : ℕ) (w : Fallen D) : Type 0 where
  pub id_is : w.id ≡ id
  pub count_is : w.count ≡ count

-- the replica behind the event; or, with the disk, the names newly green, unless it stands for the state before the event
abbrev pub Leaves : {D : Type 0} → (D → DiskView) → ℕ → ℕ → OnDisk → Turn → Bool → Handled D → Type 0
Leaves view id count u t written (handled.Running e outputs) = e.replica ≡ replica_behind written t.replica
Leaves view id count u t written (handled.Down w) = IsLeft id count w × (w.green ≡ t.green)
Leaves view id count u t written (handled.NoMemory w) =
    IsLeft id count w × ((w.green ≡ t.green) ⊎ Stands id (view w.disk).reads u)

-- an image in an event: of the state before, or of the one behind, in the records before a checkpoint or in it
abbrev pub IsBetween : Bool → ℕ → OnDisk → OnDisk → Image → Type 0
IsBetween written id u v c = Either written (IsOneOfThree id u v (checkpointed v) c) (Stands id c u)

-- an event that is written makes one commit, and one that isn't makes no call: how it ends, and what each moment leaves
pub record EndsEvent {D : Type 0} (view : D →
    DiskView) (k : StoreState D) (count : ℕ) (u : OnDisk) (t : Turn) (written : Bool) (result : Handled D) : Type 0 where
  pub ends : (let v = committed k.unwritten t u in
      Either written (EndsWritten view k u v (parts_of t) (answer_of result)) (Keeps k (parts_of t) (answer_of result)))
  pub leaves : Leaves view k.id count u t written result
  pub moments : EachMoment view (λ done. done.0.disk) (IsBetween written k.id u (committed k.unwritten t u)) (view
      k.disk) (answer_of result)

-- so it is behind the disk's `begin`
pub record HandlesEvent {D : Type 0} (view : D →
    DiskView) (old : Up D) (u : OnDisk) (t : Turn) (result : Handled D) : Type 0 where
  pub disk : D
  pub begins : Begins (view old.store.disk) (view disk)
  pub ends : (let k = old.store in
      EndsEvent view (record k { disk = disk }) (green_count old.replica.held.queue) u
      t (commits old.replica.held t) result)

-- ---- a new replica, and one that comes up

-- nothing is to be told
pub record IsBare {D : Type 0} (id : ℕ) (w : Fallen D) : Type 0 where
  pub id_is : w.id ≡ id
  pub green : w.green ≡ []

pub record IsStarted {D : Type 0} (view : D →
    DiskView) (id : ℕ) (set : List Weighted) (old : DiskView) (e : Up D) : Type 0 where
  pub reached : IsReached id 7 (created (fresh_held id set)) old (view e.store.disk)
  pub id_is : e.store.id ≡ id
  pub unwritten : e.store.unwritten ≡ []
  pub replica : e.replica ≡ fresh id set

-- after `Down` and `NoMemory` the disk may be no store
abbrev pub Starts : {D : Type 0} → (D → DiskView) → ℕ → List Weighted → DiskView → Started D → Type 0
Starts view id set old (started.Running e) = IsStarted view id set old e
Starts view id set old (started.Down w) = IsLostWithin 7 old (view w.disk) × IsBare id w
Starts view id set old (started.NoMemory w) = IsRefusedWithin 7 old (view w.disk) × IsBare id w

-- the replica that comes up from the state that its disk stands for, and the names of its last event that are green there;
-- the disk has gone over to the newer format
pub record IsRecovered {D : Type 0} (view : D →
    DiskView) (w : Fallen D) (e : Up D) (green : List ActionId) : Type 0 where
  pub standing : Standing
  pub stands : StandsFor w.id (view w.disk).reads standing
  pub replica : e.replica ≡ (recovery_turn standing.on.content).replica
  pub id_is : e.store.id ≡ w.id
  pub unwritten : e.store.unwritten ≡ (recovery_turn standing.on.content).known
  pub reached : IsReached w.id (recovery_calls standing.format) (opened standing) (view w.disk) (view e.store.disk)
  pub moments : LeavesOnly (view w.disk) (view e.store.disk) (IsOpening w.id (view w.disk))
  pub green_is : green ≡ told w standing.on.content

-- the same is to be told of it later
pub record IsStill {D : Type 0} (old new : Fallen D) : Type 0 where
  pub id_is : new.id ≡ old.id
  pub count_is : new.count ≡ old.count
  pub green_is : new.green ≡ old.green

abbrev pub Recovers : {D : Type 0} → (D → DiskView) → Fallen D → Recovered D → Type 0
Recovers view w (recovered.Running e green) = IsRecovered view w e green
Recovers view w (recovered.Down x) = IsLostOpening w.id (view w.disk) (view x.disk) × IsStill w x
Recovers view w (recovered.NotAStore x) = IsNoStore w.id (view w.disk) (view x.disk) × IsStill w x
Recovers view w (recovered.NoMemory x) = IsOpeningRefused w.id (view w.disk) (view x.disk) × IsStill w x

-- a crash between two events, of which nothing is to be told
pub record Falls {D : Type 0} (old : Up D) (w : Fallen D) : Type 0 where
  pub disk : w.disk ≡ old.store.disk
  pub left : IsLeft old.store.id (green_count old.replica.held.queue) w
  pub green : w.green ≡ []
