-- How the parts of an engine's calls hand on to one another.
use Rattle.std.specs.Prelude.{◌≡◌, ℕ, nat_lt, Bool, false, List, [], ◌++◌, Result, Ok, Err, if◌then◌else◌}
use Rattle.cg_action.specs.declared.action.Action.{Action}
use Rattle.cg_disk.specs.View.{DiskView}
use Rattle.cg_queue.specs.Queue.{green_count}
use Rattle.cg_client.specs.Replica.{Held, Replica}
use Rattle.cg_client.specs.Turn.{Turn}
use Rattle.cg_client.specs.Calls.{IsLineGreen}
use Rattle.cg_disk_records.specs.Stored.{stored_of, whiten, recovery_turn}
use Rattle.cg_disk_records.specs.Following.{IsRecorded}
use Rattle.cg_disk_records.specs.Agreeing.{Agrees}
use Rattle.cg_disk_records.specs.Checkpoint.{size_limit}
use Rattle.cg_disk_records.specs.Commit.{commits}
use Rattle.cg_disk_records.specs.Crash.{whitened}
use Rattle.cg_model.specs.Following.{Follows}
use Rattle.cg_store.specs.Answers.{EachMoment}
use Rattle.cg_base.specs.Choice.{Either}
use Rattle.cg_store.specs.Calls.{Moves, IsEither}
use Rattle.cg_store.specs.StoreState.{StoreState}
use Rattle.cg_store.specs.Opening.{IsSound}
use Rattle.cg_store.specs.Stands.{OnDisk, Stands, disk_of, committed, checkpointed}
use Rattle.cg_store.specs.declared.errors.CommitErr.{CommitErr}
use Rattle.cg_store.specs.declared.errors.CommitErr.TheVariants.{Lost, NoMemory as NoMemoryErr}
use Rattle.cg_store.specs.declared.errors.OpenErr.{OpenErr}
use Rattle.cg_store.specs.declared.errors.OpenErr.TheVariants.{Lost as OpenLost, NotAStore as OpenNotAStore, NoMemory as OpenNoMemory}
use Rattle.cg_store.specs.declared.outputs.Outputs.{Outputs}
use Rattle.cg_engine.specs.Engines.{Up, Fallen}
use Rattle.cg_engine.specs.declared.wreck.LastEvent.{LastEvent}
use Rattle.cg_engine.specs.declared.answers.Started.{Started}
use Rattle.cg_engine.specs.declared.answers.Started.TheVariants as started
use Rattle.cg_engine.specs.declared.answers.Handled.{Handled}
use Rattle.cg_engine.specs.declared.answers.Handled.TheVariants as handled
use Rattle.cg_engine.specs.declared.answers.Recovered.{Recovered}
use Rattle.cg_engine.specs.declared.answers.Recovered.TheVariants as recovered

-- ---- faults

abbrev pub wreck_of : {D : Type 0} → D → ℕ → LastEvent → Fallen D
wreck_of disk id last = record { disk = disk; id = id; count = last.count; green = last.green }

abbrev pub bare_wreck : {D : Type 0} → D → ℕ → Fallen D
bare_wreck disk id = record { disk = disk; id = id; count = 0; green = [] }

abbrev pub fail_event : {D : Type 0} → CommitErr D → ℕ → LastEvent → Handled D
fail_event (Lost disk) id last = handled.Down (wreck_of disk id last)
fail_event (NoMemoryErr disk) id last = handled.NoMemory (wreck_of disk id last)

abbrev pub fail_start : {D : Type 0} → CommitErr D → ℕ → Started D
fail_start (Lost disk) id = started.Down (bare_wreck disk id)
fail_start (NoMemoryErr disk) id = started.NoMemory (bare_wreck disk id)

abbrev pub fail_open : {D : Type 0} → OpenErr D → ℕ → LastEvent → Recovered D
fail_open (OpenLost disk) id last = recovered.Down (wreck_of disk id last)
fail_open (OpenNotAStore disk) id last = recovered.NotAStore (wreck_of disk id last)
fail_open (OpenNoMemory disk) id last = recovered.NoMemory (wreck_of disk id last)

abbrev pub fail_keep : {D : Type 0} → CommitErr D → ℕ → LastEvent → Recovered D
fail_keep (Lost disk) id last = recovered.Down (wreck_of disk id last)
fail_keep (NoMemoryErr disk) id last = recovered.NoMemory (wreck_of disk id last)

-- ---- what the end of an event asks for

-- the event's record leads from what the disk stands for, and the replica follows what the event leaves there
pub record MayEnd (unwritten : List Action) (u : OnDisk) (t : Turn) : Type 0 where
  pub recorded : IsRecorded u.content unwritten t
  pub agrees : Agrees (stored_of (whiten t.replica.held))
  pub line : IsLineGreen t.replica.held
  pub changed : Follows (disk_of [] (committed unwritten t u)) (whiten t.replica.held)
  pub saved : Follows (disk_of [] (checkpointed (committed unwritten t u))) (whiten t.replica.held)
  pub kept : commits u.content t ≡ false → Follows (disk_of (unwritten ++ t.known) u) t.replica.held

-- behind a commit the disk stands for what is held, in the records or in a checkpoint
pub record MaySave (unwritten : List Action) (w : OnDisk) (h : Held) : Type 0 where
  pub held : stored_of h ≡ w.content
  pub agrees : Agrees (stored_of h)
  pub follows : Follows (disk_of unwritten w) h
  pub later : Follows (disk_of unwritten (checkpointed w)) h

-- where the event was written this is so of the white count that has risen
abbrev pub MayGoOn : Bool → List Action → OnDisk → Held → Type 0
MayGoOn written unwritten w h =
    Either written (IsLineGreen h × MaySave unwritten w (whiten h)) (Follows (disk_of unwritten w) h)

-- ---- what it gives

abbrev pub up : {D : Type 0} → StoreState D → Replica → Up D
up store r = record { store = store; replica = r }

abbrev pub saved : {D : Type 0} → Result (StoreState D) (CommitErr D) → Replica → Outputs → ℕ → LastEvent → Handled D
saved (Ok store) r outputs id last = handled.Running (up store r) outputs
saved (Err fault) r outputs id last = fail_event fault id last

-- a checkpoint was made
pub record Checkpoints {D : Type 0} (view : D →
    DiskView) (k : StoreState D) (w : OnDisk) (r : Replica) (outputs : Outputs) (last : LastEvent)
    (result : Handled D) : Type 0 where
  pub answer : Result (StoreState D) (CommitErr D)
  pub moves : Moves view k w (checkpointed w) answer
  pub moments : EachMoment view (λ s. s.disk) (IsEither k.id w (checkpointed w)) (view k.disk) answer
  pub is : result ≡ saved answer r outputs k.id last

abbrev pub Saves : {D : Type 0} → (D → DiskView) → StoreState D → OnDisk → Replica → Outputs → LastEvent → Handled D → Type 0
Saves view k w r outputs last result =
    Either (nat_lt size_limit w.size) (Checkpoints view k w r outputs last result) (result ≡ handled.Running (up k r) outputs)

abbrev pub GoesOn : {D : Type 0} → (D → DiskView) → StoreState D → OnDisk → Replica → Outputs → LastEvent → Handled D → Type 0
GoesOn view k w r outputs last result =
    Either outputs.written (Saves view k w (whitened r) outputs last result) (result ≡ handled.Running (up k r) outputs)

-- ---- a recovery

-- the disk of an opened store stands for what a core holds, and there are no red marks beside it
pub record IsOpen {D : Type 0} (d : DiskView) (k : StoreState D) (core : Held) : Type 0 where
  pub standing : OnDisk
  pub stands : Stands k.id d.reads standing
  pub sound : IsSound standing.content
  pub core_is : core ≡ standing.content
  pub unwritten : k.unwritten ≡ []

-- the replica comes up; only memory may be wanting
abbrev pub RisesWith : {D : Type 0} → StoreState D → Turn → LastEvent → Bool → Recovered D → Type 0
RisesWith k t last more (recovered.Running e green) =
    (e.replica ≡ t.replica) × (e.store ≡ record k { unwritten = k.unwritten ++ t.known })
    × (green ≡ (if more then last.green else []))
RisesWith k t last more (recovered.Down w) = ⊥
RisesWith k t last more (recovered.NotAStore w) = ⊥
RisesWith k t last more (recovered.NoMemory w) = w ≡ wreck_of k.disk k.id last

abbrev pub Rises : {D : Type 0} → StoreState D → Held → LastEvent → Recovered D → Type 0
Rises k core last result = RisesWith k (recovery_turn core) last (nat_lt last.count (green_count core.queue)) result
