-- What an engine does, in the account of a replica's events.
use Rattle.std.specs.Prelude.{◌≡◌, ℕ, ◌-◌, List, [], Some}
use Rattle.std.specs.Option.{option_map}
use Rattle.cg_base.specs.declared.action_id.ActionId.{ActionId}
use Rattle.cg_action.specs.declared.action.Action.{Action}
use Rattle.cg_disk.specs.State.{DiskState, DiskStrike, left_by}
use Rattle.cg_disk.specs.View.{DiskView}
use Rattle.cg_client.specs.Replica.{Held}
use Rattle.cg_client.specs.Turn.{Turn}
use Rattle.cg_disk_records.specs.Crash.{Strike, Disk, Runs, Crashes, end_event}
use Rattle.cg_model.specs.Recorded.{AreBooked}
use Rattle.cg_states.specs.ReplicaStep.{Input, replica_step}
use Rattle.cg_store.specs.Defined.{strike_at}
use Rattle.cg_store.specs.Stands.{OnDisk, Stands, disk_of}
use Rattle.cg_engine.specs.Engines.{Up, Fallen, IsEngine, told}
use Rattle.cg_engine.specs.Answers.{HandlesEvent}
use Rattle.cg_engine.specs.declared.answers.Handled.{Handled}
use Rattle.cg_engine.specs.declared.answers.Handled.TheVariants as handled

-- the strike that is armed on a disk, as it counts from now, with the bytes that a crash leaves
abbrev pub strike_from : ℕ → List ℕ → DiskStrike → Strike
strike_from now fill s = strike_at (s.call - now) s.blow fill

-- a disk that tells its state
abbrev pub account : List Action → OnDisk → ℕ → List ℕ → DiskState → Disk
account unwritten u now fill s = let d = disk_of unwritten u in
    record d { armed = option_map (strike_from now fill) s.strike }

-- the event ends with the replica and the disk of the account
pub record RunsAsDefined {D : Type 0} (view : D →
    DiskView) (disk : Disk) (old : Held) (t : Turn) (fill : List ℕ) (e : Up D) : Type 0 where
  pub standing : OnDisk
  pub stands : Stands e.store.id (view e.store.disk).reads standing
  pub state : DiskState
  pub told : (view e.store.disk).state ≡ Some state
  pub is : end_event disk old t ≡
      Runs e.replica (account e.store.unwritten standing (view e.store.disk).time fill state)

-- or in the crash of the account, which leaves its disk and the names that a recovery tells
pub record FallsAsDefined {D : Type 0} (view : D →
    DiskView) (disk : Disk) (old : Held) (t : Turn) (fill : List ℕ) (w : Fallen D) : Type 0 where
  pub standing : OnDisk
  pub state : DiskState
  pub shown : (view w.disk).state ≡ Some state
  pub stands : Stands w.id (left_by state fill) standing
  pub is : end_event disk old t ≡ Crashes (disk_of [] standing) (told w standing.content)

-- where memory was refused nothing is said
abbrev pub EndsAsDefined : {D : Type 0} → (D → DiskView) → Disk → Held → Turn → List ℕ → Handled D → Type 0
EndsAsDefined view disk old t fill (handled.Running e outputs) = RunsAsDefined view disk old t fill e
EndsAsDefined view disk old t fill (handled.Down w) = FallsAsDefined view disk old t fill w
EndsAsDefined view disk old t fill (handled.NoMemory w) = Unit {0}

-- an engine's event is that of the account, whatever strikes, and with any bytes that a crash may leave
pub record HandlesAsDefined {D : Type 0} (view : D → DiskView) : Type 0 where
  pub event : (old : Up D) (u : OnDisk) (input : Input) (book : ActionId →
      Action) (fill : List ℕ) (s : DiskState) (result : Handled D) →
      IsEngine (view old.store.disk) old.store.id old.store.unwritten old.replica.held →
      Stands old.store.id (view old.store.disk).reads u → AreBooked book old.replica.held input →
      (view old.store.disk).state ≡ Some s → HandlesEvent view old u (replica_step old.replica input) result →
      EndsAsDefined view (account old.store.unwritten u (view old.store.disk).time fill s)
      old.replica.held (replica_step old.replica input) fill result
