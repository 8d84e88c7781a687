-- What a store does, in the account of a replica's events.
use Rattle.std.specs.Prelude.{◌≡◌, ℕ, ◌+◌, ◌≤◌, List, [], if◌then◌else◌}
use Rattle.cg_action.specs.declared.action.Action.{Action}
use Rattle.cg_disk.specs.State.{Blow, Fails, Stops}
use Rattle.cg_journal.specs.Adds.{gate_stands}
use Rattle.cg_client.specs.Turn.{Turn}
use Rattle.cg_disk_records.specs.Stored.{Stored}
use Rattle.cg_disk_records.specs.Crash.{Fault, FailOnce, StopWith, Strike, new_disk, with_change, with_checkpoint, at_rest, crash_outcome}
use Rattle.cg_store.specs.Stands.{OnDisk, committed, checkpointed, created, disk_of}

-- how a call is struck, with the bytes that a crash leaves
abbrev pub fault_of : Blow → List ℕ → Fault
fault_of Fails fill = FailOnce
fault_of Stops fill = StopWith fill

abbrev pub strike_at : ℕ → Blow → List ℕ → Strike
strike_at call blow fill = record { call = call; fault = fault_of blow fill }

-- a commit, a checkpoint and a new disk are those of the definitions; and what a crash leaves in each call of an event that
-- is written and followed by a checkpoint is the outcome that they name: the change's four calls, the two that close the
-- other side's gate, and the checkpoint's four
pub record EndsAsDefined : Type 0 where
  pub commit : (unwritten : List Action) (t : Turn) (u : OnDisk) →
      disk_of [] (committed unwritten t u) ≡ with_change (disk_of unwritten u) t
  pub checkpoint : (u : OnDisk) → disk_of [] (checkpointed u) ≡ with_checkpoint (disk_of [] u)
  pub new : (s : Stored) → disk_of [] (created s) ≡ new_disk s
  pub in_change : (unwritten : List Action) (t : Turn) (u : OnDisk) (call : ℕ) (blow : Blow) (fill : List ℕ) →
      call ≤ 4 →
      at_rest (crash_outcome (disk_of unwritten u) t (strike_at call blow fill)) ≡
      disk_of [] (if gate_stands blow call fill then committed unwritten t u else u)
  pub in_closing : (unwritten : List Action) (t : Turn) (u : OnDisk) (call : ℕ) (blow : Blow) (fill : List ℕ) →
      5 ≤ call → call ≤ 6 →
      at_rest (crash_outcome (disk_of unwritten u) t (strike_at call blow fill)) ≡ disk_of [] (committed unwritten t u)
  pub in_checkpoint : (unwritten : List Action) (t : Turn) (u : OnDisk) (call : ℕ) (blow : Blow) (fill : List ℕ) →
      call ≤ 4 →
      at_rest (crash_outcome (disk_of unwritten u) t (strike_at (6 + call) blow fill))
      ≡ disk_of [] (if gate_stands blow call fill then checkpointed (committed unwritten t u)
      else committed unwritten t u)
