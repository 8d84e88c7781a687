-- How many device calls an event makes that ends in a crash.
use Rattle.std.proofs.Common.{◌≤◌, ◌+◌, ⊎_elim, ℕ, nat_lt, Bool, true, false, Err, arith}
use Rattle.cg_disk.specs.View.{DiskView}
use Rattle.cg_client.specs.declared.parts.DraftParts.{DraftParts}
use Rattle.cg_client.specs.Turn.{Turn}
use Rattle.cg_disk_records.specs.Checkpoint.{size_limit}
use Rattle.cg_disk_records.specs.Commit.{commits}
use Rattle.cg_store.specs.Answers.{IsLost}
use Rattle.cg_base.specs.Choice.{Either}
use Rattle.cg_store.specs.Calls.{Commits, Keeps, EndsLong, EndsWritten}
use Rattle.cg_store.specs.StoreState.{StoreState}
use Rattle.cg_store.specs.Stands.{OnDisk, committed, checkpointed}
use Rattle.cg_store.specs.declared.errors.CommitErr.TheVariants.{Lost}
use Rattle.cg_engine.specs.Answers.{parts_of, HandlesEvent}
use Rattle.cg_engine.specs.Engines.{Up, Fallen}
use Rattle.cg_engine.specs.declared.answers.Handled.TheVariants.{Down}

lost_within : (id earlier : ℕ) (x y : OnDisk) (old new : DiskView) → earlier ≤ 6 → IsLost id earlier x y old new →
    new.time ≤ old.time + 10
lost_within id earlier x y old new le lost = omega (arith, le, lost.time, lost.within.1)

module _ {D : Type 0} (view : D → DiskView) (k : StoreState D) (u v : OnDisk) (d : DraftParts) (disk : D) where
  written_within : (long : Bool) →
      Either long (EndsLong view k u v (checkpointed v) d (Err (Lost disk))) (Commits view k u v d (Err (Lost disk))) →
      (view disk).time ≤ (view k.disk).time + 10
  written_within true is =
      ⊎_elim (λ a. lost_within k.id 0 u v (view k.disk) (view disk) (omega arith) a)
      (λ rest. ⊎_elim (λ b. lost_within k.id 4 v v (view k.disk) (view disk) (omega arith) b) (λ c. lost_within k.id 6
      v (checkpointed v) (view k.disk) (view disk) (omega arith) c) rest) is
  written_within false is = lost_within k.id 0 u v (view k.disk) (view disk) (omega arith) is

  ended_within : (written : Bool) →
      Either written (EndsWritten view k u v d (Err (Lost disk))) (Keeps k d (Err (Lost disk))) →
      (view disk).time ≤ (view k.disk).time + 10
  ended_within true is = written_within (nat_lt size_limit v.size) is
  ended_within false is = absurd is

-- ten calls at the most
pub fallen_within : {D : Type 0} (view : D → DiskView) (old : Up D) (u : OnDisk) (t : Turn) (w : Fallen D) →
    HandlesEvent view old u t (Down w) →
    (view w.disk).time ≤ (view old.store.disk).time + 10
fallen_within view old u t w is =
    let k : StoreState _ = (let s = old.store in record s { disk = is.disk }) in
    let ended = ended_within view k u (committed old.store.unwritten t u) (parts_of t)
    w.disk (commits old.replica.held t) is.ends.ends in
    omega (arith, ended, is.begins.time)
