-- An event ends as its step ends behind the disk's `begin`.
use Rattle.std.proofs.Common.{◌≡◌, ℕ, List, Bool, sym, subst}
use Rattle.cg_action.specs.declared.action.Action.{Action}
use Rattle.cg_base.specs.declared.action_id.ActionId.{ActionId}
use Rattle.cg_disk.specs.Calls.{Begins}
use Rattle.cg_disk.specs.View.{DiskView}
use Rattle.cg_queue.specs.Queue.{green_count}
use Rattle.cg_client.specs.Replica.{Held}
use Rattle.cg_client.specs.Turn.{Turn}
use Rattle.cg_disk_records.specs.Commit.{commits}
use Rattle.cg_model.specs.Following.{Follows}
use Rattle.cg_disk_records.specs.Always.{AlwaysHolds, AlwaysCounts, AlwaysSettled}
use Rattle.cg_model.specs.Recorded.{AlwaysKept, AlwaysRecorded, AlwaysAhead, AreBooked}
use Rattle.cg_states.specs.ReplicaStep.{Input, replica_step}
use Rattle.cg_store.specs.StoreState.{StoreState}
use Rattle.cg_store.specs.MomentLaws.{stands_once}
use Rattle.cg_store.specs.Stands.{OnDisk, Stands, disk_of}
use Rattle.cg_engine.specs.Engines.{Up, IsEngine}
use Rattle.cg_engine.specs.Answers.{EndsEvent, HandlesEvent}
use Rattle.cg_engine.specs.declared.answers.Handled.{Handled}
use Rattle.cg_engine.specs.Ending.{MayEnd}
use Rattle.cg_engine.proofs.Following.{may_end}
use Rattle.cg_engine.proofs.Values.{same_commits}

-- the replica follows whatever the disk stands for
pub follows_at : (d : DiskView) (id : ℕ) (unwritten : List Action) (h : Held) (u : OnDisk) → IsEngine d id unwritten h → Stands id d.reads u → Follows (disk_of unwritten u) h
follows_at d id unwritten h u is stands = subst (λ x. Follows (disk_of unwritten x) h) (stands_once id d.reads is.standing u is.stands stands) is.follows

module _ {D : Type 0} (view : D → DiskView) (old : Up D) (mid : StoreState D) (begins : Begins (view old.store.disk) (view mid.disk)) (id_is : mid.id ≡ old.store.id) (marks : mid.unwritten ≡ old.store.unwritten) where
  -- the store behind `begin`
  store_is : (let k = old.store in mid ≡ record k { disk = mid.disk })
  store_is = λ i. record { disk = mid.disk; id = id_is i; unwritten = marks i }

  pub stands_there : (u : OnDisk) → Stands old.store.id (view old.store.disk).reads u → Stands mid.id (view mid.disk).reads u
  stands_there u stands = subst (λ id. Stands id (view mid.disk).reads u) (sym id_is) (subst (λ c. Stands old.store.id c u) (sym begins.reads) stands)

  pub stood_here : (u : OnDisk) → Stands mid.id (view mid.disk).reads u → Stands old.store.id (view old.store.disk).reads u
  stood_here u stands = subst (λ c. Stands old.store.id c u) begins.reads (subst (λ id. Stands id (view mid.disk).reads u) id_is stands)

  pub handles : (u : OnDisk) (t : Turn) (count : ℕ) (written : Bool) (result : Handled D) → count ≡ green_count old.replica.held.queue → written ≡ commits old.replica.held t → EndsEvent view mid count u t written result → HandlesEvent view old u t result
  handles u t count written result counted test ends = record {
    disk = mid.disk;
    begins = begins;
    ends = subst (λ (x : StoreState D). EndsEvent view x (green_count old.replica.held.queue) u t (commits old.replica.held t) result) store_is
        (subst (λ n. EndsEvent view mid n u t (commits old.replica.held t) result) counted (subst (λ b. EndsEvent view mid count u t b result) test ends));
  }

  -- the step was made
  pub handles_step : (u : OnDisk) (t made : Turn) (count : ℕ) (result : Handled D) → Follows (disk_of old.store.unwritten u) old.replica.held → made ≡ t → count ≡ green_count old.replica.held.queue →
      EndsEvent view mid count u made (commits u.content made) result → HandlesEvent view old u t result
  handles_step u t made count result follows same counted ends =
      handles u t count (commits u.content t) result counted (same_commits u.content old.store.unwritten old.replica.held t follows.ahead)
      (subst (λ (x : Turn). EndsEvent view mid count u x (commits u.content x) result) same ends)

-- the end of an event may be made behind `begin`
pub may_end_there : AlwaysHolds → AlwaysCounts → AlwaysSettled → AlwaysKept → AlwaysRecorded → AlwaysAhead → {D : Type 0} (view : D → DiskView) (old : Up D) (mid : StoreState D) (input : Input) (book : ActionId → Action) (made : Turn) →
    IsEngine (view old.store.disk) old.store.id old.store.unwritten old.replica.held → AreBooked book old.replica.held input → Begins (view old.store.disk) (view mid.disk) → mid.id ≡ old.store.id → mid.unwritten ≡ old.store.unwritten →
    made ≡ replica_step old.replica input → (u : OnDisk) → Stands mid.id (view mid.disk).reads u → MayEnd mid.unwritten u made
may_end_there holds counts settled kept records ahead view old mid input book made is booked begins id_is marks same u stands =
    let follows = follows_at (view old.store.disk) old.store.id old.store.unwritten old.replica.held u is (stood_here view old mid begins id_is marks u stands) in
    subst (λ (m : List Action). MayEnd m u made) (sym marks)
    (subst (λ (t : Turn). MayEnd old.store.unwritten u t) (sym same) (may_end holds counts settled records ahead kept old.store.unwritten u old.replica input book follows booked))
