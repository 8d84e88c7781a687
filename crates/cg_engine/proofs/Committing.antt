-- A commit with the core of a replica is one with what the replica holds.
use Rattle.std.proofs.Common.{◌≡◌, Result, subst}
use Rattle.cg_disk.specs.View.{DiskView}
use Rattle.cg_client.specs.declared.parts.DraftParts.{DraftParts}
use Rattle.cg_client.specs.Drafts.{turn_with}
use Rattle.cg_client.specs.Replica.{Held, Replica}
use Rattle.cg_disk_records.specs.Commit.{commits}
use Rattle.cg_store.specs.Answers.{EachMoment}
use Rattle.cg_base.specs.Choice.{Either}
use Rattle.cg_store.specs.Calls.{Commits, Keeps, IsEither}
use Rattle.cg_store.specs.StoreState.{StoreState}
use Rattle.cg_store.specs.Stands.{OnDisk, committed}
use Rattle.cg_store.specs.declared.errors.CommitErr.{CommitErr}
use Rattle.cg_store.specs.declared.outputs.Outputs.{Outputs}
use Rattle.cg_engine.specs.Seen.{turn_of}

module _ {D : Type 0} (view : D → DiskView) (k : StoreState D) (u : OnDisk) (r : Replica) (d : DraftParts) (core : Held) (same : core ≡ r.held) (a : Result (StoreState D × Outputs) (CommitErr D)) where
  pub ended_at :
      (let t = turn_with core r.state d in Either (commits u.content t) (Commits view k u (committed k.unwritten t u) d a) (Keeps k d a)) →
      (let t = turn_of r d in Either (commits u.content t) (Commits view k u (committed k.unwritten t u) d a) (Keeps k d a))
  ended_at is = subst (λ h. (let t = turn_with h r.state d in Either (commits u.content t) (Commits view k u (committed k.unwritten t u) d a) (Keeps k d a))) same is

  pub moments_at : EachMoment {T = StoreState D × Outputs} view (λ done. done.0.disk) (IsEither k.id u (committed k.unwritten (turn_with core r.state d) u)) (view k.disk) a →
      EachMoment {T = StoreState D × Outputs} view (λ done. done.0.disk) (IsEither k.id u (committed k.unwritten (turn_of r d) u)) (view k.disk) a
  moments_at is = subst (λ h. EachMoment {T = StoreState D × Outputs} view (λ done. done.0.disk) (IsEither k.id u (committed k.unwritten (turn_with h r.state d) u)) (view k.disk) a) same is
