use Rattle.std.proofs.Common.{subst, sym}
use Rattle.cg_disk_records.specs.Stored.{stored_of}
use Rattle.cg_disk_records.specs.Agreeing.{Agrees}
use Rattle.cg_client.specs.Replica.{Held}
use Rattle.cg_replica_tests.proofs.Starting.{fresh_agrees}
use Rattle.cg_replica_tests.proofs.older.old_disk.Goals as goal

pub create_old-created-requires-clause-agrees : goal.create_old-created-requires-clause-agrees
create_old-created-requires-clause-agrees c =
    let laws = c.what_is_held_agrees.ensures in
    subst (λ (h : Held). Agrees (stored_of h)) (sym c.in_ok-core.ensures) (fresh_agrees laws.holds laws.counts laws.settled c.args.id c.of-servers.result)
