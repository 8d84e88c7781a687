use Rattle.std.proofs.Common.{subst, sym}
use Rattle.cg_disk_records.specs.Stored.{stored_of}
use Rattle.cg_disk_records.specs.Agreeing.{Agrees}
use Rattle.cg_client.specs.Replica.{Held}
use Rattle.cg_replica_tests.proofs.Starting.{fresh_agrees}
use Rattle.cg_replica_tests.proofs.store.a_replica_comes_up_with_what_its_disk_stands_for.Goals as goal

-- src/store.rt: what a new replica holds
pub create-created-requires-clause-agrees : goal.create-created-requires-clause-agrees
create-created-requires-clause-agrees g c =
    let laws = c.what_is_held_agrees.ensures in
    subst (λ (h : Held). Agrees (stored_of h)) (sym c.in_ok-core.ensures) (fresh_agrees laws.holds laws.counts laws.settled c.known-one.result c.of-servers.result)
