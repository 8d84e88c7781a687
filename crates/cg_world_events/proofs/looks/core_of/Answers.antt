use Rattle.std.proofs.Common.{sym, subst}
use Rattle.cg_client.specs.Replica.{Held}
use Rattle.cg_disk_records.specs.Holds.{Holds}
use Rattle.cg_world_events.proofs.looks.core_of.Goals as goal

pub returns-clause-holds : goal.returns-clause-holds
returns-clause-holds c = subst (λ (h : Held). Holds h) (sym c.core.ensures) c.holds.ensures.follows.follows.held
