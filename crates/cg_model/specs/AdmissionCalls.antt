-- Tests of which single calls speak: each is one that an event is refused by, with its reason.
use Rattle.std.specs.Prelude.{ℕ, Option, is_some}
use Rattle.cg_base.specs.Sets.{has}
use Rattle.cg_group.specs.declared.reason.Reason.{Reason}
use Rattle.cg_group.specs.declared.reason.Reason.TheVariants.{AlreadyUp, IdUsed}
use Rattle.cg_group.specs.Refusals.{refuse}
use Rattle.cg_model.specs.World.{World, has_begun, replica_of}

-- the replica is up
abbrev pub already_up : World → ℕ → Option Reason
already_up w p = refuse (is_some (replica_of w p)) (AlreadyUp p)

-- start or an admitted join has named the replica
abbrev pub id_used : World → ℕ → Option Reason
id_used w p = refuse (has w.named p) (IdUsed p)

-- the replica has begun
abbrev pub begun_already : World → ℕ → Option Reason
begun_already w p = refuse (has_begun w p) (AlreadyUp p)
