-- How a replica stands in a world.
use Rattle.std.specs.Prelude.{ℕ, Bool, Option, Some, None}
use Rattle.cg_group.specs.declared.reason.Reason.{Reason}
use Rattle.cg_group.specs.declared.reason.Reason.TheVariants.{UnknownReplica, NotUp}
use Rattle.cg_model.specs.World.{World}
use Rattle.cg_model.specs.Admission.{takes_part}
use Rattle.cg_model.specs.Places.{creates}
use Rattle.cg_world.specs.declared.standing.Standing.{Standing}
use Rattle.cg_world.specs.declared.standing.Standing.TheVariants.{Unbegun, Down, Left, Up}

-- by the first test that keeps the replica from taking part
abbrev pub standing_as : Option Reason → Bool → Standing
standing_as (Some (UnknownReplica p)) creating = Unbegun
standing_as (Some (NotUp p)) creating = Down
standing_as (Some other) creating = Left
standing_as None creating = Up creating

abbrev pub standing_of : World → ℕ → Standing
standing_of w p = standing_as (takes_part w p) (creates w p)
