-- The snapshot of which pieces are to be taken.
use Rattle.std.specs.Prelude.{ℕ, ◌≡◌, Option, None, Some, MatchOption}
use Rattle.cg_client.specs.Replica.{Replica}
use Rattle.cg_model.specs.World.{World, TransferState, replica_of}
use Rattle.cg_model.specs.Step.{snapshot_for, without_snapshot}

-- it is there where its giver is up, and is no longer among those under way
abbrev pub Chooses : World → World → ℕ → ℕ → Option TransferState → Type 0
Chooses old new p joiner found =
    MatchOption found ((replica_of old p ≡ None) × (new ≡ old))
    (λ s. (r : Replica) × (replica_of old p ≡ Some r) × (s ≡ snapshot_for old p joiner r)
    × (new ≡ without_snapshot old joiner))
