-- Which replicas there may be.
use Rattle.std.specs.Prelude.{ℕ, List}
use Rattle.cg_base.specs.Lists.{count_up}

-- the identifiers that there are
unfoldable pub every_replica : List ℕ
every_replica = count_up 1 32
