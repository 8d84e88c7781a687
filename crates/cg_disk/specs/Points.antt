-- The calls that settled something, as contracts speak of them.
use Rattle.std.specs.Prelude.{List, [], ◌∷◌}
use Rattle.cg_disk.specs.Past.{SyncPoint}
use Rattle.cg_disk.specs.declared.past.LastPoint.{LastPoint}
use Rattle.cg_disk.specs.declared.past.LastPoint.TheVariants.{Nothing, Settled}

-- those up to the last one, the newest first
abbrev pub down_from : LastPoint → List SyncPoint
down_from Nothing = []
down_from (Settled earlier call a b) = record { call = call.value; a = a.value.unsynced.items; b = b.value.unsynced.items } ∷ earlier.value
