-- What stands on a replica's disk.
use Rattle.std.specs.Prelude.{false, []}
use Rattle.cg_records.specs.declared.stable.Stable.{Stable}
use Rattle.cg_client.specs.Replica.{Held, NonPrim, yellow_of, created}
use Rattle.cg_client.specs.Turn.{Turn, begin}
use Rattle.cg_client.specs.Summary.{own_to_red}
use Rattle.cg_client.specs.Whitening.{with_white}

-- what a replica held at its last commit; what it keeps in memory alone is empty
abbrev pub Stored : Type 0
Stored = Held

-- what a commit leaves on the disk
abbrev pub stored_of : Held → Stored
stored_of h = record h { buffered = []; owed = [] }

-- what stands in each record of a commit
abbrev pub stable_of : Held → Stable
stable_of h =
    record {
      prim = h.prim;
      attempt_index = h.attempt_index;
      vulnerable = h.vulnerable;
      yellow = yellow_of h;
      created = created h;
    }

-- at a commit the white count rises, and the actions up to it are discarded
unfoldable pub whiten : Held → Held
whiten h = with_white h

-- a replica comes up from its disk, alone and in no primary component: its own actions become red
unfoldable pub recovery_turn : Stored → Turn
recovery_turn s = own_to_red (begin (record { held = s; state = NonPrim false }))
