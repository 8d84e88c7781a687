-- What a crash may have left of a disk in memory at earlier moments. Images only grow until a sync or a failed call
-- settles them, so it is enough to know those just before each such call.
use Rattle.std.specs.Prelude.{ℕ, ◌<◌, ◌⊎◌, max, List, [], ◌∷◌, reverse}
use Rattle.cg_disk.specs.Sides.{Image}
use Rattle.cg_disk.specs.State.{SideState, Leaves}
use Rattle.cg_disk.specs.Undo.{undone, side_after}
use Rattle.cg_disk.specs.declared.written.Written.{Written}

-- a call that settled the writes before it, a sync or a failed one: its number, and these writes of each side, the oldest first
pub record SyncPoint : Type 0 where
  pub call : ℕ
  pub a : List Written
  pub b : List Written

-- the writes that a sync point settled, the newest first
abbrev pub settled_a : SyncPoint → List Written
settled_a m = reverse m.a

abbrev pub settled_b : SyncPoint → List Written
settled_b m = reverse m.b

-- with these bytes after the newest of these sync points, a crash just before one of them, after a time, may have left this
abbrev pub HadLeft : List ℕ → List ℕ → List SyncPoint → ℕ → Image → Type 0
HadLeft a b [] t c = ⊥
HadLeft a b (m ∷ points) t c =
    (t < m.call)
    × (Leaves (side_after a (settled_a m)) (side_after b (settled_b m)) c
    ⊎ HadLeft (undone a (settled_a m)) (undone b (settled_b m)) points t c)

-- of a disk with these sides, this many calls, so many before the last `begin`, and these sync points since, the newest first:
-- a crash at some moment since a time may have left this, and for a time before that `begin` any image counts
abbrev pub MayHaveLeft : SideState → SideState → ℕ → ℕ → List SyncPoint → ℕ → Image → Type 0
MayHaveLeft a b calls begun points t c = Leaves a b c ⊎ (t < calls) × ((t < begun) ⊎ HadLeft a.old b.old points t c)

-- the number of the last call that settled something
abbrev pub last_call : List SyncPoint → ℕ
last_call [] = 0
last_call (m ∷ points) = max m.call (last_call points)
