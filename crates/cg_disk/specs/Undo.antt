-- The bytes of a side before the writes that are kept of it.
use Rattle.std.specs.Prelude.{ℕ, ◌+◌, List, [], ◌∷◌, ◌++◌, take, drop, map}
use Rattle.cg_disk.specs.State.{Range, SideState}
use Rattle.cg_disk.specs.declared.written.Written.{Written}

-- the bytes before a write
abbrev pub undo : Written → List ℕ → List ℕ
undo w bytes = take w.offset bytes ++ w.before.items ++ drop (w.offset + w.count) bytes

-- the bytes before these writes, the newest of them first
abbrev pub undone : List ℕ → List Written → List ℕ
undone bytes [] = bytes
undone bytes (w ∷ writes) = undone (undo w bytes) writes

-- the offsets of these writes
abbrev pub ranges : List Written → List Range
ranges writes = map (λ w. record { from = w.offset; to = w.offset + w.count }) writes

-- a side with these bytes after these writes
abbrev pub side_after : List ℕ → List Written → SideState
side_after bytes writes = record { old = undone bytes writes; seen = bytes; unsynced = ranges writes }
