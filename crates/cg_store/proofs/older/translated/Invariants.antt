use Rattle.std.proofs.Common.{◌≤◌, take}
use Rattle.cg_store.specs.Translated.{AreSame}
use Rattle.cg_store.proofs.older.translated.Given as goal

-- those gone through so far are there
abbrev pub invariant-loop-i : goal.invariant-loop-i
invariant-loop-i l = AreSame (take l.i l.bodies) l.newer × (1 ≤ l.i)
