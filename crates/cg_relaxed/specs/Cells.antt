-- The cell of a key: what a list of actions, each once, makes of its register and its sum.
use Rattle.std.specs.Prelude.{ℕ, List, fold, Option, None, ℤ, pos, ◌+ℤ◌}
use Rattle.cg_action.specs.declared.action.Action.{Action}
use Rattle.cg_relaxed.specs.declared.cell.Cell.{Cell}
use Rattle.cg_relaxed.specs.declared.write.Write.{Write}
use Rattle.cg_relaxed.specs.Writes.{later, added, written, value_in}

-- all that is added to the key
abbrev pub sum_of : List ℕ → List Action → ℤ
sum_of key actions = fold (λ n a. n +ℤ added key a) (pos 0) actions

-- the write with the greatest stamp, if the key is written
abbrev pub last_write : List ℕ → List Action → Option Write
last_write key actions = fold (λ w a. later w (written key a)) None actions

abbrev pub cell_of : List Action → List ℕ → Cell
cell_of actions key = record { value = value_in (last_write key actions); sum = sum_of key actions }
