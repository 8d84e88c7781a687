-- What an action does to the relaxed database, whatever stands in it: it adds to sums, and writes registers under stamps.
use Rattle.std.specs.Prelude.{ℕ, suc, ◌==◌, nat_lt, Bool, true, false, ◌&&◌, ◌||◌, List, [], ◌∷◌, fold, Option, Some, None, option_map, option_and_then, ℤ, pos, ◌+ℤ◌, if◌then◌else◌}
use Rattle.std.specs.List.{list_all}
use Rattle.cg_text.specs.Order.{same_text}
use Rattle.cg_action.specs.declared.value.Value.{Value}
use Rattle.cg_action.specs.declared.command.Cmd.{Cmd}
use Rattle.cg_action.specs.declared.command.Cmd.TheVariants.{Put, Del, Inc}
use Rattle.cg_action.specs.declared.action.Kind.{Kind}
use Rattle.cg_action.specs.declared.action.Kind.TheVariants.{Update}
use Rattle.cg_action.specs.declared.action.Action.{Action}
use Rattle.cg_relaxed.specs.declared.write.Stamp.{Stamp}
use Rattle.cg_relaxed.specs.declared.write.Write.{Write}

-- ---- stamps: the green line, the index and the creator of an action, and the place of its command, from 1

-- the first number decides, and where two are equal the others do
abbrev pub less_or : ℕ → ℕ → Bool → Bool
less_or m n others = nat_lt m n || ((m == n) && others)

-- the first stamp comes before the second
abbrev pub stamp_before : Stamp → Stamp → Bool
stamp_before s t =
    less_or s.green_line t.green_line (less_or s.index t.index (less_or s.creator t.creator (nat_lt s.place t.place)))

-- of two writes the one with the later stamp
abbrev pub later_of : Write → Write → Write
later_of v w = if stamp_before v.stamp w.stamp then w else v

abbrev pub later : Option Write → Option Write → Option Write
later None w = w
later (Some v) None = Some v
later (Some v) (Some w) = Some (later_of v w)

-- the value of a register that was last written so
abbrev pub value_in : Option Write → Option Value
value_in register = option_and_then (λ w. w.value) register

-- ---- what an action does

-- a command that asks nothing of what stands there
abbrev pub is_plain : Cmd → Bool
is_plain (Put key value) = true
is_plain (Del key) = true
is_plain (Inc key by) = true
is_plain other = false

-- the commands that count: those of an update of plain commands alone
abbrev pub counted : Kind → List Cmd
counted (Update cmds query) = if list_all is_plain cmds then cmds else []
counted other = []

-- what a command adds to the sum of a key
abbrev pub adds : List ℕ → Cmd → ℤ
adds key (Inc k by) = if same_text key k then by else pos 0
adds key other = pos 0

-- a sum to which commands have added
abbrev pub sum_after : ℤ → List ℕ → List Cmd → ℤ
sum_after sum key cmds = fold (λ n cmd. n +ℤ adds key cmd) sum cmds

abbrev pub added : List ℕ → Action → ℤ
added key a = sum_after (pos 0) key (counted a.kind)

-- what a command writes in the register of a key
abbrev pub writes : List ℕ → Cmd → Option (Option Value)
writes key (Put k value) = if same_text key k then Some (Some value) else None
writes key (Del k) = if same_text key k then Some None else None
writes key other = None

-- a command's write under a stamp, where it writes the key
abbrev pub write_of : List ℕ → Stamp → Cmd → Option Write
write_of key stamp cmd = option_map (λ value. record { stamp = stamp; value = value }) (writes key cmd)

-- the latest of the writes of these commands, of which the first has this stamp
abbrev pub written_from : List ℕ → Stamp → List Cmd → Option Write
written_from key stamp [] = None
written_from key stamp (cmd ∷ cmds) =
    later (write_of key stamp cmd) (written_from key (record stamp { place = suc stamp.place }) cmds)

-- the stamp of an action's first command
abbrev pub first_stamp : Action → Stamp
first_stamp a = record { green_line = a.green_line; index = a.id.index; creator = a.id.creator; place = 1 }

abbrev pub written : List ℕ → Action → Option Write
written key a = written_from key (first_stamp a) (counted a.kind)
