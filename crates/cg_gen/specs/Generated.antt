-- The schedule that a seed generates, of so many lines, for so many replicas.
use Rattle.std.specs.Prelude.{ℕ, zero, suc, ◌+◌, ◌*◌, ◌/◌, ◌%◌, ◌^◌, ◌==◌, nat_lt, ◌||◌, Bool, List, [], ◌∷◌, length, filter, find, slice_get, pos, Some, None, if◌then◌else◌}
use Rattle.std.specs.List.{insert, prefix_len}
use Rattle.std.specs.Option.{option_map_or, unwrap_or}
use Rattle.cg_base.specs.Ascii.{ZERO}
use Rattle.cg_base.specs.Lists.{count_up}
use Rattle.cg_base.specs.Sets.{has, with_member, without_member, union, common, least}
use Rattle.cg_base.specs.Weights.{each_once}
use Rattle.cg_action.specs.declared.value.Value.TheVariants.{Int}
use Rattle.cg_action.specs.declared.command.Cmd.TheVariants.{Put, Inc}
use Rattle.cg_action.specs.declared.query.Query.TheVariants.{Get}
use Rattle.cg_schedule.specs.declared.event.Event.{Event}
use Rattle.cg_schedule.specs.declared.event.Event.TheVariants.{Start, Split, Merge, Request, Weak, Recover, Gather, End, Rounds, Stop}
use Rattle.cg_gen.specs.declared.halves.Halves.{Halves}

-- ---- the sequence of numbers

-- the number that follows in the sequence
abbrev pub next_number : ℕ → ℕ
next_number x = (x * 6364136223846793005 + 1442695040888963407) % 2 ^ 64

-- what is drawn behind a number of the sequence, and the number that it has then come to
abbrev pub Drawing : Type 0 → Type 0
Drawing X = ℕ → X × ℕ

-- one of the m numbers from 0
unfoldable pub draw : ℕ → Drawing ℕ
draw m x = (next_number x / 2 ^ 33 % m, next_number x)

-- a drawing and then the next one, which may depend on what was drawn
infixl 10 ◌>>=◌
abbrev pub ◌>>=◌ : {X Y : Type 0} → Drawing X → (X → Drawing Y) → Drawing Y
drawing >>= next = λ x. next (drawing x).0 (drawing x).1

-- nothing more is drawn
abbrev pub done : {X : Type 0} → X → Drawing X
done value x = (value, x)

-- one of the m numbers from 1
abbrev pub draw_from_one : ℕ → Drawing ℕ
draw_from_one m = draw m >>= λ n. done (1 + n)

-- ---- the cells into which the replicas are parted, in the order of their least members

-- the least member, 0 where there is none
abbrev pub first_of : List ℕ → ℕ
first_of set = option_map_or (λ p. p) (least set) 0

abbrev pub are_apart : List ℕ → List ℕ → Bool
are_apart set other = length (common other set) == 0

-- a set in its place among the cells
abbrev pub placed : List (List ℕ) → List ℕ → List (List ℕ)
placed cells set = insert cells (prefix_len (λ cell. nat_lt (first_of cell) (first_of set)) cells) set

-- the cells behind it when a set becomes one: those that share a member with it are cells no more; an empty set is no cell
unfoldable pub with_cell : List (List ℕ) → List ℕ → List (List ℕ)
with_cell cells set = if length set == 0 then cells else placed (filter (are_apart set) cells) set

-- the cell of this number, counted from 0
abbrev pub cell_at : List (List ℕ) → ℕ → List ℕ
cell_at cells i = unwrap_or (slice_get cells i) []

-- the cell of a replica
abbrev pub cell_of : List (List ℕ) → ℕ → List ℕ
cell_of cells p = unwrap_or (find (λ cell. has cell p) cells) []

-- ---- what clients ask for

-- a letter and a digit: the keys k0 to k7 are of counters, t0 to t7 of settings
abbrev pub name : ℕ → ℕ → List ℕ
name letter n = letter ∷ (ZERO + n) ∷ []

unfoldable pub increment : ℕ → Drawing Event
increment replicas = do
  p ← draw_from_one replicas
  key ← draw 8
  n ← draw_from_one 9
  done (Request p (Inc (name 107 key) (pos n) ∷ []) None)

unfoldable pub set_and_get : ℕ → Drawing Event
set_and_get replicas = do
  p ← draw_from_one replicas
  key ← draw 8
  n ← draw_from_one 9
  done (Request p (Put (name 116 key) (Int (pos n)) ∷ []) (Some (Get (name 107 key))))

unfoldable pub weak_get : ℕ → Drawing Event
weak_get replicas = do
  p ← draw_from_one replicas
  key ← draw 8
  done (Weak p (Get (name 107 key)))

unfoldable pub passes : Drawing Event
passes = draw_from_one 6 >>= λ n. done (Rounds n)

-- ---- blocks of lines

-- the lines of a block, and the cells behind it
pub record Block : Type 0 where
  pub first : Event
  pub others : List Event
  pub cells : List (List ℕ)

abbrev pub line_alone : List (List ℕ) → Event → Block
line_alone cells event = record { first = event; others = []; cells = cells }

-- one more member in the half that was drawn for it
abbrev pub in_half : Halves → ℕ → ℕ → Halves
in_half halves p n =
    if n == 0 then record halves { first = with_member halves.first p }
    else record halves { second = with_member halves.second p }

-- each member, ascending, is drawn into a half
abbrev pub halved : List ℕ → Halves → Drawing Halves
halved [] halves = done halves
halved (p ∷ set) halves = draw 2 >>= λ n. halved set (in_half halves p n)

-- a cell in two parts; where one half is empty the cell stays one
abbrev pub in_parts : List (List ℕ) → List ℕ → Halves → Block
in_parts cells cell halves =
    if length halves.first == 0 || length halves.second == 0
    then record { first = Split cell; others = Merge cell ∷ []; cells = cells }
    else record {
      first = Split halves.first;
      others = Split halves.second ∷ Merge halves.first ∷ Merge halves.second ∷ [];
      cells = with_cell (with_cell cells halves.first) halves.second;
    }

unfoldable pub parting : List (List ℕ) → ℕ → Drawing Block
parting cells i = halved (cell_at cells i) (record { first = []; second = [] }) >>=
    λ halves. done (in_parts cells (cell_at cells i) halves)

-- two cells become one
abbrev pub in_one : List (List ℕ) → List ℕ → List ℕ → Block
in_one cells a b = record {
  first = Split a;
  others = Split b ∷ Merge (union a b) ∷ [];
  cells = with_cell cells (union a b);
}

unfoldable pub joining : List (List ℕ) → Drawing Block
joining cells =
    draw (length cells) >>= λ i. done (in_one cells (cell_at cells i) (cell_at cells ((i + 1) % length cells)))

abbrev pub parting_or_joining : List (List ℕ) → ℕ → Drawing Block
parting_or_joining cells n = if n == 0 then (draw (length cells) >>= parting cells) else joining cells

unfoldable pub regrouping : List (List ℕ) → Drawing Block
regrouping cells = if length cells == 1 then parting cells 0 else (draw 3 >>= parting_or_joining cells)

-- a replica crashes and comes back, and is a cell by itself
abbrev pub restarted : List (List ℕ) → ℕ → Block
restarted cells p = record {
  first = Stop p 0 [];
  others = Recover p ∷ Merge (with_member [] p) ∷ [];
  cells = with_cell (with_cell cells (without_member (cell_of cells p) p)) (with_member [] p);
}

unfoldable pub restarting : ℕ → List (List ℕ) → Drawing Block
restarting replicas cells = draw_from_one replicas >>= λ p. done (restarted cells p)

unfoldable pub asking : ℕ → ℕ → Drawing Event
asking replicas b =
    if nat_lt b 4 then increment replicas else if b == 4 then set_and_get replicas else if b == 5
    then weak_get replicas else passes

-- the block that was drawn, where so many lines are left before the end
abbrev pub block_of : ℕ → ℕ → List (List ℕ) → ℕ → Drawing Block
block_of replicas left cells b =
    if nat_lt b 8 then (asking replicas b >>= λ event. done (line_alone cells event))
    else if nat_lt left 4 then done (line_alone cells Gather)
    else if b == 8 then regrouping cells else restarting replicas cells

unfoldable pub block : ℕ → ℕ → List (List ℕ) → Drawing Block
block replicas left cells = draw 10 >>= block_of replicas left cells

-- ---- the schedule

-- what the lines that are left hang on: the number of the sequence, the cells, and the lines of a block that wait
pub record GeneratorState : Type 0 where
  pub number : ℕ
  pub cells : List (List ℕ)
  pub waiting : List Event

-- a block's first line, and what stands behind it
abbrev pub begun : Block × ℕ → Event × GeneratorState
begun b = (b.0.first, record { number = b.1; cells = b.0.cells; waiting = b.0.others })

-- the next line, where so many are left before the end, and what stands behind it
abbrev pub line_with : ℕ → ℕ → ℕ → List (List ℕ) → List Event → Event × GeneratorState
line_with replicas left number cells [] = begun (block replicas left cells number)
line_with replicas left number cells (event ∷ waiting) =
    (event, record { number = number; cells = cells; waiting = waiting })

abbrev pub next_line : ℕ → ℕ → GeneratorState → Event × GeneratorState
next_line replicas left state = line_with replicas left state.number state.cells state.waiting

-- the events that are left, of which there are so many
unfoldable pub events_left : ℕ → ℕ → GeneratorState → List Event
events_left replicas zero state = []
events_left replicas (suc zero) state = End ∷ []
events_left replicas (suc (suc left)) state =
    let line : Event × GeneratorState = next_line replicas (suc left) state in
    line.0 ∷ events_left replicas (suc left) line.1

-- where a schedule begins: all start, and then come together into one cell
abbrev pub at_the_start : ℕ → List ℕ → GeneratorState
at_the_start seed all = record { number = seed; cells = all ∷ []; waiting = Start (each_once all) ∷ Merge all ∷ [] }

-- the schedule
abbrev pub generated : ℕ → ℕ → ℕ → List Event
generated seed replicas lines = events_left replicas lines (at_the_start seed (count_up 1 replicas))
