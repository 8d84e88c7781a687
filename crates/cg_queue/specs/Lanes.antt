-- Things in a row for each slot.
use Rattle.std.specs.Prelude.{◌≡◌, ◌<◌, ℕ, zero, suc, ◌==◌, Bool, List, [], ◌∷◌, length, get_or, if◌then◌else◌}
use Rattle.std.specs.VecDeque.{deque_items, deque_len, deque_capacity}
use Rattle.cg_queue.specs.declared.red.Red.{Red}
use Rattle.cg_queue.specs.declared.lanes.Lanes.{Lanes}

-- what stands in the row of a slot, which is empty behind the last row
abbrev pub lane_at : {R X : Type 0} → (R → List X) → List R → ℕ → List X
lane_at items [] k = []
lane_at items (row ∷ rows) zero = items row
lane_at items (row ∷ rows) (suc k) = lane_at items rows k

-- the row of each slot
abbrev pub rows_of : {T : Type 0} → Lanes T → ℕ → List T
rows_of lanes = lane_at deque_items lanes.rows.items

-- there is a row at the slot, and its capacity is above its length
abbrev pub RoomAt : {R : Type 0} → (R → ℕ) → (R → ℕ) → List R → ℕ → Type 0
RoomAt {R} len capacity rows slot = (slot < length rows)
    × ((row : R) → row ≡ get_or rows slot row → len row < capacity row)

-- the row of a slot has room for one thing more
abbrev pub HasRoom : {T : Type 0} → Lanes T → ℕ → Type 0
HasRoom lanes slot = RoomAt deque_len deque_capacity lanes.rows.items slot

-- the rows with another one at a slot
abbrev pub with_lane : {X : Type 0} → (ℕ → List X) → ℕ → List X → ℕ → List X
with_lane lanes slot row k = if k == slot then row else lanes k

-- all but the last
abbrev pub front_of : {X : Type 0} → List X → List X
front_of [] = []
front_of (x ∷ []) = []
front_of (x ∷ y ∷ xs) = x ∷ front_of (y ∷ xs)

-- the red actions with another flag on the one at a place
abbrev pub marked_at : List Red → ℕ → Bool → List Red
marked_at [] i flag = []
marked_at (r ∷ reds) zero flag = record r { is_yellow = flag } ∷ reds
marked_at (r ∷ reds) (suc i) flag = r ∷ marked_at reds i flag
