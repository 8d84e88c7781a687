-- What stands in logs, name by name, in the order of the places: how the answer is found without a list of all places.
use Rattle.std.specs.Prelude.{◌≡◌, ◌≤◌, ◌==◌, ℕ, nat_le, ◌+◌, ◌-◌, List, [], ◌∷◌, ◌++◌, Option, Some, None, filter, find, map, option_map, replicate, if◌then◌else◌}
use Rattle.std.specs.List.{flat_map}
use Rattle.cg_base.specs.declared.action_id.ActionId.{ActionId}
use Rattle.cg_base.specs.Ids.{same_id}
use Rattle.cg_compare.specs.declared.log.Log.{Log}
use Rattle.cg_compare.specs.declared.log.Joined.{Joined}
use Rattle.cg_compare.specs.declared.log.Joined.TheVariants.{Differ, Twice}
use Rattle.cg_compare.specs.declared.seen.Seen.{Seen}
use Rattle.cg_compare.specs.Places.{Sighting, seen_at}

-- ---- the names of logs

-- names, the first of them just behind this place
abbrev pub names_behind : ℕ → ℕ → List ActionId → List Seen
names_behind line place [] = []
names_behind line place (id ∷ ids) =
    record { place = place + 1; line = line; id = id } ∷ names_behind line (place + 1) ids

abbrev pub names_in : Log → List Seen
names_in log = names_behind log.line log.white log.list

abbrev pub all_names : List Log → List Seen
all_names logs = flat_map names_in logs

-- ---- in the order of the places

abbrev pub sighting : Seen → Sighting
sighting s = record { line = s.line; id = s.id }

-- what of the names is seen at a place
abbrev pub seen_among : List Seen → ℕ → List Sighting
seen_among names place = map sighting (filter (λ s. s.place == place) names)

abbrev pub AreFrom : ℕ → List Seen → Type 0
AreFrom place [] = Unit {0}
AreFrom place (s ∷ more) = (place ≤ s.place) × AreFrom place more

abbrev pub Ascend : List Seen → Type 0
Ascend [] = Unit {0}
Ascend (s ∷ more) = AreFrom s.place more × Ascend more

-- the names of the logs, ascending by place, and at each place in the order of the lines
pub record ArePlaced (logs : List Log) (names : List Seen) : Type 0 where
  pub ascend : Ascend names
  pub seen : (place : ℕ) → seen_among names place ≡ seen_at logs place

-- ---- what is found in them

-- the first name that differs from the first one at its place
abbrev pub difference_after : Seen → List Seen → Option Joined
difference_after first [] = None
difference_after first (s ∷ more) =
    if s.place == first.place then
    (if same_id first.id s.id then difference_after first more
    else Some (Differ s.place first.line first.id s.line s.id))
    else difference_after s more

abbrev pub difference_among : List Seen → Option Joined
difference_among [] = None
difference_among (first ∷ more) = difference_after first more

-- where a name was seen first
abbrev pub place_among : List Seen → ActionId → Option ℕ
place_among names id = option_map (λ s. s.place) (find (λ s. same_id id s.id) names)

abbrev pub unless_elsewhere : Option ℕ → Seen → Option Joined → Option Joined
unless_elsewhere None s more = more
unless_elsewhere (Some place) s more = if place == s.place then more else Some (Twice s.id place s.place)

-- the first name that was seen at another place before
abbrev pub repeat_after : List Seen → List Seen → Option Joined
repeat_after done [] = None
repeat_after done (s ∷ more) = unless_elsewhere (place_among done s.id) s (repeat_after (done ++ s ∷ []) more)

-- the names at the places above this one
abbrev pub covered_above : ℕ → List Seen → List (Option ActionId)
covered_above place [] = []
covered_above place (s ∷ more) =
    if nat_le s.place place then covered_above place more
    else replicate (s.place - (place + 1)) None ++ Some s.id ∷ covered_above s.place more
