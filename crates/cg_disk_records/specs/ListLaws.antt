-- Lists of actions and of their names as fields.
use Rattle.std.proofs.Common.{◌≡◌, ℕ, zero, suc, ◌-◌, ◌^◌, ◌<◌, ◌≤◌, List, [], ◌∷◌, ◌++◌, ◌+◌, length, drop, get_or, refl, sym, arith}
use Rattle.std.specs.List.{flat_map, slice_get}
use Rattle.std.proofs.lemmas.List.Concat.{flat_map-cons}
use Rattle.cg_base.specs.declared.action_id.ActionId.{ActionId}
use Rattle.cg_codec.specs.Fields.{list}
use Rattle.cg_codec.specs.Reading.{Reading, take_list}
use Rattle.cg_codec.specs.Laws.{IsField, EachBehind}
use Rattle.cg_codec.specs.FieldLaws.{field_has}
use Rattle.cg_codec.specs.PlainLaws.{count_field}
use Rattle.cg_codec.specs.ListLaws.{field_list}
use Rattle.cg_action.specs.declared.action.Action.{Action}
use Rattle.cg_action.specs.ActionLimits.{IsActionId, IsAction}
use Rattle.cg_codec.specs.Fields.{spelled_id}
use Rattle.cg_action.specs.Bytes.{spelled_action}
use Rattle.cg_action.specs.Reading.{id_reading, action_reading}
use Rattle.cg_action.specs.ValueLaws.{id_field}
use Rattle.cg_action.specs.KindLaws.{action_field}
use Rattle.cg_base.specs.Lists.{Each}
use Rattle.cg_disk_records.specs.Kept.{spelled_next}
use Rattle.cg_disk_records.specs.Limits.{IsShort, AreActions}
use Rattle.cg_disk_records.specs.Reading.{actions_reading, ids_reading}

-- ---- what holds of each of them

pub each-behind : {X : Type 0} (P : X → Type 0) (xs taken : List X) → EachBehind (λ _ x. P x) taken xs → Each P xs
each-behind P [] taken behind = tt
each-behind P (x ∷ xs) taken behind = (behind.0, each-behind P xs (taken ++ x ∷ []) behind.1)

pub behind-each : {X : Type 0} (P : X → Type 0) (xs taken : List X) → Each P xs → EachBehind (λ _ x. P x) taken xs
behind-each P [] taken each = tt
behind-each P (x ∷ xs) taken each = (each.0, behind-each P xs (taken ++ x ∷ []) each.1)

pub Each-at : {X : Type 0} (P : X → Type 0) (xs : List X) (i : ℕ) (x : X) → Each P xs → i < length xs → P (get_or xs i x)
Each-at P [] i y each lt = absurd (omega arith)
Each-at P (x ∷ xs) zero y each lt = each.0
Each-at P (x ∷ xs) (suc i) y each lt = Each-at P xs i y each.1 (omega (arith, lt))

-- ---- fields

-- a list of at most so many things, each of which is one of these
pub short_field : {X : Type 0} (P : X → Type 0) (spelling : X → List ℕ) (item : Reading X) → IsField P spelling item
    → IsField (λ (xs : List X). IsShort xs × Each P xs) (list spelling) (take_list (2 ^ 32 - 1) (λ _. item))
short_field {X} P spelling item field =
    field_has (λ (xs : List X). (length xs ≤ 2 ^ 32 - 1) × EachBehind (λ _ x. P x) [] xs) (λ (xs : List X). IsShort xs × Each P xs) (list spelling) (take_list (2 ^ 32 - 1) (λ _. item))
    (λ xs has. let few : length xs ≤ 2 ^ 32 - 1 = has.0 in (omega arith, each-behind P xs [] has.1))
    (λ xs has. let few : length xs < 2 ^ 32 = has.0 in (omega arith, behind-each P xs [] has.1))
    (field_list (2 ^ 32 - 1) (λ _ x. P x) spelling (λ _. item) (count_field (2 ^ 32 - 1) (omega arith)) (λ _. field))

pub actions_field : IsField AreActions (list spelled_action) actions_reading
unfolding actions_reading
actions_field =
    field_has (λ (xs : List Action). IsShort xs × Each IsAction xs) AreActions (list spelled_action) actions_reading
    (λ xs has. record { short = has.0; each = has.1 }) (λ xs has. (has.short, has.each)) (short_field IsAction spelled_action action_reading action_field)

abbrev pub AreIds : List ActionId → Type 0
AreIds ids = IsShort ids × Each IsActionId ids

pub ids_field : IsField AreIds (list spelled_id) ids_reading
unfolding ids_reading
ids_field = short_field IsActionId spelled_id id_reading id_field

-- the next action, and those behind it
pub next-left : (actions : List Action) (i : ℕ) → spelled_next (slice_get actions i) ++ flat_map spelled_action (drop (i + 1) actions) ≡ flat_map spelled_action (drop i actions)
next-left actions i = let next : i + 1 ≡ suc i = omega arith in rw next (next-behind actions i)
  where
    next-behind : (xs : List Action) (k : ℕ) → spelled_next (slice_get xs k) ++ flat_map spelled_action (drop (suc k) xs) ≡ flat_map spelled_action (drop k xs)
    next-behind [] zero = refl
    next-behind [] (suc k) = refl
    next-behind (x ∷ xs) zero = sym (flat_map-cons spelled_action x xs)
    next-behind (x ∷ xs) (suc k) = next-behind xs k
