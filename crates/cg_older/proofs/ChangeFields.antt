-- A change as a field, by its four parts; and what is said of it in the newer format.
use Rattle.std.proofs.Common.{◌≡◌, ℕ, List, ◌++◌, Result, Ok, Err, refl, sym, ap, ◌∙◌}
use Rattle.std.specs.Prelude.{Some, None, IfOk}
use Rattle.cg_base.specs.Lists.{Each}
use Rattle.cg_codec.specs.declared.fault.CodecFault.{CodecFault}
use Rattle.cg_codec.specs.Fields.{list, spelled_id}
use Rattle.cg_codec.specs.Reading.{Reading, ◌>>=◌, done, whole}
use Rattle.cg_codec.specs.Taking.{Decodes}
use Rattle.cg_codec.specs.Laws.{IsField, AreBytes}
use Rattle.cg_codec.specs.FieldLaws.{field_bind, field_whole}
use Rattle.cg_codec.specs.ShapeLaws.{field_three}
use Rattle.cg_action.specs.ActionLimits.{IsActionId}
use Rattle.cg_action.specs.Bytes.{spelled_action}
use Rattle.cg_records.specs.declared.stable.Stable.{Stable}
use Rattle.cg_disk_records.specs.declared.change.Change.{Change}
use Rattle.cg_disk_records.specs.Change.{spelled_change}
use Rattle.cg_disk_records.specs.Following.{change_with}
use Rattle.cg_disk_records.specs.Limits.{IsShort, IsChange}
use Rattle.cg_disk_records.specs.Parts.{read_value, change_in}
use Rattle.cg_disk_records.specs.Reading.{ids_reading}
use Rattle.cg_older.specs.Bytes.{spelled_old_stable, spelled_old_change}
use Rattle.cg_older.specs.Older.{old_change_in}
use Rattle.cg_older.specs.Reading.{old_stable_reading, old_actions_reading, old_change_reading}
use Rattle.cg_older.proofs.ListFields.{ExactActions, AreLightActions, actions_field}
use Rattle.cg_older.proofs.StableFields.{IsLightStable, stable_field}
use Rattle.cg_disk_records.specs.ListLaws.{ids_field, AreIds}

-- a change that the older format has
pub record IsLightChange (c : Change) : Type 0 where
  pub stable : IsLightStable c.stable
  pub known : AreLightActions c.known
  pub short : IsShort c.green
  pub green : Each IsActionId c.green
  pub made : AreLightActions c.made

pub light-change : (c : Change) → IsLightChange c → IsChange c
light-change c has = record { stable = has.stable.is; known = has.known.0; short = has.short; green = has.green; made = has.made.0 }

abbrev behind_stable : Change → List ℕ
behind_stable c = list spelled_action c.known ++ (list spelled_id c.green ++ list spelled_action c.made)

abbrev read_known : Stable → Reading Change
read_known stable = old_actions_reading >>= λ known. ids_reading >>= λ green. old_actions_reading >>= λ made. done (change_with stable known green made)

abbrev WithStable : Stable → Change → Type 0
WithStable stable c = IsLightChange c × (c.stable ≡ stable)

rest-same : (stable : Stable) (c : Change) → WithStable stable c → change_with stable c.known c.green c.made ≡ c
rest-same stable c has = λ i. record { stable = sym has.1 i; known = c.known; green = c.green; made = c.made }

pub change_field : ExactActions → IsField IsLightChange spelled_old_change old_change_reading
unfolding spelled_old_change old_change_reading
change_field exact =
    field_bind (λ (c : Change). c.stable) IsLightStable spelled_old_stable old_stable_reading IsLightChange behind_stable read_known (λ c has. has.stable) stable_field
    (λ stable is_stable.
    field_three (change_with stable) (λ c. c.known) (λ c. c.green) (λ c. c.made) AreLightActions AreIds AreLightActions (list spelled_action) (list spelled_id) (list spelled_action) old_actions_reading ids_reading old_actions_reading (WithStable stable) behind_stable
    (actions_field exact) ids_field (actions_field exact)
    (λ c has. (has.0.known, (has.0.short, has.0.green), has.0.made, rest-same stable c has, refl))
    (λ known green made k g m. ((record { stable = is_stable; known = k; short = g.0; green = g.1; made = m }, refl), refl, refl, refl)))

-- ---- what a call that reads all of the bytes says

pub change-within : ExactActions → (bytes : List ℕ) (r : Result Change CodecFault) → AreBytes bytes → Decodes (λ c. c) (whole old_change_reading bytes) r → IfOk r IsChange
change-within exact bytes (Ok c) fits read = light-change c ((field_whole IsLightChange spelled_old_change old_change_reading (change_field exact)).found c bytes fits read).0
change-within exact bytes (Err fault) fits read = tt

pub change-same : (body bytes : List ℕ) (c : Change) → change_in (spelled_change c) ≡ Some c → whole old_change_reading body ≡ Ok c → bytes ≡ spelled_change c → change_in bytes ≡ old_change_in body
unfolding old_change_in
change-same body bytes c again read spelled = ap change_in spelled ∙ again ∙ sym (ap read_value read)

pub change-none : (body : List ℕ) (fault : CodecFault) → whole old_change_reading body ≡ Err fault → old_change_in body ≡ None
unfolding old_change_in
change-none body fault read = ap read_value read
