-- A change as a field, by its four parts.
use Rattle.std.proofs.Common.{◌≡◌, ℕ, List, ◌++◌, Result, Ok, Err, refl}
use Rattle.cg_base.specs.declared.action_id.ActionId.{ActionId}
use Rattle.cg_codec.specs.declared.fault.CodecFault.{CodecFault}
use Rattle.cg_codec.specs.Fields.{list}
use Rattle.cg_codec.specs.Reading.{Reading, ◌>>=◌, done, whole}
use Rattle.cg_codec.specs.Taking.{Decodes}
use Rattle.cg_codec.specs.Laws.{IsField, IsWhole, AreBytes}
use Rattle.cg_codec.specs.FieldLaws.{field_bind, field_map, field_whole}
use Rattle.cg_action.specs.declared.action.Action.{Action}
use Rattle.cg_codec.specs.Fields.{spelled_id}
use Rattle.cg_action.specs.Bytes.{spelled_action}
use Rattle.cg_records.specs.declared.stable.Stable.{Stable}
use Rattle.cg_records.specs.Limits.{IsStable}
use Rattle.cg_records.specs.Bytes.{spelled_stable}
use Rattle.cg_records.specs.Reading.{take_stable}
use Rattle.cg_records.specs.RecordLaws.{stable_field}
use Rattle.cg_disk_records.specs.declared.change.Change.{Change}
use Rattle.cg_disk_records.specs.Change.{spelled_change}
use Rattle.cg_disk_records.specs.Limits.{AreActions, IsChange}
use Rattle.cg_disk_records.specs.Reading.{actions_reading, ids_reading, change_reading}
use Rattle.cg_disk_records.specs.Laws.{Gives}
use Rattle.cg_disk_records.specs.ListLaws.{AreIds, actions_field, ids_field}
use Rattle.cg_disk_records.specs.Following.{change_with}

-- ---- what is spelled and read behind each part

abbrev behind_known : Change → List ℕ
behind_known c = list spelled_id c.green ++ list spelled_action c.made

abbrev behind_stable : Change → List ℕ
behind_stable c = list spelled_action c.known ++ behind_known c

abbrev read_made : Stable → List Action → List ActionId → Reading Change
read_made stable known green = actions_reading >>= λ made. done (change_with stable known green made)

abbrev read_green : Stable → List Action → Reading Change
read_green stable known = ids_reading >>= read_made stable known

abbrev read_known : Stable → Reading Change
read_known stable = actions_reading >>= read_green stable

-- ---- changes of which the first parts are known

abbrev WithStable : Stable → Change → Type 0
WithStable stable c = IsChange c × (c.stable ≡ stable)

abbrev WithKnown : Stable → List Action → Change → Type 0
WithKnown stable known c = WithStable stable c × (c.known ≡ known)

abbrev WithGreen : Stable → List Action → List ActionId → Change → Type 0
WithGreen stable known green c = WithKnown stable known c × (c.green ≡ green)

-- ---- the parts, one behind the other

pub change_field : IsField IsChange spelled_change change_reading
unfolding spelled_change change_reading
change_field =
    field_bind (λ (c : Change). c.stable) IsStable spelled_stable take_stable IsChange behind_stable read_known (λ c has. has.stable) stable_field
    (λ stable is_stable.
    field_bind (λ (c : Change). c.known) AreActions (list spelled_action) actions_reading (WithStable stable) behind_known (read_green stable) (λ c has. has.0.known) actions_field
    (λ known is_known.
    field_bind (λ (c : Change). c.green) AreIds (list spelled_id) ids_reading (WithKnown stable known) (λ (c : Change). list spelled_action c.made) (read_made stable known) (λ c has. (has.0.0.short, has.0.0.green)) ids_field
    (λ green is_green.
    field_map (change_with stable known green) (λ (c : Change). c.made) AreActions (list spelled_action) actions_reading (WithGreen stable known green)
    (λ c has. (has.0.0.0.made, rw (← has.0.0.1, ← has.0.1, ← has.1) refl))
    (λ made is_made. let is : IsChange (change_with stable known green made) = record { stable = is_stable; known = is_known; short = is_green.0; green = is_green.1; made = is_made } in ((((is, refl), refl), refl), refl))
    actions_field)))

pub change_whole : IsWhole IsChange spelled_change change_reading
change_whole = field_whole IsChange spelled_change change_reading change_field

-- ---- what a call that reads all of the bytes says

-- a call that gives what reading all of the bytes gives says what the bytes spell
pub whole-gives : {X : Type 0} (Has : X → Type 0) (spelling : X → List ℕ) (reading : Reading X) (bytes : List ℕ) (r : Result X CodecFault)
    → IsWhole Has spelling reading → AreBytes bytes → Decodes (λ x. x) (whole reading bytes) r → Gives Has spelling bytes r
whole-gives Has spelling reading bytes (Ok x) field fits read = field.found x bytes fits read
whole-gives {X} Has spelling reading bytes (Err fault) field fits read = λ known x has is.
    let again : whole reading bytes ≡ Ok x = rw is (field.again x has) in
    let refused : whole reading bytes ≡ Err fault = read known in
    absurd cc
