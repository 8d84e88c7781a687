-- Lists of actions and of their names as fields.
use Rattle.std.proofs.Common.{◌≡◌, true, List, [], arith}
use Rattle.cg_codec.specs.Fields.{list}
use Rattle.cg_codec.specs.Laws.{IsField}
use Rattle.cg_codec.specs.FieldLaws.{field_only}
use Rattle.cg_action.specs.declared.action.Action.{Action}
use Rattle.cg_action.specs.Bytes.{spelled_action}
use Rattle.cg_disk_records.specs.Limits.{AreActions}
use Rattle.cg_disk_records.specs.Reading.{actions_reading}
use Rattle.cg_older.specs.Reading.{old_actions_reading}
use Rattle.cg_older.specs.Weights.{are_light}

-- actions that the older format has
abbrev pub AreLightActions : List Action → Type 0
AreLightActions actions = AreActions actions × (are_light actions ≡ true)

abbrev pub ExactActions : Type 0
ExactActions = IsField AreActions (list spelled_action) actions_reading

pub actions_field : ExactActions → IsField AreLightActions (list spelled_action) old_actions_reading
unfolding old_actions_reading
actions_field exact = field_only AreActions (list spelled_action) actions_reading are_light exact
