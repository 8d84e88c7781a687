use Rattle.cg_codec.specs.FieldLaws.{field_whole}
use Rattle.cg_action.specs.ActionLimits.{IsAction}
use Rattle.cg_action.specs.Bytes.{spelled_action}
use Rattle.cg_action.specs.Reading.{action_reading}
use Rattle.cg_action.specs.ValueLaws.{id_field, value_field}
use Rattle.cg_action.specs.CommandLaws.{command_field, query_field}
use Rattle.cg_action.specs.KindLaws.{action_field}
use Rattle.cg_action.proofs.laws.actions_are_exact.Goals as goal

pub returns : goal.returns
returns c = record {
  id = id_field;
  value = value_field;
  command = command_field;
  query = query_field;
  action = action_field;
  whole = field_whole IsAction spelled_action action_reading action_field;
}
