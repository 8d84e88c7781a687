use Rattle.cg_action.specs.Limits.{IsQuery}
use Rattle.cg_action.specs.ActionLimits.{IsActionId, IsValue, IsCommand, IsAction}
use Rattle.cg_codec.specs.Fields.{spelled_id}
use Rattle.cg_action.specs.Bytes.{spelled_value, spelled_command, spelled_query, spelled_action}
use Rattle.cg_action.specs.Reading.{id_reading, value_reading, command_reading, query_reading, action_reading}
use Rattle.cg_codec.specs.ShapeLaws.{field_front}
use Rattle.cg_action.specs.ValueLaws.{id_field, value_field}
use Rattle.cg_action.specs.CommandLaws.{command_field, query_field}
use Rattle.cg_action.specs.KindLaws.{action_field}
use Rattle.cg_action.proofs.laws.spellings_stand_apart.Goals as goal

pub returns : goal.returns
returns c = record {
  id = field_front IsActionId spelled_id id_reading id_field;
  value = field_front IsValue spelled_value value_reading value_field;
  command = field_front IsCommand spelled_command command_reading command_field;
  query = field_front IsQuery spelled_query query_reading query_field;
  action = field_front IsAction spelled_action action_reading action_field;
}
