use Rattle.std.proofs.Common.{◌≡◌, Ok, rules}
use Rattle.cg_codec.specs.Reading.{whole}
use Rattle.cg_codec.specs.Laws.{AreBytes}
use Rattle.cg_codec.specs.FieldLaws.{field_whole}
use Rattle.cg_action.specs.ActionLimits.{IsAction}
use Rattle.cg_action.specs.Bytes.{spelled_action}
use Rattle.cg_action.specs.Reading.{action_reading}
use Rattle.cg_action.specs.KindLaws.{action_field}
use Rattle.cg_action.proofs.reading.decode.Goals as goal

pub returns-clause-within : goal.returns-clause-within
returns-clause-within c =
    let fits : AreBytes c.args.bytes.now = λ i. search rules in
    let read : whole action_reading c.args.bytes.now ≡ Ok c.in_ok-action.action = search rules in
    ((field_whole IsAction spelled_action action_reading action_field).found c.in_ok-action.action c.args.bytes.now fits read).0
