use Rattle.std.proofs.Common.{◌≡◌, Some, ap}
use Rattle.cg_wire.specs.declared.message.Msg.{Msg}
use Rattle.cg_wire.specs.Limits.{IsMsg}
use Rattle.cg_wire.specs.Bytes.{spelled_msg}
use Rattle.cg_codec.specs.Laws.{IsWhole}
use Rattle.cg_wire.specs.Reading.{msg_reading, read_of, message_in}
use Rattle.cg_wire.proofs.SummaryFields.{summary_field}
use Rattle.cg_wire.proofs.MsgFields.{msg_field, msg_whole}
use Rattle.cg_wire.proofs.laws.messages_are_exact.Goals as goal

message_in_spelling : IsWhole IsMsg spelled_msg msg_reading → (m : Msg) → IsMsg m → message_in (spelled_msg m) ≡ Some m
unfolding message_in
message_in_spelling exact m is = ap read_of (exact.again m is)

pub returns : goal.returns
returns c =
    let action = c.actions_are_exact.ensures.action in
    let whole : IsWhole IsMsg spelled_msg msg_reading = msg_whole action in
    record { summary = summary_field; message = msg_field action; whole = whole; in_spelling = message_in_spelling whole }
