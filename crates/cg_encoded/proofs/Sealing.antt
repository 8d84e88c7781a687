-- What is sealed is read again.
use Rattle.std.specs.Prelude.{◌≡◌, List}
use Rattle.std.proofs.Common.{sym, ap, subst}
use Rattle.cg_codec.specs.Laws.{IsWhole}
use Rattle.cg_wire.specs.declared.message.Msg.{Msg}
use Rattle.cg_wire.specs.Reading.{msg_reading}
use Rattle.cg_wire.specs.Limits.{IsMsg}
use Rattle.cg_wire.specs.Bytes.{spelled_msg}
use Rattle.cg_encoded.specs.Encoded.{encoded_by, IsEncoded, read_or_any}

pub read_again : IsWhole IsMsg spelled_msg msg_reading → (m : Msg) → IsMsg m → encoded_by (spelled_msg m) ≡ m
unfolding encoded_by
read_again exact m is = ap read_or_any (exact.again m is)

pub is_encoded : IsWhole IsMsg spelled_msg msg_reading → (m : Msg) → IsMsg m → IsEncoded (spelled_msg m)
is_encoded exact m is = record { spelled = ap spelled_msg (sym (read_again exact m is)); is = subst IsMsg (sym (read_again exact m is)) is }
