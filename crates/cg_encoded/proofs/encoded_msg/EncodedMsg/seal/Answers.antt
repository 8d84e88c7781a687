use Rattle.std.proofs.Common.{sym, ap, subst, ◌∙◌}
use Rattle.cg_encoded.specs.Encoded.{encoded_by, IsEncoded}
use Rattle.cg_encoded.proofs.Sealing.{read_again, is_encoded}
use Rattle.cg_encoded.proofs.encoded_msg.EncodedMsg.seal.Goals as goal

pub invariant_of-result : goal.invariant_of-result
invariant_of-result c =
    subst IsEncoded (sym (c.in_ok-delivered.ensures ∙ c.in_ok-bytes.ensures)) (is_encoded c.messages_are_exact.ensures.whole c.args.m c.requires)

pub returns : goal.returns
returns c =
    ap encoded_by (c.in_ok-delivered.ensures ∙ c.in_ok-bytes.ensures) ∙ read_again c.messages_are_exact.ensures.whole c.args.m c.requires
