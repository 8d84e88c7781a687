use Rattle.std.proofs.Common.{rules}
use Rattle.cg_codec.proofs.fields.are_bytes.Goals as goal

pub returns : goal.returns
returns c = λ i. search rules
