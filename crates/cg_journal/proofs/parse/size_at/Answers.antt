use Rattle.std.proofs.Common.{◌∙◌}
use Rattle.cg_journal.proofs.Parsing.{four_bytes}
use Rattle.cg_journal.proofs.parse.size_at.Goals as goal

pub returns : goal.returns
returns c = c.from_be_bytes.ensures ∙ four_bytes c.args.bytes.now c.requires
