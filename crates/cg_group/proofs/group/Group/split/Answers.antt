use Rattle.std.proofs.Common.{◌∙◌, sym}
use Rattle.cg_group.proofs.UpFacts.{AllUp-split}
use Rattle.cg_group.proofs.group.Group.split.Goals as goal

pub split_admitted-requires : goal.split_admitted-requires
split_admitted-requires g c = AllUp-split c.args.self.now c.args.set (sym c.split_refusal.ensures ∙ c.in-None.is)
