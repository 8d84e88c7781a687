use Rattle.std.proofs.Common.{◌∙◌, sym}
use Rattle.cg_group.proofs.UpFacts.{AllUp-merge}
use Rattle.cg_group.proofs.group.Group.merge.Goals as goal

pub merge_admitted-requires : goal.merge_admitted-requires
merge_admitted-requires g c = AllUp-merge c.args.self.now c.args.set c.args.left (sym c.merge_refusal.ensures ∙ c.in-None.is)
