use Rattle.std.proofs.Common.{sym}
use Rattle.cg_base.proofs.CutLemmas.{index_in-tops_of}
use Rattle.cg_base.proofs.cut.Cut.get.Goals as goal

pub returns : goal.returns
returns c = rw (← c.self.view_is, c.from.ensures, c.get.ensures.value)
    (sym (index_in-tops_of c.self.inside.indexes c.args.id c.get.ensures.range.0 c.get.ensures.range.1))
