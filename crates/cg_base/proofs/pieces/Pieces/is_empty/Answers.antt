use Rattle.cg_base.proofs.Cutting.{left-is_nil}
use Rattle.cg_base.proofs.pieces.Pieces.is_empty.Goals as goal

pub returns : goal.returns
returns c = rw (← c.self.view_is) (left-is_nil c.self.inside.is_done c.self.inside.separator c.self.inside.rest.now)
