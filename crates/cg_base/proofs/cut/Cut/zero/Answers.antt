use Rattle.std.proofs.Common.{◌^◌, arith}
use Rattle.cg_base.specs.ArrayLaws.{IsArray-zeros}
use Rattle.cg_base.proofs.CutLemmas.{tops_of-zeros}
use Rattle.cg_base.proofs.cut.Cut.zero.Goals as goal

pub returns : goal.returns
returns c = tops_of-zeros

pub invariant_of-result : goal.invariant_of-result
invariant_of-result c = IsArray-zeros (2 ^ 64) (omega arith)
