use Rattle.cg_relaxed.proofs.OneMap.{order-does-not-matter, stays-of-one-map, known-decides, join-laws}
use Rattle.cg_relaxed.proofs.laws.relaxed_values_agree.Goals as goal

pub returns : goal.returns
returns c = record { order = order-does-not-matter; one_map = stays-of-one-map; known = known-decides; joins = join-laws }
