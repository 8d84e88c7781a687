use Rattle.std.proofs.Common.{refl}
use Rattle.cg_base.specs.Slots.{weighted, array_slot}
use Rattle.cg_base.proofs.ArrayLemmas.{map-held}
use Rattle.cg_base.proofs.weight_set.WeightSet.iter.Goals as goal

pub returns : goal.returns
returns c =
    rw (c.ids.ensures, ← c.self.view_is) (map-held weighted (array_slot c.self.inside.weights) (λ m. m.id) (λ p n. refl))
