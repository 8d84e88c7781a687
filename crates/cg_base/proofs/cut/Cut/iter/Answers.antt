use Rattle.std.proofs.Common.{refl}
use Rattle.cg_base.specs.Slots.{top, array_slot}
use Rattle.cg_base.proofs.ArrayLemmas.{map-held}
use Rattle.cg_base.proofs.cut.Cut.iter.Goals as goal

pub returns : goal.returns
returns c =
    rw (c.creators.ensures, ← c.self.view_is) (map-held top (array_slot c.self.inside.indexes) (λ t. t.creator) (λ p n. refl))
