-- What the iterators over sets, weights and cuts have left.
use Rattle.std.specs.Prelude.{ℕ, List, map}
use Rattle.cg_base.specs.declared.action_id.ActionId.{ActionId}
use Rattle.cg_base.specs.declared.weighted.Weighted.{Weighted}
use Rattle.cg_base.specs.declared.id_set.SetIter.{SetIter}
use Rattle.cg_base.specs.declared.weight_set.WeightIter.{WeightIter}
use Rattle.cg_base.specs.declared.cut.Tops.{Tops}
use Rattle.cg_base.specs.Slots.{weighted, top, array_slot}

abbrev pub members_left : SetIter → List ℕ
members_left m = m.left

abbrev pub weights_left : WeightIter → List Weighted
weights_left w = map (λ p. weighted p (array_slot w.weights p)) w.left

abbrev pub tops_left : Tops → List ActionId
tops_left t = map (λ p. top p (array_slot t.indexes p)) t.left
