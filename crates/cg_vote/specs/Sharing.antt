-- What two quorums of one set have in common.
use Rattle.std.specs.Prelude.{ℕ, IsTrue, List}
use Rattle.cg_base.specs.declared.weighted.Weighted.{Weighted}
use Rattle.cg_base.specs.Sets.{has}
use Rattle.cg_base.specs.Weights.{ids}

-- some member of the set is in both of the others
pub record ShareMember (set : List Weighted) (one other : List ℕ) : Type 0 where
  pub member : ℕ
  pub is_member : IsTrue (has (ids set) member)
  pub is_in_one : IsTrue (has one member)
  pub is_in_other : IsTrue (has other member)
