-- What a queue shows at every time.
use Rattle.std.specs.Prelude.{◌≡◌, ℕ, ◌<◌, ◌≤◌, ◌↔◌, true, List, [], ◌∷◌}
use Rattle.cg_base.specs.declared.action_id.ActionId.{ActionId}
use Rattle.cg_base.specs.Ids.{has_name, id_before}
use Rattle.cg_base.specs.Sets.{IsId}
use Rattle.cg_base.specs.Cuts.{index_in}
use Rattle.cg_base.specs.CutLimits.{IsCut}
use Rattle.cg_queue.specs.Queue.{QueueView, names_of}
use Rattle.cg_queue.specs.Body.{Follows}
use Rattle.cg_queue.specs.Distinct.{is_distinct}

-- the name of a replica's action behind the first cut, and within the second
abbrev pub IsBetween : List ActionId → List ActionId → ActionId → Type 0
IsBetween low high id = IsId id.creator × (index_in low id.creator < id.index) × (id.index ≤ index_in high id.creator)

-- the names ascend strictly, by creator and then by index, so that no two are one
abbrev pub IsAhead : ActionId → List ActionId → Type 0
IsAhead id [] = Unit {0}
IsAhead id (next ∷ ids) = id_before id next ≡ true

abbrev pub NamesAscend : List ActionId → Type 0
NamesAscend [] = Unit {0}
NamesAscend (id ∷ ids) = IsAhead id ids × NamesAscend ids

-- the kept greens of a creator count up to its index in the green cut
pub record LeadUp (q : QueueView) (p : ℕ) : Type 0 where
  pub first : ℕ
  pub follows : Follows p first (index_in q.green_cut p) q.greens

-- the green cut is within the red one; the reds are exactly the actions between the green cut and the red cut, and the yellow names
-- are names of reds, each once
pub record IsShown (q : QueueView) : Type 0 where
  pub green : IsCut q.green_cut
  pub red : IsCut q.red_cut
  pub cuts : (p : ℕ) → IsId p → index_in q.green_cut p ≤ index_in q.red_cut p
  pub greens : (p : ℕ) → IsId p → LeadUp q p
  pub ascend : NamesAscend (names_of q.reds)
  pub reds : (id : ActionId) → (has_name (names_of q.reds) id ≡ true) ↔ IsBetween q.green_cut q.red_cut id
  pub yellow : (id : ActionId) → has_name q.yellow id ≡ true → has_name (names_of q.reds) id ≡ true
  pub distinct : is_distinct q.yellow ≡ true
