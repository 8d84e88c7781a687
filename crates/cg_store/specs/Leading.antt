-- Actions that lead to a cut: each is the next one of its creator.
use Rattle.std.specs.Prelude.{◌≡◌, ℕ, suc, ◌-◌, true, List, [], ◌∷◌, length}
use Rattle.cg_base.specs.declared.action_id.ActionId.{ActionId}
use Rattle.cg_base.specs.Sets.{IsId}
use Rattle.cg_base.specs.Cuts.{index_in, raise}
use Rattle.cg_base.specs.CutLimits.{IsCut}
use Rattle.cg_action.specs.declared.action.Action.{Action}
use Rattle.cg_base.specs.Lists.{Each}
use Rattle.cg_records.specs.Limits.{IsIndex}
use Rattle.cg_disk_records.specs.Agreeing.{indexes_of, count_to}

-- each name is the next one of its creator, behind a cut and those before it
abbrev pub AreNext : List ActionId → List ActionId → Type 0
AreNext cut [] = Unit {0}
AreNext cut (id ∷ ids) = (id.index ≡ suc (index_in cut id.creator)) × AreNext (raise cut id) ids

-- the indexes of each creator's actions count up to its index in the cut
abbrev pub LeadTo : List ActionId → List Action → Type 0
LeadTo cut actions = (p : ℕ) → IsId p → count_to (index_in cut p) (indexes_of actions p) ≡ true

-- how far the actions in front of these reach
pub record IsBelow (cut : List ActionId) (actions : List Action) (below : List ActionId) : Type 0 where
  pub is_cut : IsCut below
  pub indexes : Each (λ top. IsIndex top.index) below
  pub each : (p : ℕ) → IsId p → index_in below p ≡ index_in cut p - length (indexes_of actions p)
