-- What is always so of a cut.
use Rattle.std.specs.Prelude.{◌≤◌, ◌<◌, ◌^◌, List, [], ◌∷◌}
use Rattle.cg_base.specs.declared.action_id.ActionId.{ActionId}
use Rattle.cg_base.specs.Sets.{Ascends}
use Rattle.cg_base.specs.Cuts.{creators_in}

-- each index names an action, and is below 2 ^ 64
abbrev pub NameActions : List ActionId → Type 0
NameActions [] = Unit {0}
NameActions (top ∷ cut) = (1 ≤ top.index) × (top.index < 2 ^ 64) × NameActions cut

-- the list is a cut's
pub record IsCut (cut : List ActionId) : Type 0 where
  pub ascends : Ascends 1 (creators_in cut)
  pub named : NameActions cut
