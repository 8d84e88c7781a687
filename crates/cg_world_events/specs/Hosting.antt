-- The replicas that have begun, in their order.
use Rattle.std.specs.Prelude.{ℕ, List, map, filter, is_some, if◌then◌else◌}
use Rattle.cg_base.specs.Sets.{Ascends, with_member}
use Rattle.cg_model.specs.World.{Node, World, running, is_left}

-- whose the nodes are
abbrev pub ids_of : List Node → List ℕ
ids_of nodes = map (λ s. s.id) nodes

-- each replica stands once, in the order of the identifiers
pub record AscendingNodes (nodes : List Node) : Type 0 where
  pub ascends : Ascends 1 (ids_of nodes)

-- the replicas that are up
abbrev pub ups : List Node → List ℕ
ups nodes = map (λ s. s.id) (filter (λ s. is_some (running s.life)) nodes)

-- the replicas, and this one where it is up
abbrev pub with_up : List ℕ → Node → List ℕ
with_up set s = if is_some (running s.life) then with_member set s.id else set

-- the replicas, and this one where it has left
abbrev pub with_left : World → List ℕ → ℕ → List ℕ
with_left w set p = if is_left w p then with_member set p else set
