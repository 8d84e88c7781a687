-- Sets of replicas with weights: the list of the members, ascending, each with a weight of 1 or more.
use Rattle.std.specs.Prelude.{ℕ, ◌≤◌, ◌==◌, nat_lt, Bool, ◌&&◌, List, [], ◌∷◌, map, filter, sum_by, if◌then◌else◌}
use Rattle.cg_base.specs.declared.weighted.Weighted.{Weighted}
use Rattle.cg_base.specs.Sets.{has, Ascends}

-- the two are one replica with one weight
abbrev pub same_weighted : Weighted → Weighted → Bool
same_weighted m n = (m.id == n.id) && (m.weight == n.weight)

-- the set without its weights
abbrev pub ids : List Weighted → List ℕ
ids set = map (λ m. m.id) set

-- the set in which the member has its weight, and each other replica the weight that it had
abbrev pub with_weight : List Weighted → Weighted → List Weighted
with_weight [] n = n ∷ []
with_weight (m ∷ set) n =
    if n.id == m.id then n ∷ set else if nat_lt n.id m.id then n ∷ m ∷ set else m ∷ with_weight set n

-- the set of these members, each with weight 1
abbrev pub each_once : List ℕ → List Weighted
each_once set = map (λ p. record { id = p; weight = 1 }) set

-- the sum of all weights
abbrev pub total : List Weighted → ℕ
total set = sum_by (λ m. m.weight) set

-- the sum of the weights of the members that are in the given set
abbrev pub total_of : List Weighted → List ℕ → ℕ
total_of set present = sum_by (λ m. m.weight) (filter (λ m. has present m.id) set)

-- each weight is one that a byte holds, and not 0
abbrev pub Weigh : List Weighted → Type 0
Weigh [] = Unit {0}
Weigh (m ∷ set) = (1 ≤ m.weight) × (m.weight ≤ 255) × Weigh set

-- the list is that of a set with weights
pub record IsWeightSet (set : List Weighted) : Type 0 where
  pub ascends : Ascends 1 (ids set)
  pub weigh : Weigh set
