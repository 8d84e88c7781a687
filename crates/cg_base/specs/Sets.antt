-- Identifiers of replicas, and sets of them. A set is the list of its members' identifiers, ascending, each once.
use Rattle.std.specs.Prelude.{ℕ, suc, ◌≤◌, ◌==◌, nat_lt, Bool, not, ◌&&◌, List, [], ◌∷◌, Option, Some, None, filter, fold, if◌then◌else◌}
use Rattle.std.specs.List.{list_any, list_all}

-- a number that names a replica
abbrev pub IsId : ℕ → Type 0
IsId n = (1 ≤ n) × (n ≤ 32)

-- the numbers ascend strictly, from the given one on and no further than 32
abbrev pub Ascends : ℕ → List ℕ → Type 0
Ascends low [] = Unit {0}
Ascends low (p ∷ set) = (low ≤ p) × (p ≤ 32) × Ascends (suc p) set

-- the list is a set's
pub record IsSet (set : List ℕ) : Type 0 where
  pub ascends : Ascends 1 set

-- the replica is a member
abbrev pub has : List ℕ → ℕ → Bool
has set p = list_any (λ q. q == p) set

-- the set with one more member
abbrev pub with_member : List ℕ → ℕ → List ℕ
with_member [] p = p ∷ []
with_member (q ∷ set) p = if p == q then q ∷ set else if nat_lt p q then p ∷ q ∷ set else q ∷ with_member set p

-- the set without that member
abbrev pub without_member : List ℕ → ℕ → List ℕ
without_member set p = filter (λ q. not (q == p)) set

-- the members of either set
abbrev pub union : List ℕ → List ℕ → List ℕ
union s t = fold with_member s t

-- the members of both sets
abbrev pub common : List ℕ → List ℕ → List ℕ
common s t = filter (has t) s

-- the members of the first set that the second lacks
abbrev pub without : List ℕ → List ℕ → List ℕ
without s t = filter (λ p. not (has t p)) s

-- each member of the first set is one of the second
abbrev pub is_within : List ℕ → List ℕ → Bool
is_within s t = list_all (has t) s

-- the two sets have the same members
abbrev pub same_set : List ℕ → List ℕ → Bool
same_set s t = is_within s t && is_within t s

-- the least member
abbrev pub least : List ℕ → Option ℕ
least [] = None
least (p ∷ set) = Some p
