-- The replicas that are up, ascending, and what one of them does.
use Rattle.std.specs.Prelude.{◌≡◌, ℕ, ◌==◌, ◌&&◌, Bool, true, not, ◌+◌, length, List, [], ◌∷◌, ◌++◌, if◌then◌else◌, Option, map, filter, find}
use Rattle.std.specs.Option.{option_map_or}
use Rattle.cg_base.specs.Sets.{Ascends}
use Rattle.cg_group.specs.declared.phase.Phase.TheVariants.{Down}
use Rattle.cg_group.specs.State.{Standing, GroupState, with_standing, is_up, regular_in}

module _ {M : Type 0} where
  -- the identifiers
  abbrev pub ids_of : List (Standing M) → List ℕ
  ids_of replicas = map (λ s. s.id) replicas

  -- each replica stands once, in the order of the identifiers
  pub record IsRoster (replicas : List (Standing M)) : Type 0 where
    pub ascends : Ascends 1 (ids_of replicas)

  -- the replica, where it is up
  abbrev pub found : List (Standing M) → ℕ → Option (Standing M)
  found replicas p = find (λ s. s.id == p) replicas

  -- one more message waits
  abbrev pub waiting : Standing M → M → Standing M
  waiting s m = record s { unordered = s.unordered ++ m ∷ [] }

  -- the replica was handed so many places
  abbrev pub handed_so_far : Standing M → ℕ → Standing M
  handed_so_far s n = record s { delivered = n }

  -- the replica's messages without a place are these
  abbrev pub with_unordered : Standing M → List M → Standing M
  with_unordered s rest = record s { unordered = rest }

  -- the replicas with the found one changed, where it is up
  abbrev pub changing : (Standing M → Standing M) → List (Standing M) → ℕ → List (Standing M)
  changing change replicas p = option_map_or (λ s. with_standing replicas (change s)) (found replicas p) replicas

  -- the replica's messages without a place
  abbrev pub waits_of : List (Standing M) → ℕ → List M
  waits_of replicas p = option_map_or (λ s. s.unordered) (found replicas p) []

  -- the configuration in which the replica is regular, 0 for none
  abbrev pub conf_of : List (Standing M) → ℕ → ℕ
  conf_of replicas p = regular_in (option_map_or (λ s. s.phase) (found replicas p) Down)

  -- the replicas that are regular, ascending
  abbrev pub regulars_of : List (Standing M) → List ℕ
  regulars_of replicas = map (λ s. s.id) (filter (λ s. not (regular_in s.phase == 0)) replicas)

  -- a regular replica with messages that wait for a place
  abbrev pub is_sender : Standing M → Bool
  is_sender s = not (regular_in s.phase == 0) && not (length s.unordered == 0)

  -- those replicas, ascending
  abbrev pub senders_of : List (Standing M) → List ℕ
  senders_of replicas = map (λ s. s.id) (filter is_sender replicas)

  -- how many messages wait for a place of the configuration
  abbrev pub pending : List (Standing M) → ℕ → ℕ
  pending [] conf = 0
  pending (s ∷ replicas) conf = (if regular_in s.phase == conf then length s.unordered else 0) + pending replicas conf

  -- each of the replicas is up
  abbrev pub AllUp : GroupState M → List ℕ → Type 0
  AllUp g [] = Unit {0}
  AllUp g (p ∷ set) = (is_up g p ≡ true) × AllUp g set
