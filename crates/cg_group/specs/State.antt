-- The group: its configurations, and where each replica that is up stands. M is the type of messages.
use Rattle.std.specs.Prelude.{ℕ, pred, ◌==◌, nat_lt, Bool, false, not, List, [], ◌∷◌, Option, find, is_some, if◌then◌else◌}
use Rattle.std.specs.Option.{option_map_or}
use Rattle.cg_base.specs.Lists.{at_place}
use Rattle.cg_base.specs.Sets.{has}
use Rattle.cg_group.specs.declared.phase.Phase.{Phase}
use Rattle.cg_group.specs.declared.phase.Phase.TheVariants.{Down, Regular}

-- a message with its sender
pub record Sent (M : Type 0) : Type 0 where
  pub from : ℕ
  pub message : M

-- a configuration: its members, the messages that were ordered in it, and the set of those who have received each place
pub record Configuration (M : Type 0) : Type 0 where
  pub members : List ℕ
  pub ordered : List (Sent M)
  pub received : List (List ℕ)

-- a replica that is up: its phase, how many places of its configuration it was handed, and its messages without a place
pub record Standing (M : Type 0) : Type 0 where
  pub id : ℕ
  pub phase : Phase
  pub delivered : ℕ
  pub unordered : List M

-- the configurations stand in the order of their numbers, from 1; the replicas stand ascending
pub record GroupState (M : Type 0) : Type 0 where
  pub configurations : List (Configuration M)
  pub replicas : List (Standing M)

-- the number of the configuration in which the replica is regular, 0 for none
abbrev pub regular_in : Phase → ℕ
regular_in (Regular conf) = conf
regular_in _ = 0

-- the list with the element at a place, counted from 1, changed
abbrev pub changed_at : {X : Type 0} → (X → X) → List X → ℕ → List X
changed_at change [] place = []
changed_at change (x ∷ list) place = if place == 1 then change x ∷ list else x ∷ changed_at change list (pred place)

module _ {M : Type 0} where
  -- no replica is up, and there is no configuration
  abbrev pub no_group : GroupState M
  no_group = record { configurations = []; replicas = [] }

  -- the configuration of a number that none has
  abbrev pub no_configuration : Configuration M
  no_configuration = record { members = []; ordered = []; received = [] }

  -- the replica, where it is up
  unfoldable pub standing_of : GroupState M → ℕ → Option (Standing M)
  standing_of g p = find (λ s. s.id == p) g.replicas

  -- the replica is up
  abbrev pub is_up : GroupState M → ℕ → Bool
  is_up g p = is_some (standing_of g p)

  -- the replica's phase
  abbrev pub phase_of : GroupState M → ℕ → Phase
  phase_of g p = option_map_or (λ s. s.phase) (standing_of g p) Down

  -- the configuration of that number
  unfoldable pub configuration : GroupState M → ℕ → Configuration M
  configuration g conf = option_map_or (λ c. c) (at_place g.configurations conf) no_configuration

  -- the replica is regular
  abbrev pub is_regular : GroupState M → ℕ → Bool
  is_regular g p = not (regular_in (phase_of g p) == 0)

  -- the configuration in which a replica is regular
  abbrev pub home : GroupState M → ℕ → Configuration M
  home g p = configuration g (regular_in (phase_of g p))

  -- how many places of its configuration the replica was handed
  abbrev pub delivered_to : GroupState M → ℕ → ℕ
  delivered_to g p = option_map_or (λ s. s.delivered) (standing_of g p) 0

  -- the replica's messages without a place
  abbrev pub unordered_of : GroupState M → ℕ → List M
  unordered_of g p = option_map_or (λ s. s.unordered) (standing_of g p) []

  -- the member has received the place
  unfoldable pub has_received : Configuration M → ℕ → ℕ → Bool
  has_received c p place = option_map_or (λ set. has set p) (at_place c.received place) false

  -- the replicas with one of them as given
  abbrev pub with_standing : List (Standing M) → Standing M → List (Standing M)
  with_standing [] new = new ∷ []
  with_standing (s ∷ replicas) new =
      if s.id == new.id then new ∷ replicas
      else if nat_lt new.id s.id then new ∷ s ∷ replicas
      else s ∷ with_standing replicas new

  -- a group with one replica as given
  unfoldable pub set_standing : GroupState M → Standing M → GroupState M
  set_standing g s = record g { replicas = with_standing g.replicas s }

  -- a group with the configuration of a number as given
  unfoldable pub set_configuration : GroupState M → ℕ → Configuration M → GroupState M
  set_configuration g conf c = record g { configurations = changed_at (λ old. c) g.configurations conf }
