-- The tests by which the group refuses an event. Each gives the reason, or none.
use Rattle.std.specs.Prelude.{ℕ, ◌-◌, ◌==◌, nat_lt, Bool, false, not, ◌&&◌, List, [], ◌∷◌, Option, Some, None, map, find, length, is_none, if◌then◌else◌}
use Rattle.std.specs.List.{list_any}
use Rattle.std.specs.Option.{option_map_or, option_map}
use Rattle.cg_base.specs.Lists.{above_up_to, at_place, first_some}
use Rattle.cg_base.specs.Sets.{has, same_set, least}
use Rattle.cg_group.specs.declared.phase.Phase.{Phase}
use Rattle.cg_group.specs.declared.phase.Phase.TheVariants.{Transitional}
use Rattle.cg_group.specs.declared.reason.Reason.{Reason}
use Rattle.cg_group.specs.declared.reason.Reason.TheVariants.{NotUp, NotRegular, NothingToOrder, NoSuchPlace, AlreadyReceived, NotReady, NotOneConfiguration, NotTogether, EmptySet, EarlierMissing, StillRegular}
use Rattle.cg_group.specs.State.{Configuration, GroupState, is_up, is_regular, regular_in, phase_of, home, unordered_of, has_received}
use Rattle.cg_group.specs.Ready.{ready}

-- a reason, where the test holds
abbrev pub refuse : Bool → Reason → Option Reason
refuse test reason = if test then Some reason else None

-- the set has no member
abbrev pub empty_set : List ℕ → Option Reason
empty_set set = refuse (is_none (least set)) EmptySet

-- the two are transitional in one configuration with one set
abbrev pub left_together : Phase → Phase → Bool
left_together (Transitional c s) (Transitional d t) = (c == d) && same_set s t
left_together _ _ = false

-- the first reason that some replica of the set gives
abbrev pub any_of : (ℕ → Option Reason) → List ℕ → Option Reason
any_of test set = first_some (map test set)

module _ {M : Type 0} where
  -- the replica isn't up
  abbrev pub not_up : GroupState M → ℕ → Option Reason
  not_up g p = refuse (not (is_up g p)) (NotUp p)

  -- the replica isn't regular
  abbrev pub not_regular : GroupState M → ℕ → Option Reason
  not_regular g p = refuse (not (is_regular g p)) (NotRegular p)

  -- the replica has no message without a place
  abbrev pub nothing_to_order : GroupState M → ℕ → Option Reason
  nothing_to_order g p = refuse (length (unordered_of g p) == 0) (NothingToOrder p)

  -- the replica's configuration has no such place
  abbrev pub no_such_place : GroupState M → ℕ → ℕ → Option Reason
  no_such_place g p place = refuse (is_none (at_place (home g p).ordered place)) (NoSuchPlace place)

  -- the replica has received the place
  abbrev pub already_received : GroupState M → ℕ → ℕ → Option Reason
  already_received g p place = refuse (has_received (home g p) p place) (AlreadyReceived place)

  -- the sender of the message at a place
  abbrev pub sender_at : Configuration M → ℕ → ℕ
  sender_at c place = option_map_or (λ s. s.from) (at_place c.ordered place) 0

  -- a place of the same sender before the given one that the replica lacks
  abbrev pub is_missing : Configuration M → ℕ → ℕ → ℕ → Bool
  is_missing c p place earlier = (sender_at c earlier == sender_at c place) && not (has_received c p earlier)

  -- the earliest place of the same sender that the replica lacks
  abbrev pub earlier_missing : GroupState M → ℕ → ℕ → Option Reason
  earlier_missing g p place =
      option_map EarlierMissing (find (is_missing (home g p) p place) (above_up_to 0 (place - 1)))

  -- fewer places are ready than are to be delivered
  abbrev pub not_ready : GroupState M → ℕ → ℕ → Option Reason
  not_ready g p k = refuse (nat_lt (ready g p) k) (NotReady (ready g p))

  -- the lowest of the replicas that isn't in the lowest one's configuration
  abbrev pub not_one_configuration : GroupState M → List ℕ → Option Reason
  not_one_configuration g [] = None
  not_one_configuration g (p ∷ set) =
      option_map NotOneConfiguration (find (λ q. not (regular_in (phase_of g q) == regular_in (phase_of g p))) set)

  -- the replica is regular
  abbrev pub still_regular : GroupState M → ℕ → Option Reason
  still_regular g p = refuse (is_regular g p) (StillRegular p)

  -- the replica came into its transitional configuration together with one of the set, and neither has left it
  abbrev pub is_together : GroupState M → List ℕ → ℕ → Bool
  is_together g set q = list_any (λ p. left_together (phase_of g p) (phase_of g q)) set

  -- the lowest replica that must be merged with the set and isn't in it; those that have left need not be
  abbrev pub not_together : GroupState M → List ℕ → List ℕ → Option Reason
  not_together g set left =
      option_map NotTogether (find (λ q. is_together g set q && not (has set q)
      && not (has left q)) (map (λ s. s.id) g.replicas))

  -- why the replica's oldest message can't be ordered
  unfoldable pub order_refusal : GroupState M → ℕ → Option Reason
  order_refusal g p = first_some (not_up g p ∷ not_regular g p ∷ nothing_to_order g p ∷ [])

  -- why the replica can't receive the place
  unfoldable pub receive_refusal : GroupState M → ℕ → ℕ → Option Reason
  receive_refusal g p place =
      first_some (not_up g p ∷ not_regular g p ∷ no_such_place g p place ∷ already_received g p place
      ∷ earlier_missing g p place ∷ [])

  -- why the replica can't be handed so many places
  unfoldable pub deliver_refusal : GroupState M → ℕ → ℕ → Option Reason
  deliver_refusal g p k = first_some (not_up g p ∷ not_regular g p ∷ not_ready g p k ∷ [])

  -- why the replicas can't leave their configuration together
  unfoldable pub split_refusal : GroupState M → List ℕ → Option Reason
  split_refusal g set =
      first_some (empty_set set ∷ any_of (not_up g) set ∷ any_of (not_regular g) set ∷ not_one_configuration g set ∷ [])

  -- why the replicas can't be the members of a new configuration, where those named last have left for good
  unfoldable pub merge_refusal : GroupState M → List ℕ → List ℕ → Option Reason
  merge_refusal g set left =
      first_some (empty_set set ∷ any_of (not_up g) set ∷ any_of (still_regular g) set ∷ not_together g set left ∷ [])
