-- How a configuration lies in memory.
use Rattle.std.specs.Prelude.{◌≡◌, ℕ, ◌≤◌, ◌<◌, ◌-◌, suc, true, slice_get, length, List, [], ◌∷◌, map, fold, find, Option, Some, is_none}
use Rattle.cg_base.specs.Lists.{at_place, above_up_to, first_some}
use Rattle.cg_base.specs.Sets.{IsSet, has, is_within}
use Rattle.std.specs.Option.{option_map}
use Rattle.cg_group.specs.declared.ordered_message.OrderedMessage.{OrderedMessage}
use Rattle.cg_group.specs.State.{Configuration, Sent, Standing, GroupState, has_received}
use Rattle.cg_group.specs.declared.reason.Reason.{Reason}
use Rattle.cg_group.specs.declared.reason.Reason.TheVariants.{NoSuchPlace, AlreadyReceived, EarlierMissing}
use Rattle.cg_group.specs.Refusals.{refuse, is_missing}
use Rattle.cg_group.specs.Events.{with_receipt}
use Rattle.cg_group.specs.Rosters.{pending}

-- a configuration, and how many more messages it takes without more memory
pub record LogView (M : Type 0) : Type 0 where
  pub configuration : Configuration M
  pub room : ℕ

module _ {M : Type 0} where
  -- a message that has a place, with its sender
  abbrev pub sent_of : OrderedMessage M → Sent M
  sent_of p = record { from = p.from; message = p.message }

  -- the configuration of these members and messages
  abbrev pub configuration_of : List ℕ → List (OrderedMessage M) → Configuration M
  configuration_of members ordered =
      record { members = members; ordered = map sent_of ordered; received = map (λ p. p.received) ordered }

  -- every member has received each of the first places, so many
  pub record IsSettled (members : List ℕ) (ordered : List (OrderedMessage M)) (n : ℕ) : Type 0 where
    pub within : n ≤ length ordered
    pub received : (i : ℕ) (x : OrderedMessage M) → i < n → slice_get ordered i ≡ Some x →
        IsSet x.received × (is_within members x.received ≡ true)

  -- at each slot is counted how many of the first places the replica has received, whose number is one above the slot's
  abbrev pub AreFronts : List (OrderedMessage M) → List ℕ → Type 0
  AreFronts ordered fronts = (slot n : ℕ) → slice_get fronts slot ≡ Some n → IsSettled (suc slot ∷ []) ordered n

  -- who is noted at a place as in turn has received it and each of its sender's places before it
  abbrev pub AreInTurn : List (OrderedMessage M) → Type 0
  AreInTurn ordered =
      (i j p : ℕ) (x y : OrderedMessage M) → j ≤ i → slice_get ordered i ≡ Some x → slice_get ordered j ≡ Some y →
      y.from ≡ x.from → has x.in_turn p ≡ true → has y.received p ≡ true

  -- the configurations alone
  abbrev pub configurations_of : List (LogView M) → List (Configuration M)
  configurations_of logs = map (λ s. s.configuration) logs

  -- the group of these configurations and replicas
  abbrev pub group_of : List (LogView M) → List (Standing M) → GroupState M
  group_of logs replicas = record { configurations = configurations_of logs; replicas = replicas }

  -- the configuration of a number takes so many more messages without more memory
  abbrev pub RoomFor : List (LogView M) → ℕ → ℕ → Type 0
  RoomFor logs conf n = (s : LogView M) → at_place logs conf ≡ Some s → n ≤ s.room

  -- each configuration takes the messages that wait for a place of it without more memory
  abbrev pub RoomForAll : List (LogView M) → List (Standing M) → Type 0
  RoomForAll logs replicas = (conf : ℕ) → RoomFor logs conf (pending replicas conf)

  -- a member has received every place
  abbrev pub with_all_receipts : Configuration M → ℕ → Configuration M
  with_all_receipts c p = fold (λ c place. with_receipt c p place) c (above_up_to 0 (length c.ordered))

  -- why a member can't receive a place
  abbrev pub place_refusal : Configuration M → ℕ → ℕ → Option Reason
  place_refusal c p place = first_some (
      refuse (is_none (at_place c.ordered place)) (NoSuchPlace place)
      ∷ refuse (has_received c p place) (AlreadyReceived place)
      ∷ option_map EarlierMissing (find (is_missing c p place) (above_up_to 0 (place - 1)))
      ∷ []
      )
