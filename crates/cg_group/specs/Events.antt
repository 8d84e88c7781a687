-- What each event of the group does, and what it hands to each replica.
use Rattle.std.specs.Prelude.{ℕ, suc, ◌+◌, ◌==◌, not, List, [], ◌∷◌, ◌++◌, Option, Some, None, map, filter, fold, flat_map, length, if◌then◌else◌}
use Rattle.std.specs.List.{list_any}
use Rattle.std.specs.Option.{option_map_or}
use Rattle.cg_base.specs.Lists.{above_up_to, at_place, greatest}
use Rattle.cg_base.specs.Sets.{with_member}
use Rattle.cg_group.specs.declared.phase.Phase.TheVariants.{Alone, Regular, Transitional}
use Rattle.cg_group.specs.declared.delivery.Delivery.{Delivery}
use Rattle.cg_group.specs.declared.delivery.Delivery.TheVariants.{Message, Transitional as TransitionalIn, Regular as RegularIn}
use Rattle.cg_group.specs.declared.delivery.Handed.{Handed}
use Rattle.cg_group.specs.State.{Configuration, Standing, GroupState, standing_of, configuration, regular_in, phase_of, home, delivered_to, unordered_of, has_received, set_standing, set_configuration, changed_at}

-- the group after an event, and what it hands out, ascending by replica
pub record HandedOut (M : Type 0) : Type 0 where
  pub group : GroupState M
  pub handed : List (Handed M)

module _ {M : Type 0} where
  -- a replica that comes up is alone
  unfoldable pub come_up : GroupState M → ℕ → GroupState M
  come_up g p = set_standing g (record { id = p; phase = Alone; delivered = 0; unordered = [] })

  -- a replica that goes down leaves its phase; what it has received stays
  unfoldable pub go_down : GroupState M → ℕ → GroupState M
  go_down g p = record g { replicas = filter (λ s. not (s.id == p)) g.replicas }

  -- a message of a regular replica waits for a place; of any other it is dropped
  unfoldable pub send_from : GroupState M → Option (Standing M) → M → GroupState M
  send_from g None m = g
  send_from g (Some s) m = if regular_in s.phase == 0 then g
      else set_standing g (record s { unordered = s.unordered ++ m ∷ [] })

  -- a replica sends a message
  unfoldable pub send : GroupState M → ℕ → M → GroupState M
  send g p m = send_from g (standing_of g p) m

  -- a replica sends messages, one after another
  abbrev pub send_all : GroupState M → ℕ → List M → GroupState M
  send_all g p messages = fold (λ g m. send g p m) g messages

  -- a member has received a place
  unfoldable pub with_receipt : Configuration M → ℕ → ℕ → Configuration M
  with_receipt c p place = record c { received = changed_at (λ set. with_member set p) c.received place }

  -- a message at the end of the ordered ones, received by its sender
  unfoldable pub with_message : Configuration M → ℕ → M → Configuration M
  with_message c p m = record c {
    ordered = c.ordered ++ record { from = p; message = m } ∷ [];
    received = c.received ++ (p ∷ []) ∷ [];
  }

  -- the oldest of a replica's messages gets the next place
  unfoldable pub order_from : GroupState M → Standing M → List M → GroupState M
  order_from g s [] = g
  order_from g s (m ∷ rest) =
      let conf = regular_in s.phase in
      set_configuration (set_standing g (record s { unordered = rest }))
      conf (with_message (configuration g conf) s.id m)

  -- the oldest message of a replica is ordered
  unfoldable pub order : GroupState M → ℕ → GroupState M
  order g p = option_map_or (λ s. order_from g s s.unordered) (standing_of g p) g

  -- a replica receives a place
  unfoldable pub receive : GroupState M → ℕ → ℕ → GroupState M
  receive g p place =
      let conf = regular_in (phase_of g p) in
      set_configuration g conf (with_receipt (configuration g conf) p place)

  -- the replicas that are regular, ascending
  abbrev pub regulars : GroupState M → List ℕ
  regulars g = map (λ s. s.id) (filter (λ s. not (regular_in s.phase == 0)) g.replicas)

  -- each regular replica orders all its messages; then each receives every place of its configuration
  unfoldable pub order_all : GroupState M → ℕ → GroupState M
  order_all g p = fold (λ g m. order g p) g (unordered_of g p)

  -- a replica receives every place of its configuration
  unfoldable pub receive_all : GroupState M → ℕ → GroupState M
  receive_all g p = fold (λ g place. receive g p place) g (above_up_to 0 (length (home g p).ordered))

  unfoldable pub gather : GroupState M → GroupState M
  gather g = let ordered = fold order_all g (regulars g) in fold receive_all ordered (regulars ordered)

  -- the message of a place
  unfoldable pub delivery_at : Configuration M → ℕ → List (Delivery M)
  delivery_at c place = option_map_or (λ s. Message place s.from s.message ∷ []) (at_place c.ordered place) []

  -- the messages of a configuration at these places
  abbrev pub deliveries_at : Configuration M → List ℕ → List (Delivery M)
  deliveries_at c places = flat_map (delivery_at c) places

  -- a replica was handed so many places
  abbrev pub with_delivered : GroupState M → ℕ → ℕ → GroupState M
  with_delivered g p n = option_map_or (λ s. set_standing g (record s { delivered = n })) (standing_of g p) g

  -- the next places of its configuration are handed to a replica
  unfoldable pub deliver : GroupState M → ℕ → ℕ → HandedOut M
  deliver g p k =
      let from = delivered_to g p in
      record {
        group = with_delivered g p (from + k);
        handed = record { to = p; list = deliveries_at (home g p) (above_up_to from (from + k)) } ∷ [];
      }

  -- the greatest number of places that one of the replicas was handed
  abbrev pub furthest : GroupState M → List ℕ → ℕ
  furthest g set = greatest (map (delivered_to g) set)

  -- the places after the given one that some of the replicas has received
  unfoldable pub transitional_places : Configuration M → List ℕ → ℕ → List ℕ
  transitional_places c set k =
      filter (λ place. list_any (λ q. has_received c q place) set) (above_up_to k (length c.ordered))

  -- what a replica is handed as it leaves its configuration together with a set: the places that another of them
  -- was handed before, the transitional configuration, and the places after these that some of them has received
  unfoldable pub handed_in_split : GroupState M → List ℕ → ℕ → Handed M
  handed_in_split g set p =
      let conf = regular_in (phase_of g p) in
      let c = configuration g conf in
      let k = furthest g set in
      record {
        to = p;
        list = deliveries_at c (above_up_to (delivered_to g p) k)
            ++ TransitionalIn conf set ∷ deliveries_at c (transitional_places c set k);
      }

  -- a replica's regular phase ends, and with it its messages without a place
  unfoldable pub become_transitional : List ℕ → GroupState M → ℕ → GroupState M
  become_transitional set g p =
      set_standing g (record {
        id = p;
        phase = Transitional (regular_in (phase_of g p)) set;
        delivered = delivered_to g p;
        unordered = [];
      })

  -- the replicas of a set leave their configuration together
  unfoldable pub split : GroupState M → List ℕ → HandedOut M
  split g set = record { group = fold (become_transitional set) g set; handed = map (handed_in_split g set) set }

  -- a replica begins the regular phase of a configuration
  unfoldable pub become_regular : ℕ → GroupState M → ℕ → GroupState M
  become_regular conf g p = set_standing g (record { id = p; phase = Regular conf; delivered = 0; unordered = [] })

  -- a new configuration is made, and handed to each of its members
  unfoldable pub merge : GroupState M → List ℕ → HandedOut M
  merge g set =
      let conf = suc (length g.configurations) in
      let made : GroupState M =
      record g {
        configurations = g.configurations ++ record {
          members = set;
          ordered = [];
          received = [];
        } ∷ [];
      } in
      record {
        group = fold (become_regular conf) made set;
        handed = map (λ p. record { to = p; list = RegularIn conf set ∷ [] }) set;
      }
