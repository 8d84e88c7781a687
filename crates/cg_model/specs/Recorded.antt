-- The laws of an event: it keeps what always holds of a replica, and the record of its commit leads from what stands on the
-- disk to what the commit leaves.
use Rattle.std.specs.Prelude.{◌≡◌, ◌+◌, false, List, [], ◌++◌, length}
use Rattle.cg_base.specs.declared.action_id.ActionId.{ActionId}
use Rattle.cg_action.specs.declared.action.Action.{Action}
use Rattle.cg_wire.specs.declared.message.Msg.{Msg}
use Rattle.cg_wire.specs.declared.message.Msg.TheVariants.{Action as ActionMsg, GreenItem, RedItem}
use Rattle.cg_group.specs.declared.delivery.Delivery.{Delivery}
use Rattle.cg_group.specs.declared.delivery.Delivery.TheVariants.{Message}
use Rattle.cg_queue.specs.Queue.{green_count}
use Rattle.cg_base.specs.Lists.{Each}
use Rattle.cg_client.specs.Replica.{Held, Replica}
use Rattle.cg_disk_records.specs.Stored.{Stored, stored_of, whiten, recovery_turn}
use Rattle.cg_disk_records.specs.Following.{IsAhead, IsRecorded}
use Rattle.cg_states.specs.ReplicaStep.{Input, Deliveries, replica_step}
use Rattle.cg_disk_records.specs.Commit.{commits}
use Rattle.cg_disk_records.specs.Holds.{Holds}

-- ---- what always holds

-- it is kept by each event, which makes as many more greens as it tells
pub record AlwaysKept : Type 0 where
  pub step : (r : Replica) (input : Input) → Holds r.held → Holds (replica_step r input).replica.held
  pub counted : (r : Replica) (input : Input) → Holds r.held →
      green_count (replica_step r input).replica.held.queue ≡
      green_count r.held.queue + length (replica_step r input).green

-- ---- the disk

-- it holds of the action of a message, where there is one
abbrev pub OfMessage : (Action → Type 0) → Msg → Type 0
OfMessage P (ActionMsg a) = P a
OfMessage P (GreenItem place a) = P a
OfMessage P (RedItem a) = P a
OfMessage P _ = Unit {0}

abbrev pub OfDelivery : (Action → Type 0) → Delivery Msg → Type 0
OfDelivery P (Message place from m) = OfMessage P m
OfDelivery P _ = Unit {0}

-- it holds of each action that an event hands to a replica
abbrev pub OfInput : (Action → Type 0) → Input → Type 0
OfInput P (Deliveries list) = Each (OfDelivery P) list
OfInput P _ = Unit {0}

-- a book gives the action of each name
abbrev pub Named : (ActionId → Action) → Action → Type 0
Named book a = book a.id ≡ a

-- the red and own actions of a replica and those that come to it stand in one book: no two of them have one name
pub record AreBooked (book : ActionId → Action) (h : Held) (input : Input) : Type 0 where
  pub reds : Each (Named book) h.queue.reds
  pub own : Each (Named book) h.own
  pub coming : OfInput (Named book) input

-- the record of a commit leads from what stands on the disk to what the commit leaves; and behind an event without a
-- commit the replica holds what stands on the disk and the red marks that stand in no record
pub record EventIsRecorded (s : Stored) (unwritten : List Action) (r : Replica) (input : Input) : Type 0 where
  pub commit : IsRecorded s unwritten (replica_step r input)
  pub keep : commits r.held (replica_step r input) ≡ false →
      IsAhead s (unwritten ++ (replica_step r input).known) (replica_step r input).replica.held

abbrev pub AlwaysRecorded : Type 0
AlwaysRecorded =
    (s : Stored) (unwritten : List Action) (r : Replica) (input : Input) (book : ActionId → Action) →
    Holds r.held → IsAhead s unwritten r.held → AreBooked book r.held input → EventIsRecorded s unwritten r input

-- a replica is ahead of its disk behind a commit, and where it comes up from it
pub record AlwaysAhead : Type 0 where
  pub committed : (h : Held) → IsAhead (stored_of (whiten h)) [] (whiten h)
  pub recovered : (s : Stored) → Holds s → s.buffered ≡ [] → s.owed ≡ [] →
      IsAhead s (recovery_turn s).known (recovery_turn s).replica.held
