-- Which events are admitted: each is refused by the first of its tests that gives a reason.
use Rattle.std.specs.Prelude.{ℕ, false, not, is_some, [], ◌∷◌, Option, None}
use Rattle.std.specs.Option.{option_map_or}
use Rattle.cg_base.specs.Lists.{first_some}
use Rattle.cg_base.specs.Sets.{has}
use Rattle.cg_base.specs.Weights.{ids}
use Rattle.cg_members.specs.Servers.{is_server}
use Rattle.cg_group.specs.declared.reason.Reason.{Reason}
use Rattle.cg_group.specs.declared.reason.Reason.TheVariants.{AlreadyUp, UnknownReplica, IdUsed, JoinNotGreen, HasLeft, Weighted}
use Rattle.cg_group.specs.Refusals.{refuse, empty_set, any_of, not_up, order_refusal, receive_refusal, deliver_refusal, split_refusal, merge_refusal}
use Rattle.cg_schedule.specs.declared.event.Event.{Event}
use Rattle.cg_schedule.specs.declared.event.Event.TheVariants.{Start, Split, Merge, Request, Weak, Dirty, Order, Recover, RecoverStopped, Downgrade, Show, Receive, Deliver, Stop, Fail, Join, Leave, Transfer}
use Rattle.cg_older.specs.Older.{has_weights}
use Rattle.cg_model.specs.World.{World, disk_at, has_begun, replica_of, is_left, left_replicas}

-- the replica hasn't begun
abbrev pub unknown : World → ℕ → Option Reason
unknown w p = refuse (not (has_begun w p)) (UnknownReplica p)

-- the replica is in state Left
abbrev pub has_left : World → ℕ → Option Reason
has_left w p = refuse (is_left w p) (HasLeft p)

-- neither start nor an admitted join has named the replica
abbrev pub never_named : World → ℕ → Option Reason
never_named w p = refuse (not (has w.named p)) (UnknownReplica p)

-- the joiner has left, as its representative knows
abbrev pub joiner_left : World → ℕ → ℕ → Option Reason
joiner_left w p joiner =
    refuse (option_map_or (λ r. has r.held.members.left joiner) (replica_of w p) false) (HasLeft joiner)

-- the joiner is no server, as its representative knows
abbrev pub not_green : World → ℕ → ℕ → Option Reason
not_green w p joiner =
    refuse (not (option_map_or (λ r. is_server r.held.members joiner) (replica_of w p) false)) (JoinNotGreen joiner)

-- a weight above 1 stands on the replica's disk
abbrev pub is_weighted : World → ℕ → Option Reason
is_weighted w p = refuse (option_map_or (λ d. has_weights d.content) (disk_at w p) false) (Weighted p)

-- why a replica can't come up
abbrev pub cannot_rise : World → ℕ → Option Reason
cannot_rise w p = first_some (unknown w p ∷ refuse (is_some (replica_of w p)) (AlreadyUp p) ∷ [])

-- why a replica can't take part in an event as itself
abbrev pub takes_part : World → ℕ → Option Reason
takes_part w p = first_some (unknown w p ∷ not_up w.group p ∷ has_left w p ∷ [])

-- the reason by which an event isn't admitted, if there is one
unfoldable pub first_refusal : World → Event → Option Reason
first_refusal w (Start set) = empty_set (ids set)
first_refusal w (Split set) = first_some (empty_set set ∷ any_of (unknown w) set ∷ split_refusal w.group set ∷ [])
first_refusal w (Merge set) =
    first_some (empty_set set ∷ any_of (unknown w) set ∷ any_of (not_up w.group) set ∷ any_of (has_left w) set
    ∷ merge_refusal w.group set (left_replicas w) ∷ [])
first_refusal w (Request p cmds query) = takes_part w p
first_refusal w (Weak p query) = takes_part w p
first_refusal w (Dirty p query) = takes_part w p
first_refusal w (Order p) = first_some (unknown w p ∷ order_refusal w.group p ∷ [])
first_refusal w (Recover p) = cannot_rise w p
first_refusal w (RecoverStopped p call fill) = cannot_rise w p
first_refusal w (Downgrade p) = first_some (cannot_rise w p ∷ is_weighted w p ∷ [])
first_refusal w (Show p) = first_some (unknown w p ∷ not_up w.group p ∷ [])
first_refusal w (Receive p place) = first_some (unknown w p ∷ receive_refusal w.group p place ∷ [])
first_refusal w (Deliver p count) = first_some (unknown w p ∷ deliver_refusal w.group p count ∷ [])
first_refusal w (Stop p call fill) = takes_part w p
first_refusal w (Fail p call) = takes_part w p
first_refusal w (Join p joiner weight) = first_some (takes_part w p ∷ refuse (has w.named joiner) (IdUsed joiner) ∷ [])
first_refusal w (Leave p server) = first_some (takes_part w p ∷ never_named w server ∷ [])
first_refusal w (Transfer p joiner pieces) =
    first_some (takes_part w p ∷ never_named w joiner ∷ refuse (has_begun w joiner) (AlreadyUp joiner)
    ∷ joiner_left w p joiner ∷ not_green w p joiner ∷ [])
first_refusal w other = None
