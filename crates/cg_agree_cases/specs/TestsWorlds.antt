-- Tests of what an event's small steps lead to, and of what may stand in a schedule.
use Rattle.std.specs.Prelude.{◌==◌, nat_lt, Bool, true, false, ◌&&◌, Option, Some, None, map, length}
use Rattle.std.specs.List.{list_all}
use Rattle.std.specs.Cmp.Lexicographic.{pointwise}
use Rattle.cg_base.specs.Text.{is_nil}
use Rattle.cg_base.specs.Weights.{ids}
use Rattle.cg_wire.specs.declared.message.Msg.{Msg}
use Rattle.cg_group.specs.declared.phase.Phase.{Phase}
use Rattle.cg_group.specs.declared.phase.Phase.TheVariants.{Down, Alone, Regular, Transitional}
use Rattle.cg_group.specs.State.{Standing, Configuration, GroupState}
use Rattle.cg_schedule.specs.declared.event.Event.{Event}
use Rattle.cg_schedule.specs.declared.event.Event.TheVariants.{Start, Split, Merge}
use Rattle.cg_client.specs.Replica.{Replica, Held}
use Rattle.cg_model.specs.World.{TransferState, World, replica_of}
use Rattle.cg_model.specs.Chronicle.{Chronicle}
use Rattle.cg_model.specs.Looks.{disk_held, snapshot_of}
use Rattle.cg_model.specs.Small.{Small, Crashes}
use Rattle.cg_model.specs.Smalls.{is_set}
use Rattle.cg_agree_cases.specs.Same.{same_numbers, same_held, same_state}
use Rattle.cg_agree_cases.specs.Through.{is_some_with}
use Rattle.cg_agree_cases.specs.TestsReplica.{is_written}

abbrev same_phase : Phase → Phase → Bool
same_phase Down Down = true
same_phase Alone Alone = true
same_phase (Regular c) (Regular d) = c == d
same_phase (Transitional c s) (Transitional d t) = (c == d) && same_numbers s t
same_phase _ _ = false

-- messages are compared by their number alone
abbrev same_standing : Standing Msg → Standing Msg → Bool
same_standing s t =
    (s.id == t.id) && same_phase s.phase t.phase && (s.delivered == t.delivered)
    && (length s.unordered == length t.unordered)

abbrev same_configuration : Configuration Msg → Configuration Msg → Bool
same_configuration c d =
    same_numbers c.members d.members && (length c.ordered == length d.ordered)
    && pointwise same_numbers c.received d.received

abbrev same_group : GroupState Msg → GroupState Msg → Bool
same_group g k = pointwise same_standing g.replicas k.replicas
    && pointwise same_configuration g.configurations k.configurations

abbrev same_replicas : Option Replica → Option Replica → Bool
same_replicas None None = true
same_replicas (Some r) (Some s) = same_held r.held s.held && same_state r.state s.state
same_replicas _ _ = false

abbrev same_disks : Option Held → Option Held → Bool
same_disks None None = true
same_disks (Some h) (Some k) = same_held h k
same_disks _ _ = false

abbrev same_snapshot : TransferState → TransferState → Bool
same_snapshot s t = (s.joiner == t.joiner) && (s.giver == t.giver) && same_held s.content t.content

-- the two worlds are one, but for what was printed, what a disk has beside its content, how much of a
-- snapshot was taken, and the order of the snapshots
abbrev pub is_same : World → World → Bool
is_same w v =
    same_group w.group v.group && same_numbers (map (λ s. s.id) w.nodes) (map (λ s. s.id) v.nodes)
    && list_all (λ s. same_replicas (replica_of w s.id) (replica_of v s.id)
    && same_disks (disk_held w s.id) (disk_held v s.id)) w.nodes
    && (length w.snapshots == length v.snapshots)
    && list_all (λ s. is_some_with (snapshot_of v s.joiner) (same_snapshot s)) w.snapshots

-- a replica crashes between its events, or behind a commit
abbrev pub at_rest : Chronicle → Small → Bool
at_rest c (Crashes p) = is_written c p
at_rest c _ = true

-- the first event is a start, and no later one is; the replicas that an event names are a set
abbrev pub may_stand : World → Event → Bool
may_stand w (Start set) = is_nil w.nodes && is_set (ids set)
may_stand w (Split set) = nat_lt 0 (length w.nodes) && is_set set
may_stand w (Merge set) = nat_lt 0 (length w.nodes) && is_set set
may_stand w other = nat_lt 0 (length w.nodes)
