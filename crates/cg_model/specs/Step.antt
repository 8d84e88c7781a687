-- The step of a world: what each event does.
use Rattle.std.specs.Prelude.{ℕ, zero, suc, ◌+◌, ◌==◌, min, false, not, ◌&&◌, List, [], ◌∷◌, ◌++◌, Option, Some, None, find, filter, fold, if◌then◌else◌}
use Rattle.std.specs.Option.{option_map_or}
use Rattle.cg_base.specs.declared.action_id.ActionId.{ActionId}
use Rattle.cg_base.specs.declared.weighted.Weighted.{Weighted}
use Rattle.cg_base.specs.Sets.{with_member}
use Rattle.cg_base.specs.Weights.{ids}
use Rattle.cg_action.specs.declared.action.Kind.{Kind}
use Rattle.cg_action.specs.declared.action.Kind.TheVariants.{Update, Join as JoinKind, Leave as LeaveKind}
use Rattle.cg_queue.specs.Queue.{names_of}
use Rattle.cg_wire.specs.declared.message.Msg.{Msg}
use Rattle.cg_group.specs.declared.delivery.Handed.{Handed}
use Rattle.cg_group.specs.Events.{HandedOut, send_all, order, receive, gather, deliver, split, merge}
use Rattle.cg_client.specs.Replica.{Held, Replica, NonPrim, fresh}
use Rattle.cg_client.specs.Joined.{joiner_content as joined_held, piece_count}
use Rattle.cg_client.specs.Turn.{Turn}
use Rattle.cg_client.specs.Queries.{weak_answer, dirty_answer}
use Rattle.cg_states.specs.ReplicaStep.{Input, Deliveries, Asks, replica_step}
use Rattle.cg_disk_records.specs.Crash.{Disk, FailOnce, StopWith, Strike, EventEnd, Runs, Crashes, new_disk, end_event, at_rest, recovered, disk_recovered}
use Rattle.cg_disk_records.specs.Recovery.{recovery_outcome, is_reached}
use Rattle.cg_older.specs.OldDisk.{old_disk}
use Rattle.cg_report.specs.declared.entry.Shown.{Shown}
use Rattle.cg_report.specs.declared.entry.Shown.TheVariants.{Weak as ShownWeak, Dirty as ShownDirty, Pieces, Greens, Database, All}
use Rattle.cg_schedule.specs.declared.event.Event.{Event}
use Rattle.cg_schedule.specs.declared.event.Event.TheVariants.{Start, Split, Merge, Request, Weak, Dirty, Order, Recover, RecoverStopped, Downgrade, Show, ShowOrder, Gather, Receive, Deliver, Stop, Fail, Join, Leave, Transfer}
use Rattle.cg_model.specs.World.{NodeState, Up, Down, TransferState, World, at_node, replica_of, set_life, bring_up, bring_down}
use Rattle.cg_model.specs.Show.{EventEffects, StepInProgress, Moved, news_of, news_of_recovery, tell, ended}

-- nothing has come of an event but this world
abbrev pub quietly : World → StepInProgress
quietly w = record { world = w; made = []; orders = []; replies = []; shown = [] }

-- something is shown of a world that stays
abbrev pub showing : World → List Shown → StepInProgress
showing w shown = record { world = w; made = []; orders = []; replies = []; shown = shown }

-- ---- replicas that take part

-- a replica behind an event; where it goes on, with what is to be shown of it and with its messages
abbrev pub behind : Turn → EventEnd → NodeState × Option (EventEffects × List Msg)
behind t (Runs r disk) = (Up r disk, Some (news_of t, t.sent))
behind t (Crashes disk green) = (Down disk green, None)

-- a replica takes its turn, where it is up
abbrev pub taken : Input → NodeState → Option (NodeState × Option (EventEffects × List Msg))
taken input (Up r disk) = let t = replica_step r input in Some (behind t (end_event disk r.held t))
taken input (Down disk green) = None

-- it says what it has to say, and what came of it is shown; or it goes down
abbrev pub comes_back : StepInProgress → ℕ → NodeState × Option (EventEffects × List Msg) → StepInProgress
comes_back g p (life, Some (news, sent)) =
    let w = set_life g.world p life in tell (record g { world = record w { group = send_all w.group p sent } }) news
comes_back g p (life, None) = record g { world = bring_down g.world p life }

-- a replica that has begun takes its turn, where it is up
unfoldable pub hand : StepInProgress → ℕ → Input → StepInProgress
hand g p input = at_node g.world p (taken input) (comes_back g p) g

-- a replica takes what the group hands to it
abbrev pub hand_over : StepInProgress → Handed Msg → StepInProgress
hand_over g h = hand g h.to (Deliveries h.list)

-- each replica takes what the group hands to it, ascending
abbrev pub hand_out : World → HandedOut Msg → StepInProgress
hand_out w o = fold hand_over (quietly (record w { group = o.group })) o.handed

-- a request comes to a replica
abbrev pub ask : World → ℕ → Kind → StepInProgress
ask w p kind = hand (quietly w) p (Asks kind)

-- ---- replicas that begin, and crashes

-- the replica is named
abbrev pub name_also : World → ℕ → World
name_also w p = record w { named = with_member w.named p }

-- a named replica comes up with a new disk
abbrev pub begin_replica : List Weighted → World → ℕ → World
begin_replica set w p = let r = fresh p set in bring_up (name_also w p) r (new_disk r.held)

-- a fault is armed at the replica's disk, where it is up
abbrev pub armed : Strike → NodeState → Option NodeState
armed strike (Up r disk) = Some (Up r (record disk { armed = Some strike }))
armed strike (Down disk green) = None

abbrev pub arm : World → ℕ → Strike → World
arm w p strike = at_node w p (armed strike) (set_life w p) w

-- the replica crashes, where it is up; what it hadn't written is lost
abbrev pub crashed : NodeState → Option NodeState
crashed (Up r disk) = Some (Down (at_rest disk) [])
crashed (Down disk green) = None

-- a crash now, or inside the given device call from now on
abbrev pub stop : World → ℕ → ℕ → List ℕ → World
stop w p zero fill = at_node w p crashed (bring_down w p) w
stop w p (suc n) fill = arm w p (record { call = suc n; fault = StopWith fill })

-- it comes up with what stands on its disk, where it is down; and what became green in the event that struck it is shown
abbrev pub risen : List ActionId → NodeState → Option (Replica × Disk × EventEffects)
risen made (Up r disk) = None
risen made (Down disk green) = let r = recovered disk in
    Some (r, disk_recovered disk, news_of_recovery made r.held green)

abbrev pub recover : World → ℕ → StepInProgress
recover w p = at_node w p (risen w.made) (λ up. tell (quietly (bring_up w up.0 up.1)) up.2) (quietly w)

-- where the strike reaches a device call of its recovery a replica stays down, and its disk stands for what it stood for
abbrev pub stays_down : Strike → NodeState → Option NodeState
stays_down strike (Up r disk) = None
stays_down strike (Down disk green) =
    if is_reached disk strike then Some (Down (recovery_outcome disk strike) green) else None

-- a recovery in which a stop is armed at the given device call; where it has fewer calls nothing is armed behind it
abbrev pub recover_under : World → ℕ → Strike → StepInProgress
recover_under w p strike = at_node w p (stays_down strike) (λ life. quietly (set_life w p life)) (recover w p)

-- a disk of the older format in place of the replica's, which stands for the same
abbrev pub downgraded : NodeState → Option NodeState
downgraded (Up r disk) = None
downgraded (Down disk green) = Some (Down (old_disk disk.content) green)

abbrev pub downgrade : World → ℕ → World
downgrade w p = at_node w p downgraded (set_life w p) w

-- ---- snapshots

-- the replica that a joiner becomes: what its representative has green and knows of primary components
abbrev pub joiner_replica : ℕ → Held → Replica
joiner_replica p h = record { held = joined_held p h; state = NonPrim false }

-- the snapshot of a representative for a joiner, a new one where none is under way
abbrev pub snapshot_for : World → ℕ → ℕ → Replica → TransferState
snapshot_for w p joiner r =
    option_map_or (λ s. s) (find (λ s. (s.joiner == joiner) && (s.giver == p)) w.snapshots)
    (record { joiner = joiner; giver = p; content = r.held; taken = 0 })

-- a world without a snapshot for the joiner
abbrev pub without_snapshot : World → ℕ → World
without_snapshot w joiner = record w { snapshots = filter (λ s. not (s.joiner == joiner)) w.snapshots }

-- with the last piece its joiner is up with a new disk; else the snapshot goes on
abbrev pub handed : World → TransferState → World
handed w s =
    let r = joiner_replica s.joiner s.content in
    if s.taken == piece_count s.content then bring_up w r (new_disk r.held)
    else record w { snapshots = w.snapshots ++ s ∷ [] }

-- the next pieces of a snapshot are taken, or all that are left where these are fewer
abbrev pub takes : World → TransferState → ℕ → StepInProgress
takes w s pieces =
    let t = record s { taken = min (piece_count s.content) (s.taken + pieces) } in
    showing (handed w t) (Pieces t.joiner t.taken (piece_count t.content) ∷ [])

-- pieces go from a representative to a joiner
abbrev pub transfer : World → ℕ → ℕ → ℕ → StepInProgress
transfer w p joiner pieces = option_map_or
    (λ r. let s = snapshot_for w p joiner r in takes (without_snapshot w s.joiner) s pieces) (replica_of w p) (quietly w)

-- ---- events

-- what a replica shows: the greens that it keeps, and its database
abbrev pub shown_of : Replica → List Shown
shown_of r = let h = r.held in Greens h.id (names_of h.queue.greens) ∷ Database h.id h.db ∷ []

-- something is shown of a replica that is up
abbrev pub showing_of : World → ℕ → (Replica → List Shown) → StepInProgress
showing_of w p shown = showing w (option_map_or shown (replica_of w p) [])

-- what an admitted event does; rounds are steps of their own, and the end is none
unfoldable pub happens : World → Event → StepInProgress
happens w (Start set) = quietly (fold (begin_replica set) w (ids set))
happens w (Split set) = hand_out w (split w.group set)
happens w (Merge set) = hand_out w (merge w.group set)
happens w (Request p cmds query) = ask w p (Update cmds query)
happens w (Weak p query) = showing_of w p (λ r. ShownWeak p (weak_answer r.held query) ∷ [])
happens w (Dirty p query) = showing_of w p (λ r. ShownDirty p (dirty_answer r.held query) ∷ [])
happens w (Order p) = quietly (record w { group = order w.group p })
happens w (Recover p) = recover w p
happens w (RecoverStopped p call fill) = recover_under w p (record { call = call; fault = StopWith fill })
happens w (Downgrade p) = quietly (downgrade w p)
happens w (Show p) = showing_of w p shown_of
happens w ShowOrder = showing w (All w.order ∷ [])
happens w Gather = quietly (record w { group = gather w.group })
happens w (Receive p place) = quietly (record w { group = receive w.group p place })
happens w (Deliver p count) = hand_out w (deliver w.group p count)
happens w (Stop p call fill) = quietly (stop w p call fill)
happens w (Fail p call) = quietly (arm w p (record { call = call; fault = FailOnce }))
happens w (Join p joiner weight) = ask (name_also w joiner) p (JoinKind joiner weight)
happens w (Leave p server) = ask w p (LeaveKind server)
happens w (Transfer p joiner pieces) = transfer w p joiner pieces
happens w other = quietly w

-- the step of an admitted event
unfoldable pub world_step : World → Event → Moved
world_step w e = ended (happens w e)
