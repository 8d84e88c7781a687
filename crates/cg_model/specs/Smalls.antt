-- Which small steps may be made, and which ones make the step of an event.
use Rattle.std.specs.Prelude.{ℕ, suc, ◌-◌, ◌==◌, nat_lt, nat_le, Bool, true, false, not, is_none, is_some, ◌&&◌, List, [], ◌∷◌, ◌++◌, map, filter, flat_map, fold, replicate, length, if◌then◌else◌}
use Rattle.std.specs.Option.{option_map_or}
use Rattle.std.specs.List.{list_all}
use Rattle.cg_base.specs.Lists.{above_up_to}
use Rattle.cg_base.specs.Sets.{has}
use Rattle.cg_base.specs.Text.{is_nil}
use Rattle.cg_base.specs.Weights.{ids}
use Rattle.cg_action.specs.declared.action.Kind.TheVariants.{Update, Join as JoinKind, Leave as LeaveKind}
use Rattle.cg_members.specs.Servers.{is_server}
use Rattle.cg_wire.specs.declared.message.Msg.{Msg}
use Rattle.cg_group.specs.State.{Configuration, GroupState, is_regular, home, delivered_to, unordered_of, has_received}
use Rattle.cg_group.specs.Ready.{ready}
use Rattle.cg_group.specs.Events.{regulars, order_all, furthest, transitional_places}
use Rattle.cg_group.specs.Refusals.{sender_at, order_refusal, receive_refusal}
use Rattle.cg_client.specs.Replica.{State, TransPrim, No, Un, NonPrim}
use Rattle.cg_disk_records.specs.Commit.{commits}
use Rattle.cg_disk_records.specs.Crash.{StopWith, EventEnd, Runs, Crashes as EndsInCrash}
use Rattle.cg_schedule.specs.declared.event.Event.{Event}
use Rattle.cg_schedule.specs.declared.event.Event.TheVariants.{Start, Split, Merge, Request, Order, Recover, RecoverStopped, Gather, Receive, Deliver, Stop, Join, Leave, Transfer}
use Rattle.cg_model.specs.World.{World, at_node, has_begun, replica_of, is_left}
use Rattle.cg_model.specs.Step.{stays_down, snapshot_for}
use Rattle.cg_model.specs.Turns.{Taken, turns_of, stands}
use Rattle.cg_model.specs.Chronicle.{Chronicle}
use Rattle.cg_model.specs.Looks.{told_in, ordered_in, is_member, snapshot_of}
use Rattle.cg_model.specs.Small.{Small, Starts, Makes, Enters, Orders, Receives, Hands, Leaves, Asks, Settles, Commits, Crashes, Recovers, Copies, Joins, newest_conf}
use Rattle.cg_client.specs.Joined.{piece_count}

-- ---- which may be made

-- the first is so, so the second is
abbrev pub implies : Bool → Bool → Bool
implies true b = b
implies false b = true

-- the identifiers ascend, each once, from the first one on
abbrev pub is_set_from : ℕ → List ℕ → Bool
is_set_from low [] = true
is_set_from low (p ∷ set) = nat_le low p && nat_le p 32 && is_set_from (suc p) set

abbrev pub is_set : List ℕ → Bool
is_set set = is_set_from 1 set

-- a state from which a replica comes into a configuration
abbrev pub is_between : State → Bool
is_between TransPrim = true
is_between (No conf heard) = true
is_between Un = true
is_between (NonPrim regular) = not regular
is_between _ = false

abbrev pub may_come : Chronicle → ℕ → Bool
may_come c p = not (is_regular c.world.group p) && option_map_or (λ r. is_between r.state) (replica_of c.world p) false

-- a member that has told nothing there yet enters the newest configuration, before anything is said there
abbrev pub may_enter : Chronicle → ℕ → Bool
may_enter c p =
    let conf = newest_conf c.world.group in
    is_member c conf p && may_come c p && is_none (told_in c conf p) && is_nil (ordered_in c conf)

-- the places ascend, from above the first number and up to the last one
abbrev pub ascend_within : ℕ → ℕ → List ℕ → Bool
ascend_within low high [] = true
ascend_within low high (place ∷ places) = nat_lt low place && nat_le place high && ascend_within place high places

-- the places hold each one that the replica has received, and with a place the earlier ones of its sender
abbrev pub hold_received : Configuration Msg → ℕ → ℕ → List ℕ → Bool
hold_received c p low places =
    list_all (λ place. implies (has_received c p place) (has places place)) (above_up_to low (length c.ordered))

abbrev pub hold_earlier : Configuration Msg → ℕ → List ℕ → Bool
hold_earlier c low places =
    list_all (λ place. list_all (λ earlier. implies (sender_at c earlier == sender_at c place) (has places earlier))
    (above_up_to low (place - 1))) places

abbrev pub may_leave : Chronicle → ℕ → List ℕ → Bool
may_leave c p places =
    let c' = home c.world.group p in
    let low = delivered_to c.world.group p in
    is_regular c.world.group p && ascend_within low (length c'.ordered) places && hold_received c' p low places
    && hold_earlier c' low places

-- the joiner hasn't begun, and is a server as its snapshot has it
abbrev pub may_join : Chronicle → ℕ → Bool
may_join c joiner =
    not (has_begun c.world joiner)
    && option_map_or (λ s. is_server s.content.members joiner) (snapshot_of c.world joiner) false

abbrev pub is_running : Chronicle → ℕ → Bool
is_running c p = is_some (replica_of c.world p)

unfoldable pub may_make : Chronicle → Small → Bool
may_make c (Starts set) = is_nil c.world.nodes && is_set (ids set)
may_make c (Makes set) = not (is_nil set) && is_set set && list_all (may_come c) set
may_make c (Enters p) = may_enter c p
may_make c (Orders p) = is_none (order_refusal c.world.group p)
may_make c (Receives p place) = is_none (receive_refusal c.world.group p place)
may_make c (Hands p) = is_regular c.world.group p && nat_lt 0 (ready c.world.group p)
may_make c (Leaves p set own places) = may_leave c p places
may_make c (Asks p kind) = is_running c p && not (is_left c.world p)
may_make c (Settles p) = is_running c p
may_make c (Commits p) = is_running c p
may_make c (Crashes p) = is_running c p
may_make c (Recovers p) = has_begun c.world p && not (is_running c p)
may_make c (Copies p joiner) = not (has_begun c.world joiner)
    && option_map_or (λ r. is_server r.held.members joiner) (replica_of c.world p) false
may_make c (Joins joiner) = may_join c joiner

-- ---- which ones an event is made of

-- a turn of these steps ends with its commit, where it makes one; a crash that it doesn't outlive leaves nothing of it
abbrev pub ending_as : Taken → List Small → EventEnd → List Small
ending_as t steps (Runs r disk) = steps ++ (if commits t.before.held t.turn then Commits t.id ∷ [] else [])
ending_as t steps (EndsInCrash disk green) = if stands t
    then steps ++ Commits t.id ∷ Crashes t.id ∷ [] else Crashes t.id ∷ []

abbrev pub ending : (ℕ → List Small) → Taken → List Small
ending steps t = ending_as t (steps t.id) t.ended

abbrev pub turns_as : (ℕ → List Small) → World → Event → List Small
turns_as steps w e = flat_map (ending steps) (turns_of w e)

-- a member is handed places up to that one, leaves, and creates what was kept
abbrev pub leaving_steps : GroupState Msg → List ℕ → ℕ → List Small
leaving_steps g set p =
    let last = furthest g set in
    replicate (last - delivered_to g p) (Hands p) ++ Leaves p
    set (delivered_to g p) (transitional_places (home g p) set last) ∷ Settles p ∷ []

-- each regular replica orders what it has, and receives what it lacks
abbrev pub order_steps : GroupState Msg → List Small
order_steps g = flat_map (λ p. map (λ m. Orders p) (unordered_of g p)) (regulars g)

abbrev pub missing : Configuration Msg → ℕ → List ℕ
missing c p = filter (λ place. not (has_received c p place)) (above_up_to 0 (length c.ordered))

abbrev pub receive_steps : GroupState Msg → List Small
receive_steps g = flat_map (λ p. map (Receives p) (missing (home g p) p)) (regulars g)

abbrev pub gather_steps : GroupState Msg → List Small
gather_steps g = order_steps g ++ receive_steps (fold order_all g (regulars g))

-- a snapshot is taken where none is under way, and its joiner begins with the last of its pieces
abbrev pub copy_steps : World → ℕ → ℕ → List Small
copy_steps w p joiner = if option_map_or (λ s. s.giver == p) (snapshot_of w joiner) false then []
    else Copies p joiner ∷ []

abbrev pub join_steps : World → ℕ → ℕ → ℕ → List Small
join_steps w p joiner pieces =
    option_map_or (λ r. (let s = snapshot_for w p joiner r in
    if nat_le (piece_count s.content - s.taken) pieces then Joins joiner ∷ [] else []))
    (replica_of w p) []

-- what a replica does in its turn, but for its commit
abbrev pub turn_steps : World → Event → ℕ → List Small
turn_steps w (Merge set) = λ p. Enters p ∷ Settles p ∷ []
turn_steps w (Split set) = leaving_steps w.group set
turn_steps w (Deliver p count) = λ q. replicate count (Hands q) ++ Settles q ∷ []
turn_steps w (Request p cmds query) = λ q. Asks q (Update cmds query) ∷ []
turn_steps w (Join p joiner weight) = λ q. Asks q (JoinKind joiner weight) ∷ []
turn_steps w (Leave p server) = λ q. Asks q (LeaveKind server) ∷ []
turn_steps w other = λ p. []

unfoldable pub smalls_in : World → Event → List Small
smalls_in w (Start set) = Starts set ∷ []
smalls_in w (Merge set) = Makes set ∷ turns_as (turn_steps w (Merge set)) w (Merge set)
smalls_in w (Split set) = turns_as (turn_steps w (Split set)) w (Split set)
smalls_in w (Deliver p count) = turns_as (turn_steps w (Deliver p count)) w (Deliver p count)
smalls_in w (Order p) = Orders p ∷ []
smalls_in w (Receive p place) = Receives p place ∷ []
smalls_in w Gather = gather_steps w.group
smalls_in w (Request p cmds query) = turns_as (turn_steps w (Request p cmds query)) w (Request p cmds query)
smalls_in w (Join p joiner weight) = turns_as (turn_steps w (Join p joiner weight)) w (Join p joiner weight)
smalls_in w (Leave p server) = turns_as (turn_steps w (Leave p server)) w (Leave p server)
smalls_in w (Stop p call fill) = if call == 0 then Crashes p ∷ [] else []
smalls_in w (Recover p) = Recovers p ∷ []
smalls_in w (RecoverStopped p call fill) =
    at_node w p (stays_down (record { call = call; fault = StopWith fill })) (λ life. []) (Recovers p ∷ [])
smalls_in w (Transfer p joiner pieces) = copy_steps w p joiner ++ join_steps w p joiner pieces
smalls_in w other = []
