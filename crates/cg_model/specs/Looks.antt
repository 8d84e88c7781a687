-- What a chronicle says of one replica, one configuration and one attempt.
use Rattle.std.specs.Prelude.{ℕ, ◌==◌, Bool, false, ◌&&◌, ◌||◌, List, [], ◌++◌, Option, IfSome, find, filter, map, length, option_and_then, option_map, if◌then◌else◌}
use Rattle.std.specs.Option.{option_map_or}
use Rattle.std.specs.List.{list_all, prefix_len}
use Rattle.cg_base.specs.declared.weighted.Weighted.{Weighted}
use Rattle.cg_base.specs.Lists.{at_place, above_up_to}
use Rattle.cg_base.specs.Sets.{has}
use Rattle.cg_base.specs.Weights.{ids}
use Rattle.cg_action.specs.declared.action.Action.{Action}
use Rattle.cg_wire.specs.declared.message.Msg.{Msg}
use Rattle.cg_group.specs.declared.phase.Phase.{Phase}
use Rattle.cg_group.specs.declared.phase.Phase.TheVariants.{Regular, Transitional}
use Rattle.cg_group.specs.State.{Sent, Configuration, configuration, phase_of, unordered_of, has_received}
use Rattle.cg_group.specs.Ready.{all_received}
use Rattle.cg_client.specs.Replica.{Held}
use Rattle.cg_model.specs.World.{NodeState, Up, Down, TransferState, World, node_of, replica_of}
use Rattle.cg_model.specs.Step.{joiner_replica}
use Rattle.cg_model.specs.Attempts.{held_in}
use Rattle.cg_model.specs.Chronicle.{Past, Told, Attempt, Copy, Chronicle}

-- ---- replicas

abbrev pub past_of : Chronicle → ℕ → Option Past
past_of c p = find (λ x. x.id == p) c.pasts

-- all greens of a replica as it runs, and as its disk has them
abbrev pub greens_of : Chronicle → ℕ → List Action
greens_of c p = option_map_or (λ x. x.greens) (past_of c p) []

abbrev pub stood_of : Chronicle → ℕ → List Action
stood_of c p = option_map_or (λ x. x.stood) (past_of c p) []

-- what a replica told as it came into a configuration
abbrev pub told_in : Chronicle → ℕ → ℕ → Option Told
told_in c conf p = find (λ t. (t.summary.conf == conf) && (t.summary.id == p)) c.told

-- the phase is the regular one of the configuration, or one of its two phases
abbrev pub is_regular_at : ℕ → Phase → Bool
is_regular_at conf (Regular at) = at == conf
is_regular_at conf _ = false

abbrev pub is_at : ℕ → Phase → Bool
is_at conf (Regular at) = at == conf
is_at conf (Transitional at set) = at == conf
is_at conf _ = false

-- the configuration of a phase, 0 for none
abbrev pub conf_at : Phase → ℕ
conf_at (Regular conf) = conf
conf_at (Transitional conf set) = conf
conf_at _ = 0

abbrev pub is_regular_in : Chronicle → ℕ → ℕ → Bool
is_regular_in c conf p = is_regular_at conf (phase_of c.world.group p)

abbrev pub is_in : Chronicle → ℕ → ℕ → Bool
is_in c conf p = is_at conf (phase_of c.world.group p)

-- ---- configurations

abbrev pub conf_of : Chronicle → ℕ → Configuration Msg
conf_of c conf = configuration c.world.group conf

abbrev pub members_in : Chronicle → ℕ → List ℕ
members_in c conf = (conf_of c conf).members

abbrev pub ordered_in : Chronicle → ℕ → List (Sent Msg)
ordered_in c conf = (conf_of c conf).ordered

abbrev pub is_member : Chronicle → ℕ → ℕ → Bool
is_member c conf p = has (members_in c conf) p

-- the messages of a replica in a configuration: those that have a place, and then those that wait for one
abbrev pub sent_by : ℕ → Msg → Sent Msg
sent_by p m = record { from = p; message = m }

abbrev pub waiting_in : Chronicle → ℕ → ℕ → List Msg
waiting_in c conf p = if is_regular_in c conf p then unordered_of c.world.group p else []

abbrev pub placed_of : ℕ → List (Sent Msg) → List Msg
placed_of p ordered = map (λ s. s.message) (filter (λ s. s.from == p) ordered)

abbrev pub said_in : Chronicle → ℕ → ℕ → List Msg
said_in c conf p = placed_of p (ordered_in c conf) ++ waiting_in c conf p

-- so many places every member has received, and so many every member that isn't regular there any more
abbrev pub received_by_all : Chronicle → ℕ → ℕ
received_by_all c conf = prefix_len (all_received (conf_of c conf)) (above_up_to 0 (length (ordered_in c conf)))

abbrev pub is_received_outside : Chronicle → ℕ → ℕ → Bool
is_received_outside c conf place =
    list_all (λ p. is_regular_in c conf p || has_received (conf_of c conf) p place) (members_in c conf)

abbrev pub received_outside : Chronicle → ℕ → ℕ
received_outside c conf = prefix_len (is_received_outside c conf) (above_up_to 0 (length (ordered_in c conf)))

-- ---- attempts

abbrev pub attempt_of : Chronicle → ℕ → Option Attempt
attempt_of c conf = find (λ a. a.conf == conf) c.attempts

-- of nobody's attempt the start is what comes of it
abbrev pub no_attempt : List Weighted → Attempt
no_attempt start = record {
  conf = 0;
  from = 0;
  set = ids start;
  greens = [];
  yellow = [];
  reds = [];
  entered = [];
  installed = [];
  left = [];
}

-- the newest level, and the attempt that opened a level. Level 0 is the start
abbrev pub top_of : Chronicle → ℕ
top_of c = length c.levels

abbrev pub attempt_at : Chronicle → ℕ → Attempt
attempt_at c level =
    option_map_or (λ a. a) (option_and_then (attempt_of c) (at_place c.levels level)) (no_attempt c.start)

-- all that an installation makes green, in order
abbrev pub installation : Attempt → List Action
installation a = a.greens ++ a.yellow ++ a.reds

-- the green count of a member as it left
abbrev pub left_count : Attempt → ℕ → ℕ
left_count a p = option_map_or (λ l. l.count) (find (λ l. l.member == p) a.left) 0

-- ---- cores

-- what stands on a replica's disk, as a replica holds it
abbrev pub on_disk : NodeState → Held
on_disk (Up r disk) = disk.content
on_disk (Down disk green) = disk.content

abbrev pub disk_held : World → ℕ → Option Held
disk_held w p = option_map (λ s. on_disk s.life) (node_of w p)

-- what a replica has: as it runs, or, where it is down, as its disk has it
abbrev pub core_of : Chronicle → ℕ → Option Held
core_of c p = option_map (λ s. held_in s.life) (node_of c.world p)

-- the snapshot under way for a joiner, and its greens
abbrev pub snapshot_of : World → ℕ → Option TransferState
snapshot_of w joiner = find (λ s. s.joiner == joiner) w.snapshots

abbrev pub copy_of : Chronicle → ℕ → Option Copy
copy_of c joiner = find (λ x. x.joiner == joiner) c.copies

-- all snapshots for a joiner, and all copies: there is no more than one
abbrev pub snapshots_for : World → ℕ → List TransferState
snapshots_for w joiner = filter (λ s. s.joiner == joiner) w.snapshots

abbrev pub copies_for : Chronicle → ℕ → List Copy
copies_for c joiner = filter (λ x. x.joiner == joiner) c.copies

abbrev pub copied_for : Chronicle → ℕ → List Action
copied_for c joiner = option_map_or (λ x. x.greens) (copy_of c joiner) []

-- it holds of what each replica has in memory, what each has on its disk, and what each snapshot makes of its joiner
pub record OfCores (c : Chronicle) (P : Held → List Action → Type 0) : Type 0 where
  pub memory : (p : ℕ) → IfSome (replica_of c.world p) (λ r. P r.held (greens_of c p))
  pub disk : (p : ℕ) → IfSome (disk_held c.world p) (λ h. P h (stood_of c p))
  pub snapshot : (joiner : ℕ) →
      IfSome (snapshot_of c.world joiner) (λ s. P (joiner_replica joiner s.content).held (copied_for c joiner))
