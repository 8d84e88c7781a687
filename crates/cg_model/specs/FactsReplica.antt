-- Facts about what each replica holds, as it runs and as its disk has it.
use Rattle.std.specs.Prelude.{◌≡◌, ℕ, suc, ◌-◌, ◌≤◌, ◌==◌, nat_le, Bool, true, false, not, ◌&&◌, ◌||◌, List, [], ◌∷◌, ◌++◌, Option, Some, None, find, drop, length, IsTrue, IfSome, filter_map, if◌then◌else◌}
use Rattle.std.specs.List.{list_all}
use Rattle.cg_base.specs.declared.action_id.ActionId.{ActionId}
use Rattle.cg_base.specs.declared.weighted.Weighted.{Weighted}
use Rattle.cg_base.specs.Cuts.{index_in}
use Rattle.cg_base.specs.Ids.{same_id}
use Rattle.cg_base.specs.Sets.{has}
use Rattle.cg_action.specs.declared.action.Action.{Action}
use Rattle.cg_action.specs.declared.action.Kind.{Kind}
use Rattle.cg_action.specs.declared.action.Kind.TheVariants.{Join}
use Rattle.cg_db.specs.Apply.{fold_actions}
use Rattle.cg_members.specs.Listed.{line_of}
use Rattle.cg_members.specs.Servers.{members_of, is_server, was_ever, starting}
use Rattle.cg_queue.specs.Queue.{names_of}
use Rattle.cg_records.specs.declared.vulnerable.Vulnerable.{Vulnerable}
use Rattle.cg_group.specs.declared.phase.Phase.{Phase}
use Rattle.cg_group.specs.State.{phase_of, unordered_of}
use Rattle.cg_client.specs.Replica.{Held, State, RegPrim, TransPrim, ExchangeStates, ExchangeActions, Construct, No, Un, NonPrim, Left, Replica, created}
use Rattle.cg_disk_records.specs.Holds.{run_on, cut_behind, ascend}
use Rattle.cg_model.specs.Chronicle.{Attempt, Chronicle}
use Rattle.cg_model.specs.World.{has_begun, replica_of}
use Rattle.cg_model.specs.Fronts.{Front}
use Rattle.cg_model.specs.Looks.{greens_of, stood_of, disk_held, core_of, conf_at, ordered_in, attempt_of, attempt_at, OfCores}
use Rattle.cg_model.specs.Talk.{action_in}
use Rattle.cg_model.specs.Levels.{is_record_of}

-- ---- what a replica holds is made of its greens

-- what is held is what the greens make of it, and those that aren't discarded
pub record IsMadeOf (start : List Weighted) (h : Held) (greens : List Action) : Type 0 where
  pub white : h.queue.white ≤ length greens
  pub kept : h.queue.greens ≡ drop h.queue.white greens
  pub green_cut : h.queue.green_cut ≡ cut_behind [] (names_of greens)
  pub red_cut : h.queue.red_cut ≡ cut_behind h.queue.green_cut (names_of h.queue.reds)
  pub db : h.db ≡ fold_actions greens
  pub members : h.members ≡ members_of start greens

-- the greens, the reds behind them and the own actions behind these are each the next of their creator
pub record IsContiguous (h : Held) (all : List Action) : Type 0 where
  pub greens : IsTrue (run_on [] (names_of all))
  pub reds : IsTrue (run_on h.queue.green_cut (names_of h.queue.reds))
  pub by_name : IsTrue (ascend (names_of h.queue.reds))
  pub own : IsTrue (run_on h.queue.red_cut (names_of h.own))
  pub mine : IsTrue (list_all (λ a. a.id.creator == h.id) h.own)

-- the yellow names are those of known actions that aren't green, and each is the next of its creator
pub record IsYellowClosed (h : Held) : Type 0 where
  pub next : IsTrue (run_on h.queue.green_cut h.queue.yellow)
  pub known : IsTrue (list_all (λ id. nat_le id.index (index_in h.queue.red_cut id.creator)) h.queue.yellow)

-- ---- what a state says of what is held

-- the record of a member that knows of no end but its own
abbrev pub own_record : Attempt → ℕ → Vulnerable
own_record a p = record { attempt = a.conf; from = a.from; set = a.set; bits = p ∷ [] }

-- a member of a primary component, whose index is that of a level, in that level's configuration
pub record IsInPrimary (c : Chronicle) (h : Held) (conf : ℕ) : Type 0 where
  pub opened : attempt_of c conf ≡ Some (attempt_at c h.prim.index)
  pub prim_conf : h.prim.conf ≡ conf
  pub mine : h.vulnerable ≡ Some (own_record (attempt_at c h.prim.index) h.id)
  pub index : h.prim.index ≡ suc (attempt_at c h.prim.index).from
  pub yellow_valid : h.yellow_valid ≡ false

-- a member of an attempt that it hasn't installed
abbrev pub IsInAttempt : Held → Option Attempt → Type 0
IsInAttempt h None = ⊥
IsInAttempt h (Some a) = (h.vulnerable ≡ Some (own_record a h.id)) × (h.prim.index ≡ a.from) × (h.own ≡ [])

abbrev pub HasModeData : Chronicle → Held → Phase → State → Type 0
HasModeData c h phase RegPrim = IsInPrimary c h (conf_at phase) × (h.queue.reds ≡ []) × (h.queue.yellow ≡ [])
HasModeData c h phase TransPrim = IsInPrimary c h (conf_at phase)
    × (cut_behind h.queue.green_cut h.queue.yellow ≡ h.queue.red_cut)
HasModeData c h phase (Construct conf heard) = IsInAttempt h (attempt_of c (conf_at phase))
HasModeData c h phase (No conf heard) = IsInAttempt h (attempt_of c (conf_at phase))
HasModeData c h phase Un = IsInAttempt h (attempt_of c (conf_at phase))
HasModeData c h phase (ExchangeStates conf set heard) = h.own ≡ []
HasModeData c h phase (ExchangeActions conf summaries accepted) = h.own ≡ []
HasModeData c h phase _ = Unit {0}

-- states of those who have entered the attempt of their configuration, and of those who have installed it
abbrev pub is_primary : State → Bool
is_primary RegPrim = true
is_primary TransPrim = true
is_primary _ = false

abbrev pub is_attempting : State → Bool
is_attempting (Construct conf heard) = true
is_attempting (No conf heard) = true
is_attempting Un = true
is_attempting _ = false

-- the states of an exchange
abbrev pub is_exchanging : State → Bool
is_exchanging (ExchangeStates conf set heard) = true
is_exchanging (ExchangeActions conf heard accepted) = true
is_exchanging _ = false

abbrev pub has_entered : Attempt → ℕ → Bool
has_entered a p = has a.entered p

abbrev pub has_installed : Attempt → ℕ → Bool
has_installed a p = has a.installed p

-- a member of an attempt, in the attempt's configuration
pub record IsCounted (a : Attempt) (r : Replica) : Type 0 where
  pub entered : has_entered a r.held.id ≡ (is_attempting r.state || is_primary r.state)
  pub installed : has_installed a r.held.id ≡ is_primary r.state
  pub record_of : (is_record_of a.conf r.held.vulnerable && not (has_entered a r.held.id)) ≡ false

pub record IsModeData (c : Chronicle) (p : ℕ) (r : Replica) : Type 0 where
  pub id : r.held.id ≡ p
  pub data_of : HasModeData c r.held (phase_of c.world.group p) r.state
  pub counted : IfSome (attempt_of c (conf_at (phase_of c.world.group p))) (λ a. IsCounted a r)

-- ---- the disk

-- what is held in memory goes on from what stands on the disk: actions more may be red, own ones among them
pub record GoesOn (now disk : Held) : Type 0 where
  pub white : now.queue.white ≡ disk.queue.white
  pub green : now.queue.green_cut ≡ disk.queue.green_cut
  pub red : (creator : ℕ) → index_in disk.queue.red_cut creator ≤ index_in now.queue.red_cut creator
  pub yellow : now.queue.yellow ≡ disk.queue.yellow
  pub yellow_valid : now.yellow_valid ≡ disk.yellow_valid
  pub prim : now.prim ≡ disk.prim
  pub attempt_index : now.attempt_index ≡ disk.attempt_index
  pub vulnerable : now.vulnerable ≡ disk.vulnerable
  pub created : created now ≡ created disk
  pub own : now.own ≡ drop (length disk.own - length now.own) disk.own

-- within an attempt that isn't installed nothing more is red
abbrev pub IsAsOnDisk : Held → Held → State → Type 0
IsAsOnDisk now disk (Construct conf heard) = now.queue.reds ≡ disk.queue.reds
IsAsOnDisk now disk (No conf heard) = now.queue.reds ≡ disk.queue.reds
IsAsOnDisk now disk Un = now.queue.reds ≡ disk.queue.reds
IsAsOnDisk now disk _ = Unit {0}

-- At the end of a step: what stands on the disk of a replica that is up is what it holds, but for reds.
pub record DiskAgrees (c : Chronicle) : Type 0 where
  pub up : (p : ℕ) →
      IfSome (replica_of c.world p) (λ r. IfSome (disk_held c.world p) (λ disk. GoesOn r.held disk
      × IsAsOnDisk r.held disk r.state))
  pub greens : (p : ℕ) → greens_of c p ≡ stood_of c p

-- Always: a disk has no greens that its replica hasn't, and of a replica that is down the disk is all that there is.
pub record DiskBehind (c : Chronicle) : Type 0 where
  pub behind : (p : ℕ) → Front (stood_of c p) (greens_of c p)
  pub down : (p : ℕ) → replica_of c.world p ≡ None → greens_of c p ≡ stood_of c p

-- At the end of a step: nothing is kept in a state that creates, and nothing by one that has left.
abbrev pub IsEmptyIn : Held → State → Type 0
IsEmptyIn h RegPrim = h.buffered ≡ []
IsEmptyIn h (NonPrim true) = h.buffered ≡ []
IsEmptyIn h Left = h.buffered ≡ []
IsEmptyIn h _ = Unit {0}

abbrev pub BufferEmpty : Chronicle → Type 0
BufferEmpty c = (p : ℕ) → IfSome (replica_of c.world p) (λ r. IsEmptyIn r.held r.state)

-- ---- actions are made once

-- the action of a name in the book
abbrev pub booked : Chronicle → ActionId → Option Action
booked c id = find (λ a. same_id a.id id) c.book

-- each of these actions is the one of its name
abbrev pub AreBooked : Chronicle → List Action → Type 0
AreBooked c [] = Unit {0}
AreBooked c (a ∷ actions) = (booked c a.id ≡ Some a) × AreBooked c actions

pub record MadeOnce (c : Chronicle) : Type 0 where
  pub numbered : IsTrue (run_on [] (names_of c.book))
  pub counted : (p : ℕ) → IfSome (core_of c p) (λ h. index_in (cut_behind [] (names_of c.book)) p ≡ created h)
  pub in_greens : (p : ℕ) → AreBooked c (greens_of c p)
  pub in_memory : (p : ℕ) → IfSome (replica_of c.world p) (λ r. AreBooked c (r.held.queue.reds ++ r.held.own))
  pub on_disk : (p : ℕ) → IfSome (disk_held c.world p) (λ h. AreBooked c (h.queue.reds ++ h.own))
  pub in_messages : (conf : ℕ) → AreBooked c (filter_map (λ s. action_in s.message) (ordered_in c conf))
  pub in_waiting : (p : ℕ) → AreBooked c (filter_map action_in (unordered_of c.world.group p))

-- who hasn't begun has made nothing; the servers of the start have begun; and each action of an attempt's parts is the one of
-- its name, also where no member holds it any more
pub record Origins (c : Chronicle) : Type 0 where
  pub unbegun : (p : ℕ) → has_begun c.world p ≡ false → index_in (cut_behind [] (names_of c.book)) p ≡ 0
  pub starters : (p : ℕ) → was_ever (starting c.start) p ≡ true → has_begun c.world p ≡ true
  pub parts : (conf : ℕ) → IfSome (attempt_of c conf) (λ a. AreBooked c (a.yellow ++ a.reds))

-- ---- lines

-- the green line of each action is no higher than its creator's greens
abbrev pub AreBelow : Chronicle → List Action → Type 0
AreBelow c [] = Unit {0}
AreBelow c (a ∷ actions) = (a.green_line ≤ length (greens_of c a.id.creator)) × AreBelow c actions

-- the place at which the replica's join first stands, 0 where it doesn't
abbrev pub joins : ℕ → Kind → Bool
joins p (Join joiner weight) = joiner == p
joins p _ = false

abbrev pub join_from : ℕ → List Action → ℕ → ℕ
join_from place [] p = 0
join_from place (a ∷ greens) p = if joins p a.kind then suc place else join_from (suc place) greens p

-- the line of a server that has begun is no higher than its greens, that of another is the place of its join; and no line
-- is below the white count
pub record IsLined (c : Chronicle) (h : Held) (greens : List Action) : Type 0 where
  pub begun : (q : ℕ) → IsTrue (has_begun c.world q) → line_of h.members.servers q ≤ length (greens_of c q)
  pub others : (q : ℕ) → has_begun c.world q ≡ false → IsTrue (is_server h.members q) →
      line_of h.members.servers q ≡ join_from 0 greens q
  pub white : (q : ℕ) → IsTrue (is_server h.members q) → h.queue.white ≤ line_of h.members.servers q

pub record LinesBelow (c : Chronicle) : Type 0 where
  pub actions : AreBelow c c.book
  pub cores : OfCores c (IsLined c)

-- ---- all replica facts

-- what holds of each core by itself
pub record IsCore (c : Chronicle) (h : Held) (greens : List Action) : Type 0 where
  pub made_of : IsMadeOf c.start h greens
  pub contiguous : IsContiguous h greens
  pub yellow_closed : IsYellowClosed h

pub record ReplicaFacts (c : Chronicle) : Type 0 where
  pub cores : OfCores c (IsCore c)
  pub mode_data : (p : ℕ) → IfSome (replica_of c.world p) (IsModeData c p)
  pub disk_behind : DiskBehind c
  pub made_once : MadeOnce c
  pub origins : Origins c
  pub lines_below : LinesBelow c

-- and those at the end of a step
pub record ReplicaRests (c : Chronicle) : Type 0 where
  pub disk_agrees : DiskAgrees c
  pub buffer_empty : BufferEmpty c
