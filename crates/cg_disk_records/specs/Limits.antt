-- Which states and changes have a record: each part is within the limits of its bytes.
use Rattle.std.specs.Prelude.{◌<◌, List, length}
use Rattle.cg_base.specs.declared.limits.TheConstants.{LIST_LIMIT}
use Rattle.cg_base.specs.Sets.{IsId, IsSet}
use Rattle.cg_action.specs.declared.action.Action.{Action}
use Rattle.cg_action.specs.ActionLimits.{IsAction, IsActionId}
use Rattle.cg_action.specs.declared.entry.DbEntry.{DbEntry}
use Rattle.cg_db.specs.Ascending.{Ascends}
use Rattle.cg_db.specs.Limits.{AreEntries}
use Rattle.cg_members.specs.Members.{Members}
use Rattle.cg_members.specs.Listed.{AreServers}
use Rattle.cg_queue.specs.Queue.{QueueView, green_count}
use Rattle.cg_base.specs.Lists.{Each}
use Rattle.cg_records.specs.Limits.{IsNumber, IsSmallCut, IsStable}
use Rattle.cg_disk_records.specs.declared.change.Change.{Change}
use Rattle.cg_disk_records.specs.declared.checkpoint.Reached.{Reached}
use Rattle.cg_disk_records.specs.declared.checkpoint.KeptActions.{KeptActions}
use Rattle.cg_disk_records.specs.declared.checkpoint.Checkpoint.{Checkpoint}
use Rattle.cg_disk_records.specs.Stored.{Stored, stable_of}

-- so many things fit a list of a record
abbrev pub IsShort : {X : Type 0} → List X → Type 0
IsShort xs = length xs < LIST_LIMIT

-- a list of actions that has a record
pub record AreActions (actions : List Action) : Type 0 where
  pub short : IsShort actions
  pub each : Each IsAction actions

pub record AreMembers (m : Members) : Type 0 where
  pub servers : AreServers m.servers
  pub lines : Each (λ s. IsNumber s.line) m.servers
  pub left : IsSet m.left

pub record IsQueue (q : QueueView) : Type 0 where
  pub count : IsNumber (green_count q)
  pub green_cut : IsSmallCut q.green_cut
  pub red_cut : IsSmallCut q.red_cut
  pub greens : AreActions q.greens
  pub reds : AreActions q.reds

-- each list is short
pub record HaveShortLists (s : Stored) : Type 0 where
  pub greens : IsShort s.queue.greens
  pub reds : IsShort s.queue.reds
  pub own : IsShort s.own
  pub db : IsShort s.db

pub record IsStored (s : Stored) : Type 0 where
  pub id : IsId s.id
  pub stable : IsStable (stable_of s)
  pub queue : IsQueue s.queue
  pub members : AreMembers s.members
  pub short : IsShort s.db
  pub entries : AreEntries s.db
  pub ascends : Ascends s.db
  pub own : AreActions s.own

-- the parts of a checkpoint

pub record IsReached (r : Reached) : Type 0 where
  pub count : IsNumber r.count
  pub white : IsNumber r.white
  pub cut : IsSmallCut r.cut
  pub members : AreMembers r.members

pub record IsKept (k : KeptActions) : Type 0 where
  pub greens : AreActions k.greens
  pub reds : AreActions k.reds
  pub own : AreActions k.own

pub record IsDatabase (db : List DbEntry) : Type 0 where
  pub short : IsShort db
  pub entries : AreEntries db
  pub ascends : Ascends db

pub record AreParts (p : Checkpoint) : Type 0 where
  pub generation : IsNumber p.generation
  pub stable : IsStable p.stable
  pub reached : IsReached p.reached
  pub db : IsDatabase p.db
  pub kept : IsKept p.kept

pub record IsChange (c : Change) : Type 0 where
  pub stable : IsStable c.stable
  pub known : AreActions c.known
  pub short : IsShort c.green
  pub green : Each IsActionId c.green
  pub made : AreActions c.made
