-- When an event is to be written, seen from the values on the disk and those behind the event.
use Rattle.std.specs.Prelude.{◌≡◌, ◌==◌, ◌<◌, Bool, true, false, not, ◌&&◌, ◌||◌, List, ◌++◌, length, Option, Some, None}
use Rattle.cg_base.specs.Text.{is_nil}
use Rattle.cg_action.specs.declared.action.Action.{Action}
use Rattle.std.specs.Option.{option_eq}
use Rattle.cg_base.specs.declared.limits.TheConstants.{LIST_LIMIT}
use Rattle.cg_records.specs.contracts.primary.PrimaryPartialEq.TheImpl.{ghosts as primary}
use Rattle.cg_records.specs.contracts.vulnerable.VulnerablePartialEq.TheImpl.{ghosts as vulnerable}
use Rattle.cg_records.specs.contracts.yellow.YellowPartialEq.TheImpl.{ghosts as yellow}
use Rattle.cg_records.specs.declared.stable.Stable.{Stable}
use Rattle.cg_client.specs.Replica.{Held, State}
use Rattle.cg_client.specs.declared.parts.DraftParts.{DraftParts}
use Rattle.cg_disk_records.specs.Stored.{Stored, stable_of}
use Rattle.cg_disk_records.specs.Change.{spelled_change}
use Rattle.cg_disk_records.specs.Limits.{IsChange}
use Rattle.cg_disk_records.specs.Following.{change_with}
use Rattle.cg_disk_records.specs.Commit.{commits}
use Rattle.cg_client.specs.Drafts.{turn_with}
use Rattle.cg_store.specs.Stands.{OnDisk, led_by, led}
use Rattle.cg_store.specs.declared.pending_record.PendingRecord.{PendingRecord}

abbrev pub same_stable : Stable → Stable → Bool
same_stable old new =
    primary.eq old.prim new.prim && (old.attempt_index == new.attempt_index)
    && option_eq vulnerable.eq old.vulnerable new.vulnerable
    && yellow.eq old.yellow new.yellow

abbrev pub is_due : Stable → Stable → DraftParts → Bool
is_due old new d = d.marked_own || not (is_nil d.green) || not (is_nil d.made) || not (same_stable old new)

-- the record of the event, and the values in it
pub record IsRecord (unwritten : List Action) (h : Held) (d : DraftParts) (due : PendingRecord) : Type 0 where
  pub values : due.values ≡ stable_of h
  pub body : due.body ≡ spelled_change (change_with (stable_of h) (unwritten ++ d.known) d.green d.made)
  pub within : IsChange (change_with (stable_of h) (unwritten ++ d.known) d.green d.made)
  pub short : length due.body < LIST_LIMIT

-- all that an event writes was made ready, where it is to be written
abbrev pub IsPrepared : Stable → List Action → Held → DraftParts → Option PendingRecord → Type 0
IsPrepared values unwritten h d None = is_due values (stable_of h) d ≡ false
IsPrepared values unwritten h d (Some due) = (is_due values (stable_of h) d ≡ true) × IsRecord unwritten h d due

-- the same, seen from what stands on the disk
abbrev pub IsReady : Stored → List Action → Held → DraftParts → State → Option PendingRecord → Type 0
IsReady s unwritten h d state None = commits s (turn_with h state d) ≡ false
IsReady s unwritten h d state (Some due) = (commits s (turn_with h state d) ≡ true) × IsRecord unwritten h d due

-- the record leads from what the disk stands for to a state with these values
pub record IsLed (u : OnDisk) (due : PendingRecord) : Type 0 where
  pub state : Stored
  pub leads : led_by u.content due.body ≡ Some state
  pub values : due.values ≡ stable_of state

-- what the disk stands for behind the record, if there is one
abbrev pub IsBehind : OnDisk → Option PendingRecord → OnDisk → Type 0
IsBehind u None v = Unit {0}
IsBehind u (Some due) v = (s : Stored) × (led_by u.content due.body ≡ Some s) × (v ≡ led u due.body s)

-- one of two statements, by whether there is a record
abbrev pub WhetherDue : Option PendingRecord → Type 0 → Type 0 → Type 0
WhetherDue None A B = B
WhetherDue (Some due) A B = A
