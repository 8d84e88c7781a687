-- The lists of a change in bytes, of which each item is put into what is held as it is read.
use Rattle.std.specs.Prelude.{◌≡◌, Bool, true, false, List, Option, Some, None, Ok}
use Rattle.cg_base.specs.declared.action_id.ActionId.{ActionId}
use Rattle.cg_action.specs.declared.action.Action.{Action}
use Rattle.cg_action.specs.Reading.{action_reading, id_reading}
use Rattle.cg_codec.specs.Reading.{Unread, Reading}
use Rattle.cg_client.specs.Replica.{Held}
use Rattle.cg_disk_records.specs.Stored.{Stored}
use Rattle.cg_disk_records.specs.Following.{know, green_by_name, make, all_of}
use Rattle.cg_disk_records.specs.Reading.{actions_reading, ids_reading}
use Rattle.cg_store.specs.declared.replay.ChangeList.{ChangeList}
use Rattle.cg_store.specs.declared.replay.ChangeList.TheVariants.{Known, Green, Made}

-- what stands in a list: actions, or names
abbrev pub ItemOf : ChangeList → Type 0
ItemOf Known = Action
ItemOf Green = ActionId
ItemOf Made = Action

abbrev pub item_reading : (list : ChangeList) → Reading (ItemOf list)
item_reading Known = action_reading
item_reading Green = id_reading
item_reading Made = action_reading

abbrev pub list_reading : (list : ChangeList) → Reading (List (ItemOf list))
list_reading Known = actions_reading
list_reading Green = ids_reading
list_reading Made = actions_reading

-- what an item makes of a state that it fits
abbrev pub item_step : (list : ChangeList) → Stored → ItemOf list → Option Stored
item_step Known = know
item_step Green = green_by_name
item_step Made = make

-- the next item was read and fits; or none was read there that fits
abbrev pub PutsNext : {A : Type 0} → Reading A → (Stored → A → Option Stored) → Stored → Unread → Held → Unread → Bool →
    Type 0
PutsNext {A} reading go s old t new true = (x : A) × (reading old ≡ Ok (x, new)) × (go s x ≡ Some t)
PutsNext {A} reading go s old t new false = (x : A) (rest : Unread) → reading old ≡ Ok (x, rest) → go s x ≡ None

-- all were read and fit; or no list was read there whose items all fit
abbrev pub PutsAll : {A : Type 0} → Reading (List A) → (Stored → A → Option Stored) → Stored → Unread →
    Held → Unread → Bool → Type 0
PutsAll {A} reading go s old t new true = (list : List A) × (reading old ≡ Ok (list, new))
    × (all_of go (Some s) list ≡ Some t)
PutsAll {A} reading go s old t new false = (list : List A) (rest : Unread) → reading old ≡ Ok (list, rest) →
    all_of go (Some s) list ≡ None
