-- What a record makes of what stands on the disk, where it fits.
use Rattle.std.specs.Prelude.{◌≡◌, suc, ◌==◌, Bool, not, ◌&&◌, ◌||◌, List, [], ◌∷◌, ◌++◌, Option, Some, None, fold, option_and_then, if◌then◌else◌}
use Rattle.std.specs.List.{list_all}
use Rattle.cg_base.specs.declared.action_id.ActionId.{ActionId}
use Rattle.cg_base.specs.Ids.{has_name}
use Rattle.cg_base.specs.Cuts.{index_in}
use Rattle.cg_action.specs.declared.action.Action.{Action}
use Rattle.cg_queue.specs.Distinct.{is_distinct}
use Rattle.cg_queue.specs.Queue.{QueueView, names_of, placed_red, action_of}
use Rattle.cg_records.specs.declared.stable.Stable.{Stable}
use Rattle.cg_client.specs.Replica.{Held, created}
use Rattle.cg_client.specs.Turn.{Turn}
use Rattle.cg_client.specs.Marks.{after_first, is_first, with_green}
use Rattle.cg_disk_records.specs.declared.change.Change.{Change}
use Rattle.cg_disk_records.specs.Stored.{Stored, stored_of, whiten}
use Rattle.cg_disk_records.specs.Change.{change_of}

-- the change with these parts
abbrev pub change_with : Stable → List Action → List ActionId → List Action → Change
change_with stable known green made = record { stable = stable; known = known; green = green; made = made }

-- an action may become known where it is the next of its creator, one of the disk's own replica where that waits for it first
abbrev pub fits_known : Stored → Action → Bool
fits_known s a =
    (a.id.index == suc (index_in s.queue.red_cut a.id.creator))
    && (not (a.id.creator == s.id) || is_first (names_of s.own) a.id)

-- an action becomes known
abbrev pub know : Stored → Action → Option Stored
know s a = if fits_known s a
    then Some (record s { queue = placed_red s.queue a; own = after_first s.own a.id }) else None

-- a red action becomes green where it is the next green one of its creator
abbrev pub turn_green : Stored → Action → Option Stored
turn_green s a = if a.id.index == suc (index_in s.queue.green_cut a.id.creator) then Some (with_green s a) else None

-- the action of a name becomes green
abbrev pub green_by_name : Stored → ActionId → Option Stored
green_by_name s id = option_and_then (turn_green s) (action_of s.queue id)

-- the disk's replica makes its next action
abbrev pub make : Stored → Action → Option Stored
make s a = if (a.id.creator == s.id) && (a.id.index == suc (created s))
    then Some (record s { own = s.own ++ a ∷ [] }) else None

-- the items of a list one after another, as long as each fits
abbrev pub all_of : {A : Type 0} → (Stored → A → Option Stored) → Option Stored → List A → Option Stored
all_of go s items = fold (λ now item. option_and_then (λ x. go x item) now) s items

-- the yellow names are those of red actions, each once
abbrev pub are_yellow : QueueView → List ActionId → Bool
are_yellow q ids = is_distinct ids && list_all (has_name (names_of q.reds)) ids

-- the new values stand on the disk
abbrev pub put_values : Stored → Stable → Stored
put_values s v =
    let q = s.queue in
    record s {
      queue = record q { yellow = v.yellow.list };
      yellow_valid = v.yellow.valid;
      prim = v.prim;
      attempt_index = v.attempt_index;
      vulnerable = v.vulnerable;
    }

-- they fit where the yellow names are those of reds, and the last action made is the one that is named
abbrev pub with_values : Stable → Stored → Option Stored
with_values v s = if are_yellow s.queue v.yellow.list && (v.created == created s)
    then Some (whiten (put_values s v)) else None

-- what stands on the disk after a change, where the change fits
unfoldable pub after_change : Stored → Change → Option Stored
after_change s c =
    option_and_then (with_values c.stable) (all_of
    make (all_of green_by_name (all_of know (Some s) c.known) c.green) c.made)

-- a replica holds what stands on the disk and these red marks
abbrev pub IsAhead : Stored → List Action → Held → Type 0
IsAhead s unwritten h = all_of know (Some s) unwritten ≡ Some (stored_of h)

-- the record of a commit leads from what stands on the disk to what the commit leaves
abbrev pub IsRecorded : Stored → List Action → Turn → Type 0
IsRecorded s unwritten t = after_change s (change_of unwritten t) ≡ Some (stored_of (whiten t.replica.held))
