-- How far a plan has been followed.
use Rattle.std.specs.Prelude.{ℕ, zero, suc, ◌-◌, ◌==◌, nat_lt, nat_le, Bool, false, ◌&&◌, List, [], ◌∷◌, Option, Some, None, length, slice_get, if◌then◌else◌}
use Rattle.cg_plan.specs.declared.parts.Item.{Item}
use Rattle.cg_plan.specs.declared.parts.Part.{Part}
use Rattle.cg_plan.specs.declared.parts.SentPart.{SentPart}
use Rattle.cg_plan.specs.declared.parts.SentItem.{SentItem}
use Rattle.cg_plan.specs.Items.{items_of, items_of_plan}
use Rattle.cg_plan.specs.contracts.parts.ItemPartialEq.TheImpl.{ghosts as items}

-- a plan, and how many of its items were accepted
pub record PlanProgress : Type 0 where
  pub turns : List SentPart
  pub accepted : ℕ

-- the item that comes after those that were accepted
unfoldable pub next_item : PlanProgress → Option SentItem
next_item p = slice_get (items_of_plan p.turns) p.accepted

-- the item is the wanted one, and comes from its sender
abbrev pub is_wanted : Option SentItem → ℕ → Item → Bool
is_wanted None from item = false
is_wanted (Some sent) from item = (sent.sender == from) && items.eq sent.item item

-- every item was accepted
unfoldable pub is_done : PlanProgress → Bool
is_done p = nat_le (length (items_of_plan p.turns)) p.accepted

-- the part that begins after the items that were accepted, where it is the given replica's turn
unfoldable pub turn_of : List SentPart → ℕ → ℕ → Option Part
turn_of [] me accepted = None
turn_of (turn ∷ turns) me zero = if turn.sender == me then Some turn.part else None
turn_of (turn ∷ turns) me (suc accepted) =
    let size = length (items_of turn.part) in
    if nat_lt (suc accepted) size then None else turn_of turns me (suc accepted - size)
