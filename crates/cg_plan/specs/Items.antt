-- The items of a plan: what each part of it has, in order, and from whom.
use Rattle.std.specs.Prelude.{ℕ, ◌-◌, ◌==◌, Bool, false, List, map, flat_map}
use Rattle.cg_base.specs.Ids.{same_id}
use Rattle.cg_base.specs.Lists.{above_up_to}
use Rattle.cg_plan.specs.declared.parts.Item.{Item}
use Rattle.cg_plan.specs.declared.parts.Item.TheVariants.{Green, Red}
use Rattle.cg_plan.specs.declared.parts.Part.{Part}
use Rattle.cg_plan.specs.declared.parts.Part.TheVariants.{Greens, Reds}
use Rattle.cg_plan.specs.declared.parts.SentPart.{SentPart}
use Rattle.cg_plan.specs.declared.parts.SentItem.{SentItem}

-- the red item of a creator with that index
abbrev pub red_item : ℕ → ℕ → Item
red_item creator index = Red (record { creator = creator; index = index })

-- the items of a part, in order
abbrev pub items_of : Part → List Item
items_of (Greens from to) = map Green (above_up_to (from - 1) to)
items_of (Reds creator from to) = map (red_item creator) (above_up_to (from - 1) to)

-- an item with its sender
abbrev pub sent_by : ℕ → Item → SentItem
sent_by sender item = record { sender = sender; item = item }

-- the items of a part, each with the part's sender
abbrev pub items_of_turn : SentPart → List SentItem
items_of_turn turn = map (sent_by turn.sender) (items_of turn.part)

-- the items of a plan, in order
unfoldable pub items_of_plan : List SentPart → List SentItem
items_of_plan plan = flat_map items_of_turn plan
