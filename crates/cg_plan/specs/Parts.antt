-- What a part of a plan has: whether it has an item, how many, and which.
use Rattle.std.specs.Prelude.{ℕ, ◌+◌, ◌-◌, ◌≤◌}
use Rattle.cg_plan.specs.declared.parts.Item.{Item}
use Rattle.cg_plan.specs.declared.parts.Item.TheVariants.{Green}
use Rattle.cg_plan.specs.declared.parts.Part.{Part}
use Rattle.cg_plan.specs.declared.parts.Part.TheVariants.{Greens, Reds}
use Rattle.cg_plan.specs.Items.{red_item}

-- the part has an item
abbrev pub IsFilled : Part → Type 0
IsFilled (Greens from to) = (1 ≤ from) × (from ≤ to)
IsFilled (Reds creator from to) = (1 ≤ from) × (from ≤ to)

-- how many items a part has
abbrev pub size_of : Part → ℕ
size_of (Greens from to) = to - (from - 1)
size_of (Reds creator from to) = to - (from - 1)

-- the item behind so many others of a part
abbrev pub item_behind : Part → ℕ → Item
item_behind (Greens from to) made = Green (from + made)
item_behind (Reds creator from to) made = red_item creator (from + made)
