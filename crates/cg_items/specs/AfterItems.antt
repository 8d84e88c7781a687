-- What stands behind items of a run: the world, and what the lines tell that were shown so far.
use Rattle.std.specs.Prelude.{◌≡◌, ℕ, List, ◌∷◌, ◌++◌}
use Rattle.cg_base.specs.declared.action_id.ActionId.{ActionId}
use Rattle.cg_action.specs.declared.query.Query.{Query}
use Rattle.cg_action.specs.declared.answer.Answer.{Answer}
use Rattle.cg_db.specs.Apply.{fold_actions}
use Rattle.cg_db.specs.Find.{answer}
use Rattle.cg_model.specs.World.{World, no_world}
use Rattle.cg_model.specs.Run.{world_after}
use Rattle.cg_model.specs.Shown.{order_of, ordered_actions, position_of}
use Rattle.cg_items.specs.Items.{Item, steps_of}

-- the item comes in the run behind the earlier ones
abbrev pub ItemAfter : List Item → List Item → Item → Type 0
ItemAfter items earlier i = (later : List Item) × (items ≡ earlier ++ i ∷ later)

-- the world behind items
abbrev pub world_behind : List Item → World
world_behind items = world_after no_world (steps_of items)

-- the order, and the position of a replica in it, behind items
abbrev pub order_behind : List Item → List ActionId
order_behind items = order_of (steps_of items)

abbrev pub position_behind : ℕ → List Item → ℕ
position_behind p items = position_of p (steps_of items)

-- what a prefix of the order answers
abbrev pub prefix_answer : List Item → ℕ → Query → Answer
prefix_answer items n query = answer (fold_actions (ordered_actions (steps_of items) n)) query
