-- The actions that a replica knows, and what a mark makes of them.
use Rattle.std.specs.Prelude.{ℕ, suc, ◌+◌, ◌-◌, ◌==◌, nat_lt, nat_le, not, ◌&&◌, List, [], ◌∷◌, ◌++◌, length, filter, find, drop, map, Option, if◌then◌else◌}
use Rattle.cg_base.specs.declared.action_id.ActionId.{ActionId}
use Rattle.cg_base.specs.Ids.{same_id, id_before, has_name}
use Rattle.cg_base.specs.Cuts.{index_in, raise}
use Rattle.cg_action.specs.declared.action.Action.{Action}
use Rattle.cg_queue.specs.declared.mark.Mark.{Mark}
use Rattle.cg_queue.specs.declared.mark.Mark.TheVariants.{Placed, Known}

-- the number of greens that were discarded, the greens behind them, how far each creator's actions are green and how far
-- they are known, the reds by name, and the names of those that are yellow in their order
pub record QueueView : Type 0 where
  pub white : ℕ
  pub greens : List Action
  pub green_cut : List ActionId
  pub red_cut : List ActionId
  pub reds : List Action
  pub yellow : List ActionId

-- no action is known, and those that these cuts count were discarded
abbrev pub resumed : ℕ → List ActionId → QueueView
resumed white cut = record { white = white; greens = []; green_cut = cut; red_cut = cut; reds = []; yellow = [] }

abbrev pub names_of : List Action → List ActionId
names_of actions = map (λ a. a.id) actions

-- the number of greens, discarded ones counted
abbrev pub green_count : QueueView → ℕ
green_count q = q.white + length q.greens

-- the reds with one more among them, by name
abbrev pub with_red : List Action → Action → List Action
with_red [] new = new ∷ []
with_red (a ∷ reds) new = if id_before new.id a.id then new ∷ a ∷ reds else a ∷ with_red reds new

-- the actions without the one of that name
abbrev pub without_action : List Action → ActionId → List Action
without_action actions id = filter (λ a. not (same_id a.id id)) actions

-- how a mark ends: with what is then known, or at a gap behind the creator's last known action
pub data Marking : Type 0 where
  Marks : (mark : Mark) (queue : QueueView) → Marking
  Gaps : (cut : ℕ) → Marking

-- an action becomes red
abbrev pub placed_red : QueueView → Action → QueueView
placed_red q a = record q { reds = with_red q.reds a; red_cut = raise q.red_cut a.id }

-- an action is marked red, where it is the next of its creator or known
abbrev pub marked_red : QueueView → Action → Marking
marked_red q a =
    let cut = index_in q.red_cut a.id.creator in
    if nat_le a.id.index cut then Marks Known q
    else if a.id.index == suc cut then Marks Placed (placed_red q a)
    else Gaps cut

-- a name comes to the end of the yellow list, where its action is neither green nor yellow
abbrev pub with_yellow : QueueView → ActionId → QueueView
with_yellow q id =
    if nat_lt (index_in q.green_cut id.creator) id.index && not (has_name q.yellow id)
    then record q { yellow = q.yellow ++ id ∷ [] } else q

abbrev pub and_yellow : ActionId → Marking → Marking
and_yellow id (Marks mark q) = Marks mark (with_yellow q id)
and_yellow id (Gaps cut) = Gaps cut

-- an action is marked red, and yellow
abbrev pub marked_yellow : QueueView → Action → Marking
marked_yellow q a = and_yellow a.id (marked_red q a)

-- an action becomes green at the next place; it is red and yellow no more
abbrev pub placed_green : QueueView → Action → QueueView
placed_green q a =
    record q {
      greens = q.greens ++ a ∷ [];
      green_cut = raise q.green_cut a.id;
      red_cut = raise q.red_cut a.id;
      reds = without_action q.reds a.id;
      yellow = filter (λ id. not (same_id id a.id)) q.yellow;
    }

-- the greens up to a count are discarded
abbrev pub discarded : QueueView → ℕ → QueueView
discarded q count = record q { white = count; greens = drop (count - q.white) q.greens }

-- the kept action of a name
abbrev pub action_of : QueueView → ActionId → Option Action
action_of q id = find (λ a. same_id a.id id) (q.greens ++ q.reds)
