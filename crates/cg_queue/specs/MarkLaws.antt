-- Which way a mark goes.
use Rattle.std.proofs.Common.{◌≡◌, ℕ, suc, ◌<◌, ◌≤◌, List, [], ◌∷◌, ◌++◌, Bool, true, false, refl, arith}
use Rattle.std.specs.Prelude.{nat_lt, cond, not, ◌&&◌}
use Rattle.std.proofs.lemmas.Bool.{eq-eqb, ne_eqb, le-leb, lt-leb, lt-ltb}
use Rattle.cg_base.specs.declared.action_id.ActionId.{ActionId}
use Rattle.cg_base.specs.Ids.{has_name}
use Rattle.cg_base.specs.Cuts.{index_in}
use Rattle.cg_action.specs.declared.action.Action.{Action}
use Rattle.cg_queue.specs.declared.mark.Mark.TheVariants.{Placed, Known}
use Rattle.cg_queue.specs.Body.{is_above}
use Rattle.cg_queue.specs.Answers.{marked_green}
use Rattle.cg_queue.specs.Queue.{QueueView, Marks, Gaps, placed_red, marked_red, placed_green, green_count, with_yellow}

pub is_above-true : (cut : List ActionId) (id : ActionId) → index_in cut id.creator < id.index → is_above cut id ≡ true
is_above-true cut id lt = lt-ltb (index_in cut id.creator) id.index lt

pub red-known : (q : QueueView) (a : Action) → a.id.index ≤ index_in q.red_cut a.id.creator →
    marked_red q a ≡ Marks Known q
red-known q a le = rw (le-leb a.id.index (index_in q.red_cut a.id.creator) le)

pub red-placed : (q : QueueView) (a : Action) → a.id.index ≡ suc (index_in q.red_cut a.id.creator) →
    marked_red q a ≡ Marks Placed (placed_red q a)
red-placed q a next = rw (
  lt-leb a.id.index (index_in q.red_cut a.id.creator) (omega arith),
  eq-eqb a.id.index (suc (index_in q.red_cut a.id.creator)) next,
)

pub green-placed : (q : QueueView) (at : ℕ) (a : Action) → green_count q < at →
    marked_green q at a ≡ Marks Placed (placed_green q a)
green-placed q at a lt = rw (lt-leb at (green_count q) lt)

pub red-gap : (q : QueueView) (a : Action) → suc (index_in q.red_cut a.id.creator) < a.id.index →
    marked_red q a ≡ Gaps (index_in q.red_cut a.id.creator)
red-gap q a gt = rw (
  lt-leb a.id.index (index_in q.red_cut a.id.creator) (omega arith),
  ne_eqb a.id.index (suc (index_in q.red_cut a.id.creator)) (λ e. omega arith),
) refl

-- a name that is red and not yellow comes to the end of the list
pub yellow-added : (q : QueueView) (id : ActionId) → index_in q.green_cut id.creator < id.index →
    has_name q.yellow id ≡ false → with_yellow q id ≡ record q { yellow = q.yellow ++ id ∷ [] }
yellow-added q id above none = rw (is_above-true q.green_cut id above, none)

pub yellow-kept : (q : QueueView) (id : ActionId) → has_name q.yellow id ≡ true → with_yellow q id ≡ q
yellow-kept q id there = go (nat_lt (index_in q.green_cut id.creator) id.index)
  where
    go : (b : Bool) → cond (b && not (has_name q.yellow id)) (record q { yellow = q.yellow ++ id ∷ [] }) q ≡ q
    go true = rw there
    go false = refl
