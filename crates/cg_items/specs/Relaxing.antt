-- The lines that ask for the relaxed database: their tests, what a run keeps for them beside its world, and what they show.
use Rattle.std.specs.Prelude.{ℕ, List, [], ◌∷◌, Option, fold}
use Rattle.std.specs.Option.{option_map_or}
use Rattle.cg_base.specs.declared.action_id.ActionId.{ActionId}
use Rattle.cg_base.specs.Calls.{greatest_cut}
use Rattle.cg_base.specs.Lists.{first_some}
use Rattle.cg_action.specs.declared.action.Action.{Action}
use Rattle.cg_group.specs.declared.reason.Reason.{Reason}
use Rattle.cg_group.specs.Refusals.{not_up}
use Rattle.cg_model.specs.World.{World, replica_of}
use Rattle.cg_model.specs.Admission.{unknown}
use Rattle.cg_model.specs.Making.{made_as}
use Rattle.cg_model.specs.Run.{Step}
use Rattle.cg_made_rows.specs.declared.relaxed_event.RelaxedEvent.{RelaxedEvent}
use Rattle.cg_made_rows.specs.declared.relaxed_event.RelaxedEvent.TheVariants.{One, Both}
use Rattle.cg_made_rows.specs.declared.relaxed_line.RelaxedLine.{RelaxedLine}
use Rattle.cg_made_rows.specs.declared.relaxed_line.RelaxedLine.TheVariants.{One as ShownOne, Both as ShownBoth}
use Rattle.cg_made_rows.specs.Rows.{with_made, cell_at}

-- ---- tests

abbrev pub unknown_or_down : World → ℕ → Option Reason
unknown_or_down w p = first_some (unknown w p ∷ not_up w.group p ∷ [])

unfoldable pub relaxed_refusal : World → RelaxedEvent → Option Reason
relaxed_refusal w (One p key) = unknown_or_down w p
relaxed_refusal w (Both p q key) = first_some (unknown_or_down w p ∷ unknown_or_down w q ∷ [])

-- ---- what is known

-- the rows behind a step: what it shows as made is behind the rest
abbrev pub with_step : List (List Action) → Step → List (List Action)
with_step rows s = fold (λ rows m. with_made rows m.id.creator (made_as s.world m)) rows s.entry.made

-- how far a replica knows the actions of each creator: the discarded, the green, the yellow and the red ones
abbrev pub known_cut : World → ℕ → List ActionId
known_cut w p = option_map_or (λ r. r.held.queue.red_cut) (replica_of w p) []

-- what an admitted event shows
unfoldable pub relaxed_lines : World → List (List Action) → RelaxedEvent → List RelaxedLine
relaxed_lines w rows (One p key) = ShownOne p (cell_at rows (known_cut w p) key) ∷ []
relaxed_lines w rows (Both p q key) =
    ShownBoth p q (cell_at rows (greatest_cut (known_cut w p) (known_cut w q)) key) ∷ []
