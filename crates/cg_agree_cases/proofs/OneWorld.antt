-- A world doesn't tell which actions were made: two runs come to one world with other actions. What they put was asked for
-- in a configuration that ended before it had a place, so no message has it; and it is white, and put over, in the end.
use Rattle.std.specs.Prelude.{◌≡◌, refl, ℕ, List, [], ◌∷◌, ◌++◌, Some, None, codes, pos, fold, is_some, slice_get, if◌then◌else◌}
use Rattle.cg_action.specs.declared.action.Action.{Action}
use Rattle.cg_action.specs.declared.action.Kind.TheVariants.{Update}
use Rattle.cg_action.specs.declared.command.Cmd.TheVariants.{Put}
use Rattle.cg_action.specs.declared.value.Value.TheVariants.{Int}
use Rattle.cg_group.specs.Ready.{ready}
use Rattle.cg_schedule.specs.declared.event.Event.{Event}
use Rattle.cg_schedule.specs.declared.event.Event.TheVariants.{Start, Split, Merge, Request, Gather, Deliver}
use Rattle.cg_model.specs.World.{World, no_world}
use Rattle.cg_model.specs.Admission.{first_refusal}
use Rattle.cg_model.specs.Show.{Moved}
use Rattle.cg_model.specs.Step.{world_step}
use Rattle.cg_model.specs.Making.{newly_made}
use Rattle.cg_agree_cases.specs.Computing.{cases_compute}
use Rattle.cg_base.specs.Weights.{each_once}

-- a world, with what was shown as made on the way
record Course : Type 0 where
  world : World
  made : List Action

abbrev moved : Course → Moved → Course
moved c m = record { world = m.world; made = c.made ++ newly_made m }

-- an event comes, where it is admitted
abbrev went : Course → Event → Course
went c e = if is_some (first_refusal c.world e) then c else moved c (world_step c.world e)

-- what replica 1 has said comes to it
abbrev heard : Course → Course
heard c = let gathered = went c Gather in went gathered (Deliver 1 (ready gathered.world.group 1))

abbrev put : ℕ → Event
put n = Request 1 (Put (codes "x") (Int (pos n)) ∷ []) None

abbrev begun : Course
begun = heard (heard (fold went (record { world = no_world; made = [] }) (Start (each_once (1 ∷ [])) ∷ Merge (1 ∷ []) ∷ [])))

-- it is asked to put the number, and then is alone before it hears of that
abbrev asked : ℕ → Course
asked n =
    let again = heard (heard (fold went begun (put n ∷ Split (1 ∷ []) ∷ Merge (1 ∷ []) ∷ []))) in
    heard (went (heard (went again (put 2))) (put 3))

one_world : (asked 1).world ≡ (asked 7).world
unfolding cases_compute
one_world = refl

abbrev first_put : ℕ → Action
first_put n = record { id = record { creator = 1; index = 1 }; green_line = 0; kind = Update (Put (codes "x") (Int (pos n)) ∷ []) None }

one_is_made : slice_get (asked 1).made 0 ≡ Some (first_put 1)
unfolding cases_compute
one_is_made = refl

seven_is_made : slice_get (asked 7).made 0 ≡ Some (first_put 7)
unfolding cases_compute
seven_is_made = refl
