-- What the step of an event shows as made: each action as it was made, the next of its creator, in the book.
use Rattle.std.specs.Prelude.{◌≡◌, ℕ, suc, ◌+◌, ◌==◌, List, [], ◌∷◌, None, Contains, filter, length, map}
use Rattle.std.specs.Option.{option_map_or}
use Rattle.cg_base.specs.Lists.{Each}
use Rattle.cg_base.specs.Cuts.{index_in}
use Rattle.cg_action.specs.declared.action.Action.{Action}
use Rattle.cg_report.specs.declared.entry.Made.{Made}
use Rattle.cg_report.specs.declared.line.Line.{Line}
use Rattle.cg_schedule.specs.declared.event.Event.{Event}
use Rattle.cg_model.specs.World.{World}
use Rattle.cg_model.specs.Admission.{first_refusal}
use Rattle.cg_model.specs.Show.{Moved}
use Rattle.cg_model.specs.Step.{world_step}
use Rattle.cg_model.specs.Run.{MayStand}
use Rattle.cg_model.specs.Chronicle.{Chronicle}
use Rattle.cg_model.specs.Noting.{chronicle_step}
use Rattle.cg_model.specs.Standing.{IsReached}
use Rattle.cg_model.specs.Telling.{printed}

-- an action that is shown as made
abbrev pub made_of_action : Action → Made
made_of_action a = record { id = a.id; kind = a.kind }

-- the position on a line, 0 where its replica is down
abbrev pub position_on : Line → ℕ
position_on l = option_map_or (λ up. up.view.green_count) l.up 0

-- a replica's position on its last printed line, 0 where it has none
abbrev pub printed_position : World → ℕ → ℕ
printed_position w p = option_map_or position_on (printed w p) 0

-- an action that was shown as made in the step that leads to a world: its green line is its creator's position there
abbrev pub made_as : World → Made → Action
made_as w m = record { id = m.id; green_line = printed_position w m.id.creator; kind = m.kind }

-- the actions that a step shows as made
abbrev pub newly_made : Moved → List Action
newly_made m = map (made_as m.world) m.entry.made

-- those of one creator
abbrev pub made_by : ℕ → List Action → List Action
made_by p list = filter (λ a. a.id.creator == p) list

-- they are the next ones of a creator behind so many
abbrev pub AreNextOf : ℕ → ℕ → List Action → Type 0
AreNextOf p count [] = Unit {0}
AreNextOf p count (a ∷ list) = (a.id ≡ record { creator = p; index = suc count }) × AreNextOf p (suc count) list

-- Of each creator a step shows as made the next ones behind those that were shown before, up to the cut behind it. They
-- stand in the book of the chronicle behind it, as does all that stood in the one before.
pub record IsMade (c d : Chronicle) (w : World) (m : Moved) : Type 0 where
  pub next : (p : ℕ) → AreNextOf p (index_in w.made p) (made_by p (newly_made m))
  pub count : (p : ℕ) → index_in m.world.made p ≡ index_in w.made p + length (made_by p (newly_made m))
  pub booked : Each (Contains d.book) (newly_made m)
  pub stays : (a : Action) → Contains c.book a → Contains d.book a

-- in each world to which admitted events lead
abbrev pub AlwaysMadeInBook : Type 0
AlwaysMadeInBook =
    (c : Chronicle) (w : World) (e : Event) → IsReached c w → MayStand w e → first_refusal w e ≡ None →
    IsMade c (chronicle_step c w e) w (world_step w e)
