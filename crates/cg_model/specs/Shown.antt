-- What a run has shown up to some step: the global order, the made actions, and each replica's position in the order.
use Rattle.std.specs.Prelude.{ℕ, ◌==◌, List, [], ◌∷◌, ◌++◌, Option, None, map, find, flat_map, fold, take, if◌then◌else◌}
use Rattle.std.specs.Option.{option_map_or, option_or}
use Rattle.cg_base.specs.declared.action_id.ActionId.{ActionId}
use Rattle.cg_base.specs.declared.weighted.Weighted.{Weighted}
use Rattle.cg_base.specs.Ids.{same_id}
use Rattle.cg_base.specs.Lists.{present}
use Rattle.cg_action.specs.declared.action.Action.{Action}
use Rattle.cg_report.specs.declared.entry.Made.{Made}
use Rattle.cg_report.specs.declared.entry.Placed.{Placed}
use Rattle.cg_report.specs.declared.line.Line.{Line}
use Rattle.cg_report.specs.declared.line.UpLine.{UpLine}
use Rattle.cg_schedule.specs.declared.event.Event.{Event}
use Rattle.cg_schedule.specs.declared.event.Event.TheVariants.{Start}
use Rattle.cg_model.specs.Run.{Step}

-- the order lines
abbrev pub order_lines : List Step → List Placed
order_lines steps = flat_map (λ s. s.entry.orders) steps

-- the global order: the names on the order lines
abbrev pub order_of : List Step → List ActionId
order_of steps = map (λ o. o.id) (order_lines steps)

-- the names on the made lines
abbrev pub made_names : List Step → List ActionId
made_names steps = map (λ m. m.id) (flat_map (λ s. s.entry.made) steps)

-- the lines of all replicas
abbrev pub lines_in : List Step → List Line
lines_in steps = flat_map (λ s. s.entry.lines) steps

-- all lines that replicas had while they were up
abbrev pub all_up_lines : List Step → List UpLine
all_up_lines steps = present (map (λ l. l.up) (lines_in steps))

-- the last line of a replica while it was up
abbrev pub last_up : ℕ → List Step → Option UpLine
last_up p steps = fold (λ last l. if l.id == p then option_or l.up last else last) None (lines_in steps)

-- a replica's position in the global order: the number of its greens on its last line while it was up
abbrev pub position_of : ℕ → List Step → ℕ
position_of p steps = option_map_or (λ up. up.view.green_count) (last_up p steps) 0

-- its white count there
abbrev pub white_of : ℕ → List Step → ℕ
white_of p steps = option_map_or (λ up. up.view.white_count) (last_up p steps) 0

-- the action that a made line names: its green line is its creator's position in that step
abbrev pub made_at : List Step → Made → Action
made_at steps m = record { id = m.id; green_line = position_of m.id.creator steps; kind = m.kind }

-- the made actions, each from its own step; earlier are the steps before
abbrev pub made_from : List Step → List Step → List Action
made_from earlier [] = []
made_from earlier (s ∷ steps) = map (made_at (earlier ++ s ∷ [])) s.entry.made ++ made_from (earlier ++ s ∷ []) steps

-- the made action of a name
abbrev pub made_action : List Step → ActionId → Option Action
made_action steps id = find (λ a. same_id a.id id) (made_from [] steps)

-- the made actions of a list of names
abbrev pub made_actions : List Step → List ActionId → List Action
made_actions steps ids = present (map (made_action steps) ids)

-- the actions of the first places of the global order
abbrev pub ordered_actions : List Step → ℕ → List Action
ordered_actions steps n = made_actions steps (take n (order_of steps))

-- the servers of a start
abbrev pub start_in : Event → List Weighted
start_in (Start set) = set
start_in _ = []

-- the servers of a run's start
abbrev pub start_of : List Step → List Weighted
start_of steps = flat_map (λ s. start_in s.event) steps
