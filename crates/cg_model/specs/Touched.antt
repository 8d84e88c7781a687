-- Which replicas an event touches: behind it the line of every other one is the line that it has had.
use Rattle.std.specs.Prelude.{◌≡◌, ℕ, List, [], ◌∷◌, None, filter, map}
use Rattle.cg_base.specs.Sets.{has}
use Rattle.cg_base.specs.Weights.{ids}
use Rattle.cg_report.specs.declared.line.Line.{Line}
use Rattle.cg_schedule.specs.declared.event.Event.{Event}
use Rattle.cg_schedule.specs.declared.event.Event.TheVariants.{Start, Split, Merge, Request, Weak, Dirty, Order, Recover, RecoverStopped, Downgrade, Show, ShowOrder, Gather, End, Receive, Deliver, Rounds, Stop, Fail, Join, Leave, Transfer}
use Rattle.cg_model.specs.World.{World}
use Rattle.cg_model.specs.Admission.{first_refusal}
use Rattle.cg_model.specs.Show.{line_of, is_news, new_lines}
use Rattle.cg_model.specs.Step.{happens}
use Rattle.cg_model.specs.Run.{MayStand}
use Rattle.cg_model.specs.Chronicle.{Chronicle}
use Rattle.cg_model.specs.Standing.{IsReached}

-- the replicas whose node or phase an event may change, ascending
unfoldable pub touched : Event → List ℕ
touched (Start set) = ids set
touched (Split set) = set
touched (Merge set) = set
touched (Request p cmds query) = p ∷ []
touched (Weak p query) = []
touched (Dirty p query) = []
touched (Order p) = []
touched (Recover p) = p ∷ []
touched (RecoverStopped p call fill) = p ∷ []
touched (Downgrade p) = p ∷ []
touched (Show p) = []
touched ShowOrder = []
touched Gather = []
touched End = []
touched (Receive p place) = []
touched (Deliver p count) = p ∷ []
touched (Rounds count) = []
touched (Stop p call fill) = p ∷ []
touched (Fail p call) = p ∷ []
touched (Join p joiner weight) = p ∷ []
touched (Leave p server) = p ∷ []
touched (Transfer p joiner pieces) = joiner ∷ []

-- the new lines of these replicas
abbrev pub new_lines_of : List ℕ → World → List Line
new_lines_of set w = filter (is_news w.lines) (map (line_of w.group) (filter (λ s. has set s.id) w.nodes))

-- the new lines of the world are those of these replicas
abbrev pub ShowsNewsOf : List ℕ → World → Type 0
ShowsNewsOf set w = new_lines w ≡ new_lines_of set w

-- behind an admitted event nothing is new of replicas that it doesn't touch
abbrev pub OthersShowNothingNew : Type 0
OthersShowNothingNew =
    (c : Chronicle) (w : World) (e : Event) → IsReached c w → MayStand w e → first_refusal w e ≡ None →
    ShowsNewsOf (touched e) (happens w e).world
