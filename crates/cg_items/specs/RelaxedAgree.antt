-- What a run agrees on that asks for the relaxed database: over the lines and events of its items, what the world's steps show, and the
-- world behind these as far as tests ask it. What a replica knows is read off its last line.
use Rattle.std.specs.Prelude.{◌≡◌, ℕ, not, List, [], ◌∷◌, ◌++◌, Option, Some, None, filter, map, option_and_then}
use Rattle.std.specs.List.{flat_map}
use Rattle.std.specs.Option.{option_map_or}
use Rattle.cg_base.specs.declared.action_id.ActionId.{ActionId}
use Rattle.cg_base.specs.Ids.{has_name}
use Rattle.cg_base.specs.Lists.{present}
use Rattle.cg_action.specs.declared.action.Action.{Action}
use Rattle.cg_queue.specs.Queue.{names_of}
use Rattle.cg_group.specs.declared.reason.Reason.{Reason}
use Rattle.cg_model.specs.Run.{Step}
use Rattle.cg_model.specs.Shown.{last_up}
use Rattle.cg_model.specs.Agreement.{known_actions}
use Rattle.cg_relaxed.specs.declared.cell.Cell.{Cell}
use Rattle.cg_relaxed.specs.Cells.{cell_of}
use Rattle.cg_items.specs.declared.companion.Further.{Further}
use Rattle.cg_items.specs.declared.companion.Further.TheVariants as further
use Rattle.cg_items.specs.declared.companion.FurtherLine.{FurtherLine}
use Rattle.cg_items.specs.declared.companion.FurtherLine.TheVariants as line
use Rattle.cg_made_rows.specs.declared.relaxed_event.RelaxedEvent.{RelaxedEvent}
use Rattle.cg_made_rows.specs.declared.relaxed_event.RelaxedEvent.TheVariants.{One, Both}
use Rattle.cg_made_rows.specs.declared.relaxed_line.RelaxedLine.{RelaxedLine}
use Rattle.cg_made_rows.specs.declared.relaxed_line.RelaxedLine.TheVariants.{One as ShownOne, Both as ShownBoth}
use Rattle.cg_items.specs.Items.{Item, steps_of}
use Rattle.cg_items.specs.Refused.{Refused, OfFurther}
use Rattle.cg_items.specs.Relaxing.{relaxed_refusal}
use Rattle.cg_items.specs.AfterItems.{ItemAfter, world_behind}

-- ---- what was shown

abbrev pub relaxed_event : Further → Option RelaxedEvent
relaxed_event (further.Relaxed e) = Some e
relaxed_event other = None

abbrev pub relaxed_event_of : Item → Option RelaxedEvent
relaxed_event_of i = option_and_then relaxed_event i.further

abbrev pub relaxed_line : FurtherLine → Option RelaxedLine
relaxed_line (line.Relaxed l) = Some l
relaxed_line other = None

abbrev pub relaxed_shown : List Item → List RelaxedLine
relaxed_shown items = present (map relaxed_line (flat_map (λ i. i.lines) items))

-- ---- which lines are due

-- the actions that a replica knows, as its last line tells
abbrev pub known_by : List Step → ℕ → List Action
known_by steps p = option_map_or (known_actions steps) (last_up p steps) []

-- what two replicas know together, each action once
abbrev pub together : List Action → List Action → List Action
together these those = these ++ filter (λ a. not (has_name (names_of these) a.id)) those

-- what is shown of a key is what the known actions make of it, and nothing else shows a key
abbrev pub relaxed_due : List Step → Option RelaxedEvent → List RelaxedLine
relaxed_due steps (Some (One p key)) = ShownOne p (cell_of (known_by steps p) key) ∷ []
relaxed_due steps (Some (Both p q key)) = ShownBoth p q (cell_of (together (known_by steps p) (known_by steps q)) key) ∷ []
relaxed_due steps None = []

-- ---- what they agree on

-- the two know the same actions, in whatever order
abbrev pub KnowSame : List Action → List Action → Type 0
KnowSame these those = (id : ActionId) → has_name (names_of these) id ≡ has_name (names_of those) id

-- Each cell that is shown is what the actions make that the lines of its replicas tell, each once; so two replicas that know the same
-- actions show the same. An event is refused exactly where a test gives a reason, with the first one.
pub record RelaxedAgree (items : List Item) (refused : Option Refused) : Type 0 where
  pub lines : (earlier : List Item) (i : Item) → ItemAfter items earlier i → relaxed_shown (i ∷ []) ≡ relaxed_due (steps_of earlier) (relaxed_event_of i)
  pub same : (earlier between : List Item) (i j : Item) (p q : ℕ) (key : List ℕ) → ItemAfter items earlier i → ItemAfter items (earlier ++ i ∷ between) j →
      relaxed_event_of i ≡ Some (One p key) → relaxed_event_of j ≡ Some (One q key) →
      KnowSame (known_by (steps_of earlier) p) (known_by (steps_of (earlier ++ i ∷ between)) q) →
      (c : Cell) × (relaxed_shown (i ∷ []) ≡ ShownOne p c ∷ []) × (relaxed_shown (j ∷ []) ≡ ShownOne q c ∷ [])
  pub admitted : (earlier : List Item) (i : Item) (e : RelaxedEvent) → ItemAfter items earlier i → relaxed_event_of i ≡ Some e →
      relaxed_refusal (world_behind earlier) e ≡ None
  pub reason : (e : RelaxedEvent) (reason : Reason) → refused ≡ Some (OfFurther (further.Relaxed e) reason) →
      relaxed_refusal (world_behind items) e ≡ Some reason
