-- Which line of an input is refused, and by which reason: as an event of the schedule, or as one of the command's own.
use Rattle.std.specs.Prelude.{◌≡◌, ℕ, suc, List, ◌∷◌, ◌++◌, fold, length, Some, Ok, if◌then◌else◌}
use Rattle.cg_base.specs.Text.{is_nil}
use Rattle.cg_group.specs.declared.reason.Reason.{Reason}
use Rattle.cg_schedule.specs.declared.event.Event.{Event}
use Rattle.cg_schedule.specs.declared.reader_state.ReaderState.{ReaderState}
use Rattle.cg_schedule.specs.Line.{first_state, reading, state_behind}
use Rattle.cg_schedule.specs.Laws.{Reads}
use Rattle.cg_model.specs.World.{no_world}
use Rattle.cg_model.specs.Run.{Step, world_after}
use Rattle.cg_items.specs.declared.companion.Companion.{Companion}
use Rattle.cg_items.specs.declared.companion.Further.{Further}
use Rattle.cg_items.specs.Companion.{further_reading, in_place, further_refusal, refusal_for}
use Rattle.cg_items.specs.Items.{Item, steps_of}
use Rattle.cg_items.specs.Kept.{kept_behind}
use Rattle.cg_outcome.specs.Outcome.{without_return}

-- the reader's state behind whole lines
abbrev pub state_past_lines : ReaderState → List (List ℕ) → ReaderState
state_past_lines state lines = fold (λ state line. state_behind state (reading state (without_return line))) state lines

-- Line n of these pieces reads, behind the lines before it, as an event that isn't admitted in a run of the command, in the world
-- behind the steps, first for this reason.
-- Its carriage return goes only where its line feed is there.
pub record RefusesLine (c : Companion) (pieces : List (List ℕ)) (steps : List Step) (n : ℕ) (reason : Reason) : Type 0 where
  pub before : List (List ℕ)
  pub line : List ℕ
  pub behind : List (List ℕ)
  pub lines : pieces ≡ before ++ line ∷ behind
  pub numbered : n ≡ suc (length before)
  pub event : Event
  pub reads : Reads (state_past_lines first_state before) (if is_nil behind then line else without_return line) event
  pub refused : refusal_for c (world_after no_world steps) event ≡ Some reason

-- Line n reads there as one of the command's own events, with this kept before the first line, and that event isn't
-- admitted behind the items, first for this reason.
pub record RefusesFurther (c : Companion) (pieces : List (List ℕ)) (items : List Item) (n : ℕ) (reason : Reason) :
    Type 0 where
  pub before : List (List ℕ)
  pub line : List ℕ
  pub behind : List (List ℕ)
  pub lines : pieces ≡ before ++ line ∷ behind
  pub numbered : n ≡ suc (length before)
  pub event : Further
  pub reads : in_place (state_past_lines first_state before)
      (further_reading c (if is_nil behind then line else without_return line)) ≡ Ok (Some event)
  pub refused : further_refusal (world_after no_world (steps_of items)) (kept_behind no_world c items) event ≡ Some reason
