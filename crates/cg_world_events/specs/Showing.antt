-- What a step shows so far, but for its lines.
use Rattle.std.specs.Prelude.{◌≡◌, ℕ, suc, ◌+◌, ◌≤◌, nat_lt, List, [], ◌∷◌, drop, length, if◌then◌else◌}
use Rattle.cg_base.specs.declared.action_id.ActionId.{ActionId}
use Rattle.cg_report.specs.declared.entry.Made.{Made}
use Rattle.cg_report.specs.declared.entry.Placed.{Placed}
use Rattle.cg_report.specs.declared.entry.Reply.{Reply}
use Rattle.cg_report.specs.declared.entry.Shown.{Shown}
use Rattle.cg_model.specs.World.{World}
use Rattle.cg_model.specs.Show.{Answered, StepInProgress, answered_from}

-- what a step shows so far
pub record Shows : Type 0 where
  pub made : List Made
  pub orders : List Placed
  pub replies : List Answered
  pub shown : List Shown

abbrev pub nothing_shown : Shows
nothing_shown = record { made = []; orders = []; replies = []; shown = [] }

-- a step under way in a world, of which this is shown
abbrev pub step_in : World → Shows → StepInProgress
step_in w s = record { world = w; made = s.made; orders = s.orders; replies = s.replies; shown = s.shown }

-- replies behind a place, or at it
abbrev pub StartsFrom : ℕ → List Answered → Type 0
StartsFrom place [] = Unit {0}
StartsFrom place (r ∷ replies) = place ≤ r.place

-- replies by place
abbrev pub Ascend : List Answered → Type 0
Ascend [] = Unit {0}
Ascend (r ∷ replies) = StartsFrom r.place replies × Ascend replies

-- the replies to names from one of them on, where the next reply is to the one at this place, if it is there
abbrev pub answered_at : ℕ → ℕ → List ActionId → Reply → List Reply → List Answered
answered_at before at ids r replies =
    if nat_lt at (length ids) then record {
      place = suc (before + at);
      reply = r;
    } ∷ answered_from (suc (before + at)) (drop (suc at) ids) replies
    else []

-- of names from a place on this one stands first at the result, or it isn't there
abbrev pub FindsFrom : ActionId → List ActionId → ℕ → ℕ → Type 0
FindsFrom id ids from at =
    (before : ℕ) (r : Reply) (replies : List Reply) → r.id ≡ id →
    answered_from (before + from) (drop from ids) (r ∷ replies) ≡ answered_at before at ids r replies
