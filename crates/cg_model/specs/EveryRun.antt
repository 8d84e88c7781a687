-- That all steps of every run agree, in one sentence.
use Rattle.std.specs.Prelude.{◌≡◌, List, Option, Some, None}
use Rattle.cg_model.specs.World.{World, no_world}
use Rattle.cg_model.specs.Admission.{first_refusal}
use Rattle.cg_model.specs.Run.{Step, Refusal, world_after, IsRunFrom}
use Rattle.cg_model.specs.Agreement.{OrderGrows, Prefix, CreatorOrder, FoldAnswers, DirtyAnswers, OnePrimary, QuietSettles, MadeStays, RefusedExactly}

-- what the steps of a run agree on; refused is the event that ended it by a refusal, if one did
pub record Agreement (steps : List Step) (refused : Option Refusal) : Type 0 where
  pub order_grows : OrderGrows steps
  pub prefix : Prefix steps
  pub creator_order : CreatorOrder steps
  pub fold_answers : FoldAnswers steps
  pub dirty_answers : DirtyAnswers steps
  pub one_primary : OnePrimary steps
  pub quiet_settles : QuietSettles steps
  pub made_stays : MadeStays steps
  pub refused_exactly : RefusedExactly steps refused

-- the event isn't admitted in the world, for this reason
abbrev pub IsRefused : World → Option Refusal → Type 0
IsRefused w None = Unit {0}
IsRefused w (Some r) = first_refusal w r.event ≡ Some r.reason

-- The steps of every run agree.
abbrev pub EveryRunAgrees : Type 0
EveryRunAgrees =
    (steps : List Step) (refused : Option Refusal) → IsRunFrom no_world steps →
    IsRefused (world_after no_world steps) refused → Agreement steps refused
