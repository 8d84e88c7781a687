-- What the items of a run are, and the refusal that ends it, where one does: all that the agreements of single commands rest on.
use Rattle.std.specs.Prelude.{◌≡◌, List, [], Option, Some}
use Rattle.cg_group.specs.declared.reason.Reason.{Reason}
use Rattle.cg_model.specs.World.{no_world}
use Rattle.cg_model.specs.Run.{IsRunFrom, world_after}
use Rattle.cg_items.specs.declared.companion.Companion.{Companion}
use Rattle.cg_items.specs.declared.companion.Companion.TheVariants.{Alone, Followers, Relaxed, Sessions, Comparing, Imaging}
use Rattle.cg_items.specs.declared.companion.Further.{Further}
use Rattle.cg_items.specs.Companion.{further_refusal}
use Rattle.cg_items.specs.Items.{Item, steps_of}
use Rattle.cg_items.specs.Kept.{AreNoted, kept_behind}
use Rattle.cg_items.specs.Refused.{Refused, OfFurther}

-- what a command keeps before its first event: nothing yet
abbrev pub IsFirst : Companion → Type 0
IsFirst Alone = Unit {0}
IsFirst (Followers followers) = followers ≡ []
IsFirst (Relaxed rows) = rows ≡ []
IsFirst (Sessions sessions) = sessions ≡ []
IsFirst Comparing = Unit {0}
IsFirst (Imaging p) = Unit {0}

-- With this kept at first, the steps are a run of the world, the items are noted one behind the other, and a further event that
-- ended the run has its reason behind all of them.
pub record AreOfRun (c : Companion) (items : List Item) (refused : Option Refused) : Type 0 where
  pub first : IsFirst c
  pub run : IsRunFrom no_world (steps_of items)
  pub noted : AreNoted no_world c 0 items
  pub told : (event : Further) (reason : Reason) → refused ≡ Some (OfFurther event reason) →
      further_refusal (world_after no_world (steps_of items)) (kept_behind no_world c items) event ≡ Some reason
