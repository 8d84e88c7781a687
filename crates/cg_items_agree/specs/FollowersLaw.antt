-- That the followers of every run agree, in one sentence.
use Rattle.std.specs.Prelude.{List, Option}
use Rattle.cg_items.specs.declared.companion.Companion.{Companion}
use Rattle.cg_items.specs.Items.{Item}
use Rattle.cg_items.specs.Refused.{Refused}
use Rattle.cg_items.specs.OfRun.{AreOfRun}
use Rattle.cg_items.specs.FollowersAgree.{FollowersAgree}

-- Whatever a command keeps, and whatever ends its run.
abbrev pub FollowersOfEveryRunAgree : Type 0
FollowersOfEveryRunAgree =
    (c : Companion) (items : List Item) (refused : Option Refused) → AreOfRun c items refused →
    FollowersAgree items refused
