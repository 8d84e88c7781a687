-- That what every run shows of the relaxed database agrees, in one sentence.
use Rattle.std.specs.Prelude.{List, Option}
use Rattle.cg_items.specs.declared.companion.Companion.{Companion}
use Rattle.cg_items.specs.Items.{Item}
use Rattle.cg_items.specs.OfRun.{AreOfRun}
use Rattle.cg_items.specs.Refused.{Refused}
use Rattle.cg_items.specs.RelaxedAgree.{RelaxedAgree}

-- the items of every run agree on the relaxed database
abbrev pub RelaxedOfEveryRunAgree : Type 0
RelaxedOfEveryRunAgree =
    (c : Companion) (items : List Item) (refused : Option Refused) → AreOfRun c items refused →
    RelaxedAgree items refused
