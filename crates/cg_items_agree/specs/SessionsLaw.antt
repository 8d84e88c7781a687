-- That the sessions of every run agree, in one sentence.
use Rattle.std.specs.Prelude.{List, Option}
use Rattle.cg_items.specs.declared.companion.Companion.{Companion}
use Rattle.cg_items.specs.Items.{Item}
use Rattle.cg_items.specs.OfRun.{AreOfRun}
use Rattle.cg_items.specs.Refused.{Refused}
use Rattle.cg_items.specs.SessionsAgree.{SessionsAgree}

abbrev pub SessionsOfEveryRunAgree : Type 0
SessionsOfEveryRunAgree =
    (c : Companion) (items : List Item) (refused : Option Refused) → AreOfRun c items refused →
    SessionsAgree items refused
