-- What an event has come to beside the world, as its two parts.
use Rattle.std.specs.Prelude.{List}
use Rattle.cg_items.specs.declared.companion.Companion.{Companion}
use Rattle.cg_items.specs.declared.companion.FurtherLine.{FurtherLine}
use Rattle.cg_items.specs.Companion.{Noted}

abbrev pub noted : Companion → List FurtherLine → Noted
noted c lines = record { companion = c; lines = lines }
