-- The text of further lines, each with its end.
use Rattle.std.specs.Prelude.{ℕ, List, ◌++◌, codes}
use Rattle.cg_follower_list.specs.Print.{follow_text}
use Rattle.cg_made_rows.specs.Print.{relaxed_text}
use Rattle.cg_session_list.specs.Print.{session_text}
use Rattle.cg_items.specs.declared.companion.FurtherLine.{FurtherLine}
use Rattle.cg_items.specs.declared.companion.FurtherLine.TheVariants.{Session, Follow, Relaxed}

abbrev pub further_text : FurtherLine → List ℕ
further_text (Follow line) = follow_text line ++ codes "\n"
further_text (Relaxed line) = relaxed_text line ++ codes "\n"
further_text (Session line) = session_text line ++ codes "\n"
