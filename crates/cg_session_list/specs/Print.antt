-- The text of the lines of sessions, without their ends.
use Rattle.std.specs.Prelude.{ℕ, List, ◌++◌, codes, decimal}
use Rattle.cg_base.specs.Text.{id_text}
use Rattle.cg_action.specs.AnswerPrint.{answer_text}
use Rattle.cg_session_list.specs.declared.session_line.SessionLine.{SessionLine}
use Rattle.cg_session_list.specs.declared.session_line.SessionLine.TheVariants.{Wrote, At, Behind, Answered}

abbrev pub session_text : SessionLine → List ℕ
session_text (Wrote s id) = codes "session " ++ decimal s ++ codes " wrote " ++ id_text id
session_text (At s place) = codes "session " ++ decimal s ++ codes " at " ++ decimal place
session_text (Behind s have want) =
    codes "sweak " ++ decimal s ++ codes " behind " ++ decimal have ++ codes " " ++ decimal want
session_text (Answered s answer at) =
    codes "sweak " ++ decimal s ++ codes " " ++ answer_text answer ++ codes " at " ++ decimal at
