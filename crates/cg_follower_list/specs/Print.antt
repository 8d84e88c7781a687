-- The text of the lines of followers, without their ends.
use Rattle.std.specs.Prelude.{ℕ, List, ◌++◌, codes, decimal}
use Rattle.cg_action.specs.AnswerPrint.{answer_text}
use Rattle.cg_follower_list.specs.declared.follow_line.FollowLine.{FollowLine}
use Rattle.cg_follower_list.specs.declared.follow_line.FollowLine.TheVariants as follow

abbrev pub follow_text : FollowLine → List ℕ
follow_text (follow.At f cursor) = codes "follower " ++ decimal f ++ codes " " ++ decimal cursor
follow_text (follow.Down f) = codes "follower " ++ decimal f ++ codes " down"
follow_text (follow.Weak f answer) = codes "fweak " ++ decimal f ++ codes " " ++ answer_text answer
