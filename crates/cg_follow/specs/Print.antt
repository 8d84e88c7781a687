-- The line that spells an event of followers.
use Rattle.std.specs.Prelude.{ℕ, List, ◌++◌, codes, decimal}
use Rattle.cg_action.specs.Print.{query_text}
use Rattle.cg_schedule.specs.Print.{fill_text}
use Rattle.cg_follow.specs.declared.event.FollowEvent.{FollowEvent}
use Rattle.cg_follow.specs.declared.event.FollowEvent.TheVariants.{Follower, Feed, Stop, Recover, Weak}

abbrev pub line_of : FollowEvent → List ℕ
line_of (Follower f p) = codes "follower " ++ decimal f ++ codes " " ++ decimal p
line_of (Feed p f count) = codes "feed " ++ decimal p ++ codes " " ++ decimal f ++ codes " " ++ decimal count
line_of (Stop f call fill) = codes "fstop " ++ decimal f ++ codes " " ++ decimal call ++ codes " " ++ fill_text fill
line_of (Recover f) = codes "frecover " ++ decimal f
line_of (Weak f query) = codes "fweak " ++ decimal f ++ codes " " ++ query_text query
