-- The lines of followers: which event such a line reads as, or why it is refused.
use Rattle.std.specs.Prelude.{ℕ, List, Option, Some, None, Result, codes, option_map, if◌then◌else◌}
use Rattle.cg_text.specs.Order.{same_text}
use Rattle.cg_schedule.specs.declared.fault.LineFault.{LineFault}
use Rattle.cg_schedule.specs.Reading.{Reading, ◌>>=◌, done}
use Rattle.cg_schedule.specs.Part.{number_part, id_part, count_part, fill_part}
use Rattle.cg_schedule.specs.Command.{query_reading}
use Rattle.cg_schedule.specs.Own.{own_reading}
use Rattle.cg_follow.specs.declared.event.FollowEvent.{FollowEvent}
use Rattle.cg_follow.specs.declared.event.FollowEvent.TheVariants as event
use Rattle.cg_follow.specs.declared.word.FollowWord.{FollowWord}
use Rattle.cg_follow.specs.declared.word.FollowWord.TheVariants.{Follower, Feed, Fstop, Frecover, Fweak}

-- the word of followers that the text is
unfoldable pub word_of : List ℕ → Option FollowWord
word_of text =
    if same_text text (codes "follower") then Some Follower
    else if same_text text (codes "feed") then Some Feed
    else if same_text text (codes "fstop") then Some Fstop
    else if same_text text (codes "frecover") then Some Frecover
    else if same_text text (codes "fweak") then Some Fweak
    else None

-- a follower has a number from 1 to 32, as a replica has
unfoldable pub make_reading : Reading FollowEvent
make_reading = do
  f ← id_part
  p ← id_part
  done (event.Follower f p)

unfoldable pub feed_reading : Reading FollowEvent
feed_reading = do
  p ← id_part
  f ← id_part
  count ← count_part
  done (event.Feed p f count)

unfoldable pub stop_reading : Reading FollowEvent
stop_reading = do
  f ← id_part
  call ← number_part 0 1000000
  fill ← fill_part
  done (event.Stop f call fill)

unfoldable pub recover_reading : Reading FollowEvent
recover_reading = id_part >>= λ f. done (event.Recover f)

unfoldable pub weak_reading : Reading FollowEvent
weak_reading = do
  f ← id_part
  query ← query_reading
  done (event.Weak f query)

-- what stands behind the word
unfoldable pub event_reading : FollowWord → Reading FollowEvent
event_reading Follower = make_reading
event_reading Feed = feed_reading
event_reading Fstop = stop_reading
event_reading Frecover = recover_reading
event_reading Fweak = weak_reading

-- how a line reads: as none of followers, or as one of their events; else why it is refused
unfoldable pub follow_reading : List ℕ → Result (Option FollowEvent) LineFault
follow_reading line = own_reading (λ word. option_map event_reading (word_of word)) line
