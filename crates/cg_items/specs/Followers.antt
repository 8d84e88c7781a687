-- The followers that a run keeps beside its world: their tests, and what their events do.
use Rattle.std.specs.Prelude.{ℕ, List, [], ◌∷◌, Option, None, option_and_then}
use Rattle.std.specs.Option.{option_map_or}
use Rattle.cg_base.specs.Lists.{first_some}
use Rattle.cg_queue.specs.Queue.{green_count}
use Rattle.cg_group.specs.declared.reason.Reason.{Reason}
use Rattle.cg_client.specs.Replica.{Replica}
use Rattle.cg_model.specs.World.{World, replica_of}
use Rattle.cg_model.specs.Admission.{takes_part}
use Rattle.cg_follow.specs.declared.event.FollowEvent.{FollowEvent}
use Rattle.cg_follow.specs.declared.event.FollowEvent.TheVariants.{Follower as Make, Feed, Stop, Recover, Weak}
use Rattle.cg_follower_list.specs.Life.{Life, Up, Follower}
use Rattle.cg_follower_list.specs.Followers.{FollowersNoted, follower_at, life_at, taken_by, unknown_follower, follower_down, follower_up, goes_back, lacks, becomes, stays, changes_to, feeding, stopping, answers}

-- the follower was shown further than the replica's greens reach
abbrev pub would_go_back : World → List Follower → ℕ → ℕ → Option Reason
would_go_back w fs f p = option_and_then (λ r. option_and_then (goes_back r.held.queue) (follower_at fs f)) (replica_of w p)

-- the replica has discarded actions that the follower would have to take
abbrev pub discarded : World → List Follower → ℕ → ℕ → Option Reason
discarded w fs f p = option_and_then (λ r. option_and_then (lacks r.held.queue) (life_at fs f)) (replica_of w p)

-- the reason by which an event of followers isn't admitted, if there is one
unfoldable pub follow_refusal : World → List Follower → FollowEvent → Option Reason
follow_refusal w fs (Make f p) = first_some (takes_part w p ∷ would_go_back w fs f p ∷ [])
follow_refusal w fs (Feed p f count) = first_some (takes_part w p ∷ unknown_follower fs f ∷ follower_down fs f ∷ discarded w fs f p ∷ [])
follow_refusal w fs (Stop f call fill) = first_some (unknown_follower fs f ∷ follower_down fs f ∷ [])
follow_refusal w fs (Recover f) = first_some (unknown_follower fs f ∷ follower_up fs f ∷ [])
follow_refusal w fs (Weak f query) = first_some (unknown_follower fs f ∷ follower_down fs f ∷ [])

-- a follower as the replica has its greens, on a new disk
abbrev pub made_of : Replica → Life
made_of r = Up (record { cursor = green_count r.held.queue; db = r.held.db }) None

-- what an admitted event does
unfoldable pub follow_acts : World → List Follower → FollowEvent → FollowersNoted
follow_acts w fs (Make f p) = option_map_or (λ r. becomes fs f (made_of r)) (replica_of w p) (stays fs)
follow_acts w fs (Feed p f count) = option_map_or (λ r. changes_to fs f (feeding r.held.queue count)) (replica_of w p) (stays fs)
follow_acts w fs (Stop f call fill) = changes_to fs f (stopping call fill)
follow_acts w fs (Recover f) = changes_to fs f (λ life. Up (taken_by life) None)
follow_acts w fs (Weak f query) = record { followers = fs; lines = answers fs f query }
