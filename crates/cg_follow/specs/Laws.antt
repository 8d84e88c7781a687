-- What the bytes of a follower's disk say, both ways.
use Rattle.std.specs.Prelude.{◌≡◌, ℕ, List, ◌++◌, ◌∷◌, [], Some, Result, Ok, Err}
use Rattle.cg_codec.specs.Laws.{IsWhole}
use Rattle.cg_action.specs.declared.action.Action.{Action}
use Rattle.cg_follow.specs.Followed.{Followed, fed, follower_of, IsFollowed, AreFed}
use Rattle.cg_follow.specs.Bytes.{spelled_follower, spelled_feed, follower_reading, feed_reading}
use Rattle.cg_disk.specs.Sides.{Image}
use Rattle.cg_disk.specs.View.{DiskView}
use Rattle.cg_disk.specs.Crashes.{IsCrashed}
use Rattle.cg_follow.specs.Stands.{follower_on, Stands, Following, IsFollower}
use Rattle.cg_follow.specs.Answers.{Makes, Feeds, OpensFollower}
use Rattle.cg_follow.specs.declared.errors.FollowErr.{FollowErr}
use Rattle.cg_follow.specs.declared.errors.FollowErr.TheVariants.{Lost, NoMemory}
use Rattle.cg_follow.specs.declared.errors.FollowOpen.{FollowOpen}
use Rattle.cg_follow.specs.declared.errors.FollowOpen.TheVariants.{Lost as OpenLost, NotAFollower, NoMemory as OpenNoMemory}

-- each record has one spelling, which is read as it, and nothing else is read as it
pub record RecordsAreExact : Type 0 where
  pub follower : IsWhole IsFollowed spelled_follower follower_reading
  pub feed : IsWhole AreFed spelled_feed feed_reading

-- a follower's record alone is the follower, and a feed behind the others feeds it
pub record RecordsLead : Type 0 where
  pub first : (f : Followed) → IsFollowed f → follower_on (spelled_follower f ∷ []) ≡ Some f
  pub next : (bodies : List (List ℕ)) (f : Followed) (actions : List Action) → follower_on bodies ≡ Some f →
      AreFed actions → follower_on (bodies ++ spelled_feed actions ∷ []) ≡ Some (fed f actions)

-- a follower of the first actions of an order that is fed the next ones is the follower of both
abbrev pub FeedsGoOn : Type 0
FeedsGoOn = (first next : List Action) → fed (follower_of first) next ≡ follower_of (first ++ next)

-- the disk, as it reads and in every image, stands for some follower
pub record IsAFollowers (d : DiskView) : Type 0 where
  pub reads : (f : Followed) × Stands d.reads f
  pub images : (c : Image) → d.may_leave c → (f : Followed) × Stands c f

-- the disk that an answer of a feed leaves, and that of an opening
abbrev pub disk_fed : {D : Type 0} → Result (Following D) (FollowErr D) → D
disk_fed (Ok f) = f.disk
disk_fed (Err (Lost disk)) = disk
disk_fed (Err (NoMemory disk)) = disk

abbrev pub disk_opened : {D : Type 0} → Result (Following D) (FollowOpen D) → D
disk_opened (Ok f) = f.disk
disk_opened (Err (OpenLost disk)) = disk
disk_opened (Err (NotAFollower disk)) = disk
disk_opened (Err (OpenNoMemory disk)) = disk

-- so it is of the disk of a follower that was made, and stays so behind feeds, openings and crashes; on such a disk
-- `NotAFollower` doesn't come
pub record StayFollowers {D : Type 0} (view : D → DiskView) : Type 0 where
  pub made : (f : Followed) (old : D) (new : Following D) → Makes view f (view old) (Ok new) →
      IsAFollowers (view new.disk)
  pub fed : (old : Following D) (actions : List Action) (result : Result (Following D) (FollowErr D)) →
      IsFollower (view old.disk) old.now → Feeds view old actions result → IsAFollowers (view (disk_fed result))
  pub opened : (old : D) (result : Result (Following D) (FollowOpen D)) → IsAFollowers (view old) →
      OpensFollower view (view old) result → IsAFollowers (view (disk_opened result))
  pub crashed : (fill : List ℕ) (old new : D) → IsAFollowers (view old) → IsCrashed fill (view old) (view new) →
      IsAFollowers (view new)
  pub found : (old disk : D) → IsAFollowers (view old) → OpensFollower view (view old) (Err (NotAFollower disk)) → ⊥
