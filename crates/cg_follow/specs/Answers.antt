-- What each call of a follower answers.
use Rattle.std.specs.Prelude.{◌≡◌, ℕ, List, [], ◌∷◌, Some, None, Result, Ok, Err}
use Rattle.cg_action.specs.declared.action.Action.{Action}
use Rattle.cg_disk.specs.Sides.{Image}
use Rattle.cg_disk.specs.View.{DiskView, LeavesOnly}
use Rattle.cg_journal.specs.Fresh.{IsLostWithin, IsRefusedWithin}
use Rattle.cg_journal.specs.Reads.{IsRead, IsReadStruck, IsReadRefused}
use Rattle.cg_journal.specs.Records.{records}
use Rattle.cg_journal.specs.declared.journal.AppendErr.{AppendErr}
use Rattle.cg_journal.specs.declared.journal.AppendErr.TheVariants.{Lost as AppendLost, NoMemory as AppendNoMemory}
use Rattle.cg_follow.specs.Followed.{Followed, fed}
use Rattle.cg_follow.specs.Stands.{Stands, follower_on, stands_for, Following}
use Rattle.cg_follow.specs.Feeding.{IsReached, IsRefused, IsLost}
use Rattle.cg_follow.specs.declared.errors.FollowErr.{FollowErr}
use Rattle.cg_follow.specs.declared.errors.FollowErr.TheVariants.{Lost, NoMemory}
use Rattle.cg_follow.specs.declared.errors.FollowOpen.{FollowOpen}
use Rattle.cg_follow.specs.declared.errors.FollowOpen.TheVariants.{Lost as OpenLost, NotAFollower, NoMemory as OpenNoMemory}

-- what ended a call of the journal ends the follower's call
abbrev pub fault_of : {D : Type 0} → AppendErr D → FollowErr D
fault_of (AppendLost disk) = Lost disk
fault_of (AppendNoMemory journal) = NoMemory journal

-- the first record was written on an empty disk, in four calls
abbrev pub Begins : {D : Type 0} → (D → DiskView) → Followed → DiskView → Result (Following D) (FollowErr D) → Type 0
Begins view f old (Ok made) = IsReached 4 f old (view made.disk) × (made.now ≡ f)
Begins view f old (Err (Lost disk)) = IsLostWithin 4 old (view disk)
Begins view f old (Err (NoMemory disk)) = IsRefusedWithin 4 old (view disk)

-- it was made on this disk, in seven calls; after an error the disk may be no follower's
abbrev pub Makes : {D : Type 0} → (D → DiskView) → Followed → DiskView → Result (Following D) (FollowErr D) → Type 0
Makes view f old (Ok made) = IsReached 7 f old (view made.disk) × (made.now ≡ f)
Makes view f old (Err (Lost disk)) = IsLostWithin 7 old (view disk)
Makes view f old (Err (NoMemory disk)) = IsRefusedWithin 7 old (view disk)

-- it took these actions, one at least, in one append of four calls
abbrev pub Takes : {D : Type 0} → (D → DiskView) → Following D → List Action → Result (Following D) (FollowErr D) →
    Type 0
Takes view old actions (Ok new) =
    IsReached 4 (fed old.now actions) (view old.disk) (view new.disk) × (new.now ≡ fed old.now actions)
Takes view old actions (Err (Lost disk)) = IsLost old.now (fed old.now actions) (view old.disk) (view disk)
Takes view old actions (Err (NoMemory disk)) = IsRefused 2 old.now (view old.disk) (view disk)

-- no action: no call is made, and nothing is changed
abbrev pub Feeds : {D : Type 0} → (D → DiskView) → Following D → List Action → Result (Following D) (FollowErr D) →
    Type 0
Feeds view old [] result = result ≡ Ok old
Feeds view old (a ∷ actions) result = Takes view old (a ∷ actions) result

-- a crash at each moment of a feed leaves an image that has P
abbrev pub EachMoment : {D : Type 0} → (D → DiskView) → (Image → Type 0) → DiskView →
    Result (Following D) (FollowErr D) → Type 0
EachMoment view P old (Ok new) = LeavesOnly old (view new.disk) P
EachMoment view P old (Err (Lost disk)) = LeavesOnly old (view disk) P
EachMoment view P old (Err (NoMemory disk)) = LeavesOnly old (view disk) P

-- the follower of a journal with these records on side A was found, or there is none; the disk is as before
abbrev pub Resumes : {D : Type 0} → D → List (List ℕ) → Result (Following D) (FollowOpen D) → Type 0
Resumes journal bodies (Ok f) = (follower_on bodies ≡ Some f.now) × (f.disk ≡ journal)
Resumes journal bodies (Err (OpenLost disk)) = ⊥
Resumes journal bodies (Err (NotAFollower disk)) = (follower_on bodies ≡ None) × (disk ≡ journal)
Resumes journal bodies (Err (OpenNoMemory disk)) = disk ≡ journal

-- the disk was read in five calls, of which the first is a sync: it stands for the follower, or for none
abbrev pub OpensFollower : {D : Type 0} → (D → DiskView) → DiskView → Result (Following D) (FollowOpen D) → Type 0
OpensFollower view old (Ok f) = Stands old.reads f.now × IsRead 5 old (view f.disk)
OpensFollower view old (Err (OpenLost disk)) = IsReadStruck 5 old (view disk)
OpensFollower view old (Err (NotAFollower disk)) = (stands_for (records old.reads) ≡ None) × IsRead 5 old (view disk)
OpensFollower view old (Err (OpenNoMemory disk)) = IsReadRefused 5 old (view disk)
