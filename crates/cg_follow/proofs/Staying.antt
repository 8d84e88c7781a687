-- A disk that a follower left stands for a follower, whatever touches it since.
use Rattle.std.proofs.Common.{◌≡◌, ◌≢◌, ℕ, Bool, true, false, eqb, List, [], ◌∷◌, Option, Some, None, Result, Ok, Err, refl, sym, ◌∙◌, ap, subst}
use Rattle.std.proofs.lemmas.Bool.{eqb-true}
use Rattle.std.specs.Prelude.{slice_index}
use Rattle.cg_action.specs.declared.action.Action.{Action}
use Rattle.cg_disk.specs.Sides.{Image}
use Rattle.cg_disk.specs.View.{DiskView, IsAtRest}
use Rattle.cg_disk.specs.Crashes.{IsCrashed}
use Rattle.cg_journal.specs.Records.{records}
use Rattle.cg_journal.specs.Reads.{IsReadOnly}
use Rattle.cg_follow.specs.Followed.{Followed, fed}
use Rattle.cg_follow.specs.Stands.{stands_for, Stands, Following, IsFollower}
use Rattle.cg_follow.specs.Feeding.{IsLost}
use Rattle.cg_follow.specs.Answers.{Takes, Feeds, OpensFollower}
use Rattle.cg_follow.specs.Laws.{IsAFollowers, disk_fed, disk_opened, StayFollowers}
use Rattle.cg_follow.specs.declared.errors.FollowErr.{FollowErr}
use Rattle.cg_follow.specs.declared.errors.FollowErr.TheVariants.{Lost, NoMemory}
use Rattle.cg_follow.specs.declared.errors.FollowOpen.{FollowOpen}
use Rattle.cg_follow.specs.declared.errors.FollowOpen.TheVariants.{Lost as OpenLost, NotAFollower, NoMemory as OpenNoMemory}

abbrev SomeFollower : Image → Type 0
SomeFollower c = (f : Followed) × Stands c f

at-rest : (d : DiskView) (f : Followed) → IsAtRest d → Stands d.reads f → IsAFollowers d
at-rest d f rest stands = record {
  reads = (f, stands);
  images = λ c left. (
    f,
    ap (λ x. stands_for (records x))
        (rest.only c left) ∙ stands,
  );
}

decided : (before after : Followed) (c : Image) (n : ℕ) → (n ≡ 1 → Stands c after) → (n ≢ 1 → Stands c before) →
    (b : Bool) → eqb n 1 ≡ b → SomeFollower c
decided before after c n opened closed true e = (after, opened (eqb-true n 1 e))
decided before after c n opened closed false e = (before, closed (λ same. no (rw same at e)))
  where
    no : true ≡ false → ⊥
    no f = cc

lost-stays : (before after : Followed) (old new : DiskView) → IsLost before after old new → IsAFollowers new
lost-stays before after old new lost =
    let each : (c : Image) → new.may_leave c → SomeFollower c =
    λ c left. let gate = lost.gates c left in decided before after c
    (slice_index c.a lost.gate) gate.opened gate.closed (eqb (slice_index c.a lost.gate) 1) refl in
    record { reads = each new.reads lost.reads; images = each }

takes-stays : {D : Type 0} (view : D → DiskView) (old : Following D) (actions : List Action)
    (r : Result (Following D) (FollowErr D)) → Takes view old actions r → IsAFollowers (view (disk_fed r))
takes-stays view old actions (Ok new) is = at-rest (view new.disk) (fed old.now actions) is.0.rest is.0.stands
takes-stays view old actions (Err (Lost disk)) is = lost-stays old.now (fed old.now actions) (view old.disk)
    (view disk) is
takes-stays view old actions (Err (NoMemory disk)) is = at-rest (view disk) old.now is.rest is.stands

fed-stays : {D : Type 0} (view : D → DiskView) (old : Following D) (actions : List Action) (r : Result (Following D)
    (FollowErr D)) → IsFollower (view old.disk) old.now → Feeds view old actions r →
    IsAFollowers (view (disk_fed r))
fed-stays view old [] r held is = subst (λ x. IsAFollowers (view (disk_fed x))) (sym is)
    (at-rest (view old.disk) old.now held.rest held.stands)
fed-stays view old (a ∷ actions) r held is = takes-stays view old (a ∷ actions) r is

only-read : (old new : DiskView) → IsAFollowers old → IsReadOnly old new → IsAFollowers new
only-read old new are only = record {
  reads = (are.reads.0, ap (λ x. stands_for (records x)) only.reads ∙ are.reads.1);
  images = λ c left. are.images c (only.images c left);
}

opened-stays : {D : Type 0} (view : D → DiskView) (old : DiskView) (r : Result (Following D) (FollowOpen D)) →
    IsAFollowers old → OpensFollower view old r → IsAFollowers (view (disk_opened r))
opened-stays view old (Ok f) are is = only-read old (view f.disk) are is.1.only
opened-stays view old (Err (OpenLost disk)) are is = only-read old (view disk) are is.only
opened-stays view old (Err (NotAFollower disk)) are is = only-read old (view disk) are is.1.only
opened-stays view old (Err (OpenNoMemory disk)) are is = only-read old (view disk) are is.only

crashed-stays : (fill : List ℕ) (old new : DiskView) → IsAFollowers old → IsCrashed fill old new → IsAFollowers new
crashed-stays fill old new are crash = let is = are.images new.reads crash.image in at-rest new is.0 crash.rest is.1

never : (image : Image) (f : Followed) → Stands image f → stands_for (records image) ≡ None → ⊥
never image f stands none = no (stands_for (records image)) f stands none where
  no : (found : Option Followed) (g : Followed) → found ≡ Some g → found ≡ None → ⊥
  no None g is e = cc
  no (Some h) g is e = cc

pub stay-followers : {D : Type 0} (view : D → DiskView) → StayFollowers view
stay-followers view = record {
  made = λ f old new is. at-rest (view new.disk) f is.0.rest is.0.stands;
  fed = fed-stays view;
  opened = λ old result are is. opened-stays view (view old) result are is;
  crashed = λ fill old new are crash. crashed-stays fill (view old) (view new) are crash;
  found = λ old disk are is. never (view old).reads are.reads.0 are.reads.1 is.0;
}
