-- What the calls of the journal make of what a follower's disk stands for.
use Rattle.std.proofs.Common.{◌≡◌, inl, inr, ⊎_elim, ℕ, ◌+◌, ◌≤◌, List, Bool, true, false, Option, Some, None, Result, Ok, Err, sym, ◌∙◌, ap, subst, arith}
use Rattle.std.specs.Prelude.{if◌then◌else◌}
use Rattle.std.specs.Option.{option_map}
use Rattle.cg_action.specs.declared.action.Action.{Action}
use Rattle.cg_disk.specs.Sides.{Image}
use Rattle.cg_disk.specs.State.{left_by}
use Rattle.cg_disk.specs.View.{DiskView, LeavesOnly}
use Rattle.cg_disk.specs.declared.disk.Side.TheVariants.{A}
use Rattle.cg_journal.specs.Records.{Records, records, added}
use Rattle.cg_journal.specs.Adds.{IsEither as IsOneOf, gate_stands}
use Rattle.cg_journal.specs.Answers.{with_record, IsDone, IsRefused as IsJournalRefused, IsLostAppend, Appends, EachMoment as EachJournalMoment}
use Rattle.cg_journal.specs.ViewLaws.{weakened}
use Rattle.cg_journal.specs.declared.journal.AppendErr.{AppendErr}
use Rattle.cg_journal.specs.declared.journal.AppendErr.TheVariants.{Lost as AppendLost, NoMemory as AppendNoMemory}
use Rattle.cg_follow.specs.Followed.{Followed, fed}
use Rattle.cg_follow.specs.Bytes.{feed_in}
use Rattle.cg_follow.specs.Stands.{stands_for, Stands, IsEither, Following}
use Rattle.cg_follow.specs.Feeding.{IsReached, IsRefused, IsCutShort, IsLost}
use Rattle.cg_follow.specs.Laws.{disk_fed}
use Rattle.cg_follow.specs.declared.errors.FollowErr.{FollowErr}
use Rattle.cg_follow.specs.declared.errors.FollowErr.TheVariants.{Lost, NoMemory}
use Rattle.cg_follow.specs.Answers.{fault_of, Takes, EachMoment}
use Rattle.cg_follow.proofs.Leading.{led-added}

-- ---- one of two followers

either-way : (b : Bool) (r before after : Option Records) (f g : Followed) → r ≡ (if b then after else before) →
    stands_for before ≡ Some f → stands_for after ≡ Some g →
    stands_for r ≡ Some (if b then g else f)
either-way true r before after f g is first second = ap stands_for is ∙ second
either-way false r before after f g is first second = ap stands_for is ∙ first

either-of : (before after : Option Records) (f g : Followed) (c : Image) → stands_for before ≡ Some f →
    stands_for after ≡ Some g → IsOneOf before after c → IsEither f g c
either-of before after f g c first second one = ⊎_elim (λ e. inl (ap stands_for e ∙ first))
    (λ e. inr (ap stands_for e ∙ second)) one

stands-added : (before : Option Records) (f : Followed) (body : List ℕ) (actions : List Action) →
    stands_for before ≡ Some f → feed_in body ≡ Some actions →
    stands_for (option_map (added A body) before) ≡ Some (fed f actions)
stands-added None f body actions is read = cc
stands-added (Some r) f body actions is read = led-added r.a f body actions is read

-- ---- a record of a feed behind the others

module _ (old : DiskView) (f : Followed) (body : List ℕ) (actions : List Action) (stands : Stands old.reads f)
    (read : feed_in body ≡ Some actions) where
  behind : stands_for (with_record A body old) ≡ Some (fed f actions)
  behind = stands-added (records old.reads) f body actions stands read

  pub fed-reached : (new : DiskView) → IsDone (with_record A body old) 4 old new → IsReached 4 (fed f actions) old new
  fed-reached new done = record {
    stands = ap stands_for done.records_new ∙ behind;
    rest = done.rest;
    time = done.time;
    unstruck = done.unstruck;
  }

  pub fed-lost : (new : DiskView) → IsLostAppend A body old new → IsLost f (fed f actions) old new
  fed-lost new is = record {
    call = is.call;
    gate = is.gate;
    struck = is.lost.struck;
    time = omega (arith, is.lost.time);
    within = is.lost.within;
    gates = λ c left. record {
      opened = λ e. ap stands_for ((is.lost.gates c left).opened e) ∙ behind;
      closed = λ e. ap stands_for ((is.lost.gates c left).closed e) ∙ stands;
    };
    early = λ le c left. ap stands_for (is.lost.early le c left) ∙ stands;
    last = λ e. ap stands_for (is.lost.last e) ∙ behind;
    reads = is.lost.reads;
    told = λ s e old_is new_is.
        let found = is.lost.told s old_is in
        let same : found.0 ≡ e = (let one = sym found.1 ∙ new_is in cc) in
        let cut = found.2 in
        subst (λ x. IsCutShort is.call f (fed f actions) s x) same (record {
          strike = cut.strike;
          armed = cut.armed;
          fills = λ fill. either-way (gate_stands cut.strike.blow is.call fill) (records (left_by found.0 fill))
              (records old.reads) (with_record A body old) f (fed f actions) (cut.fills fill) stands behind;
        });
  }

  pub fed-refused : (new : DiskView) → IsJournalRefused (λ r. r ≡ records old.reads) 2 old new → IsRefused 2 f old new
  fed-refused new is = record {
    stands = ap stands_for is.records_new ∙ stands;
    rest = is.rest;
    time = is.time;
    unstruck = is.unstruck;
  }

  pub fed-moments : (new : DiskView) → LeavesOnly old new (IsOneOf (records old.reads) (with_record A body old)) →
      LeavesOnly old new (IsEither f (fed f actions))
  fed-moments new run =
      weakened old new (IsOneOf (records old.reads) (with_record A body old)) (IsEither f (fed f actions)) run
      (λ c one. either-of (records old.reads) (with_record A body old) f (fed f actions) c stands behind one)

-- what ended the append ends the feed
module _ {D : Type 0} (view : D → DiskView) (k : Following D) (body : List ℕ) (actions : List Action)
    (stands : Stands (view k.disk).reads k.now) (read : feed_in body ≡ Some actions) where
  pub feed-fails : (fault : AppendErr D) → Appends view A body (view k.disk) (Err fault) → Takes view k actions
      (Err (fault_of fault))
  feed-fails (AppendLost disk) is = fed-lost (view k.disk) k.now body actions stands read (view disk) is
  feed-fails (AppendNoMemory journal) is = fed-refused (view k.disk) k.now body actions stands read (view journal) is

  pub feed-fails-moments : (fault : AppendErr D) → EachJournalMoment view (IsOneOf (records (view k.disk).reads)
      (with_record A body (view k.disk))) (view k.disk) (Err fault) →
      EachMoment {D = D} view (IsEither k.now (fed k.now actions)) (view k.disk) (Err (fault_of fault))
  feed-fails-moments (AppendLost disk) run = fed-moments (view k.disk) k.now body actions stands read (view disk) run
  feed-fails-moments (AppendNoMemory journal) run = fed-moments (view k.disk) k.now body actions stands read
      (view journal) run

-- a feed makes four calls at most
pub takes-time : {D : Type 0} (view : D → DiskView) (old : Following D) (actions : List Action)
    (result : Result (Following D) (FollowErr D)) → Takes view old actions result →
    (view (disk_fed result)).time ≤ (view old.disk).time + 4
takes-time view old actions (Ok new) is = omega (arith, is.0.time)
takes-time view old actions (Err (Lost disk)) is = omega (arith, is.time, is.within.1)
takes-time view old actions (Err (NoMemory disk)) is = omega (arith, is.time)
