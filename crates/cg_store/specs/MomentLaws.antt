-- An image stands for one state; what holds at each moment of a call, and of two calls one behind the other.
use Rattle.std.proofs.Common.{◌≡◌, inl, inr, ⊎_elim, ℕ, Result, Ok, Err, arith}
use Rattle.cg_disk.specs.Sides.{Image}
use Rattle.cg_disk.specs.View.{DiskView, LeavesOnly}
use Rattle.cg_journal.specs.Records.{records}
use Rattle.cg_store.specs.Stands.{OnDisk, stands_for, Stands}
use Rattle.cg_store.specs.Answers.{EachMoment}
use Rattle.cg_store.specs.Calls.{IsEither, IsOneOfThree}
use Rattle.cg_store.specs.declared.errors.CommitErr.{CommitErr}
use Rattle.cg_store.specs.declared.errors.CommitErr.TheVariants.{Lost, NoMemory}
use Rattle.cg_journal.specs.ViewLaws.{weakened}
use Rattle.cg_base.specs.OptionLaws.{one_value}

pub stands_once : (id : ℕ) (c : Image) (u v : OnDisk) → Stands id c u → Stands id c v → u ≡ v
stands_once id c u v a b = one_value (stands_for id (records c)) u v a b

-- ---- what holds at each moment of a run

pub chained : (old mid new : DiskView) (P Q R : Image → Type 0) → LeavesOnly old mid P → LeavesOnly mid new Q →
    ((c : Image) → P c → R c) → ((c : Image) → Q c → R c) → LeavesOnly old new R
chained old mid new P Q R first second p q = record {
  later = omega (arith, first.later, second.later);
  each = λ c left. ⊎_elim (λ past. p c (first.each c past)) (λ now. q c now) (second.before
      old.time c first.later left);
  before = λ t c le left. ⊎_elim (λ past. ⊎_elim (λ older. inl older) (λ here. inr (p c here)) (first.before t c le
      past)) (λ now. inr (q c now)) (second.before t c (omega (arith, le, first.later)) left);
}

-- ---- one of two, and one of three

module _ (id : ℕ) (u v w : OnDisk) where
  three_of_first : (c : Image) → IsEither id u v c → IsOneOfThree id u v w c
  three_of_first c one = ⊎_elim (λ a. inl a) (λ b. inr (inl b)) one

  three_of_last : (c : Image) → IsEither id v w c → IsOneOfThree id u v w c
  three_of_last c one = ⊎_elim (λ a. inr (inl a)) (λ b. inr (inr b)) one

  pub leaves_first : (old new : DiskView) → LeavesOnly old new (IsEither id u v) →
      LeavesOnly old new (IsOneOfThree id u v w)
  leaves_first old new run = weakened old new (IsEither id u v) (IsOneOfThree id u v w) run three_of_first

  pub leaves_joined : (old mid new : DiskView) → LeavesOnly old mid (IsEither id u v) →
      LeavesOnly mid new (IsEither id v w) → LeavesOnly old new (IsOneOfThree id u v w)
  leaves_joined old mid new first second =
      chained old mid new (IsEither id u v) (IsEither id v w) (IsOneOfThree id u v w) first second
      three_of_first three_of_last

  module _ {T D : Type 0} (view : D → DiskView) (disk_in : T → D) where
    pub moments_first : (old : DiskView) (r : Result T (CommitErr D)) →
        EachMoment view disk_in (IsEither id u v) old r → EachMoment view disk_in (IsOneOfThree id u v w) old r
    moments_first old (Ok done) run = leaves_first old (view (disk_in done)) run
    moments_first old (Err (Lost disk)) run = leaves_first old (view disk) run
    moments_first old (Err (NoMemory disk)) run = leaves_first old (view disk) run

    pub moments_joined : (old mid : DiskView) (r : Result T (CommitErr D)) → LeavesOnly old mid (IsEither id u v) →
        EachMoment view disk_in (IsEither id v w) mid r → EachMoment view disk_in (IsOneOfThree id u v w) old r
    moments_joined old mid (Ok done) first second = leaves_joined old mid (view (disk_in done)) first second
    moments_joined old mid (Err (Lost disk)) first second = leaves_joined old mid (view disk) first second
    moments_joined old mid (Err (NoMemory disk)) first second = leaves_joined old mid (view disk) first second
