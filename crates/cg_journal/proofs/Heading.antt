-- The header, and a record behind the closed gate of a side.
use Rattle.std.proofs.Common.{◌≡◌, ◌≢◌, inl, inr, ⊎_elim, ℕ, ◌+◌, ◌^◌, ◌≤◌, ◌<◌, List, length, get_or, Option, Some, None, IfSome, Result, Ok, Err, OnOk, IsErrOf, refl, sym, ◌∙◌, ap, subst, arith}
use Rattle.std.specs.Option.{option_map}
use Rattle.cg_disk.specs.Sides.{Image, bytes_of, opposite}
use Rattle.cg_disk.specs.State.{DiskState, looked, synced, wrote}
use Rattle.cg_disk.specs.View.{DiskView, IsView, IsAtRest, IsSynced, LeavesOnly}
use Rattle.cg_disk.specs.Writes.{TornSide, Follows, Only, overwritten}
use Rattle.cg_disk.specs.Calls as calls
use Rattle.cg_disk.specs.declared.disk.Side.{Side}
use Rattle.cg_disk.specs.declared.disk.DiskFault.{DiskFault}
use Rattle.cg_disk.specs.declared.disk.DiskFault.TheVariants.{Failed, NoMemory}
use Rattle.cg_journal.specs.Records.{header}
use Rattle.cg_journal.specs.Strikes.{IsUnstruck}
use Rattle.cg_journal.specs.Migrates.{IsShut, IsLostAs, Heads, IsHeading, PutsBehind}
use Rattle.cg_journal.specs.Put.{put_on}
use Rattle.cg_journal.specs.ViewLaws.{chained, started, struck_more, unstruck_more}
use Rattle.cg_journal.proofs.Both.{put_this, put_other}
use Rattle.cg_journal.proofs.Looking.{passes_unstruck, unchanged_unstruck, fails_struck}
use Rattle.cg_journal.proofs.Moments.{goes_on}
use Rattle.cg_journal.proofs.Putting.{wrote_strike}
use Rattle.cg_journal.proofs.Shutting.{shut_front, shut_behind}

-- a sync leaves the disk clean
clean_after : (old new : Option DiskState) → new ≡ option_map synced old → IfSome new IsSynced
clean_after None new is = subst (λ x. IfSome x IsSynced) (sym is) tt
clean_after (Some s) new is = subst (λ x. IfSome x IsSynced) (sym is) (refl, refl)

at_rest : (old new : DiskView) → calls.Looks old new → Only old.reads new.may_leave → calls.Passes synced old new → IsAtRest new
at_rest old new looks durable passes = record { only = λ c left. durable c left ∙ sym looks.reads; clean = clean_after old.state new.state passes.state }

-- no call goes back in time
pub ends_later : {T : Type 0} (done cut : DiskState → DiskState) (old new : DiskView) (r : Result T DiskFault) → calls.Ends done cut old new r → old.time ≤ new.time
ends_later done cut old new (Ok x) ends = omega (arith, ends.time)
ends_later done cut old new (Err Failed) ends = omega (arith, ends.time)
ends_later done cut old new (Err NoMemory) ends = omega (arith, ends.time)

-- ---- bytes behind the header

module _ (side : Side) (bytes : List ℕ) (base : Image) (old : DiskView) (heading : IsHeading side base old) where
  -- what a write behind the gate leaves
  pub torn_behind : (mid : DiskView) → Follows (TornSide side 9 (length bytes)) old.may_leave mid.may_leave → (c : Image) → mid.may_leave c → IsShut side base c
  torn_behind mid crash c left = let from = crash c left in shut_behind side (length bytes) base from.0 c (heading.images from.0 from.1) from.2

  -- the write fails
  pub write_failed : (mid : DiskView) → Follows (TornSide side 9 (length bytes)) old.may_leave mid.may_leave → calls.HasImages mid → calls.Fails (wrote side 9 bytes) old mid
      → (call : ℕ) × IsLostAs 2 (IsShut side base) call old mid
  write_failed mid crash has fails = (
    1,
    record {
      struck = fails_struck (wrote side 9 bytes) old mid fails;
      time = omega (arith, fails.time);
      within = (omega arith, omega arith);
      images = torn_behind mid crash;
      has = has;
    },
  )

  pub write_moments : (mid : DiskView) → IsView old → Follows (TornSide side 9 (length bytes)) old.may_leave mid.may_leave → calls.Elapses old mid → old.time ≤ mid.time → LeavesOnly old mid (IsShut side base)
  write_moments mid is_old crash elapses later = goes_on old old mid (IsShut side base) (started old (IsShut side base) is_old heading.images) elapses later (torn_behind mid crash)

  -- the write was done, and then the sync
  module _ (mid new : DiskView) (is_mid : IsView mid) (is_new : IsView new) (crash : Follows (TornSide side 9 (length bytes)) old.may_leave mid.may_leave)
      (written : mid.reads ≡ put_on side 9 bytes old.reads) (passes : calls.Passes (wrote side 9 bytes) old mid) (looks : calls.Looks mid new) (has : calls.HasImages new) where
    first : IsUnstruck old mid
    first = passes_unstruck (wrote side 9 bytes) (wrote_strike side 9 bytes) old mid is_mid passes

    reads : new.reads ≡ put_on side 9 bytes old.reads
    reads = looks.reads ∙ written

    pub behind_synced : {T : Type 0} (r : Result T DiskFault) → 9 + length bytes < 2 ^ 63 → OnOk r (Only mid.reads new.may_leave) → calls.Ends synced looked mid new r → (IsErrOf r NoMemory → ⊥) → PutsBehind side bytes base old new r
    behind_synced (Ok x) short durable ends never = record {
      this = ap (bytes_of side) reads ∙ put_this side 9 bytes old.reads;
      other = ap (bytes_of (opposite side)) reads ∙ put_other side 9 bytes old.reads;
      rest = at_rest mid new looks durable ends;
      time = omega (arith, passes.time, ends.time);
      unstruck = unstruck_more old mid new first (passes_unstruck synced (λ s. refl) mid new is_new ends);
      short = short;
    }
    behind_synced (Err Failed) short durable ends never = (
      2,
      record {
        struck = struck_more old mid new first (omega (arith, passes.time)) (fails_struck looked mid new ends);
        time = omega (arith, passes.time, ends.time);
        within = (omega arith, omega arith);
        images = λ c left. torn_behind mid crash c (looks.images c left);
        has = has;
      },
    )
    behind_synced (Err NoMemory) short durable ends never = absurd (never refl)

  pub synced_moments : (mid new : DiskView) → LeavesOnly old mid (IsShut side base) → ((c : Image) → mid.may_leave c → IsShut side base c) → calls.Looks mid new → mid.time ≤ new.time → LeavesOnly old new (IsShut side base)
  synced_moments mid new run images looks later = goes_on old mid new (IsShut side base) run looks.elapses later (λ c left. images c (looks.images c left))

  -- memory was refused, and then the sync
  module _ (mid new : DiskView) (is_mid : IsView mid) (is_new : IsView new) (same : calls.IsUnchanged old mid) (looks : calls.Looks mid new) (has : calls.HasImages new) where
    kept_images : (c : Image) → mid.may_leave c → IsShut side base c
    kept_images c left = heading.images c ((same.images c).0 left)

    kept_first : IsUnstruck old mid
    kept_first = unchanged_unstruck old mid is_mid same

    pub kept_done : (T : Type 0) → Only mid.reads new.may_leave → calls.Passes synced mid new → PutsBehind {T = T} side bytes base old new (Err NoMemory)
    kept_done T durable passes = record {
      is = heading.images new.reads (subst old.may_leave (sym (looks.reads ∙ same.reads)) heading.has.reads);
      rest = at_rest mid new looks durable passes;
      time = omega (arith, passes.time, same.time);
      unstruck = unstruck_more old mid new kept_first (passes_unstruck synced (λ s. refl) mid new is_new passes);
    }

    pub kept_failed : (T : Type 0) → calls.Fails looked mid new → PutsBehind {T = T} side bytes base old new (Err Failed)
    kept_failed T fails = (
      1,
      record {
        struck = struck_more old mid new kept_first (omega (arith, same.time)) (fails_struck looked mid new fails);
        time = omega (arith, fails.time, same.time);
        within = (omega arith, omega arith);
        images = λ c left. kept_images c (looks.images c left);
        has = has;
      },
    )

    pub kept_err : (T : Type 0) (fault : DiskFault) → calls.Ends {T = T} synced looked mid new (Err fault) → (IsErrOf {T = T} (Err fault) NoMemory → ⊥) → PutsBehind {T = T} side bytes base old new (Err fault)
    kept_err T Failed ends never = kept_failed T ends
    kept_err T NoMemory ends never = absurd (never refl)

    kept_elapses : calls.Elapses old new
    kept_elapses = record {
      nothing_else = λ t c le left. ⊎_elim (λ past. inl ((same.moments t c).0 past)) inr (looks.elapses.nothing_else t c (omega (arith, le, same.time)) left);
      keeps = λ t c le left. looks.elapses.keeps t c (omega (arith, le, same.time)) ((same.moments t c).1 left);
    }

    pub kept_moments : IsView old → mid.time ≤ new.time → LeavesOnly old new (IsShut side base)
    kept_moments is_old later =
        goes_on old old new (IsShut side base) (started old (IsShut side base) is_old heading.images) kept_elapses (omega (arith, later, same.time)) (λ c left. kept_images c (looks.images c left))

-- ---- the header

module _ (side : Side) (bytes : List ℕ) (old mid : DiskView) (rest : IsAtRest old) (long : 9 ≤ length (bytes_of side old.reads)) (shut : get_or (bytes_of side old.reads) 8 0 ≢ 1) (is_mid : IsView mid)
    (crash : Follows (TornSide side 0 8) old.may_leave mid.may_leave) (has : calls.HasImages mid) where
  as_it_was : IsShut side old.reads old.reads
  as_it_was = record { long = long; closed = shut; other = refl }

  old_images : (c : Image) → old.may_leave c → IsShut side old.reads c
  old_images c left = subst (IsShut side old.reads) (sym (rest.only c left)) as_it_was

  header_images : (c : Image) → mid.may_leave c → IsShut side old.reads c
  header_images c left = let from = crash c left in shut_front side old.reads from.0 c (old_images from.0 from.1) from.2

  pub heading : IsHeading side old.reads mid
  heading = record { images = header_images; has = has }

  pub header_failed : (T : Type 0) (fault : DiskFault) → calls.Ends {T = T} (wrote side 0 header) (wrote side 0 header) old mid (Err fault) → Heads {T = T} side bytes old mid (Err fault)
  header_failed T Failed fails = (
    1,
    record {
      struck = fails_struck (wrote side 0 header) old mid fails;
      time = omega (arith, fails.time);
      within = (omega arith, omega arith);
      images = header_images;
      has = has;
    },
  )
  header_failed T NoMemory same = record {
    is = subst (IsShut side old.reads) (sym same.reads) as_it_was;
    rest = record {
      only = λ c left. rest.only c ((same.images c).0 left) ∙ sym same.reads;
      clean = subst (λ x. IfSome x IsSynced) (sym same.state) rest.clean;
    };
    time = omega (arith, same.time);
    unstruck = unchanged_unstruck old mid is_mid same;
  }

  pub header_moments : IsView old → calls.Elapses old mid → old.time ≤ mid.time → LeavesOnly old mid (IsShut side old.reads)
  header_moments is_old elapses later = goes_on old old mid (IsShut side old.reads) (started old (IsShut side old.reads) is_old old_images) elapses later header_images

  module _ (new : DiskView) (written : mid.reads ≡ put_on side 0 header old.reads) (passes : calls.Passes (wrote side 0 header) old mid) where
    first_done : IsUnstruck old mid
    first_done = passes_unstruck (wrote side 0 header) (wrote_strike side 0 header) old mid is_mid passes

    pub heads_from : {T : Type 0} (r : Result T DiskFault) → PutsBehind side bytes old.reads mid new r → Heads side bytes old new r
    heads_from (Ok x) is = record {
      this = is.this ∙ ap (λ (l : List ℕ). overwritten l 9 bytes) (ap (bytes_of side) written ∙ put_this side 0 header old.reads);
      other = is.other ∙ ap (bytes_of (opposite side)) written ∙ put_other side 0 header old.reads;
      rest = is.rest;
      time = omega (arith, passes.time, is.time);
      unstruck = unstruck_more old mid new first_done is.unstruck;
      short = is.short;
    }
    heads_from (Err Failed) is = (
      1 + is.0,
      record {
        struck = struck_more old mid new first_done (omega (arith, passes.time)) is.1.struck;
        time = omega (arith, passes.time, is.1.time);
        within = (omega arith, omega (arith, is.1.within.1));
        images = is.1.images;
        has = is.1.has;
      },
    )
    heads_from (Err NoMemory) is = record {
      is = is.is;
      rest = is.rest;
      time = omega (arith, passes.time, is.time);
      unstruck = unstruck_more old mid new first_done is.unstruck;
    }

    pub heads_moments : IsView old → calls.Elapses old mid → LeavesOnly mid new (IsShut side old.reads) → LeavesOnly old new (IsShut side old.reads)
    heads_moments is_old elapses behind = chained old mid new (IsShut side old.reads) (IsShut side old.reads) (header_moments is_old elapses (omega (arith, passes.time))) behind (λ c is. is)
