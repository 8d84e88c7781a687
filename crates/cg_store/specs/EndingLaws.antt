-- How an event ends: with its commit, and behind a commit that left its side too long with a checkpoint.
use Rattle.std.proofs.Common.{◌≡◌, ◌⊎◌, inl, inr, ⊎_elim, ℕ, ◌+◌, nat_lt, [], Bool, true, false, Result, Ok, Err, refl, sym, ◌∙◌, ap, subst, arith}
use Rattle.cg_disk.specs.Sides.{Image}
use Rattle.cg_disk.specs.View.{DiskView, LeavesOnly}
use Rattle.cg_journal.specs.Strikes.{IsUnstruck}
use Rattle.cg_client.specs.Replica.{Held}
use Rattle.cg_client.specs.declared.parts.DraftParts.{DraftParts}
use Rattle.cg_disk_records.specs.Stored.{stored_of}
use Rattle.cg_disk_records.specs.Checkpoint.{size_limit}
use Rattle.cg_store.specs.Stands.{OnDisk, Stands, checkpointed}
use Rattle.cg_store.specs.StoreState.{StoreState}
use Rattle.cg_store.specs.Answers.{IsReached, IsRefused, IsLost, EachMoment}
use Rattle.cg_base.specs.Choice.{Either}
use Rattle.cg_store.specs.Calls.{outputs_of, Commits, Keeps, Moves, EndsLong, EndsWritten, IsEither, IsOneOfThree, paired}
use Rattle.cg_store.specs.MomentLaws.{stands_once, moments_joined}
use Rattle.cg_store.specs.declared.outputs.Outputs.{Outputs}
use Rattle.cg_store.specs.declared.errors.CommitErr.{CommitErr}
use Rattle.cg_store.specs.declared.errors.CommitErr.TheVariants.{Lost, NoMemory}
use Rattle.cg_journal.specs.ViewLaws.{still_armed, struck_more, unstruck_more}

-- ---- calls behind earlier ones

-- a strike in calls behind earlier ones
pub lost_later : (id calls earlier : ℕ) (u v : OnDisk) (old mid new : DiskView) → IsUnstruck old mid →
    mid.time ≡ old.time + calls → IsLost id earlier u v mid new → IsLost id (calls + earlier) u v old new
lost_later id calls earlier u v old mid new first time lost = record {
  call = lost.call;
  side = lost.side;
  gate = lost.gate;
  struck = struck_more old mid new first (omega (arith, time)) lost.struck;
  time = omega (arith, time, lost.time);
  within = lost.within;
  gates = lost.gates;
  early = lost.early;
  last = lost.last;
  reads = lost.reads;
  told = λ s e old_is new_is.
      let next = still_armed old mid first s old_is in
      let cut = lost.told next.0 e next.1 new_is in
      record { strike = cut.strike; armed = sym next.2 ∙ cut.armed; fills = cut.fills };
}

module _ {D : Type 0} (view : D → DiskView) (k mid : StoreState D) (u v : OnDisk) (d : DraftParts) (id_is : mid.id ≡
    k.id) (none : mid.unwritten ≡ []) (first : IsReached k.id 4 v (view k.disk) (view mid.disk)) where
  long_ends : (r : Result (StoreState D) (CommitErr D)) (o : Outputs) → o ≡ outputs_of true d →
      Moves view mid v (checkpointed v) r → EndsLong view k u v (checkpointed v) d (paired r o)
  long_ends (Ok store) o same is =
      let done = subst (λ id. IsReached id 6 (checkpointed v) (view mid.disk) (view store.disk)) id_is is.0 in (
        record {
          stands = done.stands;
          rest = done.rest;
          time = omega (arith, done.time, first.time);
          unstruck = unstruck_more (view k.disk) (view mid.disk) (view store.disk) first.unstruck done.unstruck;
        },
        is.1 ∙ id_is,
        is.2 ∙ none,
        same,
      )
  long_ends (Err (Lost disk)) o same is =
      let moved = subst (λ id. IsLost id 0 v v (view mid.disk) (view disk)
      ⊎ IsLost id 2 v (checkpointed v) (view mid.disk) (view disk)) id_is is in
      inr (⊎_elim (λ closing. inl (lost_later k.id 4 0 v v (view k.disk) (view mid.disk) (view disk)
      first.unstruck first.time closing))
      (λ writing. inr (lost_later k.id 4 2 v (checkpointed v) (view k.disk) (view mid.disk) (view disk) first.unstruck
      first.time writing)) moved)
  long_ends (Err (NoMemory disk)) o same is =
      let refused = subst (λ id. IsRefused id 4 v (view mid.disk) (view disk)) id_is is in
      inr (record {
        stands = refused.stands;
        rest = refused.rest;
        time = omega (arith, refused.time, first.time);
        unstruck = unstruck_more (view k.disk) (view mid.disk) (view disk) first.unstruck refused.unstruck;
      })

pub whether_true : (b : Bool) (A B : Type 0) → b ≡ true → A → Either b A B
whether_true b A B is a = subst (λ x. Either x A B) (sym is) a

whether_false : (b : Bool) (A B : Type 0) → b ≡ false → B → Either b A B
whether_false b A B is x = subst (λ y. Either y A B) (sym is) x

-- ---- the store and the outputs behind a commit, or behind an event that was not to be written

module _ {D : Type 0} (view : D → DiskView) (k mid : StoreState D) (u v : OnDisk) (d : DraftParts) (o : Outputs) where
  pub commit_stands : Commits view k u v d (Ok (mid, o)) → Stands mid.id (view mid.disk).reads v
  commit_stands is = subst (λ id. Stands id (view mid.disk).reads v) (sym is.0.1) is.0.0.stands

  pub keep_stands : Keeps k d (Ok (mid, o)) → Stands k.id (view k.disk).reads u → Stands mid.id (view mid.disk).reads u
  keep_stands is stands = subst (λ (m : StoreState D). Stands m.id (view m.disk).reads u) (sym is.0) stands

  pub commit_is_written : Commits view k u v d (Ok (mid, o)) → o.written ≡ true
  commit_is_written is = ap (λ (x : Outputs). x.written) is.1

  pub keep_is_not_written : Keeps k d (Ok (mid, o)) → o.written ≡ false
  keep_is_not_written is = ap (λ (x : Outputs). x.written) is.1

  -- the outputs say which of the two it was
  pub written_by_commit : (b : Bool) → Either b (Commits view k u v d (Ok (mid, o))) (Keeps k d (Ok (mid, o))) →
      o.written ≡ true → (b ≡ true) × Commits view k u v d (Ok (mid, o))
  written_by_commit true is written = (refl, is)
  written_by_commit false is written = absurd (clash (sym written ∙ keep_is_not_written is))
    where
      clash : true ≡ false → ⊥
      clash e = cc

  -- as a checkpoint behind it asks, a core holds what the disk stands for
  pub commit_held : (h : Held) → v.content ≡ stored_of h → Commits view k u v d (Ok (mid, o)) → (w : OnDisk) →
      Stands mid.id (view mid.disk).reads w → stored_of h ≡ w.content
  commit_held h content is w stands = sym content
      ∙ ap (λ (x : OnDisk). x.content) (stands_once mid.id (view mid.disk).reads v w (commit_stands is) stands)

-- ---- how the event ends

module _ {D : Type 0} (view : D → DiskView) (k : StoreState D) (u v : OnDisk) (d : DraftParts) where
  -- with a checkpoint behind the commit
  pub ends_long : (mid : StoreState D) (o : Outputs) (r : Result (StoreState D) (CommitErr D)) →
      Commits view k u v d (Ok (mid, o)) → nat_lt size_limit v.size ≡ true → Moves view mid v (checkpointed v) r →
      EndsWritten view k u v d (paired r o)
  ends_long mid o r is long moves =
      whether_true (nat_lt size_limit v.size) (EndsLong view k u v (checkpointed v) d (paired r o)) (Commits view k
      u v d (paired r o)) long
      (long_ends view k mid u v d is.0.1 is.0.2 is.0.0 r o is.1 moves)

  -- with the commit
  pub ends_short : (r : Result (StoreState D × Outputs) (CommitErr D)) → Commits view k u v d r →
      nat_lt size_limit v.size ≡ false → EndsWritten view k u v d r
  ends_short r is short =
      whether_false (nat_lt size_limit v.size) (EndsLong view k u v (checkpointed v) d r) (Commits
      view k u v d r) short is

  -- with a commit that was not done
  pub ends_failed : (fault : CommitErr D) → Commits view k u v d (Err fault) → EndsWritten view k u v d (Err fault)
  ends_failed (Lost disk) is = failed (nat_lt size_limit v.size)
    where
      failed : (b : Bool) →
          Either b (EndsLong view k u v (checkpointed v) d (Err (Lost disk))) (Commits view k u v d (Err (Lost disk)))
      failed true = inl is
      failed false = is
  ends_failed (NoMemory disk) is = failed (nat_lt size_limit v.size)
    where
      failed : (b : Bool) →
          Either b (EndsLong view k u v (checkpointed v) d (Err (NoMemory disk))) (Commits view k u v
          d (Err (NoMemory disk)))
      failed true = inl is
      failed false = is

-- ---- moments of a commit and of the checkpoint behind it

pub paired_moments : {D : Type 0} (view : D → DiskView) (P : Image →
    Type 0) (old : DiskView) (r : Result (StoreState D) (CommitErr D)) (o : Outputs) →
    EachMoment view (λ s. s.disk) P old r → EachMoment view (λ done. done.0.disk) P old (paired r o)
paired_moments view P old (Ok store) o is = is
paired_moments view P old (Err (Lost disk)) o is = is
paired_moments view P old (Err (NoMemory disk)) o is = is

pub event_moments : {D : Type 0} (view : D →
    DiskView) (k mid : StoreState D) (u v w : OnDisk) (o : Outputs) (r : Result (StoreState D) (CommitErr D)) → mid.id ≡ k.id →
    LeavesOnly (view k.disk) (view mid.disk) (IsEither k.id u v) →
    EachMoment view (λ s. s.disk) (IsEither mid.id v w) (view mid.disk) r →
    EachMoment view (λ (done : StoreState D × Outputs). done.0.disk) (IsOneOfThree k.id u v w) (view k.disk) (paired r o)
event_moments {D} view k mid u v w o r id_is first second =
    moments_joined k.id u v w view (λ (done : StoreState D × Outputs). done.0.disk) (view k.disk) (view
    mid.disk) (paired r o) first
    (paired_moments view (IsEither k.id v w) (view mid.disk) r
    o (subst (λ id. EachMoment view (λ (s : StoreState D). s.disk) (IsEither id v w) (view mid.disk) r) id_is second))
