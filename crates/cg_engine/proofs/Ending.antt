-- How an event ends, put together from its commit and what follows it.
use Rattle.std.proofs.Common.{◌≡◌, List, [], ◌∙◌, inl, inr, ℕ, nat_lt, Bool, true, false, Option, Some, None, Result, Ok, Err, refl, sym, ap, subst, arith}
use Rattle.std.specs.Prelude.{◌<◌, IfSome}
use Rattle.std.specs.Option.{option_map}
use Rattle.cg_base.specs.declared.action_id.ActionId.{ActionId}
use Rattle.cg_base.specs.Choice.{Either}
use Rattle.cg_disk.specs.State.{DiskState, DiskStrike}
use Rattle.cg_disk.specs.View.{DiskView, IsView, IsAtRest, LeavesOnly}
use Rattle.cg_client.specs.declared.parts.DraftParts.{DraftParts}
use Rattle.cg_client.specs.Replica.{Replica}
use Rattle.cg_client.specs.Turn.{Turn}
use Rattle.cg_client.specs.Calls.{IsLineGreen}
use Rattle.cg_disk_records.specs.Stored.{whiten}
use Rattle.cg_disk_records.specs.Checkpoint.{size_limit}
use Rattle.cg_disk_records.specs.Commit.{commits}
use Rattle.cg_disk_records.specs.Crash.{whitened}
use Rattle.cg_model.specs.Following.{Follows}
use Rattle.cg_store.specs.Answers.{IsRefused, EachMoment}
use Rattle.cg_store.specs.Calls.{Commits, Keeps, EndsWritten, IsEither, IsOneOfThree, paired}
use Rattle.cg_store.specs.EndingLaws.{commit_stands, commit_is_written, keep_stands, keep_is_not_written, ends_long, ends_short, ends_failed, event_moments}
use Rattle.cg_store.specs.MomentLaws.{stands_once, leaves_first}
use Rattle.cg_store.specs.StoreState.{StoreState}
use Rattle.cg_store.specs.Stands.{OnDisk, Stands, disk_of, committed, checkpointed}
use Rattle.cg_store.specs.declared.errors.CommitErr.{CommitErr}
use Rattle.cg_store.specs.declared.errors.CommitErr.TheVariants.{Lost, NoMemory}
use Rattle.cg_store.specs.declared.outputs.Outputs.{Outputs}
use Rattle.cg_engine.specs.Seen.{turn_of}
use Rattle.cg_engine.specs.Answers.{parts_of, answer_of, Leaves, EndsEvent}
use Rattle.cg_engine.specs.Engines.{Fallen}
use Rattle.cg_engine.specs.Ending.{MayEnd, MaySave, MayGoOn, up, wreck_of, fail_event, saved, Checkpoints, Saves, GoesOn}
use Rattle.cg_engine.specs.declared.answers.Handled.{Handled}
use Rattle.cg_engine.specs.declared.answers.Handled.TheVariants as handled
use Rattle.cg_engine.specs.declared.wreck.LastEvent.{LastEvent}
use Rattle.cg_journal.specs.ViewLaws.{weakened}

-- ---- the disk of a store that is given up

pub refused_as : {D : Type 0} (disk now : D) (id own count : ℕ) (green : List ActionId) (w : Fallen D) → w ≡ record { disk = now; id = id; count = count; green = green } → now ≡ disk → id ≡ own → green ≡ [] →
    wreck_of disk own (record { count = count; green = [] }) ≡ w
refused_as disk now id own count green w is here same none = (λ i. record { disk = sym here i; id = sym same i; count = count; green = sym none i }) ∙ sym is

pub fail_event_as : {D : Type 0} (fault : CommitErr D) (id own : ℕ) (last : LastEvent) (result : Handled D) → result ≡ fail_event fault id last → id ≡ own → fail_event fault own last ≡ result
fail_event_as fault id own last result is same = sym (is ∙ ap (λ n. fail_event fault n last) same)

-- ---- no call was made

pub if_mapped : (o : Option DiskState) (P : Option DiskStrike → Type 0) → IfSome o (λ s. P s.strike) → IfSome (option_map (λ (s : DiskState). s.strike) o) P
if_mapped None P is = tt
if_mapped (Some s) P is = is

module _ {D : Type 0} (view : D → DiskView) (k : StoreState D) (u : OnDisk) (is : IsView (view k.disk)) (rest : IsAtRest (view k.disk)) (stands : Stands k.id (view k.disk).reads u) where
  -- a disk at rest leaves what it stands for
  pub resting : LeavesOnly (view k.disk) (view k.disk) (λ c. Stands k.id c u)
  resting = record {
    later = omega arith;
    each = λ c left. subst (λ x. Stands k.id x u) (sym (rest.only c (is.only_now c left))) stands;
    before = λ t c le left. inl left;
  }

  refused : IsRefused k.id 2 u (view k.disk) (view k.disk)
  refused = record {
    stands = stands;
    rest = rest;
    time = omega arith;
    unstruck = record { faults = refl; stays = refl; ahead = if_mapped (view k.disk).state (λ strike. IfSome strike (λ s. (view k.disk).time < s.call)) is.ahead };
  }

  -- memory was refused before the first call
  pub refuses : (t : Turn) (written : Bool) (last : LastEvent) → EndsEvent view k last.count u t written (handled.NoMemory (wreck_of k.disk k.id last))
  refuses t true last = record {
    ends = ends_failed view k u (committed k.unwritten t u) (parts_of t) (NoMemory k.disk) refused;
    leaves = (record { id_is = refl; count_is = refl }, inr stands);
    moments = weakened (view k.disk) (view k.disk) (λ c. Stands k.id c u) (IsOneOfThree k.id u (committed k.unwritten t u) (checkpointed (committed k.unwritten t u))) resting (λ c here. inl here);
  }
  refuses t false last = record { ends = refl; leaves = (record { id_is = refl; count_is = refl }, inr stands); moments = resting }

-- ---- what follows a commit

answer_saved : {D : Type 0} (a : Result (StoreState D) (CommitErr D)) (r : Replica) (o : Outputs) (id : ℕ) (last : LastEvent) → answer_of (saved a r o id last) ≡ paired a o
answer_saved (Ok store) r o id last = refl
answer_saved (Err (Lost disk)) r o id last = refl
answer_saved (Err (NoMemory disk)) r o id last = refl

module _ {D : Type 0} (view : D → DiskView) (k : StoreState D) (u : OnDisk) (r : Replica) (d : DraftParts) (last : LastEvent) (named : last.green ≡ d.green) where
  abbrev turn : Turn
  turn = turn_of r d

  abbrev after : OnDisk
  after = committed k.unwritten turn u

  fail_event_leaves : (fault : CommitErr D) (id : ℕ) (written : Bool) → id ≡ k.id → Leaves view k.id last.count u turn written (fail_event fault id last)
  fail_event_leaves (Lost disk) id written same = (record { id_is = same; count_is = refl }, named)
  fail_event_leaves (NoMemory disk) id written same = (record { id_is = same; count_is = refl }, inl named)

  saved_leaves : (a : Result (StoreState D) (CommitErr D)) (o : Outputs) (id : ℕ) → id ≡ k.id → Leaves view k.id last.count u turn true (saved a (whitened r) o id last)
  saved_leaves (Ok store) o id same = refl
  saved_leaves (Err fault) o id same = fail_event_leaves fault id true same

  -- a commit that was not done ends the event
  pub failed : IsView (view k.disk) → IsAtRest (view k.disk) → Stands k.id (view k.disk).reads u → (fault : CommitErr D) (b : Bool) →
      Either b (Commits view k u after d (Err fault)) (Keeps k d (Err fault)) → EachMoment {T = StoreState D × Outputs} view (λ done. done.0.disk) (IsEither k.id u after) (view k.disk) (Err fault) →
      EndsEvent view k last.count u turn b (fail_event fault k.id last)
  failed is rest stands (Lost disk) true ends moments = record {
    ends = ends_failed view k u after d (Lost disk) ends;
    leaves = fail_event_leaves (Lost disk) k.id true refl;
    moments = leaves_first k.id u after (checkpointed after) (view k.disk) (view disk) moments;
  }
  failed is rest stands (NoMemory disk) true ends moments = record {
    ends = ends_failed view k u after d (NoMemory disk) ends;
    leaves = fail_event_leaves (NoMemory disk) k.id true refl;
    moments = leaves_first k.id u after (checkpointed after) (view k.disk) (view disk) moments;
  }
  failed is rest stands (Lost disk) false ends moments = absurd ends
  failed is rest stands (NoMemory disk) false ends moments = record {
    ends = ends;
    leaves = fail_event_leaves (NoMemory disk) k.id false refl;
    moments = subst (λ (x : D). LeavesOnly (view k.disk) (view x) (λ c. Stands k.id c u)) (sym ends) (resting view k u is rest stands);
  }

  module _ (mid : StoreState D) (o : Outputs) (result : Handled D) where
    -- behind a commit
    long : Commits view k u after d (Ok (mid, o)) → LeavesOnly (view k.disk) (view mid.disk) (IsEither k.id u after) → nat_lt size_limit after.size ≡ true →
        Checkpoints view mid after (whitened r) o last result → EndsEvent view k last.count u turn true result
    long ends first size is =
        let then = saved is.answer (whitened r) o mid.id last in
        let same : answer_of then ≡ paired is.answer o = answer_saved is.answer (whitened r) o mid.id last in
        subst (λ x. EndsEvent view k last.count u turn true x) (sym is.is) (record {
          ends = subst (λ x. EndsWritten view k u after d x) (sym same) (ends_long view k u after d mid o is.answer ends size is.moves);
          leaves = saved_leaves is.answer o mid.id ends.0.1;
          moments = subst (λ x. EachMoment view (λ (done : StoreState D × Outputs). done.0.disk) (IsOneOfThree k.id u after (checkpointed after)) (view k.disk) x) (sym same)
              (event_moments view k mid u after (checkpointed after) o is.answer ends.0.1 first is.moments);
        })

    short : Commits view k u after d (Ok (mid, o)) → LeavesOnly (view k.disk) (view mid.disk) (IsEither k.id u after) → nat_lt size_limit after.size ≡ false →
        result ≡ handled.Running (up mid (whitened r)) o → EndsEvent view k last.count u turn true result
    short ends first size is =
        subst (λ x. EndsEvent view k last.count u turn true x) (sym is) (record {
          ends = ends_short view k u after d (Ok (mid, o)) ends size;
          leaves = refl;
          moments = leaves_first k.id u after (checkpointed after) (view k.disk) (view mid.disk) first;
        })

    by_size : (b : Bool) → nat_lt size_limit after.size ≡ b → Commits view k u after d (Ok (mid, o)) → LeavesOnly (view k.disk) (view mid.disk) (IsEither k.id u after) →
        Either b (Checkpoints view mid after (whitened r) o last result) (result ≡ handled.Running (up mid (whitened r)) o) → EndsEvent view k last.count u turn true result
    by_size true size ends first is = long ends first size is
    by_size false size ends first is = short ends first size is

    pub ends_with : IsView (view k.disk) → IsAtRest (view k.disk) → Stands k.id (view k.disk).reads u → (b : Bool) →
        Either b (Commits view k u after d (Ok (mid, o))) (Keeps k d (Ok (mid, o))) → LeavesOnly (view k.disk) (view mid.disk) (IsEither k.id u after) →
        ((w : OnDisk) → Stands mid.id (view mid.disk).reads w → GoesOn view mid w r o last result) → EndsEvent view k last.count u turn b result
    ends_with is rest stands true ends first goes =
        let saves = subst (λ x. Either x (Saves view mid after (whitened r) o last result) (result ≡ handled.Running (up mid r) o)) (commit_is_written view k mid u after d o ends)
        (goes after (commit_stands view k mid u after d o ends)) in
        by_size (nat_lt size_limit after.size) refl ends first saves
    ends_with is rest stands false ends first goes =
        let same = subst (λ x. Either x (Saves view mid u (whitened r) o last result) (result ≡ handled.Running (up mid r) o)) (keep_is_not_written view k mid u after d o ends)
        (goes u (keep_stands view k mid u after d o ends stands)) in
        subst (λ x. EndsEvent view k last.count u turn false x) (sym same) (record {
          ends = ends;
          leaves = refl;
          moments = subst (λ (x : StoreState D). LeavesOnly (view k.disk) (view x.disk) (λ c. Stands k.id c u)) (sym ends.0) (resting view k u is rest stands);
        })

  -- what follows may be done
  pub may_go_on : MayEnd k.unwritten u turn → Stands k.id (view k.disk).reads u → (mid : StoreState D) (o : Outputs) (b : Bool) → commits u.content turn ≡ b →
      Either b (Commits view k u after d (Ok (mid, o))) (Keeps k d (Ok (mid, o))) → (w : OnDisk) → Stands mid.id (view mid.disk).reads w → MayGoOn o.written mid.unwritten w r.held
  may_go_on may stands mid o true test ends w here =
      let same : after ≡ w = stands_once mid.id (view mid.disk).reads after w (commit_stands view k mid u after d o ends) here in
      let save : MaySave mid.unwritten after (whiten r.held) = record {
        held = refl;
        agrees = may.agrees;
        follows = subst (λ x. Follows (disk_of x after) (whiten r.held)) (sym ends.0.2) may.changed;
        later = subst (λ x. Follows (disk_of x (checkpointed after)) (whiten r.held)) (sym ends.0.2) may.saved;
      } in
      subst (λ x. Either x (IsLineGreen r.held × MaySave mid.unwritten w (whiten r.held)) (Follows (disk_of mid.unwritten w) r.held)) (sym (commit_is_written view k mid u after d o ends))
      (may.line, subst (λ x. MaySave mid.unwritten x (whiten r.held)) same save)
  may_go_on may stands mid o false test ends w here =
      let same : u ≡ w = stands_once mid.id (view mid.disk).reads u w (keep_stands view k mid u after d o ends stands) here in
      let follows : Follows (disk_of mid.unwritten u) r.held = subst (λ (x : StoreState D). Follows (disk_of x.unwritten u) r.held) (sym ends.0) (may.kept test) in
      subst (λ x. Either x (IsLineGreen r.held × MaySave mid.unwritten w (whiten r.held)) (Follows (disk_of mid.unwritten w) r.held)) (sym (keep_is_not_written view k mid u after d o ends))
      (subst (λ x. Follows (disk_of mid.unwritten x) r.held) same follows)
