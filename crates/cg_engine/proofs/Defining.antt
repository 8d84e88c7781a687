-- An engine's event is that of the account: whatever strikes leaves the disk and the names that the account has.
use Rattle.std.proofs.Common.{◌≡◌, ◌⊎◌, ⊎_elim, ℕ, ◌+◌, ◌-◌, ◌<◌, ◌≤◌, nat_lt, nat_le, List, [], ◌∷◌, ◌++◌, length, Bool, true, false, Option, Some, None, Ok, Err, refl, sym, ◌∙◌, ap, subst, arith, if◌then◌else◌}
use Rattle.std.specs.Prelude.{IfSome}
use Rattle.std.specs.Option.{option_map}
use Rattle.std.proofs.lemmas.Bool.Decides.{nat_tests}
use Rattle.cg_base.specs.declared.action_id.ActionId.{ActionId}
use Rattle.cg_base.specs.Choice.{Either}
use Rattle.cg_action.specs.declared.action.Action.{Action}
use Rattle.cg_disk.specs.Calls.{Begins}
use Rattle.cg_disk.specs.State.{DiskState, DiskStrike, Blow, left_by}
use Rattle.cg_disk.specs.View.{DiskView}
use Rattle.cg_journal.specs.Adds.{gate_stands}
use Rattle.cg_journal.specs.Strikes.{strike_of, IsUnstruck}
use Rattle.cg_queue.specs.Queue.{green_count}
use Rattle.cg_client.specs.Replica.{Held}
use Rattle.cg_client.specs.Turn.{Turn}
use Rattle.cg_disk_records.specs.Checkpoint.{size_limit}
use Rattle.cg_disk_records.specs.Commit.{commits}
use Rattle.cg_disk_records.specs.Crash.{Strike, Disk, EventEnd, Runs, Crashes, with_change, with_checkpoint, calls_of, checkpointed as with_long, is_committed, is_checkpointed, at_rest, crash_outcome, whitened, struck, commit_under, end_event}
use Rattle.cg_store.specs.Answers.{IsLost}
use Rattle.cg_store.specs.Calls.{Commits, EndsLong}
use Rattle.cg_store.specs.Defined.{strike_at, EndsAsDefined as StrikesEndAsDefined}
use Rattle.cg_store.specs.StoreState.{StoreState}
use Rattle.cg_store.specs.declared.errors.CommitErr.TheVariants.{Lost}
use Rattle.cg_store.specs.declared.outputs.Outputs.{Outputs}
use Rattle.cg_store.specs.Stands.{OnDisk, Stands, disk_of, committed, checkpointed}
use Rattle.cg_engine.specs.Engines.{Up, Fallen, told}
use Rattle.cg_engine.specs.Defined.{strike_from, account, RunsAsDefined, FallsAsDefined, EndsAsDefined}
use Rattle.cg_engine.specs.Answers.{parts_of, IsLeft, EndsEvent, HandlesEvent}
use Rattle.cg_engine.specs.declared.answers.Handled.{Handled}
use Rattle.cg_engine.specs.declared.answers.Handled.TheVariants as handled
use Rattle.cg_store.specs.StrikeLaws.{outcome, early_commit, early_checkpoint, late_commit}

-- ---- the names that are told

told_none : {D : Type 0} (w : Fallen D) (h : Held) → green_count h.queue ≡ w.count → told w h ≡ []
told_none w h same =
    let none : nat_lt w.count (green_count h.queue) ≡ false = grind (arith, nat_tests, same) in
    rw none refl

told_all : {D : Type 0} (w : Fallen D) (h : Held) (green : List ActionId) → w.green ≡ green → green_count h.queue ≡ w.count + length green → told w h ≡ green
told_all w h [] is count = at (nat_lt w.count (green_count h.queue)) where
  at : (b : Bool) → (if b then w.green else []) ≡ []
  at true = is
  at false = refl
told_all w h (id ∷ green) is count =
    let more : nat_lt w.count (green_count h.queue) ≡ true = grind (arith, nat_tests, count) in
    rw more is

-- ---- a disk on which a strike is armed

abbrev armed_with : Option Strike → Disk → Disk
armed_with a d = record d { armed = a }

outcome_armed : (a : Option Strike) (d : Disk) (t : Turn) (x y : Bool) → at_rest (outcome (armed_with a d) t x y) ≡ at_rest (outcome d t x y)
unfolding with_change with_checkpoint
outcome_armed a d t true y = refl
outcome_armed a d t false true = refl
outcome_armed a d t false false = refl

crash_armed : (a : Option Strike) (d : Disk) (t : Turn) (strike : Strike) → at_rest (crash_outcome (armed_with a d) t strike) ≡ at_rest (crash_outcome d t strike)
unfolding crash_outcome
crash_armed a d t strike = outcome_armed a d t (is_checkpointed strike) (is_committed strike)

change_armed : (a : Option Strike) (d : Disk) (t : Turn) → with_change (armed_with a d) t ≡ armed_with a (with_change d t)
unfolding with_change
change_armed a d t = refl

checkpoint_armed : (a : Option Strike) (d : Disk) → with_checkpoint (armed_with a d) ≡ armed_with a (with_checkpoint d)
unfolding with_checkpoint
checkpoint_armed a d = refl

-- ---- which calls commit

-- ---- the account of a commit

module _ (strikes : StrikesEndAsDefined) (unwritten : List Action) (u : OnDisk) (t : Turn) (now : ℕ) (fill : List ℕ) where
  abbrev after : OnDisk
  after = committed unwritten t u

  abbrev arms : Option DiskStrike → Option Strike
  arms a = option_map (strike_from now fill) a

  abbrev from : Option DiskStrike → Disk
  from a = armed_with (arms a) (disk_of unwritten u)

  abbrev calls : Bool → ℕ
  calls long = if long then 10 else 4

  abbrev reached : Bool → OnDisk
  reached long = if long then checkpointed after else after

  changed_is : (a : Option DiskStrike) → with_change (from a) t ≡ armed_with (arms a) (disk_of [] after)
  changed_is a = change_armed (arms a) (disk_of unwritten u) t ∙ ap (armed_with (arms a)) (sym (strikes.commit unwritten t u))

  abbrev by_length : Disk → Bool → Disk
  by_length d long = if long then with_checkpoint d else d

  done_is : (long : Bool) → nat_lt size_limit after.size ≡ long → (a : Option DiskStrike) → with_long (with_change (from a) t) ≡ armed_with (arms a) (disk_of [] (reached long))
  done_is true e a =
      ap with_long (changed_is a) ∙ ap (by_length (armed_with (arms a) (disk_of [] after))) e
      ∙ checkpoint_armed (arms a) (disk_of [] after) ∙ ap (armed_with (arms a)) (sym (strikes.checkpoint after))
  done_is false e a = ap with_long (changed_is a) ∙ ap (by_length (armed_with (arms a) (disk_of [] after))) e

  calls_is : (long : Bool) → nat_lt size_limit after.size ≡ long → (a : Option DiskStrike) → calls_of (with_change (from a) t) ≡ calls long
  calls_is long e a = ap calls_of (changed_is a) ∙ ap calls e

  abbrev body : Disk → Strike → Bool → ℕ → Disk → EventEnd
  body d strike b c done = if b then struck d t strike else Runs (whitened t.replica) (record done { armed = Some (record strike { call = strike.call - c }) })

  runs_is : (long : Bool) → nat_lt size_limit after.size ≡ long → (a : Option DiskStrike) → IfSome a (λ k. now + calls long < k.call) →
      commit_under (arms a) (from a) t ≡ Runs (whitened t.replica) (armed_with (option_map (strike_from (now + calls long) fill) a) (disk_of [] (reached long)))
  runs_is long e None ahead = ap (λ d. Runs (whitened t.replica) d) (done_is long e None)
  runs_is long e (Some k) ahead =
      let strike = strike_from now fill k in
      let c = calls_is long e (Some k) in
      let late : nat_le (k.call - now) (calls long) ≡ false = is_late (calls long) ahead in
      let left : (k.call - now) - calls long ≡ k.call - (now + calls long) = omega arith in
      ap (λ (n : ℕ). body (from (Some k)) strike (nat_le strike.call n) n (with_long (with_change (from (Some k)) t))) c
      ∙ ap (λ (b : Bool). body (from (Some k)) strike b (calls long) (with_long (with_change (from (Some k)) t))) late
      ∙ ap (λ (d : Disk). body (from (Some k)) strike false (calls long) d) (done_is long e (Some k))
      ∙ (λ i. Runs (whitened t.replica) (armed_with (Some (strike_at (left i) k.blow fill)) (disk_of [] (reached long))))
    where
      is_late : (n : ℕ) → now + n < k.call → nat_le (k.call - now) n ≡ false
      is_late n lt = grind (arith, nat_tests)

  -- the strike in one of the calls
  struck_is : (long : Bool) → nat_lt size_limit after.size ≡ long → (k : DiskStrike) (n : ℕ) → k.call ≡ now + n → n ≤ calls long →
      commit_under (arms (Some k)) (from (Some k)) t ≡ Crashes (at_rest (crash_outcome (disk_of unwritten u) t (strike_at n k.blow fill))) (if is_committed (strike_at n k.blow fill) then t.green else [])
  struck_is long e k n call within =
      let strike = strike_from now fill k in
      let same : k.call - now ≡ n = omega (arith, call) in
      let in_time : nat_le n (calls long) ≡ true = is_in_time (calls long) within in
      ap (λ (m : ℕ). body (from (Some k)) strike (nat_le strike.call m) m (with_long (with_change (from (Some k)) t))) (calls_is long e (Some k))
      ∙ ap (λ (m : ℕ). body (from (Some k)) strike (nat_le m (calls long)) (calls long) (with_long (with_change (from (Some k)) t))) same
      ∙ ap (λ (b : Bool). body (from (Some k)) strike b (calls long) (with_long (with_change (from (Some k)) t))) in_time
      ∙ ap (λ (m : ℕ). struck (from (Some k)) t (strike_at m k.blow fill)) same
      ∙ ap (λ d. Crashes d (if is_committed (strike_at n k.blow fill) then t.green else [])) (crash_armed (arms (Some k)) (disk_of unwritten u) t (strike_at n k.blow fill))
    where
      is_in_time : (m : ℕ) → n ≤ m → nat_le n m ≡ true
      is_in_time m le = grind (arith, nat_tests)

  -- between the commit's calls and those that write a checkpoint
  closing_is : (n : ℕ) (blow : Blow) → 5 ≤ n → n ≤ 8 → at_rest (crash_outcome (disk_of unwritten u) t (strike_at n blow fill)) ≡ disk_of [] after
  unfolding crash_outcome
  closing_is n blow low high =
      ap (λ x. at_rest (outcome (disk_of unwritten u) t x (is_committed (strike_at n blow fill)))) (early_checkpoint n blow fill high)
      ∙ ap (λ x. at_rest (outcome (disk_of unwritten u) t false x)) (late_commit n blow fill low)
      ∙ ap at_rest (sym (strikes.commit unwritten t u))

-- ---- an event

event_writes : (disk : Disk) (old : Held) (t : Turn) → commits old t ≡ true → end_event disk old t ≡ commit_under disk.armed disk t
unfolding end_event
event_writes disk old t test = ap (λ b. if b then commit_under disk.armed disk t else Runs t.replica (record disk { unwritten = disk.unwritten ++ t.known })) test

event_keeps : (disk : Disk) (old : Held) (t : Turn) → commits old t ≡ false → end_event disk old t ≡ Runs t.replica (record disk { unwritten = disk.unwritten ++ t.known })
unfolding end_event
event_keeps disk old t test = ap (λ b. if b then commit_under disk.armed disk t else Runs t.replica (record disk { unwritten = disk.unwritten ++ t.known })) test

-- a told strike that is still to come
strike_kept : (old new : DiskView) (s z : DiskState) → IsUnstruck old new → old.state ≡ Some s → new.state ≡ Some z → (z.strike ≡ s.strike) × IfSome z.strike (λ k. new.time < k.call)
strike_kept old new s z unstruck is now =
    let there : strike_of new ≡ Some z.strike = ap (option_map (λ (x : DiskState). x.strike)) now in
    let here : strike_of old ≡ Some s.strike = ap (option_map (λ (x : DiskState). x.strike)) is in
    let both : Some z.strike ≡ Some s.strike = sym there ∙ unstruck.stays ∙ here in
    (let same : z.strike ≡ s.strike = cc in same, subst (λ x. IfSome x (λ strike. IfSome strike (λ k. new.time < k.call))) there unstruck.ahead)

module _ {D : Type 0} (view : D → DiskView) (strikes : StrikesEndAsDefined) (old : Up D) (u : OnDisk) (t : Turn) (fill : List ℕ) (s : DiskState) (state : (view old.store.disk).state ≡ Some s) where
  abbrev behind : OnDisk
  behind = committed old.store.unwritten t u

  abbrev now : ℕ
  now = (view old.store.disk).time

  abbrev disk_before : Disk
  disk_before = account old.store.unwritten u now fill s

  module _ (mid : D) (begins : Begins (view old.store.disk) (view mid)) (test : commits old.replica.held t ≡ true) where
    mid_state : (view mid).state ≡ Some s
    mid_state = begins.state ∙ state

    -- ---- it ends with the replica after it

    ran : (e : Up D) (long : Bool) → nat_lt size_limit behind.size ≡ long → (z : DiskState) → (view e.store.disk).state ≡ Some z → (view e.store.disk).time ≡ (view mid).time + (if long then 10 else 4) → IsUnstruck (view mid) (view e.store.disk) →
        e.store.unwritten ≡ [] → e.replica ≡ whitened t.replica → Stands e.store.id (view e.store.disk).reads (if long then checkpointed behind else behind) → RunsAsDefined view disk_before old.replica.held t fill e
    ran e long size z shown time unstruck none replica stands =
        let kept = strike_kept (view mid) (view e.store.disk) s z unstruck mid_state shown in
        let clock : (view e.store.disk).time ≡ now + (if long then 10 else 4) = time ∙ ap (λ n. n + (if long then 10 else 4)) begins.time in
        let ahead : IfSome s.strike (λ k. now + (if long then 10 else 4) < k.call) = subst (λ n. IfSome s.strike (λ k. n < k.call)) clock (subst (λ a. IfSome a (λ k. (view e.store.disk).time < k.call)) kept.0 kept.1) in
        let x : OnDisk = if long then checkpointed behind else behind in
        record {
          standing = x;
          stands = stands;
          state = z;
          told = shown;
          is = event_writes disk_before old.replica.held t test
              ∙ runs_is strikes old.store.unwritten u t now fill long size s.strike ahead
              ∙ (λ i. Runs (sym replica i) (armed_with (option_map (strike_from (sym clock i) fill) (sym kept.0 i)) (disk_of (sym none i) x)));
        }

    -- ---- or in a crash

    module _ (w : Fallen D) (e : DiskState) (shown : (view w.disk).state ≡ Some e) (id_is : w.id ≡ old.store.id) (green_is : w.green ≡ t.green)
        (count_u : green_count u.content.queue ≡ w.count) (count_v : green_count behind.content.queue ≡ w.count + length t.green) where
      names : (b : Bool) → (if b then t.green else []) ≡ told w (if b then behind else u).content
      names true = sym (told_all w behind.content t.green green_is count_v)
      names false = sym (told_none w u.content count_u)

      names_behind : (b : Bool) → t.green ≡ told w (if b then checkpointed behind else behind).content
      names_behind true = sym (told_all w behind.content t.green green_is count_v)
      names_behind false = sym (told_all w behind.content t.green green_is count_v)

      fell : (long : Bool) → nat_lt size_limit behind.size ≡ long → (x : OnDisk) (k : DiskStrike) (n : ℕ) → s.strike ≡ Some k → k.call ≡ now + n → n ≤ (if long then 10 else 4) →
          at_rest (crash_outcome (disk_of old.store.unwritten u) t (strike_at n k.blow fill)) ≡ disk_of [] x → (if is_committed (strike_at n k.blow fill) then t.green else []) ≡ told w x.content →
          Stands old.store.id (left_by e fill) x → FallsAsDefined view disk_before old.replica.held t fill w
      fell long size x k n armed call within outcome_is names_are stands = record {
        standing = x;
        state = e;
        shown = shown;
        stands = subst (λ id. Stands id (left_by e fill) x) (sym id_is) stands;
        is = event_writes disk_before old.replica.held t test
            ∙ ap (λ a. commit_under (option_map (strike_from now fill) a) (armed_with (option_map (strike_from now fill) a) (disk_of old.store.unwritten u)) t) armed
            ∙ struck_is strikes old.store.unwritten u t now fill long size k n call within
            ∙ (λ i. Crashes (outcome_is i) (names_are i));
      }

      -- the strike that was reached
      struck_at : (id earlier : ℕ) (x y : OnDisk) (lost : IsLost id earlier x y (view mid) (view w.disk)) → (k : DiskStrike) → s.strike ≡ Some k → k.call ≡ now + (earlier + lost.call)
      struck_at id earlier x y lost k armed =
          let found = lost.struck.reached s mid_state in
          let same : found.0 ≡ k = (let a = found.1 in cc) in
          sym (ap (λ (y : DiskStrike). y.call) same) ∙ found.2 ∙ omega (arith, lost.time, begins.time)

      pub fell_in_change : (long : Bool) → nat_lt size_limit behind.size ≡ long → IsLost old.store.id 0 u behind (view mid) (view w.disk) → FallsAsDefined view disk_before old.replica.held t fill w
      fell_in_change long size lost =
          let cut = lost.told s e mid_state shown in
          let k = cut.strike in
          let few : lost.call ≤ (if long then 10 else 4) = within long lost.within.1 in
          let call : k.call ≡ now + lost.call = struck_at old.store.id 0 u behind lost k cut.armed ∙ omega arith in
          fell long size (if gate_stands k.blow lost.call fill then behind else u) k lost.call cut.armed call few
          (strikes.in_change old.store.unwritten t u lost.call k.blow fill lost.within.1)
          (ap (λ b. if b then t.green else []) (early_commit lost.call k.blow fill lost.within.1) ∙ names (gate_stands k.blow lost.call fill)) (cut.fills fill)
        where
          within : (long : Bool) → lost.call ≤ 4 → lost.call ≤ (if long then 10 else 4)
          within true le = omega (arith, le)
          within false le = le

      fell_in_closing : nat_lt size_limit behind.size ≡ true → IsLost old.store.id 4 behind behind (view mid) (view w.disk) → FallsAsDefined view disk_before old.replica.held t fill w
      fell_in_closing size lost =
          let cut = lost.told s e mid_state shown in
          let k = cut.strike in
          let low : 5 ≤ 4 + lost.call = omega (arith, lost.within.0) in
          let high : 4 + lost.call ≤ 8 = omega (arith, lost.within.1) in
          fell true size behind k (4 + lost.call) cut.armed (struck_at old.store.id 4 behind behind lost k cut.armed) (omega (arith, high))
          (closing_is strikes old.store.unwritten u t now fill (4 + lost.call) k.blow low high)
          (ap (λ b. if b then t.green else []) (late_commit (4 + lost.call) k.blow fill low) ∙ names_behind false)
          (one (gate_stands k.blow lost.call fill) (cut.fills fill))
        where
          one : (b : Bool) → Stands old.store.id (left_by e fill) (if b then behind else behind) → Stands old.store.id (left_by e fill) behind
          one true is = is
          one false is = is

      fell_in_checkpoint : nat_lt size_limit behind.size ≡ true → IsLost old.store.id 6 behind (checkpointed behind) (view mid) (view w.disk) → FallsAsDefined view disk_before old.replica.held t fill w
      fell_in_checkpoint size lost =
          let cut = lost.told s e mid_state shown in
          let k = cut.strike in
          let low : 5 ≤ 6 + lost.call = omega arith in
          fell true size (if gate_stands k.blow lost.call fill then checkpointed behind else behind) k (6 + lost.call) cut.armed (struck_at old.store.id 6 behind (checkpointed behind) lost k cut.armed) (omega (arith, lost.within.1))
          (strikes.in_checkpoint old.store.unwritten t u lost.call k.blow fill lost.within.1)
          (ap (λ b. if b then t.green else []) (late_commit (6 + lost.call) k.blow fill low) ∙ names_behind (gate_stands k.blow lost.call fill)) (cut.fills fill)

      pub fell_long : nat_lt size_limit behind.size ≡ true →
          IsLost old.store.id 0 u behind (view mid) (view w.disk) ⊎ (IsLost old.store.id 4 behind behind (view mid) (view w.disk) ⊎ IsLost old.store.id 6 behind (checkpointed behind) (view mid) (view w.disk)) →
          FallsAsDefined view disk_before old.replica.held t fill w
      fell_long size lost = ⊎_elim (λ a. fell_in_change true size a) (λ rest. ⊎_elim (λ b. fell_in_closing size b) (λ c. fell_in_checkpoint size c) rest) lost

  -- ---- each way in which it ends

  module _ (tells : (d : D) → (z : DiskState) × ((view d).state ≡ Some z)) (count_u : green_count u.content.queue ≡ green_count old.replica.held.queue)
      (count_v : green_count behind.content.queue ≡ green_count old.replica.held.queue + length t.green) where
    abbrev begun : D → StoreState D
    begun mid = let k = old.store in record k { disk = mid }

    written_runs : (e : Up D) (o : Outputs) (mid : D) → Begins (view old.store.disk) (view mid) → commits old.replica.held t ≡ true → e.replica ≡ whitened t.replica →
        (long : Bool) → nat_lt size_limit behind.size ≡ long → Either long (EndsLong view (begun mid) u behind (checkpointed behind) (parts_of t) (Ok (e.store, o))) (Commits view (begun mid) u behind (parts_of t) (Ok (e.store, o))) →
        RunsAsDefined view disk_before old.replica.held t fill e
    written_runs e o mid begins test replica true size is =
        let z = tells e.store.disk in
        ran mid begins test e true size z.0 z.1 is.0.time is.0.unstruck is.2 replica (subst (λ id. Stands id (view e.store.disk).reads (checkpointed behind)) (sym is.1) is.0.stands)
    written_runs e o mid begins test replica false size is =
        let z = tells e.store.disk in
        ran mid begins test e false size z.0 z.1 is.0.0.time is.0.0.unstruck is.0.2 replica (subst (λ id. Stands id (view e.store.disk).reads behind) (sym is.0.1) is.0.0.stands)

    written_falls : (w : Fallen D) (mid : D) → Begins (view old.store.disk) (view mid) → commits old.replica.held t ≡ true → IsLeft old.store.id (green_count old.replica.held.queue) w → w.green ≡ t.green →
        (long : Bool) → nat_lt size_limit behind.size ≡ long →
        Either long (EndsLong view (begun mid) u behind (checkpointed behind) (parts_of t) (Err (Lost w.disk))) (Commits view (begun mid) u behind (parts_of t) (Err (Lost w.disk))) →
        FallsAsDefined view disk_before old.replica.held t fill w
    written_falls w mid begins test left green true size is =
        let e = tells w.disk in
        fell_long mid begins test w e.0 e.1 left.id_is green (count_u ∙ sym left.count_is) (count_v ∙ ap (λ n. n + length t.green) (sym left.count_is)) size is
    written_falls w mid begins test left green false size is =
        let e = tells w.disk in
        fell_in_change mid begins test w e.0 e.1 left.id_is green (count_u ∙ sym left.count_is) (count_v ∙ ap (λ n. n + length t.green) (sym left.count_is)) false size is

    kept_runs : (e : Up D) (mid : D) → Begins (view old.store.disk) (view mid) → commits old.replica.held t ≡ false → Stands old.store.id (view old.store.disk).reads u → e.replica ≡ t.replica →
        (let k = begun mid in e.store ≡ record k { unwritten = k.unwritten ++ t.known }) → RunsAsDefined view disk_before old.replica.held t fill e
    kept_runs e mid begins test stands replica store = record {
      standing = u;
      stands = subst (λ (x : StoreState D). Stands x.id (view x.disk).reads u) (sym store) (subst (λ c. Stands old.store.id c u) (sym begins.reads) stands);
      state = s;
      told = subst (λ (x : StoreState D). (view x.disk).state ≡ Some s) (sym store) (begins.state ∙ state);
      is = event_keeps disk_before old.replica.held t test
          ∙ (λ i. Runs (sym replica i) (account (old.store.unwritten ++ t.known) u (sym begins.time i) fill s))
          ∙ (λ i. Runs e.replica (account (sym store i).unwritten u (view (sym store i).disk).time fill s));
    }

    ends_at : (result : Handled D) (mid : D) → Begins (view old.store.disk) (view mid) → Stands old.store.id (view old.store.disk).reads u → (b : Bool) → commits old.replica.held t ≡ b →
        EndsEvent view (begun mid) (green_count old.replica.held.queue) u t b result → EndsAsDefined view disk_before old.replica.held t fill result
    ends_at (handled.Running e o) mid begins stands true test is = written_runs e o mid begins test is.leaves (nat_lt size_limit behind.size) refl is.ends
    ends_at (handled.Running e o) mid begins stands false test is = kept_runs e mid begins test stands is.leaves is.ends.0
    ends_at (handled.Down w) mid begins stands true test is = written_falls w mid begins test is.leaves.0 is.leaves.1 (nat_lt size_limit behind.size) refl is.ends
    ends_at (handled.Down w) mid begins stands false test is = absurd is.ends
    ends_at (handled.NoMemory w) mid begins stands b test is = tt

    pub ends_as_defined : (result : Handled D) → Stands old.store.id (view old.store.disk).reads u → HandlesEvent view old u t result → EndsAsDefined view disk_before old.replica.held t fill result
    ends_as_defined result stands is = ends_at result is.disk is.begins stands (commits old.replica.held t) refl is.ends
