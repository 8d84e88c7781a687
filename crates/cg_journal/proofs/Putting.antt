-- A write and its sync on a disk at rest.
use Rattle.std.proofs.Common.{◌≡◌, inl, inr, ℕ, ◌+◌, ◌≤◌, ◌<◌, ◌^◌, List, length, Option, Some, None, IfSome, Result, Ok, Err, OnOk, IsErrOf, refl, sym, ◌∙◌, ap, subst, arith}
use Rattle.std.specs.Option.{option_map}
use Rattle.cg_disk.specs.Sides.{Image}
use Rattle.cg_disk.specs.Writes.{TornSide, Follows, Only}
use Rattle.cg_disk.specs.State.{DiskState, Blow, Fails, Stops, after_blow, synced, looked, wrote}
use Rattle.cg_disk.specs.View.{DiskView, IsView, IsAtRest, IsSynced, LeavesOnly}
use Rattle.cg_disk.specs.Calls as calls
use Rattle.cg_disk.specs.declared.disk.Side.{Side}
use Rattle.cg_disk.specs.declared.disk.Side.TheVariants.{A, B}
use Rattle.cg_disk.specs.declared.disk.DiskFault.{DiskFault}
use Rattle.cg_disk.specs.declared.disk.DiskFault.TheVariants.{Failed, NoMemory}
use Rattle.cg_journal.specs.Put.{put_on, IsPut, IsCut, CutBy, IsKept, Puts}
use Rattle.cg_journal.proofs.Moments.{goes_on, torn_side_same, armed_at}
use Rattle.cg_journal.specs.ViewLaws.{ahead_of, started}

-- a write leaves the strike as it is
pub wrote_strike : (side : Side) (offset : ℕ) (bytes : List ℕ) (s : DiskState) → (wrote side offset bytes s).strike ≡ s.strike
wrote_strike A offset bytes s = refl
wrote_strike B offset bytes s = refl

module _ (side : Side) (offset : ℕ) (bytes : List ℕ) where
  -- what the first call leaves where it is struck
  cut_first : (blow : Blow) (n : ℕ) (s e : DiskState) → IsSynced s → e ≡ after_blow blow (wrote side offset bytes) n s → CutBy blow s (wrote side offset bytes s) 1 e
  cut_first Fails n s e clean left = (λ one. (ap (λ (x : DiskState). x.a) left ∙ sym clean.0, ap (λ (x : DiskState). x.b) left ∙ sym clean.1), λ two. absurd (omega arith))
  cut_first Stops n s e clean left = (ap (λ (x : DiskState). x.a) left, ap (λ (x : DiskState). x.b) left)

  -- and the second
  cut_second : (blow : Blow) (n : ℕ) (s e : DiskState) → e ≡ after_blow blow looked n (wrote side offset bytes s) → CutBy blow s (wrote side offset bytes s) 2 e
  cut_second Fails n s e left = (λ one. absurd (omega arith), λ two. (ap (λ (x : DiskState). x.a) left, ap (λ (x : DiskState). x.b) left))
  cut_second Stops n s e left = (ap (λ (x : DiskState). x.a) left, ap (λ (x : DiskState). x.b) left)

  module _ (old mid : DiskView) (rest : IsAtRest old) (is_mid : IsView mid) (crash : Follows (TornSide side offset (length bytes)) old.may_leave mid.may_leave) where
    -- each image after the write is what was there, torn
    torn_images : (c : Image) → mid.may_leave c → TornSide side offset (length bytes) old.reads c
    torn_images c left =
        let from = crash c left in
        subst (λ x. TornSide side offset (length bytes) x c) (rest.only from.0 from.1) from.2

    first_struck : calls.HasImages mid → calls.Fails (wrote side offset bytes) old mid → (n : ℕ) × IsCut side offset bytes n old mid
    first_struck has fails = (
      1,
      record {
        struck = record {
          faults = fails.faults;
          later = omega (arith, fails.time);
          reached = λ s is.
              let told = fails.told s is in
              let armed = armed_at s.strike mid.time told.2.blow told.2.struck in
              (armed.0, armed.1, armed.2);
        };
        time = omega (arith, fails.time);
        first_or_second = inl refl;
        images = torn_images;
        reads = λ two. absurd (omega arith);
        has = has;
        told = λ s is.
            let told = fails.told s is in
            let armed = armed_at s.strike mid.time told.2.blow told.2.struck in
            let clean : IsSynced s = subst (λ x. IfSome x IsSynced) is rest.clean in (
              told.0,
              told.1,
              record {
                strike = armed.0;
                armed = armed.1;
                left = subst (λ blow. CutBy blow s (wrote side offset bytes s) 1 told.0) (sym armed.3) (cut_first told.2.blow mid.time s told.0 clean told.2.left);
              },
            );
      },
    )

    kept : calls.IsUnchanged old mid → IsKept old mid
    kept same = record {
      reads = same.reads;
      rest = record {
        only = λ c left. rest.only c ((same.images c).0 left) ∙ sym same.reads;
        clean = subst (λ x. IfSome x IsSynced) (sym same.state) rest.clean;
      };
      time = same.time;
      unstruck = record { faults = same.faults; stays = ap (option_map (λ (s : DiskState). s.strike)) same.state; ahead = ahead_of mid is_mid };
    }

    -- the write didn't do what it was asked to
    pub put_failed : (T : Type 0) (fault : DiskFault) → calls.HasImages mid → calls.Ends {T = T} (wrote side offset bytes) (wrote side offset bytes) old mid (Err fault) → Puts {T = T} side offset bytes old mid (Err fault)
    put_failed T Failed has ends = first_struck has ends
    put_failed T NoMemory has ends = kept ends

    -- the write was done, and then the sync
    module _ (new : DiskView) (is_new : IsView new) (written : mid.reads ≡ put_on side offset bytes old.reads) (first : calls.Passes (wrote side offset bytes) old mid) (looks : calls.Looks mid new) (has : calls.HasImages new) where
      reads_new : new.reads ≡ put_on side offset bytes old.reads
      reads_new = looks.reads ∙ written

      stays : (state next last : Option DiskState) → next ≡ option_map (wrote side offset bytes) state → last ≡ option_map synced next → option_map (λ (s : DiskState). s.strike) last ≡ option_map (λ (s : DiskState). s.strike) state
      stays None next last is then = ap (option_map (λ (s : DiskState). s.strike)) (then ∙ ap (option_map synced) is)
      stays (Some s) next last is then = ap (option_map (λ (s : DiskState). s.strike)) (then ∙ ap (option_map synced) is) ∙ ap Some (wrote_strike side offset bytes s)

      clean_after : (next last : Option DiskState) → last ≡ option_map synced next → IfSome last IsSynced
      clean_after None last then = subst (λ x. IfSome x IsSynced) (sym then) tt
      clean_after (Some s) last then = subst (λ x. IfSome x IsSynced) (sym then) (refl, refl)

      is_put : offset + length bytes < 2 ^ 63 → Only mid.reads new.may_leave → calls.Passes synced mid new → IsPut side offset bytes old new
      is_put short durable passes = record {
        reads = reads_new;
        rest = record { only = λ c left. durable c left ∙ sym looks.reads; clean = clean_after mid.state new.state passes.state };
        time = omega (arith, first.time, passes.time);
        unstruck = record {
          faults = passes.faults ∙ first.faults;
          stays = stays old.state mid.state new.state first.state passes.state;
          ahead = ahead_of new is_new;
        };
        short = short;
      }

      second_struck : calls.Fails looked mid new → (n : ℕ) × IsCut side offset bytes n old new
      second_struck fails = (
        2,
        record {
          struck = record {
            faults = omega (arith, first.faults, fails.faults);
            later = omega (arith, first.time, fails.time);
            reached = λ s is.
                let next : mid.state ≡ Some (wrote side offset bytes s) = first.state ∙ ap (option_map (wrote side offset bytes)) is in
                let told = fails.told (wrote side offset bytes s) next in
                let armed = armed_at (wrote side offset bytes s).strike new.time told.2.blow told.2.struck in
                (armed.0, sym (wrote_strike side offset bytes s) ∙ armed.1, armed.2);
          };
          time = omega (arith, first.time, fails.time);
          first_or_second = inr refl;
          images = λ c left. torn_images c (looks.images c left);
          reads = λ two. reads_new;
          has = has;
          told = λ s is.
              let next : mid.state ≡ Some (wrote side offset bytes s) = first.state ∙ ap (option_map (wrote side offset bytes)) is in
              let told = fails.told (wrote side offset bytes s) next in
              let armed = armed_at (wrote side offset bytes s).strike new.time told.2.blow told.2.struck in (
                told.0,
                told.1,
                record {
                  strike = armed.0;
                  armed = sym (wrote_strike side offset bytes s) ∙ armed.1;
                  left = subst (λ blow. CutBy blow s (wrote side offset bytes s) 2 told.0) (sym armed.3) (cut_second told.2.blow new.time s told.0 told.2.left);
                },
              );
        },
      )

      pub put_synced : {T : Type 0} (r : Result T DiskFault) → offset + length bytes < 2 ^ 63 → OnOk r (Only mid.reads new.may_leave) → calls.Ends synced looked mid new r → (IsErrOf r NoMemory → ⊥) → Puts side offset bytes old new r
      put_synced (Ok x) short durable ends never = is_put short durable ends
      put_synced (Err Failed) short durable ends never = second_struck ends
      put_synced (Err NoMemory) short durable ends never = absurd (never refl)

  -- the moments of the write, and of its sync
  module _ (old mid : DiskView) (is_old : IsView old) (rest : IsAtRest old) (crash : Follows (TornSide side offset (length bytes)) old.may_leave mid.may_leave) (elapses : calls.Elapses old mid) (later : old.time ≤ mid.time) where
    pub moments_first : LeavesOnly old mid (TornSide side offset (length bytes) old.reads)
    moments_first =
        goes_on old old mid (TornSide side offset (length bytes) old.reads)
        (started old (TornSide side offset (length bytes) old.reads) is_old (λ c left. subst (TornSide side offset (length bytes) old.reads) (sym (rest.only c left)) (torn_side_same side offset (length bytes) old.reads)))
        elapses later
        (λ c left. let from = crash c left in subst (λ x. TornSide side offset (length bytes) x c) (rest.only from.0 from.1) from.2)
