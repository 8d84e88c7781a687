-- A journal made, and one opened.
use Rattle.std.proofs.Common.{◌≡◌, ℕ, ◌^◌, ◌<◌, List, [], ◌∷◌, ◌++◌, length, Option, Some, None, IfSome, Result, Ok, Err, IsErrOf, OnOk, refl, sym, ◌∙◌, ap, subst, arith}
use Rattle.std.specs.Option.{option_map}
use Rattle.cg_disk.specs.Sides.{Image, bytes_of, with_bytes}
use Rattle.cg_disk.specs.Writes.{Only, overwritten}
use Rattle.cg_disk.specs.State.{DiskState, looked, synced, wrote}
use Rattle.cg_disk.specs.View.{DiskView, IsView, IsAtRest, IsSynced}
use Rattle.cg_disk.specs.Calls as calls
use Rattle.cg_disk.specs.declared.disk.Side.{Side}
use Rattle.cg_disk.specs.declared.disk.Side.TheVariants.{A, B}
use Rattle.cg_disk.specs.declared.disk.DiskFault.{DiskFault}
use Rattle.cg_disk.specs.declared.disk.DiskFault.TheVariants.{Failed, NoMemory}
use Rattle.cg_journal.specs.Records.{header, HasRecords, both}
use Rattle.cg_journal.specs.Strikes.{IsUnstruck}
use Rattle.cg_journal.specs.Held.{EndsAt, IsJournal, end_on}
use Rattle.cg_journal.specs.Fresh.{IsFresh, FormatsSides, PutsFronts}
use Rattle.cg_journal.specs.Answers.{IsDone}
use Rattle.cg_journal.specs.Opens.{no_records}
use Rattle.cg_journal.specs.declared.ends.Ends.{Ends}
use Rattle.cg_journal.proofs.Reading.{reads_as}
use Rattle.cg_journal.proofs.Adding.{end_within}
use Rattle.cg_journal.proofs.Closing.{closed_behind}
use Rattle.cg_journal.proofs.Putting.{wrote_strike}
use Rattle.cg_journal.proofs.Looking.{passes_unstruck, unchanged_unstruck, fails_struck}
use Rattle.cg_journal.specs.ViewLaws.{struck_more, unstruck_more}

-- a journal of two sides
pub journal_of : (d : DiskView) (ends : Ends) → EndsAt d.reads.a ends.a → EndsAt d.reads.b ends.b → IsAtRest d → IsJournal d ends
journal_of d ends a b rest = record { on = on; rest = rest }
  where
    on : (side : Side) → EndsAt (bytes_of side d.reads) (end_on side ends)
    on A = a
    on B = b

pub ended : (side bytes : List ℕ) (end : ℕ) (bodies : List (List ℕ)) → bytes ≡ side → HasRecords bytes end bodies → length bytes < 2 ^ 63 → EndsAt side end
ended side bytes end bodies same has short = record {
  bodies = bodies;
  has = subst (λ (l : List ℕ). HasRecords l end bodies) same has;
  short = omega (arith, end_within bytes end bodies has, short);
}

-- the header and a closed gate at the front
pub fresh_has : (side : List ℕ) → HasRecords (overwritten side 0 (header ++ 0 ∷ [])) 9 []
fresh_has side = closed_behind (overwritten side 0 (header ++ 0 ∷ [])) _ 0 refl (λ is_one. absurd (omega arith))

pub fresh_done : (old new : DiskView) → IsFresh old new → IsDone (Some no_records) 3 old new
fresh_done old new fresh =
    let a = reads_as new.reads.a 9 [] fresh.on_a in
    let b = reads_as new.reads.b 9 [] fresh.on_b in
    record { records_new = λ i. both (a i) (b i); rest = fresh.rest; time = fresh.time; unstruck = fresh.unstruck }

-- the sides of a new journal
pub fresh_from : {T : Type 0} (old new : DiskView) (r : Result T DiskFault) → PutsFronts (header ++ 0 ∷ []) old new r → FormatsSides old new r
fresh_from old new (Ok x) is = record {
  on_a = subst (λ (l : List ℕ). HasRecords l 9 []) (sym is.a) (fresh_has old.reads.a);
  on_b = subst (λ (l : List ℕ). HasRecords l 9 []) (sym is.b) (fresh_has old.reads.b);
  rest = is.rest;
  time = is.time;
  unstruck = is.unstruck;
}
fresh_from old new (Err Failed) is = is
fresh_from old new (Err NoMemory) is = is

-- the first write wasn't done
pub format_failed : (T : Type 0) (old new : DiskView) (bytes : List ℕ) → IsView new → (fault : DiskFault) → calls.Ends {T = T} (wrote A 0 bytes) (wrote A 0 bytes) old new (Err fault) → PutsFronts {T = T} bytes old new (Err fault)
format_failed T old new bytes is Failed fails = record { struck = fails_struck (wrote A 0 bytes) old new fails; time = omega (arith, fails.time) }
format_failed T old new bytes is NoMemory same = record { unstruck = unchanged_unstruck old new is same; time = omega (arith, same.time) }

-- both writes were done, and then the sync
module _ (front : List ℕ) (old m1 m2 new : DiskView) (is1 : IsView m1) (is2 : IsView m2) (is_new : IsView new)
    (first : calls.Passes (wrote A 0 front) old m1) (written1 : m1.reads ≡ with_bytes A (overwritten old.reads.a 0 front) old.reads)
    (second : calls.Passes (wrote B 0 front) m1 m2) (written2 : m2.reads ≡ with_bytes B (overwritten m1.reads.b 0 front) m1.reads)
    (looks : calls.Looks m2 new) where
  unstruck2 : IsUnstruck old m2
  unstruck2 = unstruck_more old m1 m2 (passes_unstruck (wrote A 0 front) (wrote_strike A 0 front) old m1 is1 first) (passes_unstruck (wrote B 0 front) (wrote_strike B 0 front) m1 m2 is2 second)

  pub format_synced : {T : Type 0} (r : Result T DiskFault) → OnOk r (Only m2.reads new.may_leave) → calls.Ends synced looked m2 new r → (IsErrOf r NoMemory → ⊥) → PutsFronts front old new r
  format_synced (Ok x) durable passes never =
      let a : new.reads.a ≡ overwritten old.reads.a 0 front = ap (λ (i : Image). i.a) (looks.reads ∙ written2) ∙ ap (λ (i : Image). i.a) written1 in
      let b : new.reads.b ≡ overwritten m1.reads.b 0 front = ap (λ (i : Image). i.b) (looks.reads ∙ written2) in
      record {
        a = a;
        b = b ∙ ap (λ (i : Image). overwritten i.b 0 front) written1;
        rest = record { only = λ c left. durable c left ∙ sym looks.reads; clean = clean m2.state new.state passes.state };
        time = omega (arith, first.time, second.time, passes.time);
        unstruck = unstruck_more old m2 new unstruck2 (passes_unstruck synced (λ s. refl) m2 new is_new passes);
      }
    where
      clean : (before after : Option DiskState) → after ≡ option_map synced before → IfSome after IsSynced
      clean None after is = subst (λ x. IfSome x IsSynced) (sym is) tt
      clean (Some s) after is = subst (λ x. IfSome x IsSynced) (sym is) (refl, refl)
  format_synced (Err Failed) durable fails never = record {
    struck = struck_more old m2 new unstruck2 (omega (arith, first.time, second.time)) (fails_struck looked m2 new fails);
    time = omega (arith, first.time, second.time, fails.time);
  }
  format_synced (Err NoMemory) durable same never = absurd (never refl)
