-- What a journal keeps of its disk when a record was added.
use Rattle.std.proofs.Common.{◌≡◌, inr, ⊎_elim, ℕ, ◌+◌, ◌-◌, List, [], ◌∷◌, ◌++◌, length, Option, Some, None, Result, Ok, Err, refl, sym, ◌∙◌, ap, subst, arith, lit<}
use Rattle.std.specs.Option.{option_map}
use Rattle.cg_disk.specs.Sides.{Image, bytes_of, opposite}
use Rattle.cg_disk.specs.View.{DiskView}
use Rattle.cg_disk.specs.declared.disk.Side.{Side}
use Rattle.cg_disk.specs.declared.disk.Side.TheVariants.{A, B}
use Rattle.cg_journal.specs.Records.{Records, HasRecords, records, both, bodies_of, added, emptied, on_side}
use Rattle.cg_disk.specs.State.{DiskState}
use Rattle.cg_journal.specs.Put.{IsKept}
use Rattle.cg_journal.specs.Closes.{IsClosed}
use Rattle.cg_journal.specs.declared.journal.AppendErr.{AppendErr}
use Rattle.cg_journal.specs.declared.journal.AppendErr.TheVariants.{Lost, NoMemory}
use Rattle.cg_journal.proofs.Both.{records_emptied}
use Rattle.cg_journal.specs.Adds.{IsLostIn, IsAdded, IsNotAdded}
use Rattle.cg_journal.specs.Held.{end_of, end_on, with_end, EndsAt, IsJournal}
use Rattle.cg_journal.specs.Answers.{CanBeRead, with_record, without_records, with_record_alone, IsDone, IsRefused, IsLostAppend, IsLostRestart, Appends, Restarts}
use Rattle.cg_journal.specs.declared.ends.Ends.{Ends}
use Rattle.cg_journal.proofs.Reading.{reads_as}
use Rattle.cg_journal.specs.ViewLaws.{some_state, struck_more, unstruck_more}

-- the bodies of one side
bodies_on : (a b : Option (List (List ℕ))) (r : Records) → both a b ≡ Some r → (a ≡ Some r.a) × (b ≡ Some r.b)
bodies_on (Some a) (Some b) r is = let same : record { a = a; b = b } ≡ r = cc in (λ i. Some ((same i).a), λ i. Some ((same i).b))
bodies_on (Some a) None r is = cc
bodies_on None b r is = cc

pub records_on : (side : Side) (image : Image) (r : Records) → records image ≡ Some r → bodies_of (bytes_of side image) ≡ Some (on_side side r)
records_on A image r is = (bodies_on (bodies_of image.a) (bodies_of image.b) r is).0
records_on B image r is = (bodies_on (bodies_of image.a) (bodies_of image.b) r is).1

-- what stands on both sides of a journal can be read
pub can_be_read : (d : DiskView) (ends : Ends) → IsJournal d ends → CanBeRead d
can_be_read d ends held =
    let on_a = reads_as d.reads.a (end_on A ends) (held.on A).bodies (held.on A).has in
    let on_b = reads_as d.reads.b (end_on B ends) (held.on B).bodies (held.on B).has in
    record { all = record { a = (held.on A).bodies; b = (held.on B).bodies }; read = λ i. both (on_a i) (on_b i) }

-- a side's records end where a journal says
pub ends_at : (side : Side) (d : DiskView) (end : ℕ) (bodies : List (List ℕ)) → HasRecords (bytes_of side d.reads) end bodies → (r : Records) → records d.reads ≡ Some r → end ≡ end_of (on_side side r)
ends_at side d end bodies has r is =
    let same : bodies ≡ on_side side r = (let read = sym (reads_as (bytes_of side d.reads) end bodies has) ∙ records_on side d.reads r is in cc) in
    has.ends ∙ ap end_of same

-- the ends after a change of one side
pub on_after : (side s : Side) (new old : Image) (end : ℕ) (ends : Ends) → EndsAt (bytes_of side new) end → bytes_of (opposite side) new ≡ bytes_of (opposite side) old → ((t : Side) → EndsAt (bytes_of t old) (end_on t ends)) → EndsAt (bytes_of s new) (end_on s (with_end side end ends))
on_after A A new old end ends here other were = here
on_after A B new old end ends here other were = subst (λ x. EndsAt x ends.b) (sym other) (were B)
on_after B A new old end ends here other were = subst (λ x. EndsAt x ends.a) (sym other) (were A)
on_after B B new old end ends here other were = here

same_ends : (side : Side) (ends : Ends) → with_end side (end_on side ends) ends ≡ ends
same_ends A ends = refl
same_ends B ends = refl

module _ (side : Side) (body : List ℕ) (old new : DiskView) (ends : Ends) (held : IsJournal old ends) (bodies : List (List ℕ)) where
  pub append_held : IsAdded side (end_on side ends) bodies body old new → IsJournal new (with_end side (end_on side ends + 5 + length body) ends)
  append_held is = record {
    on = λ s. on_after side s new.reads old.reads (end_on side ends + 5 + length body) ends (record { bodies = bodies ++ body ∷ []; has = is.on; short = is.short }) is.other held.on;
    rest = is.rest;
  }

  pub append_done : IsAdded side (end_on side ends) bodies body old new → IsDone (with_record side body old) 4 old new
  append_done is = record { records_new = is.records_new; rest = is.rest; time = is.time; unstruck = is.unstruck }

  pub refused_held : IsNotAdded side (end_on side ends) bodies old new → IsJournal new ends
  refused_held is = subst (λ e. IsJournal new e) (same_ends side ends) (record {
    on = λ s. on_after side s new.reads old.reads (end_on side ends) ends (record { bodies = bodies; has = is.on; short = (held.on side).short }) is.other held.on;
    rest = is.rest;
  })

  pub append_refused : IsNotAdded side (end_on side ends) bodies old new → IsRefused (λ r. r ≡ records old.reads) 2 old new
  append_refused is = record {
    records_new = is.records_new;
    rest = is.rest;
    time = ⊎_elim (λ none. omega (arith, none)) (λ two. omega (arith, two)) is.time;
    unstruck = is.unstruck;
  }

  pub append_lost : (call : ℕ) → HasRecords (bytes_of side old.reads) (end_on side ends) bodies → IsLostIn 0 call side (end_on side ends - 1) (records old.reads) (with_record side body old) old new → IsLostAppend side body old new
  append_lost call has lost = record {
    call = call;
    gate = end_on side ends - 1;
    is_gate = λ r is. (let one : end_on side ends - 1 + 1 ≡ end_on side ends = omega (arith, has.ends) in one) ∙ ends_at side old (end_on side ends) bodies has r is;
    lost = lost;
  }

-- a side whose records were taken away
module _ (side : Side) (old new : DiskView) (ends : Ends) (held : IsJournal old ends) where
  pub closed_held : IsClosed side old new → IsJournal new (with_end side 9 ends)
  closed_held is = record {
    on = λ s. on_after side s new.reads old.reads 9 ends (record { bodies = []; has = is.on; short = lit< tt }) is.other held.on;
    rest = is.rest;
  }

  pub closed_done : IsClosed side old new → IsDone (without_records side old) 2 old new
  closed_done is =
      let was = held.on side in
      record {
        records_new = records_emptied side new.reads old.reads was.bodies is.other (reads_as (bytes_of side new.reads) 9 [] is.on) (reads_as (bytes_of side old.reads) (end_on side ends) was.bodies was.has);
        rest = is.rest;
        time = is.time;
        unstruck = is.unstruck;
      }

-- nothing was written
pub kept_held : (old new : DiskView) (ends : Ends) → IsJournal old ends → IsKept old new → IsJournal new ends
kept_held old new ends held kept = record { on = λ s. subst (λ image. EndsAt (bytes_of s image) (end_on s ends)) (sym kept.reads) (held.on s); rest = kept.rest }

pub kept_refused : (old new : DiskView) → IsKept old new → IsRefused (λ r. r ≡ records old.reads) 0 old new
kept_refused old new kept = record { records_new = ap records kept.reads; rest = kept.rest; time = omega (arith, kept.time); unstruck = kept.unstruck }

emptied_on : (side : Side) (r : Records) → on_side side (emptied side r) ≡ []
emptied_on A r = refl
emptied_on B r = refl

-- a restart, once the side has no records
module _ (side : Side) (body : List ℕ) (old mid : DiskView) (closed : IsDone (without_records side old) 2 old mid) where
  same_after : with_record side body mid ≡ with_record_alone side body old
  same_after = ap (option_map (added side body)) closed.records_new

  restart_lost : (new : DiskView) → IsLostAppend side body mid new → IsLostRestart side body old new
  restart_lost new is =
      let lost = subst (λ r. IsLostIn 0 is.call side is.gate r (option_map (added side body) r) mid new) closed.records_new is.lost in
      record {
        call = is.call;
        gate = is.gate;
        is_gate = λ r stands.
            let here : records mid.reads ≡ Some (emptied side r) = closed.records_new ∙ ap (option_map (emptied side)) stands in
            let nine = is.is_gate (emptied side r) here ∙ ap end_of (emptied_on side r) in
            omega (arith, nine);
        lost = record {
          struck = struck_more old mid new closed.unstruck (omega (arith, closed.time)) lost.struck;
          time = omega (arith, closed.time, lost.time);
          within = lost.within;
          gates = lost.gates;
          early = lost.early;
          last = lost.last;
          reads = lost.reads;
          told = λ s told.
              let armed : option_map (λ (x : DiskState). x.strike) mid.state ≡ Some s.strike = closed.unstruck.stays ∙ ap (option_map (λ (x : DiskState). x.strike)) told in
              let next = some_state mid.state s.strike armed in
              let cut = lost.told next.0 next.1 in
              (cut.0, cut.1, record { strike = cut.2.strike; armed = sym next.2 ∙ cut.2.armed; fills = cut.2.fills; only_gate = cut.2.only_gate; other_synced = cut.2.other_synced });
        };
      }

  pub restarts_from : {D : Type 0} (view : D → DiskView) (r : Result D (AppendErr D)) → Appends view side body mid r → Restarts view side body old r
  restarts_from view (Ok journal) done = record { records_new = done.records_new ∙ same_after; rest = done.rest; time = omega (arith, closed.time, done.time); unstruck = unstruck_more old mid (view journal) closed.unstruck done.unstruck }
  restarts_from view (Err (Lost disk)) lost = inr (restart_lost (view disk) lost)
  restarts_from view (Err (NoMemory journal)) refused = record {
    records_new = inr (refused.records_new ∙ closed.records_new);
    rest = refused.rest;
    time = omega (arith, closed.time, refused.time);
    unstruck = unstruck_more old mid (view journal) closed.unstruck refused.unstruck;
  }
