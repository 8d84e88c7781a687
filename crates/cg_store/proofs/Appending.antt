-- What a store answers when its journal has appended a record, and when it has restarted the other side.
use Rattle.std.proofs.Common.{◌≡◌, ◌⊎◌, inl, inr, ⊎_elim, ℕ, suc, List, Some, Err, sym, ◌∙◌, ap, subst}
use Rattle.std.specs.Option.{option_map}
use Rattle.cg_disk.specs.Sides.{opposite}
use Rattle.cg_disk.specs.View.{DiskView, LeavesOnly}
use Rattle.cg_disk.specs.declared.disk.Side.{Side}
use Rattle.cg_disk.specs.declared.disk.Side.TheVariants.{A}
use Rattle.cg_journal.specs.Records.{records, added, emptied}
use Rattle.cg_journal.specs.Opens.{no_records}
use Rattle.cg_journal.specs.Adds.{IsEither as IsOneOf}
use Rattle.cg_journal.specs.Closes.{IsLostClosing}
use Rattle.cg_journal.specs.Answers.{with_record, without_records, with_record_alone, IsDone, IsRefused as IsJournalRefused, IsLostAppend, IsLostRestart, IsRestarting, Appends, Restarts, EachMoment as EachJournalMoment}
use Rattle.cg_journal.specs.declared.journal.AppendErr.{AppendErr}
use Rattle.cg_journal.specs.declared.journal.AppendErr.TheVariants.{Lost as AppendLost, NoMemory as AppendNoMemory}
use Rattle.cg_records.specs.Limits.{IsNumber}
use Rattle.cg_records.specs.declared.stable.Stable.{Stable}
use Rattle.cg_disk_records.specs.Stored.{Stored}
use Rattle.cg_disk_records.specs.Checkpoint.{size_with, empty_size}
use Rattle.cg_disk_records.specs.Parts.{checkpoint_in}
use Rattle.cg_store.specs.Stands.{OnDisk, stands_for, Stands, moved, begun}
use Rattle.cg_store.specs.StoreState.{StoreState, IsStore}
use Rattle.cg_store.specs.Answers.{IsReached, IsRefused, IsLost, EachMoment}
use Rattle.cg_store.specs.Due.{IsLed, IsBehind}
use Rattle.cg_store.specs.Calls.{IsEither, IsSaved, IsFirst, Writes, Moves, commit_fault}
use Rattle.cg_store.specs.declared.pending_record.PendingRecord.{PendingRecord}
use Rattle.cg_store.proofs.Standing.{stands_added, stands_emptied, stands_moved, stands_begun}
use Rattle.cg_store.proofs.Writing.{either_of, reached, lost, lost_closing}
use Rattle.cg_journal.specs.ViewLaws.{weakened}
use Rattle.cg_base.specs.OptionLaws.{one_value}

-- a store's own record of what its disk stands for
abbrev pub standing_at : (side : Side) (generation size : ℕ) (content : Stored) → OnDisk
standing_at side generation size content = record { side = side; generation = generation; size = size; content = content }

module _ (old : DiskView) (id : ℕ) (side : Side) (generation : ℕ) (values : Stable) (held : IsStore old id side generation values) where
  pub its_side : (u : OnDisk) → Stands id old.reads u → u.side ≡ side
  its_side u stands = ap (λ (x : OnDisk). x.side) (one_value (stands_for id (records old.reads)) u (standing_at side generation held.size held.content) stands held.stands)

  pub its_content : (u : OnDisk) → Stands id old.reads u → u.content ≡ held.content
  its_content u stands = ap (λ (x : OnDisk). x.content) (one_value (stands_for id (records old.reads)) u (standing_at side generation held.size held.content) stands held.stands)

  -- ---- a change behind the others

  behind_stands : (due : PendingRecord) (u v : OnDisk) → Stands id old.reads u → IsBehind u (Some due) v → stands_for id (with_record side due.body old) ≡ Some v
  behind_stands due u v stands behind =
      subst (λ x. stands_for id (option_map (added x due.body) (records old.reads)) ≡ Some v) (its_side u stands)
      (stands_added id (records old.reads) due.body u behind.0 stands behind.1 ∙ ap Some (sym behind.2))

  pub written_held : (due : PendingRecord) (new : DiskView) → IsDone (with_record side due.body old) 4 old new → ((u : OnDisk) → Stands id old.reads u → IsLed u due) → IsStore new id side generation due.values
  written_held due new done leads =
      let u = standing_at side generation held.size held.content in
      let goes = leads u held.stands in
      record {
        size = size_with held.size due.body;
        content = goes.state;
        stands = ap (stands_for id) done.records_new ∙ stands_added id (records old.reads) due.body u goes.state held.stands goes.leads;
        values_are = goes.values;
        small = held.small;
        rest = done.rest;
      }

  pub written_reached : (due : PendingRecord) (new : DiskView) (u v : OnDisk) → IsDone (with_record side due.body old) 4 old new → Stands id old.reads u → IsBehind u (Some due) v → IsReached id 4 v old new
  written_reached due new u v done stands behind = reached id 4 (with_record side due.body old) v old new done (behind_stands due u v stands behind)

  pub written_lost : (due : PendingRecord) (new : DiskView) (u v : OnDisk) → IsLostAppend side due.body old new → Stands id old.reads u → IsBehind u (Some due) v → IsLost id 0 u v old new
  written_lost due new u v is stands behind =
      lost id 0 is.call side is.gate (records old.reads) (with_record side due.body old) u v old new is.lost stands (behind_stands due u v stands behind)

  pub written_refused : (new : DiskView) (u : OnDisk) → IsJournalRefused (λ r. r ≡ records old.reads) 2 old new → Stands id old.reads u → IsRefused id 2 u old new
  written_refused new u is stands = record { stands = ap (stands_for id) is.records_new ∙ stands; rest = is.rest; time = is.time; unstruck = is.unstruck }

  pub written_moments : (due : PendingRecord) (new : DiskView) (u v : OnDisk) → LeavesOnly old new (IsOneOf (records old.reads) (with_record side due.body old)) → Stands id old.reads u → IsBehind u (Some due) v →
      LeavesOnly old new (IsEither id u v)
  written_moments due new u v run stands behind =
      weakened old new (IsOneOf (records old.reads) (with_record side due.body old)) (IsEither id u v) run
      (λ c one. either_of id (records old.reads) (with_record side due.body old) u v c stands (behind_stands due u v stands behind) one)

  -- ---- a checkpoint on the other side

  empty_stands : (u : OnDisk) → Stands id old.reads u → stands_for id (without_records (opposite side) old) ≡ Some u
  empty_stands u stands = subst (λ x. stands_for id (option_map (emptied (opposite x)) (records old.reads)) ≡ Some u) (its_side u stands) (stands_emptied id (records old.reads) u stands)

  module _ (body : List ℕ) (saved : (u : OnDisk) → Stands id old.reads u → checkpoint_in id body ≡ Some (record { generation = suc u.generation; content = u.content })) where
    moved_stands : (u : OnDisk) → Stands id old.reads u → stands_for id (with_record_alone (opposite side) body old) ≡ Some (moved u body)
    moved_stands u stands =
        subst (λ x. stands_for id (option_map (added (opposite x) body) (option_map (emptied (opposite x)) (records old.reads))) ≡ Some (moved u body)) (its_side u stands)
        (stands_moved id (records old.reads) body u stands (saved u stands))

    pub moved_held : (new : DiskView) → IsDone (with_record_alone (opposite side) body old) 6 old new → IsNumber (suc generation) → IsStore new id (opposite side) (suc generation) values
    moved_held new done small = record {
      size = size_with empty_size body;
      content = held.content;
      stands = ap (stands_for id) done.records_new ∙ moved_stands (standing_at side generation held.size held.content) held.stands;
      values_are = held.values_are;
      small = small;
      rest = done.rest;
    }

    pub moved_lost : (new : DiskView) (u : OnDisk) →
        ((call : ℕ) × IsLostClosing call (records old.reads) (without_records (opposite side) old) old new) ⊎ IsLostRestart (opposite side) body old new →
        Stands id old.reads u → IsLost id 0 u u old new ⊎ IsLost id 2 u (moved u body) old new
    moved_lost new u is stands = ⊎_elim
        (λ closing. inl (lost_closing id closing.0 side (records old.reads) (without_records (opposite side) old) u old new closing.1 stands (empty_stands u stands)))
        (λ writing. inr (lost id 2 writing.call (opposite side) writing.gate (without_records (opposite side) old) (with_record_alone (opposite side) body old) u (moved u body) old new writing.lost (empty_stands u stands) (moved_stands u stands)))
        is

    pub moved_refused : (new : DiskView) (u : OnDisk) → IsJournalRefused (λ r. (r ≡ records old.reads) ⊎ (r ≡ without_records (opposite side) old)) 4 old new → Stands id old.reads u → IsRefused id 4 u old new
    moved_refused new u is stands = record {
      stands = ⊎_elim (λ e. ap (stands_for id) e ∙ stands) (λ e. ap (stands_for id) e ∙ empty_stands u stands) is.records_new;
      rest = is.rest;
      time = is.time;
      unstruck = is.unstruck;
    }

    pub moved_moments : (new : DiskView) (u : OnDisk) → LeavesOnly old new (IsRestarting (opposite side) body old) → Stands id old.reads u → LeavesOnly old new (IsEither id u (moved u body))
    moved_moments new u run stands =
        weakened old new (IsRestarting (opposite side) body old) (IsEither id u (moved u body)) run
        (λ c one. ⊎_elim (λ two. ⊎_elim (λ e. inl (ap (stands_for id) e ∙ stands)) (λ e. inl (ap (stands_for id) e ∙ empty_stands u stands)) two) (λ e. inr (ap (stands_for id) e ∙ moved_stands u stands)) one)

-- ---- the first record

module _ (old new : DiskView) (id : ℕ) (body : List ℕ) (empty : records old.reads ≡ Some no_records) where
  begun_stands : (s : Stored) → IsSaved id body s → stands_for id (with_record A body old) ≡ Some (begun body s)
  begun_stands s saved = ap (λ r. stands_for id (option_map (added A body) r)) empty ∙ stands_begun id body s saved

  pub begun_held : (values : Stable) → IsFirst id body values → IsDone (with_record A body old) 4 old new → IsNumber 1 → IsStore new id A 1 values
  begun_held values first done small = record {
    size = size_with empty_size body;
    content = first.state;
    stands = ap (stands_for id) done.records_new ∙ begun_stands first.state first.saved;
    values_are = first.values_are;
    small = small;
    rest = done.rest;
  }

-- ---- what ended a call of the journal

module _ {D : Type 0} (view : D → DiskView) (k : StoreState D) (side : Side) (generation : ℕ) (values : Stable) (held : IsStore (view k.disk) k.id side generation values) where
  pub written_fails : (due : PendingRecord) (u v : OnDisk) (fault : AppendErr D) → Appends view side due.body (view k.disk) (Err fault) → Stands k.id (view k.disk).reads u → IsBehind u (Some due) v → Writes view k u v (Err (commit_fault fault))
  written_fails due u v (AppendLost disk) is stands behind = written_lost (view k.disk) k.id side generation values held due (view disk) u v is stands behind
  written_fails due u v (AppendNoMemory journal) is stands behind = written_refused (view k.disk) k.id side generation values held (view journal) u is stands

  pub written_fails_moments : (due : PendingRecord) (u v : OnDisk) (fault : AppendErr D) → EachJournalMoment view (IsOneOf (records (view k.disk).reads) (with_record side due.body (view k.disk))) (view k.disk) (Err fault) →
      Stands k.id (view k.disk).reads u → IsBehind u (Some due) v → EachMoment {T = StoreState D} view (λ s. s.disk) (IsEither k.id u v) (view k.disk) (Err (commit_fault fault))
  written_fails_moments due u v (AppendLost disk) is stands behind = written_moments (view k.disk) k.id side generation values held due (view disk) u v is stands behind
  written_fails_moments due u v (AppendNoMemory journal) is stands behind = written_moments (view k.disk) k.id side generation values held due (view journal) u v is stands behind

  module _ (body : List ℕ) (saved : (u : OnDisk) → Stands k.id (view k.disk).reads u → checkpoint_in k.id body ≡ Some (record { generation = suc u.generation; content = u.content })) where
    pub moved_fails : (u : OnDisk) (fault : AppendErr D) → Restarts view (opposite side) body (view k.disk) (Err fault) → Stands k.id (view k.disk).reads u → Moves view k u (moved u body) (Err (commit_fault fault))
    moved_fails u (AppendLost disk) is stands = moved_lost (view k.disk) k.id side generation values held body saved (view disk) u is stands
    moved_fails u (AppendNoMemory journal) is stands = moved_refused (view k.disk) k.id side generation values held body saved (view journal) u is stands

    pub moved_fails_moments : (u : OnDisk) (fault : AppendErr D) → EachJournalMoment view (IsRestarting (opposite side) body (view k.disk)) (view k.disk) (Err fault) → Stands k.id (view k.disk).reads u →
        EachMoment {T = StoreState D} view (λ s. s.disk) (IsEither k.id u (moved u body)) (view k.disk) (Err (commit_fault fault))
    moved_fails_moments u (AppendLost disk) is stands = moved_moments (view k.disk) k.id side generation values held body saved (view disk) u is stands
    moved_fails_moments u (AppendNoMemory journal) is stands = moved_moments (view k.disk) k.id side generation values held body saved (view journal) u is stands
