use Rattle.std.proofs.Common.{◌≡◌, ◌≢◌, Err, refl, subst, arith}
use Rattle.std.proofs.lemmas.Result.{err_from_is_err_and}
use Rattle.cg_codec.specs.declared.fault.CodecFault.TheVariants.{NoMemory}
use Rattle.cg_codec.specs.Taking.{unread_of}
use Rattle.cg_codec.specs.ItemLaws.{items_end, items_stop_unless}
use Rattle.cg_disk_records.specs.Reading.{entry_reading, entries_reading}
use Rattle.cg_disk_records.proofs.EntryFields.{entry_item, entry-utf8, EntriesSoFar-more}
use Rattle.cg_disk_records.proofs.entries.take_entries.Goals as goal
use Rattle.cg_db.specs.AscendingLaws.{entry}

pub returns-in_err-last : goal.returns-in_err-last
returns-in_err-last c =
    let p = err_from_is_err_and c.from_residual-in_err-last.result c.from_residual-in_err-last.ensures.1 in
    let fault = c.in_err-last.field-0.0 in
    let left = unread_of c.entries.after in
    let so_far = c.entries.invariant.0 in
    let stop : fault ≢ NoMemory → entries_reading (unread_of c.args.fields.now) ≡ Err fault =
    items_stop_unless entry_item c.in_ok-count.count c.entries.counter c.entries.db left fault (entries_reading (unread_of c.args.fields.now)) (omega arith)
    (λ known. subst (λ k. entry_reading k left ≡ Err fault) so_far.last_is (c.in_err-last.ensures known)) so_far.rest in
    rw (p.1, p.2) (stop, refl)

pub entries-preserved : goal.entries-preserved
entries-preserved c =
    let read = c.in_ok-last.ensures in (
      EntriesSoFar-more (entries_reading (unread_of c.args.fields.now)) c.in_ok-count.count c.entries.counter c.entries.last.now c.entries.db c.take_into.new.db (unread_of c.entries.after) (unread_of c.take_into.new.fields)
          c.in_ok-last.last.now read.0 c.entries.invariant.0 (omega arith) read.1 read.2,
      entry-utf8 c.entries.last.now (entry c.in_ok-last.last.now read.0) (unread_of c.entries.after) (unread_of c.take_into.new.fields) read.1,
    )

pub returns : goal.returns
returns c =
    items_end entry_item c.in_ok-count.count c.entries.counter c.entries.db (unread_of c.entries.after) (entries_reading (unread_of c.args.fields.now)) (omega arith) c.entries.invariant.0.rest
