use Rattle.std.proofs.Common.{sym}
use Rattle.cg_disk_records.proofs.EntryFields.{value-within}
use Rattle.cg_disk_records.proofs.entries.write_entry.Goals as goal

pub put_entry-requires-clause-value : goal.put_entry-requires-clause-value
put_entry-requires-clause-value c = value-within c.args.db.now c.args.key.now c.in-Some.value.now c.requires.entries (sym c.in-Some.ensures)
