use denote.Shadow.{shadow}
use denote.Text.{Utf8}
use Rattle.cg_codec.specs.Taking.{unread_of}
use Rattle.cg_disk_records.specs.Reading.{entries_reading}
use Rattle.cg_disk_records.proofs.EntryFields.{EntriesSoFar}
use Rattle.cg_disk_records.proofs.entries.take_entries.Given as goal

-- so many entries were read; and the last key is a text
abbrev pub invariant-entries : goal.invariant-entries
invariant-entries l = EntriesSoFar (entries_reading (unread_of l.fields)) l.count l.counter l.last l.db (unread_of l.after) × shadow (Utf8 l.last)
