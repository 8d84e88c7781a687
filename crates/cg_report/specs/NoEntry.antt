-- The entry that shows nothing.
use Rattle.std.specs.Prelude.{[]}
use Rattle.cg_report.specs.declared.entry.Entry.{Entry}

-- nothing is shown
abbrev pub no_entry : Entry
no_entry = record { made = []; orders = []; lines = []; replies = []; shown = [] }
