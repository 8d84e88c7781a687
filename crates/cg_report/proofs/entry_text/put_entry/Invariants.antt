use Rattle.cg_report.proofs.entry_text.put_entry.Given as goal

abbrev pub ghosts-numbered_behind : goal.ghosts-numbered_behind
ghosts-numbered_behind a = record { front = a.bytes.items }
