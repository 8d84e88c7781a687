use Rattle.cg_report.proofs.line_text.put_line.Given as goal

abbrev pub ghosts-line_behind : goal.ghosts-line_behind
ghosts-line_behind a = record { front = a.bytes.items }
