use Rattle.cg_base.proofs.sink.put_shown.Given as goal

abbrev pub ghosts-written : goal.ghosts-written
ghosts-written g a = record { front = a.bytes.items }
