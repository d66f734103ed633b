use Rattle.entry_lock.proofs.calls.take_entry.Given as goal

abbrev pub ghosts-lock : goal.ghosts-lock
ghosts-lock a = record { op = a.op.now }
