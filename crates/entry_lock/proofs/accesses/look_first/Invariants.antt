use Rattle.entry_lock.proofs.accesses.look_first.Given as goal

abbrev pub ghosts-look : goal.ghosts-look
ghosts-look a = record { op = a.op.now }
