use Rattle.entry_lock.proofs.line_accesses.look_first.Given as goal

abbrev pub ghosts-look_line : goal.ghosts-look_line
ghosts-look_line a = record { cached = a.known.now; op = a.op.now }
