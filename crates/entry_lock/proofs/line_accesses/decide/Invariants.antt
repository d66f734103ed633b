use Rattle.entry_lock.proofs.line_accesses.decide.Given as goal

abbrev pub ghosts-look_line_again : goal.ghosts-look_line_again
ghosts-look_line_again a = record { cached = a.known.now; doing = a.doing.now }
