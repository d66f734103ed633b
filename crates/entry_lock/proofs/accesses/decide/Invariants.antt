use Rattle.entry_lock.proofs.accesses.decide.Given as goal

abbrev pub ghosts-look_again : goal.ghosts-look_again
ghosts-look_again a = record { doing = a.doing.now }
