use Rattle.entry_lock.proofs.accesses.raise_bits.Given as goal

abbrev pub ghosts-mark : goal.ghosts-mark
ghosts-mark a = record { doing = a.doing.now }
