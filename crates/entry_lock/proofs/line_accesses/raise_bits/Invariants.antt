use Rattle.entry_lock.proofs.line_accesses.raise_bits.Given as goal

abbrev pub ghosts-mark_line : goal.ghosts-mark_line
ghosts-mark_line a = record { cached = a.known.now; doing = a.doing.now }
