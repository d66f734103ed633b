use Rattle.entry_lock.proofs.table.Pass.TheSendSync as pass
use Rattle.entry_lock.proofs.laws.passes_change_threads.Goals as goal

pub returns : goal.returns
returns c = pass.the_send
