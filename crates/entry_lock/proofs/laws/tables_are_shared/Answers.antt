use Rattle.entry_lock.proofs.table.LockTable.TheSendSync as lock_table
use Rattle.entry_lock.proofs.laws.tables_are_shared.Goals as goal

pub returns-clause-sync : goal.returns-clause-sync
returns-clause-sync c = lock_table.the_sync

pub returns-clause-send : goal.returns-clause-send
returns-clause-send c = lock_table.the_send
