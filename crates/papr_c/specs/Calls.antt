-- What a hypervisor call by C leaves: its reply, the entries, and the slots for words and
-- receipts.
use Rattle.std.specs.Prelude.{ℕ, ◌==◌, ◌&&◌, Bool, if◌then◌else◌, List, length, map}
use Rattle.entry_model.specs.State.{State}
use Rattle.entry_model.specs.Trial.{Plan, plan_run}
use Rattle.entry_model.specs.declared.hreply.HReply.{HReply}
use Rattle.c_layout.specs.declared.receipts.PaprReceipt.{PaprReceipt}
use Rattle.c_layout.specs.declared.reply.PaprReply.{PaprReply}
use Rattle.c_layout.specs.Tables.{is_table}
use Rattle.c_layout.specs.Replies.{refused_reply, reply_told}
use Rattle.c_layout.specs.Slots.{filled, shown_receipt}

-- The memory that a call may change: the entries, and the slots for words and for receipts.
pub record LentMemory : Type 0 where
  pub entries : List State
  pub words : List ℕ
  pub receipts : List PaprReceipt

-- The memory of these parts.
abbrev pub memory : List State → List ℕ → List PaprReceipt → LentMemory
memory entries words receipts = record { entries = entries; words = words; receipts = receipts }

-- ---- outcomes
-- The memory with these entries, and with the words and the receipts of the reply in the slots, as
-- far as they go.
abbrev pub memory_with : LentMemory → HReply → List State → LentMemory
memory_with m reply entries =
    memory
    entries
    (filled m.words reply.words)
    (filled m.receipts (map shown_receipt reply.receipts))

-- What C has of a call's reply, and the memory with the entries after the call.
abbrev pub outcome_by : LentMemory → HReply × List State → PaprReply × LentMemory
outcome_by m run = (reply_told run.0 m.words m.receipts, memory_with m run.0 run.1)

-- A call whose arguments are as they should be is the plan's run on the entries; otherwise it
-- answers H_PARAMETER, and changes nothing.
abbrev pub outcome_where : Bool → Plan → LentMemory → PaprReply × LentMemory
outcome_where fits plan m =
    if fits then outcome_by m (plan_run plan m.entries) else (refused_reply, m)

-- A call on a table of 2 ^ order bytes.
abbrev pub outcome_of_call : ℕ → Plan → LentMemory → PaprReply × LentMemory
outcome_of_call order plan m = outcome_where (is_table order m.entries) plan m

-- H_BULK_REMOVE, which has four pairs of words.
abbrev pub outcome_of_bulk : ℕ → List ℕ → Plan → LentMemory → PaprReply × LentMemory
outcome_of_bulk order pairs plan m =
    outcome_where (is_table order m.entries && (length pairs == 8)) plan m
