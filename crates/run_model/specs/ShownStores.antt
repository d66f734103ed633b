-- No store is lost: a store that succeeds shows in a change bit until a reply reports or clears it.
use Rattle.std.specs.Prelude.{◌≡◌, ℕ, ◌<◌, ◌==◌, Bool, true, false, ◌&&◌, IsTrue, List, [], ◌∷◌, length, slice_index, Option, Some, MatchBool, MatchOption, if◌then◌else◌}
use Rattle.std.specs.List.{AllByRecursion}
use Rattle.papr_codes.specs.declared.calls.Hcall.{Hcall}
use Rattle.papr_codes.specs.Hcalls.{hcall_of}
use Rattle.hpte_fields.specs.Fields.{is_changed}
use Rattle.entry_model.specs.State.{State}
use Rattle.entry_model.specs.declared.operation.Answer.{Answer}
use Rattle.entry_model.specs.declared.operation.Op.{Op}
use Rattle.entry_model.specs.declared.receipt.Receipt.{Receipt}
use Rattle.entry_model.specs.Receipt.{is_at}
use Rattle.entry_model.specs.Reply.{is_store}
use Rattle.entry_model.specs.History.{history}
use Rattle.entry_model.specs.Run.{state_at}
use Rattle.call_plan.specs.Bulk.{pairs_show}
use Rattle.hpt_resize.specs.Rehash.{target_at}
use Rattle.trace_line.specs.declared.act.Act.{Act}
use Rattle.trace_reply.specs.declared.reply.Reply.{Reply}
use Rattle.run_model.specs.Stores.{states_of}
use Rattle.run_model.specs.Sections.{Section, made_in, closing}
use Rattle.run_model.specs.GoodRun.{EachLine}
use Rattle.papr_codes.specs.declared.calls.Hcall.TheVariants as calls
use Rattle.entry_model.specs.declared.operation.Answer.TheVariants as answers
use Rattle.entry_model.specs.declared.operation.Op.TheVariants as ops
use Rattle.trace_line.specs.declared.act.Act.TheVariants as acts
use Rattle.trace_reply.specs.declared.reply.Reply.TheVariants as replies

-- ---- receipts
-- A receipt that clears C: a removal, or H_CLEAR_MOD's.
abbrev pub clears_by : Op → Answer → Bool
clears_by (ops.Remove test) answers.Removed = true
clears_by ops.ClearMod answers.Was = true
clears_by op answer = false

-- The receipt clears C, and its reply shows C as it was.
abbrev pub clears : Receipt → Bool
clears r = clears_by r.op r.answer

-- A store that was allowed.
abbrev pub stores_by : Op → Answer → Bool
stores_by (ops.Access tag base key no_execute want masks) answer = is_store want && is_at answer
stores_by op answer = false

-- The receipt is one of a store that was allowed.
abbrev pub stores : Receipt → Bool
stores r = stores_by r.op r.answer

-- ---- one entry
-- C is set in each state before, up to and with that of the first receipt that clears it; where
-- none does it is set in the last state, and stays shown.
abbrev pub ShowsChange : List Receipt → State → Type 0 → Type 0
ShowsChange [] last after = (last.changed ≡ true) × after
ShowsChange (r ∷ rs) last after =
    (r.before.changed ≡ true) × MatchBool (clears r) (Unit {0}) (ShowsChange rs last after)

-- The state that the entry closes on.
abbrev pub closing_state : Section → ℕ → State
closing_state s entry = state_at (states_of (closing s)) entry

-- ---- the reply that clears
-- The words show C of an entry: H_REMOVE's in doubleword 1, the second of them, H_CLEAR_MOD's in
-- the one word, H_BULK_REMOVE's in a pair of the entry.
abbrev pub shows_changed : Hcall → List ℕ → ℕ → Bool
shows_changed calls.Remove words entry = is_changed (slice_index words 1)
shows_changed calls.ClearMod words entry = is_changed (slice_index words 0)
shows_changed calls.BulkRemove words entry = pairs_show words entry
shows_changed other words entry = false

-- A receipt that clears C has its C shown, where that was set.
abbrev pub ShowsWhatItClears : Hcall → List ℕ → Receipt → Type 0
ShowsWhatItClears call words r =
    clears r ≡ true → r.before.changed ≡ true → IsTrue (shows_changed call words r.entry)

-- The reply of a hypervisor call shows each C that its receipts clear.
abbrev pub ShowsClearedBits : Act → Reply → Type 0
ShowsClearedBits (acts.Call number args spelt) (replies.Hcall h) =
    AllByRecursion (ShowsWhatItClears (hcall_of number) h.words) h.receipts
ShowsClearedBits act reply = Unit {0}

-- Each reply to a call of the section shows each C that its receipts clear.
abbrev pub ClearedBitsAreShown : Section → Type 0
ClearedBitsAreShown s = EachLine (λ p t. ShowsClearedBits t.line.act t.reply) s

-- ---- from section to section
-- The section has the table of the one before.
abbrev pub has_table_of : Section → Section → Bool
has_table_of old new = new.before.memory.table.number == old.before.memory.table.number

-- Where an entry of the one section is in the next: in the same table at its index, in a new
-- one where the resize carried it, if it did.
abbrev pub carried_to : Section → Section → ℕ → Option ℕ
carried_to old new entry =
    if has_table_of old new
    then Some entry
    else target_at
    old.before.memory.table.order
    new.before.memory.table.order
    (states_of (closing old))
    entry

-- C of this entry is set when these sections begin, and is shown from there on: through each
-- section, and then at the place to which a committed resize carried the entry. One that a resize
-- drops is dropped by that call's reply.
abbrev pub StaysShown : Section → ℕ → List Section → Type 0
StaysShown s entry [] = Unit {0}
StaysShown s entry (next ∷ rest) =
    MatchOption
    (carried_to s next entry)
    (Unit {0})
    (λ target. ShowsChange
    (history target (made_in next))
    (closing_state next target)
    (StaysShown next target rest))

-- Each store in a history is shown from its place on.
abbrev pub StoresAreShown : List Receipt → State → Type 0 → Type 0
StoresAreShown [] last after = Unit {0}
StoresAreShown (r ∷ rs) last after =
    MatchBool (stores r) (ShowsChange rs last after) (Unit {0}) × StoresAreShown rs last after

-- Each store in each entry's history is shown, in each section.
abbrev pub NoStoreIsLostIn : List Section → Type 0
NoStoreIsLostIn [] = Unit {0}
NoStoreIsLostIn (s ∷ rest) =
    ((entry : ℕ)
    → entry < length (states_of s.before)
    → StoresAreShown (history entry (made_in s)) (closing_state s entry) (StaysShown s entry rest))
    × NoStoreIsLostIn rest

-- ---- bits that are set already
-- C of each valid entry that has it when a section begins is shown from there on, in each section;
-- so is that of each entry of the opening table.
abbrev pub NoSetBitIsLostIn : List Section → Type 0
NoSetBitIsLostIn [] = Unit {0}
NoSetBitIsLostIn (s ∷ rest) =
    ((entry : ℕ)
    → (state_at (states_of s.before) entry).valid ≡ true
    → (state_at (states_of s.before) entry).changed ≡ true
    → ShowsChange (history entry (made_in s)) (closing_state s entry) (StaysShown s entry rest))
    × NoSetBitIsLostIn rest
