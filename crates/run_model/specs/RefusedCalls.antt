-- Which calls and accesses are refused, and that these change nothing but in the cases that are
-- named here. The grants are a constant of the run.
use Rattle.std.specs.Prelude.{◌≡◌, ℕ, Bool, true, false, not, List, [], ◌∷◌, Option, Some, None, IfSome, slice_index}
use Rattle.std.specs.List.{AllByRecursion}
use Rattle.papr_codes.specs.declared.calls.Hcall.{Hcall}
use Rattle.papr_codes.specs.declared.codes.Rc.{Rc}
use Rattle.papr_codes.specs.Hcalls.{hcall_of}
use Rattle.entry_model.specs.declared.access_reply.Outcome.{Outcome}
use Rattle.entry_model.specs.declared.device_reply.DeviceOutcome.{DeviceOutcome}
use Rattle.entry_model.specs.declared.line.Line.{Line}
use Rattle.entry_model.specs.declared.operation.Answer.{Answer}
use Rattle.entry_model.specs.declared.receipt.Receipt.{Receipt}
use Rattle.entry_model.specs.Receipt.{after_of}
use Rattle.hpt_resize.specs.Resize.{is_pending, pool_without}
use Rattle.hpt_resize.specs.TableMemory.{TableMemory, with_states}
use Rattle.tlb_model.specs.Cache.{set_of, without_page}
use Rattle.tlb_model.specs.Processor.{Processor}
use Rattle.tlb_model.specs.Sets.{with_set}
use Rattle.trace_line.specs.declared.act.Act.{Act}
use Rattle.trace_reply.specs.declared.reply.Reply.{Reply}
use Rattle.trace_reply.specs.Replies.{receipts_in}
use Rattle.run_model.specs.Processors.{processor_after, gone_line_of}
use Rattle.run_model.specs.Stores.{Store, states_of}
use Rattle.run_model.specs.Sections.{Section, closing}
use Rattle.run_model.specs.GoodRun.{EachLine}
use Rattle.papr_codes.specs.declared.calls.Hcall.TheVariants as calls
use Rattle.papr_codes.specs.declared.codes.Rc.TheVariants as rc
use Rattle.entry_model.specs.declared.access_reply.Outcome.TheVariants as outcomes
use Rattle.entry_model.specs.declared.device_reply.DeviceOutcome.TheVariants as device_outcomes
use Rattle.entry_model.specs.declared.operation.Answer.TheVariants as answers
use Rattle.trace_line.specs.declared.act.Act.TheVariants as acts
use Rattle.trace_reply.specs.declared.reply.Reply.TheVariants as replies

-- ---- what is refused
-- The code is neither H_SUCCESS nor 9900, that of a prepare that is still at work.
abbrev pub is_refusal : Rc → Bool
is_refusal rc.Success = false
is_refusal rc.LongBusy = false
is_refusal other = true

-- The access was allowed.
abbrev pub ends_at : Outcome → Bool
ends_at (outcomes.At address) = true
ends_at other = false

-- A device's access was allowed.
abbrev pub device_ends_at : DeviceOutcome → Bool
device_ends_at (device_outcomes.At address) = true
device_ends_at other = false

-- A hypervisor call by its code, an access of a processor or a device that doesn't end At, or an
-- slbmte whose words were refused.
abbrev pub is_refused : Act → Reply → Bool
is_refused (acts.Call number args spelt) (replies.Hcall h) = is_refusal h.rc
is_refused (acts.Access want ea user) (replies.Access r) = not (ends_at r.outcome)
is_refused (acts.Device write liobn ioba) (replies.Device r) = not (device_ends_at r.outcome)
is_refused (acts.SlbMte rb rs) (replies.Segment accepted) = not accepted
is_refused act reply = false

-- ---- entries
-- The entry was removed.
abbrev pub is_removed : Answer → Bool
is_removed answers.Removed = true
is_removed other = false

-- A bulk removal that ends with H_PARAMETER or H_HARDWARE keeps the pairs that it has removed; and
-- an H_PUT_TCE that ends with H_BUSY or H_HARDWARE has removed the TCE that was there.
abbrev pub keeps_removals : Hcall → Rc → Bool
keeps_removals calls.BulkRemove rc.Parameter = true
keeps_removals calls.BulkRemove rc.Hardware = true
keeps_removals calls.PutTce rc.Busy = true
keeps_removals calls.PutTce rc.Hardware = true
keeps_removals call code = false

-- The line is such a call.
abbrev pub keeps_removals_by : Act → Reply → Bool
keeps_removals_by (acts.Call number args spelt) (replies.Hcall h) =
    keeps_removals (hcall_of number) h.rc
keeps_removals_by act reply = false

-- The entry of the receipt stands as it was; where removals are kept, unless it was removed.
abbrev pub LeavesEntry : Bool → Receipt → Type 0
LeavesEntry true r = is_removed r.answer ≡ false → after_of r ≡ r.before
LeavesEntry false r = after_of r ≡ r.before

-- ---- processors
-- The cache without the line that was gone, if there was one.
abbrev pub cache_without : Option Line → List (List Line) → List (List Line)
cache_without None cache = cache
cache_without (Some line) cache =
    with_set line.page (without_page line.page (set_of cache line.page)) cache

-- ---- the lines of a section
-- What a line leaves: the entries of its receipts, its processor's segments, and of its cache all
-- but a line that was gone.
pub record LeavesAll (p : Processor) (act : Act) (reply : Reply) : Type 0 where
  pub entries : AllByRecursion (LeavesEntry (keeps_removals_by act reply)) (receipts_in reply)
  pub slots : (processor_after p act reply).slots ≡ p.slots
  pub cache :
      (processor_after p act reply).cache ≡ cache_without (gone_line_of p act reply) p.cache

-- Each refused line of a section does. No line of it, refused or not, changes more of the memory
-- than entries: the pool and the pending table stand.
pub record RefusedLinesLeave (s : Section) : Type 0 where
  pub lines :
      EachLine
      (λ p t. is_refused t.line.act t.reply ≡ true → LeavesAll p t.line.act t.reply)
      s
  pub grants : (closing s).grants ≡ s.before.grants
  pub memory :
      (closing s).memory
      ≡ with_states s.before.memory (states_of (closing s))

-- Each refused line on a window leaves so what it names.
abbrev pub RefusedWindowLinesLeave : Section → Type 0
RefusedWindowLinesLeave s =
    EachLine (λ p t. is_refused t.line.act t.reply ≡ true → LeavesAll p t.line.act t.reply) s

-- ---- resize calls
-- A prepare that answers H_NO_MEM and a commit that answers H_PTEG_FULL have dropped the pending
-- table.
abbrev pub drops_pending : Hcall → Rc → Bool
drops_pending calls.Prepare rc.NoMem = true
drops_pending calls.Commit rc.PtegFull = true
drops_pending call code = false

-- The memory without a pending table, whose block is given back.
abbrev pub without_pending : TableMemory → TableMemory
without_pending memory = record memory {
  pool = pool_without memory.pending memory.pool;
  pending = None;
}

-- The memory as it stands, or without the pending table.
abbrev pub memory_left : Bool → TableMemory → TableMemory
memory_left true memory = without_pending memory
memory_left false memory = memory

-- What a refused quiet line leaves of all that the run carries.
abbrev pub run_left : Act → Reply → Store → Store
run_left (acts.Call number args spelt) (replies.Hcall h) w =
    record w { memory = memory_left (drops_pending (hcall_of number) h.rc) w.memory }
run_left act reply w = w

-- A prepare that answers H_NO_MEM found no pending table of its order.
abbrev pub FoundNone : Hcall → Rc → List ℕ → TableMemory → Type 0
FoundNone calls.Prepare rc.NoMem args memory =
    is_pending (slice_index args 1) memory.pending ≡ false
FoundNone call code args memory = Unit {0}

-- A pending table that a line drops for want of memory is of another order than the line asks for.
abbrev pub DropsAnother : Act → Reply → Store → Type 0
DropsAnother (acts.Call number args spelt) (replies.Hcall h) w =
    FoundNone (hcall_of number) h.rc args w.memory
DropsAnother act reply w = Unit {0}

-- What the run carries before a refused quiet line, and after it.
pub record LeavesRun (act : Act) (reply : Reply) (old new : Store) : Type 0 where
  pub left : new ≡ run_left act reply old
  pub another : DropsAnother act reply old

-- The section after a refused quiet line opens on what that left of the one before it.
abbrev pub OpensOnRest : Section → Section → Type 0
OpensOnRest s next =
    IfSome
    s.quiet
    (λ q. is_refused q.line.act q.reply ≡ true
    → LeavesRun q.line.act q.reply (closing s) next.before)

-- Each section after a refused quiet line opens on what that left of the one before it.
abbrev pub RefusedQuietLinesLeave : List Section → Type 0
RefusedQuietLinesLeave [] = Unit {0}
RefusedQuietLinesLeave (s ∷ []) = Unit {0}
RefusedQuietLinesLeave (s ∷ next ∷ rest) =
    OpensOnRest s next × RefusedQuietLinesLeave (next ∷ rest)
