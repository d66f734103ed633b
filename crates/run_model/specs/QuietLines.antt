-- The quiet lines, which are the two resize calls and dumps: their replies, and the store after
-- each.
use Rattle.std.specs.Prelude.{ℕ, List, [], map, slice_index, if◌then◌else◌, Bool, true, false}
use Rattle.papr_codes.specs.declared.calls.Hcall.{Hcall}
use Rattle.papr_codes.specs.declared.codes.Rc.{Rc}
use Rattle.papr_codes.specs.Hcalls.{hcall_of}
use Rattle.entry_model.specs.Trial.{plan_of_code, reply_by}
use Rattle.hpt_resize.specs.TableMemory.{TableMemory, prepare_result, commit_result}
use Rattle.tlb_model.specs.Processor.{without_cache}
use Rattle.trace_line.specs.declared.act.Act.{Act}
use Rattle.trace_reply.specs.declared.shown.Shown.{Shown}
use Rattle.trace_reply.specs.declared.reply.Reply.{Reply}
use Rattle.trace_reply.specs.ShownTable.{table_shown}
use Rattle.run_model.specs.Stores.{Store}
use Rattle.papr_codes.specs.declared.calls.Hcall.TheVariants as calls
use Rattle.papr_codes.specs.declared.codes.Rc.TheVariants as rc
use Rattle.trace_line.specs.declared.act.Act.TheVariants as acts
use Rattle.trace_reply.specs.declared.reply.Reply.TheVariants as replies

-- What a dump shows of the table.
unfoldable pub shown_of : TableMemory → Shown
shown_of memory =
    table_shown memory.table.number memory.table.order memory.table.place memory.table.states

-- The code is H_SUCCESS.
abbrev pub is_success : Rc → Bool
is_success rc.Success = true
is_success other = false

-- A reply of this code alone: no word, and no receipt.
abbrev pub reply_of_code : Rc → Reply
reply_of_code code = replies.Hcall (reply_by (plan_of_code code) [])

-- After H_RESIZE_HPT_PREPARE.
abbrev pub after_prepare : Store → Rc × TableMemory → Reply × Store
after_prepare s x = (reply_of_code x.0, record s { memory = x.1 })

-- After H_RESIZE_HPT_COMMIT. A committed resize clears each processor's cache.
abbrev pub after_commit : Store → Rc × TableMemory → Reply × Store
after_commit s x =
    let cleared = if is_success x.0 then map without_cache s.processors else s.processors in
    (reply_of_code x.0, record s { memory = x.1; processors = cleared })

-- The two resize calls. Their arguments are the flags and the order.
unfoldable pub run_resize : Store → Hcall → List ℕ → Reply × Store
run_resize s calls.Prepare args =
    after_prepare s (prepare_result s.memory (slice_index args 0) (slice_index args 1))
run_resize s calls.Commit args =
    after_commit s (commit_result s.memory (slice_index args 0) (slice_index args 1))
run_resize s other args = (reply_of_code rc.Function, s)

-- The reply to a quiet line, and the store after it. A dump changes nothing.
unfoldable pub run_quiet_line : Store → Act → Reply × Store
run_quiet_line s (acts.Call number args spelt) = run_resize s (hcall_of number) args
run_quiet_line s other = (replies.Dump (shown_of s.memory), s)
