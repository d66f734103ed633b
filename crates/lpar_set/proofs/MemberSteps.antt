-- What the two resize calls leave of a partition of a set, and of its pool.
use Rattle.std.proofs.Common.{◌≡◌, ℕ, List, ap, sym, ◌∙◌, subst, Option}
use Rattle.hpt_pool.specs.Pool.{PoolState}
use Rattle.tlb_model.specs.Processor.{Processor}
use Rattle.entry_model.specs.declared.hreply.HReply.{HReply}
use Rattle.entry_model.specs.Trial.{IsReplyOf, plan_of_code}
use Rattle.papr_codes.specs.declared.codes.Rc.{Rc}
use Rattle.hpt_resize.specs.declared.current.Current.{Current}
use Rattle.hpt_resize.specs.declared.current.CommitAnswer.{CommitAnswer}
use Rattle.hpt_resize.specs.Pending.{PendingTable}
use Rattle.hpt_resize.specs.Resize.{IsTable, Table, prepare_outcome, outcome_of_prepare, commit_outcome, outcome_of_commit, table_of}
use Rattle.hpt_resize.specs.TableMemory.{prepare_result, commit_result}
use Rattle.trace_reply.specs.declared.reply.Reply.{Reply}
use Rattle.trace_reply.specs.declared.reply.Reply.TheVariants as replies
use Rattle.partition.proofs.Resizing.{reply_alone, prepare_is, commit_is}
use Rattle.run_model.specs.Stores.{Store}
use Rattle.run_model.specs.QuietLines.{reply_of_code, after_prepare, after_commit}
use Rattle.lpar_set.specs.SetRun.{MemberState, with_pool}
use Rattle.run_model.specs.HeldLines.{AllHold}
use Rattle.run_model.proofs.Commits.{Moves, commit_moves, cleared, moved_hold}
use Rattle.lpar_set.specs.BetweenLines.{IsBetweenLines}

-- A line's reply, and the store that the line leaves.
abbrev pub replied : Reply → Store → Reply × Store
replied reply w = (reply, w)

-- ---- prepare
pub prepared :
    (m : MemberState) (pool pool' : PoolState) (pending' : Option PendingTable) (flags shift : ℕ)
    (rc : Rc) (reply : HReply)
    → prepare_outcome rc pending' pool' ≡ outcome_of_prepare m.limit flags shift m.pending pool
    → IsReplyOf (plan_of_code rc) reply
    → replied (replies.Hcall reply) (with_pool pool' (record m { pending = pending' }))
    ≡ after_prepare (with_pool pool m) (prepare_result (with_pool pool m).memory flags shift)
prepared m pool pool' pending' flags shift rc reply done told =
    ap
    (λ (h : HReply).
    replied (replies.Hcall h) (with_pool pool' (record m { pending = pending' })))
    (reply_alone rc reply told)
    ∙ ap (after_prepare (with_pool pool m))
    (sym (prepare_is m.limit flags shift m.pending pending' pool pool' m.table rc done))

-- ---- commit
pub committed :
    (m : MemberState) (pool pool' : PoolState) (pending' : Option PendingTable) (table' : Table)
    (processors' : List Processor) (flags shift : ℕ) (answer : CommitAnswer) (reply : HReply)
    → commit_outcome answer pending' pool' table'
    ≡ outcome_of_commit flags shift m.pending pool m.table
    → IsReplyOf (plan_of_code answer.rc) reply
    → processors' ≡ cleared answer.rc m.processors
    → replied (replies.Hcall reply)
    (with_pool pool'
    (record m { pending = pending'; table = table'; processors = processors' }))
    ≡ after_commit (with_pool pool m) (commit_result (with_pool pool m).memory flags shift)
committed m pool pool' pending' table' processors' flags shift answer reply done told clear =
    ap
    (λ (h : HReply).
    replied (replies.Hcall h)
    (with_pool pool'
    (record m { pending = pending'; table = table'; processors = processors' })))
    (reply_alone answer.rc reply told)
    ∙ ap
    (λ (ps : List Processor).
    replied (reply_of_code answer.rc)
    (with_pool pool' (record m { pending = pending'; table = table'; processors = ps })))
    clear
    ∙ ap (after_commit (with_pool pool m))
    (sym
    (commit_is m.limit flags shift m.pending pending' pool pool' m.table table' answer
    done))

-- Caches hold of the table that a commit leaves.
pub still_hold :
    (m : MemberState) (pool pool' : PoolState) (pending' : Option PendingTable) (current : Current)
    (processors' : List Processor) (flags shift : ℕ) (answer : CommitAnswer)
    → IsBetweenLines m
    → commit_outcome answer pending' pool' (table_of current)
    ≡ outcome_of_commit flags shift m.pending pool m.table
    → IsTable current
    → processors' ≡ cleared answer.rc m.processors
    → IsBetweenLines
    (record m { pending = pending'; table = table_of current; processors = processors' })
still_hold m pool pool' pending' current processors' flags shift answer before done tables clear =
    let moves : Moves m.table (commit_outcome answer pending' pool' (table_of current)) = subst
    (Moves m.table) (sym done) (commit_moves flags shift m.pending pool m.table) in
    record {
      member = record {
        limit_fits = before.member.limit_fits;
        order_fits = tables.order_fits;
        whole = tables.whole;
      };
      hold =
          subst (AllHold current.states.items) (sym clear)
          (moved_hold answer.rc m.table (table_of current) m.processors moves before.hold);
    }

-- ---- dumps
