-- What a line leaves on a plain table is what the serial run says.
use Rattle.std.specs.Prelude.{IfSome}
use Rattle.std.proofs.Common.{◌≡◌, ◌<◌, List, [], ◌∷◌, true, false, subst, ◌⊎◌, inl, inr, Option, Some, None, eqb}
use Rattle.std.proofs.lemmas.Bool.{cases_Bool, eqb-true}
use Rattle.entry_model.specs.State.{State}
use Rattle.entry_model.specs.declared.line.Line.{Line}
use Rattle.entry_model.specs.declared.receipt.Receipt.{Receipt}
use Rattle.entry_model.specs.CachedLines.{AllLater}
use Rattle.entry_model.specs.Run.{IsRun, IsStep, state_at}
use Rattle.entry_model.proofs.RunHistory.{own_state, other_state}
use Rattle.tlb_model.specs.Processor.{Processor}
use Rattle.papr_table.specs.TableState.{TableState, IsMade, IsGone}
use Rattle.trace_line.specs.declared.act.Act.{Act}
use Rattle.trace_line.specs.Lines.{is_quiet}
use Rattle.trace_reply.specs.declared.reply.Reply.{Reply}
use Rattle.trace_reply.specs.Replies.{receipts_in}
use Rattle.run_model.specs.Processors.{gone_line_of}
use Rattle.run_model.specs.LineReplies.{IsCallReply, IsReplyToAccess}
use Rattle.run_model.specs.SerialRun.{line_result}
use Rattle.run_model.specs.StoreContexts.{StoreContext, access_of}
use Rattle.run_model.proofs.OneReply.{IsPassed, replied_line_is}

-- ---- lines that are gone
gone_one :
    (a mid : List State) (r : Receipt) (line : Line)
    → (r.entry ≡ line.entry → line.stamp < r.before.stamp)
    → (eqb r.entry line.entry ≡ true) ⊎ (eqb r.entry line.entry ≡ false)
    → IsStep a r mid
    → (line.stamp < (state_at mid line.entry).stamp)
    → line.stamp < (state_at a line.entry).stamp
gone_one a mid r line past (inl own) step later =
    let e : r.entry ≡ line.entry = eqb-true r.entry line.entry own in
    subst (λ (s : State). line.stamp < s.stamp) (own_state a mid r line.entry step e).0 (past e)
gone_one a mid r line past (inr other) step later =
    subst (λ (s : State). line.stamp < s.stamp) (other_state a mid r line.entry step other) later

-- A line that is gone after receipts that are all past it was gone before them.
pub gone_before :
    (a b : List State) (rs : List Receipt) (line : Line)
    → IsRun a rs b
    → AllLater line rs
    → line.stamp < (state_at b line.entry).stamp
    → line.stamp < (state_at a line.entry).stamp
gone_before a b [] line run past gone =
    subst (λ s. line.stamp < (state_at s line.entry).stamp) run gone
gone_before a b (r ∷ rs) line run past gone =
    gone_one a run.0 r line past.0 (cases_Bool (eqb r.entry line.entry)) run.1
    (gone_before run.0 b rs line run.2 past.1 gone)

passed_before :
    (a : List State) (t : TableState) (rs : List Receipt) (line : Option Line)
    → IsRun a rs t.states
    → IfSome line (λ l. AllLater l rs)
    → IfSome line (IsGone t)
    → IsPassed a line
passed_before a t rs None run past gone = tt
passed_before a t rs (Some line) run past gone = gone_before a t.states rs line run past gone

-- ---- a line that runs alone
pub alone :
    (set : StoreContext) (processor : Processor) (act : Act) (reply : Reply) (a b : TableState)
    → is_quiet act ≡ false
    → IsMade a b (receipts_in reply)
    → IsCallReply set act reply
    → IsReplyToAccess (access_of set) processor act reply
    → IfSome (gone_line_of processor act reply) (λ line. AllLater line (receipts_in reply))
    → IfSome (gone_line_of processor act reply) (IsGone b)
    → (reply, b.states) ≡ line_result set processor a.states act
alone set processor act reply a b not_quiet made call access later gone =
    replied_line_is set processor a.states b.states
    (record { line = record { number = 0; cpu = 0; act = act }; reply = reply }) not_quiet
    (record {
      call = call;
      access = access;
      gone =
          passed_before a.states b (receipts_in reply) (gone_line_of processor act reply)
          made.run later gone;
      run = made.run;
    })
