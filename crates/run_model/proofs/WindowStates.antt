-- States of a window's entries: a low stamp, and of each valid entry a TCE whose page lies in one
-- grant of main storage. What lines on windows keep of these.
use Rattle.std.specs.Prelude.{◌≢◌, ◌||◌, ◌+◌, ◌==◌, if◌then◌else◌}
use Rattle.std.specs.Option.{option_map_or}
use Rattle.std.proofs.Common.{◌≡◌, ℕ, ◌≤◌, List, [], ◌∷◌, Bool, true, false, ap, sym, ◌∙◌, subst, inl, inr, arith, Option, Some, None}
use Rattle.std.specs.List.{AllByRecursion}
use Rattle.std.proofs.lemmas.Bool.{cond_both, false≢true}
use Rattle.bus_window.specs.Windows.{BusWindow, entry_at}
use Rattle.dma_window.specs.Calls.{code_by_last, code_of as code_of_answer, clear_plan, replace_plan, put_plan_at, get_plan_at, put_tce_plan, get_tce_plan}
use Rattle.dma_window.specs.Devices.{IsDeviceReplyBy}
use Rattle.dma_window.specs.Entries.{address_of, permits, first_word, second_word, tce_of}
use Rattle.dma_window.specs.Laws.{IsTceCall}
use Rattle.dma_window.specs.Pages.{is_ram}
use Rattle.dma_window.proofs.KeptWords.{kept_words}
use Rattle.dma_window.proofs.TceCalls.{tce_calls}
use Rattle.frame_grants.specs.declared.grant.Grant.{Grant}
use Rattle.papr_codes.specs.Hcalls.{hcall_of}
use Rattle.papr_codes.specs.declared.calls.Hcall.{Hcall}
use Rattle.papr_codes.specs.declared.calls.Hcall.TheVariants as calls
use Rattle.papr_codes.specs.declared.codes.Rc.TheVariants as rc
use Rattle.entry_model.specs.State.{State, empty_state}
use Rattle.entry_model.specs.Reply.{reply_of, change_to, entered_state, is_found}
use Rattle.entry_model.specs.Receipt.{is_worn}
use Rattle.entry_model.specs.Trial.{Call, Plan, IsReplyOf, call, plan_of_code}
use Rattle.entry_model.specs.declared.operation.Answer.{Answer}
use Rattle.entry_model.specs.declared.operation.Answer.TheVariants as answers
use Rattle.entry_model.specs.declared.operation.Op.{Op}
use Rattle.entry_model.specs.declared.operation.Op.TheVariants as ops
use Rattle.entry_model.specs.declared.receipt.Receipt.{Receipt}
use Rattle.entry_model.specs.declared.hreply.HReply.{HReply}
use Rattle.entry_model.specs.declared.device_reply.DeviceReply.{DeviceReply}
use Rattle.entry_model.proofs.Heights.{height, weight, reply_raises, trial_weight}
use Rattle.entry_model.proofs.PlanBounds.{NoneWorn, IsTame, IsTameReply, answered_tame, tame_reply, trial_ops}
use Rattle.trace_line.specs.declared.act.Act.{Act}
use Rattle.trace_line.specs.declared.act.Act.TheVariants as acts
use Rattle.trace_reply.specs.declared.reply.Reply.{Reply}
use Rattle.trace_reply.specs.declared.reply.Reply.TheVariants as replies
use Rattle.trace_reply.specs.Replies.{receipts_in}
use Rattle.run_model.specs.StoreContexts.{window_context}
use Rattle.run_model.specs.LineReplies.{hcall_plan, IsCallReply}
use Rattle.run_model.specs.Landings.{IsUnworn}
use Rattle.run_model.proofs.LowStamps.{IsKeptBy}
use Rattle.run_model.proofs.CallLines.{IsWindowCall, IsWindowAct}

-- ---- states
-- A valid entry keeps a TCE whose page lies in one grant of main storage.
abbrev pub HasTce : List Grant → State → Type 0
HasTce grants s = s.valid ≡ true → is_ram grants (address_of (tce_of s)) ≡ true

-- Its stamp, with one more where it is valid, is at most n, and it has such a TCE.
pub record IsTceState (grants : List Grant) (n : ℕ) (s : State) : Type 0 where
  pub low : height s ≤ n
  pub tce : HasTce grants s

-- An empty entry is such.
pub empty_tce : (grants : List Grant) (n : ℕ) → IsTceState grants n (empty_state 0)
empty_tce grants n = record { low = omega arith; tce = λ valid. absurd (false≢true valid) }

pub tce_more :
    (grants : List Grant) (n m : ℕ) (s : State)
    → n ≤ m
    → IsTceState grants n s
    → IsTceState grants m s
tce_more grants n m s more h = record { low = omega (arith, h.low); tce = h.tce }

-- ---- operations
-- The operation enters such a TCE, removes or reads.
abbrev pub TceOp : List Grant → Op → Type 0
TceOp grants (ops.Enter dword0 dword1) =
    is_ram grants (address_of (tce_of (entered_state dword0 dword1))) ≡ true
TceOp grants (ops.Remove test) = Unit {0}
TceOp grants ops.Read = Unit {0}
TceOp grants other = ⊥

changed_tce :
    (grants : List Grant) (s : State) (answer : Answer) (next : State)
    → HasTce grants s
    → HasTce grants next
    → HasTce grants (change_to s answer next).1
changed_tce grants s answer next h k =
    cond_both {A = Answer × State} (s.stamp == 0xFFFFFFFF) (answers.Worn, s)
    (answer, record next { stamp = s.stamp + 1 }) (λ x. HasTce grants x.1) (λ _. h) (λ _. k)

reply_tce :
    (grants : List Grant) (s : State) (op : Op)
    → TceOp grants op
    → HasTce grants s
    → HasTce grants (reply_of s op).1
reply_tce grants s (ops.Enter dword0 dword1) page h =
    cond_both {A = Answer × State} s.valid (answers.Taken, s)
    (change_to s answers.Entered (entered_state dword0 dword1)) (λ x. HasTce grants x.1)
    (λ _. h)
    (λ _. changed_tce grants s answers.Entered (entered_state dword0 dword1) h (λ _. page))
reply_tce grants s (ops.Remove test) page h =
    cond_both {A = Answer × State} (is_found s test) (change_to s answers.Removed (empty_state 0))
    (answers.NotFound, s) (λ x. HasTce grants x.1)
    (λ _.
    changed_tce grants s answers.Removed (empty_state 0) h
    (λ valid. absurd (false≢true valid))) (λ _. h)
reply_tce grants s ops.Read page h = h
reply_tce grants s other page h = absurd page

-- Such operations keep such states.
pub tce_kept : (grants : List Grant) → IsKeptBy (TceOp grants) (IsTceState grants)
tce_kept grants = record {
  step =
      λ n s op page h.
      record {
        low = (let low : height s ≤ n = h.low in omega (arith, reply_raises s op));
        tce = reply_tce grants s op page h.tce;
      };
  more = tce_more grants;
}

-- ---- plans
abbrev AnyWords : ℕ → ℕ → Type 0
AnyWords dword0 dword1 = Unit {0}

-- The plan makes no other operations, raises few stamps, and gives H_HARDWARE only where an entry
-- was worn.
record IsTcePlan (grants : List Grant) (plan : Plan) : Type 0 where
  made : AllByRecursion (λ (c : Call). TceOp grants c.op) plan.calls
  tame : IsTame AnyWords plan

answer_fine : (answer : Answer) → is_worn answer ≡ false → code_of_answer answer ≢ rc.Hardware
answer_fine answers.Worn fine = absurd (false≢true (sym fine))
answer_fine answers.Taken fine = λ e. cc
answer_fine other fine = λ e. cc

last_fine : (rs : List Receipt) → NoneWorn rs → code_by_last rs ≢ rc.Hardware
last_fine [] fine = λ e. cc
last_fine (r ∷ []) fine = answer_fine r.answer fine.0
last_fine (r ∷ x ∷ rs) fine = last_fine (x ∷ rs) fine.1

put_tame :
    (permitted ram : Bool) (entry dword0 dword1 : ℕ)
    → IsTame AnyWords
    (if permitted then
    (if ram then replace_plan entry (ops.Enter dword0 dword1) else plan_of_code
    rc.Parameter) else clear_plan entry)
put_tame true true entry dword0 dword1 =
    record { enters = (tt, (tt, tt)); few = omega arith; code = λ rs trial fine. last_fine rs fine }
put_tame true false entry dword0 dword1 = answered_tame AnyWords rc.Parameter (λ e. cc)
put_tame false ram entry dword0 dword1 =
    record { enters = (tt, tt); few = omega arith; code = λ rs trial fine. last_fine rs fine }

put_at_tame :
    (grants : List Grant) (tce : ℕ) (entry : Option ℕ)
    → IsTame AnyWords (option_map_or (put_plan_at grants tce) entry (plan_of_code rc.Parameter))
put_at_tame grants tce None = answered_tame AnyWords rc.Parameter (λ e. cc)
put_at_tame grants tce (Some entry) =
    put_tame (permits tce false || permits tce true) (is_ram grants (address_of tce)) entry
    (first_word tce) (second_word tce)

-- What H_PUT_TCE makes is such an operation.
made_tce : (grants : List Grant) (tce : ℕ) (op : Op) → IsTceCall grants tce op → TceOp grants op
made_tce grants tce op (inl removal) = subst (TceOp grants) (sym removal) tt
made_tce grants tce op (inr entering) =
    subst (TceOp grants) (sym entering.0) (ap (is_ram grants) (kept_words tce).address ∙ entering.1)

each_made :
    (grants : List Grant) (tce : ℕ) (cs : List Call)
    → AllByRecursion (λ (c : Call). IsTceCall grants tce c.op) cs
    → AllByRecursion (λ (c : Call). TceOp grants c.op) cs
each_made grants tce [] h = tt
each_made grants tce (c ∷ cs) h = (made_tce grants tce c.op h.0, each_made grants tce cs h.1)

put_planned :
    (grants : List Grant) (w : BusWindow) (ioba tce : ℕ)
    → IsTcePlan grants (put_tce_plan grants w ioba tce)
unfolding put_tce_plan
put_planned grants w ioba tce = record {
  made = each_made grants tce (put_tce_plan grants w ioba tce).calls (tce_calls grants w ioba tce);
  tame = put_at_tame grants tce (entry_at w ioba);
}

get_at_planned :
    (grants : List Grant) (entry : Option ℕ)
    → IsTcePlan grants (option_map_or get_plan_at entry (plan_of_code rc.Parameter))
get_at_planned grants None =
    record { made = tt; tame = answered_tame AnyWords rc.Parameter (λ e. cc) }
get_at_planned grants (Some entry) =
    record {
      made = (tt, tt);
      tame = record { enters = (tt, tt); few = omega arith; code = λ rs trial fine e. cc };
    }

get_planned :
    (grants : List Grant) (w : BusWindow) (ioba : ℕ) → IsTcePlan grants (get_tce_plan w ioba)
unfolding get_tce_plan
get_planned grants w ioba = get_at_planned grants (entry_at w ioba)

call_planned :
    (grants : List Grant) (w : BusWindow) (call : Hcall) (args : List ℕ)
    → IsWindowCall call
    → IsTcePlan grants (hcall_plan (window_context grants w) call args)
unfolding hcall_plan
call_planned grants w calls.PutTce args is = put_planned grants w _ _
call_planned grants w calls.GetTce args is = get_planned grants w _
call_planned grants w other args is = absurd is

-- ---- lines
-- The line made no other operations, raised few stamps, and is safe where no entry was worn.
pub record IsTceLine (grants : List Grant) (reply : Reply) : Type 0 where
  pub made : AllByRecursion (λ (r : Receipt). TceOp grants r.op) (receipts_in reply)
  pub few : weight (receipts_in reply) ≤ 32
  pub safe : NoneWorn (receipts_in reply) → IsUnworn reply

plan_line :
    (grants : List Grant) (plan : Plan) (h : HReply)
    → IsTcePlan grants plan
    → IsReplyOf plan h
    → IsTceLine grants (replies.Hcall h)
plan_line grants plan h planned is =
    let tame : IsTameReply AnyWords h = tame_reply AnyWords plan h planned.tame is in
    record {
      made = trial_ops (TceOp grants) plan.goes_on plan.calls h.receipts planned.made is.trial;
      few = tame.few;
      safe = tame.code;
    }

device_line :
    (grants : List Grant) (ioba : ℕ) (write : Bool) (entry : Option ℕ) (d : DeviceReply)
    → IsDeviceReplyBy grants ioba write d entry
    → IsTceLine grants (replies.Device d)
device_line grants ioba write None d is =
    subst (λ (x : DeviceReply). IsTceLine grants (replies.Device x)) (sym is)
    (record { made = tt; few = omega arith; safe = λ fine. tt })
device_line grants ioba write (Some entry) d is = record {
  made =
      trial_ops (TceOp grants) (λ answer. true) (call ops.Read entry ∷ []) d.receipts (tt, tt)
      is.trial;
  few = omega (arith, trial_weight (λ answer. true) (call ops.Read entry ∷ []) d.receipts is.trial);
  safe = λ fine. tt;
}

-- Such is each line on a window that has its call's reply.
pub tce_line :
    (grants : List Grant) (w : BusWindow) (act : Act) (reply : Reply)
    → IsWindowAct act
    → IsCallReply (window_context grants w) act reply
    → IsTceLine grants reply
tce_line grants w (acts.Call number args spelt) (replies.Hcall h) is told =
    plan_line grants (hcall_plan (window_context grants w) (hcall_of number) args) h
    (call_planned grants w (hcall_of number) args is) told
tce_line grants w (acts.Device write liobn ioba) (replies.Device d) is told =
    device_line grants ioba write (entry_at w ioba) d told
tce_line grants w (acts.Access want ea user) reply is told = absurd is
tce_line grants w (acts.SlbMte rb rs) reply is told = absurd is
tce_line grants w acts.SlbClear reply is told = absurd is
tce_line grants w (acts.SetMask name value) reply is told = absurd is
tce_line grants w acts.Dump reply is told = absurd is
tce_line grants w act reply is told = absurd told
