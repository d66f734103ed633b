-- One line of a run: its reply is of its kind, an access that is allowed lands by the grants, and
-- the grants stay.
use Rattle.std.proofs.Common.{◌≡◌, ℕ, List, true, false, Option, Some, None, refl, sym, subst, ◌⊎◌, inl, inr}
use Rattle.std.proofs.lemmas.Bool.{cases_Bool}
use Rattle.frame_grants.specs.declared.grant.Grant.{Grant}
use Rattle.frame_grants.specs.declared.grant.Kind.{Kind}
use Rattle.frame_grants.specs.Grants.{machine_range}
use Rattle.papr_codes.specs.declared.calls.Hcall.{Hcall}
use Rattle.papr_codes.specs.Hcalls.{hcall_of}
use Rattle.authority_mask.specs.declared.masks.MaskName.{MaskName}
use Rattle.slb_model.specs.declared.segment.Segment.{Segment}
use Rattle.slb_model.specs.Buffer.{segment_of}
use Rattle.entry_model.specs.State.{State}
use Rattle.entry_model.specs.declared.line.Line.{Line}
use Rattle.entry_model.specs.declared.receipt.Receipt.{Receipt}
use Rattle.entry_model.specs.declared.access_reply.Outcome.{Outcome}
use Rattle.entry_model.specs.declared.access_reply.Outcome.TheVariants.{At}
use Rattle.entry_model.specs.declared.device_reply.DeviceOutcome.TheVariants.{NoWindow}
use Rattle.entry_model.specs.Receipt.{is_at, found_of}
use Rattle.hpt_walk.specs.declared.request.Request.{Request}
use Rattle.hpt_walk.specs.Access.{AccessContext, landing_at, logical_of, refused_by, refusing_mask, outcome_by, outcome_of, request}
use Rattle.tlb_model.specs.Cache.{cached_line}
use Rattle.tlb_model.specs.Processor.{Processor}
use Rattle.trace_line.specs.declared.act.Act.{Act}
use Rattle.trace_line.specs.declared.line.TraceLine.{TraceLine}
use Rattle.trace_line.specs.Lines.{is_quiet}
use Rattle.trace_reply.specs.declared.reply.Reply.{Reply}
use Rattle.trace_reply.specs.Replies.{IsOfKind}
use Rattle.run_model.proofs.TableNamed.{IsTable, table_is}
use Rattle.run_model.specs.Processors.{processor_at}
use Rattle.run_model.specs.Stores.{Store, context_of, states_of}
use Rattle.run_model.specs.QuietLines.{run_resize, run_quiet_line}
use Rattle.run_model.specs.SerialRun.{current_line, result_by_line, result_by_segment, line_result, run_on}
use Rattle.run_model.specs.StoreContexts.{access_of, table_context}
use Rattle.run_model.proofs.SerialGood.{quiet_kind}
use Rattle.papr_codes.specs.declared.calls.Hcall.TheVariants as calls
use Rattle.trace_line.specs.declared.act.Act.TheVariants as acts
use Rattle.trace_reply.specs.declared.reply.Reply.TheVariants as replies

-- ---- where an access ends
-- An address is one that these grants give a logical one.
abbrev pub IsGranted : List Grant → Outcome → Type 0
IsGranted grants (At address) =
    (logical : ℕ) × (kind : Kind) × (machine_range grants logical 1 ≡ Some (address, kind))
IsGranted grants other = Unit {0}

landing_granted :
    (grants : List Grant) (logical : ℕ) (o : Option (ℕ × Kind))
    → machine_range grants logical 1 ≡ o
    → IsGranted grants (landing_at o logical)
landing_granted grants logical None e = tt
landing_granted grants logical (Some x) e = (logical, x.1, e)

refusal_granted : (grants : List Grant) (o : Option MaskName) → IsGranted grants (refused_by o)
refusal_granted grants None = tt
refusal_granted grants (Some name) = tt

found_granted :
    (grants : List Grant) (ea : ℕ) (found : Option Receipt)
    → IsGranted grants (outcome_by grants ea found)
found_granted grants ea None = tt
found_granted grants ea (Some r) = at (cases_Bool (is_at r.answer)) where
  at :
      (is_at r.answer ≡ true) ⊎ (is_at r.answer ≡ false)
      → IsGranted grants (outcome_by grants ea (Some r))
  at (inl q) =
      rw q
      (landing_granted grants (logical_of ea r.before)
      (machine_range grants (logical_of ea r.before) 1) refl)
  at (inr q) = rw q (refusal_granted grants (refusing_mask r))

outcome_granted :
    (grants : List Grant) (ea : ℕ) (rs : List Receipt) → IsGranted grants (outcome_of grants ea rs)
unfolding outcome_of
outcome_granted grants ea rs = found_granted grants ea (found_of rs)

-- ---- the reply to a line
-- An access in the reply ends at such an address, if at one. A device finds no window.
abbrev pub IsGrantedReply : List Grant → Reply → Type 0
IsGrantedReply grants (replies.Access r) = IsGranted grants r.outcome
IsGrantedReply grants (replies.Device r) = r.outcome ≡ NoWindow
IsGrantedReply grants other = Unit {0}

-- The reply is of the line's kind, too.
abbrev pub Suits : List Grant → Act → Reply → Type 0
Suits grants act reply = IsOfKind act reply × IsGrantedReply grants reply

line_suits :
    (context : AccessContext) (states : List State) (seg : Segment) (a : Request) (c : Option Line)
    → Suits context.grants (acts.Access a.want a.ea a.user)
    (result_by_line context states seg a c).0
line_suits context states seg a None = (tt, outcome_granted context.grants a.ea _)
line_suits context states seg a (Some line) = (tt, outcome_granted context.grants a.ea _)

segment_suits :
    (context : AccessContext) (p : Processor) (states : List State) (a : Request)
    (s : Option Segment)
    → Suits context.grants (acts.Access a.want a.ea a.user)
    (result_by_segment context p states a s).0
segment_suits context p states a None = (tt, tt)
segment_suits context p states a (Some seg) =
    line_suits context states seg a (current_line states (cached_line p.cache seg.page))

busy_suits :
    (context : AccessContext) (p : Processor) (states : List State) (act : Act)
    → is_quiet act ≡ false
    → Suits context.grants act (line_result (table_context context) p states act).0
unfolding line_result is_quiet
busy_suits context p states (acts.Call number args spelt) q = (tt, tt)
busy_suits context p states (acts.Access want ea user) q =
    segment_suits context p states (request want ea user p.masks) (segment_of p.slots ea)
busy_suits context p states (acts.SlbMte rb rs) q = (tt, tt)
busy_suits context p states acts.SlbClear q = (tt, tt)
busy_suits context p states (acts.Device write liobn ioba) q = (tt, refl)
busy_suits context p states (acts.SetMask name value) q = (tt, tt)
busy_suits context p states acts.Dump q = cc

-- ---- quiet lines
-- No quiet line's reply is one of an access, and the grants stay.
abbrev pub Leaves : List Grant → Reply × Store → Type 0
Leaves grants x = IsGrantedReply grants x.0 × (x.1.grants ≡ grants)

resize_leaves :
    (w : Store) (call : Hcall) (args : List ℕ) → Leaves w.grants (run_resize w call args)
unfolding run_resize
resize_leaves w calls.Prepare args = (tt, refl)
resize_leaves w calls.Commit args = (tt, refl)
resize_leaves w other args = (tt, refl)

quiet_leaves : (w : Store) (act : Act) → Leaves w.grants (run_quiet_line w act)
unfolding run_quiet_line
quiet_leaves w (acts.Call number args spelt) = resize_leaves w (hcall_of number) args
quiet_leaves w act = (tt, refl)

-- ---- any line
pub line_reply :
    (w : Store) (l : TraceLine)
    → IsTable w
    → Suits w.grants l.act (run_on w l).0 × ((run_on w l).1.grants ≡ w.grants)
unfolding run_on
line_reply w l table = at (cases_Bool (is_quiet l.act)) where
  at :
      (is_quiet l.act ≡ true) ⊎ (is_quiet l.act ≡ false)
      → Suits w.grants l.act (run_on w l).0 × ((run_on w l).1.grants ≡ w.grants)
  at (inl q) =
      let leaves = quiet_leaves w l.act in
      rw q ((quiet_kind w l.act q, leaves.0), leaves.1)
  at (inr q) =
      rw q (
        subst
            (λ set.
            Suits w.grants l.act
            (line_result set (processor_at w.processors l.cpu) (states_of w) l.act).0)
            (sym (table_is w table))
            (busy_suits (access_of (context_of w)) (processor_at w.processors l.cpu)
            (states_of w) l.act q),
        refl,
      )
