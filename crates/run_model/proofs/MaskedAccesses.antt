-- Accesses that a mask refuses, and runs whose masks are 0.
use Rattle.std.proofs.Common.{◌≡◌, ℕ, suc, List, [], ◌∷◌, Bool, true, false, map, replicate, zero, refl, subst, arith, Some, None}
use Rattle.std.specs.Prelude.{if◌then◌else◌, Option}
use Rattle.std.specs.List.{AllByRecursion}
use Rattle.authority_mask.specs.Authority.{no_masks}
use Rattle.authority_mask.specs.declared.masks.MaskName.TheVariants.{Amr, Iamr}
use Rattle.papr_codes.specs.declared.calls.Hcall.{Hcall}
use Rattle.papr_codes.specs.declared.calls.Hcall.TheVariants as calls
use Rattle.papr_codes.specs.Hcalls.{hcall_of}
use Rattle.entry_model.specs.State.{State}
use Rattle.slb_model.specs.Buffer.{segment_of}
use Rattle.hpt_walk.specs.Access.{AccessContext, request}
use Rattle.hpt_walk.proofs.Masked.{masked_where_refused, zero_refuses_none}
use Rattle.tlb_model.specs.Cache.{cached_line}
use Rattle.tlb_model.specs.Processor.{Processor, new_processor, without_cache}
use Rattle.trace_line.specs.declared.act.Act.{Act}
use Rattle.trace_line.specs.declared.act.Act.TheVariants as acts
use Rattle.trace_line.specs.declared.line.TraceLine.{TraceLine}
use Rattle.trace_line.specs.Lines.{is_quiet}
use Rattle.trace_read.specs.Configuration.{Configuration}
use Rattle.trace_read.specs.Trace.{AcceptedTrace}
use Rattle.trace_reply.specs.declared.reply.Reply.{Reply}
use Rattle.trace_reply.specs.declared.reply.Reply.TheVariants as replies
use Rattle.trace_reply.specs.Replies.{RepliedLine, lines_with_replies}
use Rattle.run_model.specs.StoreContexts.{access_of}
use Rattle.run_model.specs.Processors.{processor_at, processor_after}
use Rattle.run_model.specs.LineReplies.{IsReplyToAccess}
use Rattle.run_model.specs.Stores.{Store, context_of, states_of, page_table, is_on}
use Rattle.run_model.specs.QuietLines.{run_quiet_line, run_resize}
use Rattle.run_model.specs.Histories.{lines_of_processor}
use Rattle.run_model.specs.Quiet.{QuietPart, cut}
use Rattle.run_model.specs.Sections.{Section, closing, section_end, after_quiet, quiet_on, section_of, processor_after_lines, sections_from, sections_of}
use Rattle.run_model.specs.GoodRun.{EachLineOfProcessor, IsAccessLine, AccessesAreReplied, IsGoodSection, IsGoodRun}
use Rattle.run_model.specs.MaskedAccesses.{IsMaskedByItsEntry, MasksRefuse, SetsZero, HasNoMasked, IsUnmasked, NoneIsMasked}
use Rattle.basics.proofs.Each.{each_at, each_filter, each_map}
use Rattle.run_model.proofs.ProcessorLists.{after_each}

-- ---- accesses
line_masked :
    (context : AccessContext) (p : Processor) (act : Act) (reply : Reply)
    → IsReplyToAccess context p act reply
    → IsMaskedByItsEntry p act reply
line_masked context p (acts.Access want ea user) (replies.Access r) is =
    λ name.
    masked_where_refused context (cached_line p.cache) (request want ea user p.masks)
    (segment_of p.slots ea) r name is
line_masked context p act reply is = tt

lines_masked :
    (context : AccessContext) (states : List State) (p : Processor) (ts : List RepliedLine)
    → EachLineOfProcessor (IsAccessLine context states) p ts
    → EachLineOfProcessor (λ p t. IsMaskedByItsEntry p t.line.act t.reply) p ts
lines_masked context states p [] h = tt
lines_masked context states p (t ∷ ts) h = (
  line_masked context p t.line.act t.reply h.0.reply,
  lines_masked context states (processor_after p t.line.act t.reply) ts h.1,
)

section_masked : (s : Section) → AccessesAreReplied s → MasksRefuse s
section_masked s replied =
    λ cpu.
    lines_masked (access_of (context_of s.before)) (states_of (closing s))
    (processor_at s.before.processors cpu) (lines_of_processor cpu s.replied_lines)
    (replied cpu)

sections_masked :
    (ss : List Section) → AllByRecursion AccessesAreReplied ss → AllByRecursion MasksRefuse ss
sections_masked [] replied = tt
sections_masked (s ∷ ss) replied = (section_masked s replied.0, sections_masked ss replied.1)

pub masks_refuse :
    (t : AcceptedTrace) (rs : List Reply)
    → IsGoodRun t rs
    → AllByRecursion MasksRefuse (sections_of t rs)
masks_refuse t rs good =
    sections_masked (sections_of t rs)
    (each_map IsGoodSection AccessesAreReplied (sections_of t rs) (λ s h. h.accesses)
    good.stores.0)

-- ---- lines that set no mask but to 0
abbrev IsZeroLine : RepliedLine → Type 0
IsZeroLine t = SetsZero t.line.act

abbrev AreZeroLines : List RepliedLine → Type 0
AreZeroLines ts = AllByRecursion IsZeroLine ts

replied_zero :
    (ls : List TraceLine) (rs : List Reply)
    → AllByRecursion (λ (l : TraceLine). SetsZero l.act) ls
    → AreZeroLines (lines_with_replies ls rs)
replied_zero [] rs h = tt
replied_zero (l ∷ ls) [] h = tt
replied_zero (l ∷ ls) (r ∷ rs) h = (h.0, replied_zero ls rs h.1)

abbrev IsZeroCut : List RepliedLine × List QuietPart → Type 0
IsZeroCut x = AreZeroLines x.0 × AllByRecursion (λ (q : QuietPart). AreZeroLines q.1) x.1

cut_by :
    (quiet : Bool) (t : RepliedLine) (x : List RepliedLine × List QuietPart)
    → IsZeroLine t
    → IsZeroCut x
    → IsZeroCut (if quiet then ([], (t, x.0) ∷ x.1) else (t ∷ x.0, x.1))
cut_by true t x here rest = (tt, (rest.0, rest.1))
cut_by false t x here rest = ((here, rest.0), rest.1)

cut_zero : (ts : List RepliedLine) → AreZeroLines ts → IsZeroCut (cut ts)
cut_zero [] h = (tt, tt)
cut_zero (t ∷ ts) h = cut_by (is_quiet t.line.act) t (cut ts) h.0 (cut_zero ts h.1)

-- ---- processors whose masks are 0
abbrev HasZeroMasks : Processor → Type 0
HasZeroMasks p = p.masks ≡ no_masks

after_zero :
    (p : Processor) (act : Act) (reply : Reply)
    → SetsZero act
    → HasZeroMasks p
    → HasZeroMasks (processor_after p act reply)
after_zero p (acts.SetMask Amr value) reply is h = λ i. record (h i) { amr = is i }
after_zero p (acts.SetMask Iamr value) reply is h = λ i. record (h i) { iamr = is i }
after_zero p (acts.Access want ea user) (replies.Access r) is h = h
after_zero p (acts.Access want ea user) other is h = h
after_zero p (acts.SlbMte rb rs) reply is h = h
after_zero p acts.SlbClear reply is h = h
after_zero p (acts.Device write liobn ioba) reply is h = h
after_zero p (acts.Call number args spelt) reply is h = h
after_zero p acts.Dump reply is h = h

no_masked :
    (context : AccessContext) (p : Processor) (act : Act) (reply : Reply)
    → HasZeroMasks p
    → IsReplyToAccess context p act reply
    → HasNoMasked act reply
no_masked context p (acts.Access want ea user) (replies.Access r) h is =
    zero_refuses_none context (cached_line p.cache) (request want ea user p.masks)
    (segment_of p.slots ea) r h is
no_masked context p act reply h is = tt

lines_unmasked :
    (context : AccessContext) (states : List State) (p : Processor) (ts : List RepliedLine)
    → HasZeroMasks p
    → AreZeroLines ts
    → EachLineOfProcessor (IsAccessLine context states) p ts
    → EachLineOfProcessor IsUnmasked p ts × HasZeroMasks (processor_after_lines p ts)
lines_unmasked context states p [] h zeros replied = (tt, h)
lines_unmasked context states p (t ∷ ts) h zeros replied =
    let rest = lines_unmasked context states (processor_after p t.line.act t.reply) ts
    (after_zero p t.line.act t.reply zeros.0 h) zeros.1 replied.1 in (
      (
        record { masks = h; answers = no_masked context p t.line.act t.reply h replied.0.reply },
        rest.0,
      ),
      rest.1,
    )

-- ---- sections
abbrev HaveZeroMasks : Store → Type 0
HaveZeroMasks w = AllByRecursion HasZeroMasks w.processors

new_zero : HasZeroMasks new_processor
unfolding new_processor
new_zero = refl

all_new_zero : (count : ℕ) → AllByRecursion HasZeroMasks (replicate count new_processor)
all_new_zero zero = tt
all_new_zero (suc count) = (new_zero, all_new_zero count)

section_unmasked :
    (s : Section)
    → HaveZeroMasks s.before
    → AreZeroLines s.replied_lines
    → AccessesAreReplied s
    → NoneIsMasked s × HaveZeroMasks (closing s)
unfolding section_end
section_unmasked s h zeros replied = (
  λ cpu.
      (one cpu).0,
  after_each HasZeroMasks 0 s.before.processors s.replied_lines
      (λ k within.
      subst
      (λ n.
      HasZeroMasks
      (processor_after_lines (processor_at s.before.processors k)
      (lines_of_processor n s.replied_lines))) (omega arith) (one k).1),
) where
  one :
      (cpu : ℕ)
      → EachLineOfProcessor IsUnmasked (processor_at s.before.processors cpu)
      (lines_of_processor cpu s.replied_lines)
      × HasZeroMasks
      (processor_after_lines (processor_at s.before.processors cpu)
      (lines_of_processor cpu s.replied_lines))
  one cpu =
      lines_unmasked (access_of (context_of s.before)) (states_of (closing s))
      (processor_at s.before.processors cpu) (lines_of_processor cpu s.replied_lines)
      (each_at HasZeroMasks s.before.processors cpu new_processor new_zero h)
      (each_filter IsZeroLine _ s.replied_lines zeros)
      (replied cpu)

all_cleared :
    (ps : List Processor)
    → AllByRecursion HasZeroMasks ps
    → AllByRecursion HasZeroMasks (map without_cache ps)
all_cleared [] h = tt
all_cleared (p ∷ ps) h = (h.0, all_cleared ps h.1)

committed_zero :
    (done : Bool) (ps : List Processor)
    → AllByRecursion HasZeroMasks ps
    → AllByRecursion HasZeroMasks (if done then map without_cache ps else ps)
committed_zero true ps h = all_cleared ps h
committed_zero false ps h = h

resized_zero :
    (w : Store) (call : Hcall) (args : List ℕ)
    → HaveZeroMasks w
    → HaveZeroMasks (run_resize w call args).1
unfolding run_resize
resized_zero w calls.Prepare args h = h
resized_zero w calls.Commit args h = committed_zero _ w.processors h
resized_zero w other args h = h

quiet_zero : (w : Store) (act : Act) → HaveZeroMasks w → HaveZeroMasks (run_quiet_line w act).1
unfolding run_quiet_line
quiet_zero w (acts.Call number args spelt) h = resized_zero w (hcall_of number) args h
quiet_zero w other h = h

left_zero :
    (s : Store) (quiet : Option RepliedLine) → HaveZeroMasks s → HaveZeroMasks (after_quiet s quiet)
left_zero s None h = h
left_zero s (Some q) h = quiet_zero s q.line.act h

sections_unmasked :
    (on : Act → Bool) (s : Store) (ts : List RepliedLine) (qs : List QuietPart)
    → HaveZeroMasks s
    → IsZeroCut (ts, qs)
    → AllByRecursion IsGoodSection (sections_from on s ts qs)
    → AllByRecursion NoneIsMasked (sections_from on s ts qs)
sections_unmasked on s ts [] h zeros good = (
  (section_unmasked (section_of on s ts None) h (each_filter IsZeroLine _ ts zeros.0)
      good.0.accesses).0,
  tt,
)
sections_unmasked on s ts (q ∷ qs) h zeros good =
    let x = section_of on s ts (quiet_on on q.0) in
    let here = section_unmasked x h (each_filter IsZeroLine _ ts zeros.0) good.0.accesses in (
      here.0,
      sections_unmasked on (after_quiet (closing x) x.quiet) q.1 qs
          (left_zero (closing x) x.quiet here.1) (zeros.1.0, zeros.1.1) good.1,
    )

opening_zero : (c : Configuration) → HaveZeroMasks (page_table c)
unfolding page_table
opening_zero c = all_new_zero c.cpus

pub zero_masks_refuse :
    (t : AcceptedTrace) (rs : List Reply)
    → AllByRecursion (λ (l : TraceLine). SetsZero l.act) t.lines
    → IsGoodRun t rs
    → AllByRecursion NoneIsMasked (sections_of t rs)
zero_masks_refuse t rs zeros good =
    let all = lines_with_replies t.lines rs in
    sections_unmasked (is_on t.config.windows (page_table t.config).window) (page_table t.config)
    (cut all).0 (cut all).1 (opening_zero t.config)
    (cut_zero all (replied_zero t.lines rs zeros)) good.stores.0
