-- Facts of each line of a good run, on the page table or on a window, by its reply as a call's.
use Rattle.std.specs.Prelude.{◌==◌, Bool, IfSome, Option, Some, None}
use Rattle.std.specs.Option.{option_map_or}
use Rattle.std.proofs.Common.{◌≡◌, ℕ, List, [], ◌∷◌, true, false, ◌∙◌, refl}
use Rattle.std.specs.List.{AllByRecursion}
use Rattle.std.proofs.lemmas.Bool.{cond_both, eq-eqb, false≢true}
use Rattle.bus_window.specs.Windows.{BusWindow}
use Rattle.papr_codes.specs.declared.calls.Hcall.{Hcall}
use Rattle.papr_codes.specs.declared.calls.Hcall.TheVariants as calls
use Rattle.papr_codes.specs.Hcalls.{hcall_of}
use Rattle.tlb_model.specs.Processor.{Processor}
use Rattle.trace_line.specs.Lines.{bus_of, bus_of_call, is_quiet}
use Rattle.trace_line.specs.declared.act.Act.{Act}
use Rattle.trace_line.specs.declared.act.Act.TheVariants as acts
use Rattle.trace_read.specs.Trace.{AcceptedTrace}
use Rattle.trace_reply.specs.declared.reply.Reply.{Reply}
use Rattle.trace_reply.specs.Replies.{RepliedLine, lines_with_replies}
use Rattle.run_model.specs.GoodRun.{EachLineOfProcessor, EachLine, IsGoodSection, IsGoodOn, IsGoodRun}
use Rattle.run_model.specs.Histories.{lines_of_processor}
use Rattle.run_model.specs.LineReplies.{IsCallReply}
use Rattle.run_model.specs.Processors.{processor_at, processor_after}
use Rattle.run_model.specs.Quiet.{QuietPart, cut}
use Rattle.run_model.specs.Sections.{Section, closing, after_quiet, quiet_on, section_of, sections_from}
use Rattle.run_model.specs.StoreContexts.{StoreContext}
use Rattle.run_model.specs.Stores.{Store, context_of, opening_stores, is_on_window, is_on}
use Rattle.run_model.proofs.AllSafe.{InSections, section_joined, cut_out}
use Rattle.basics.proofs.Each.{each_map, each_under, each_where}
use Rattle.run_model.proofs.StoreLines.{HoldsOn, HoldOn, on_all_stores, opening_has}
use Rattle.run_model.proofs.TableNamed.{after_window, closed_window}

-- ---- what lines on windows are
-- H_PUT_TCE or H_GET_TCE.
abbrev pub IsWindowCall : Hcall → Type 0
IsWindowCall calls.PutTce = Unit {0}
IsWindowCall calls.GetTce = Unit {0}
IsWindowCall other = ⊥

-- One of these, or an access of a device.
abbrev pub IsWindowAct : Act → Type 0
IsWindowAct (acts.Call number args spelt) = IsWindowCall (hcall_of number)
IsWindowAct (acts.Device write liobn ioba) = Unit {0}
IsWindowAct other = ⊥

named_call :
    (w : BusWindow) (call : Hcall) (args : List ℕ)
    → option_map_or (λ number. w.liobn == number) (bus_of_call call args) false ≡ true
    → IsWindowCall call
named_call w calls.PutTce args on = tt
named_call w calls.GetTce args on = tt
named_call w other args on = absurd (false≢true on)

-- Such is each line on a window.
pub on_window_act : (w : BusWindow) (act : Act) → is_on_window w act ≡ true → IsWindowAct act
unfolding bus_of
on_window_act w (acts.Call number args spelt) on = named_call w (hcall_of number) args on
on_window_act w (acts.Device write liobn ioba) on = tt
on_window_act w other on = absurd (false≢true on)

-- Each part begins with a quiet line.
abbrev pub AllQuiet : List QuietPart → Type 0
AllQuiet qs = AllByRecursion (λ (q : QuietPart). is_quiet q.0.line.act ≡ true) qs

-- Lines are cut at quiet ones.
pub cut_quiet : (ts : List RepliedLine) → AllQuiet (cut ts).1
cut_quiet [] = tt
cut_quiet (t ∷ ts) =
    cond_both {A = List RepliedLine × List QuietPart} (is_quiet t.line.act)
    ([], (t, (cut ts).0) ∷ (cut ts).1) (t ∷ (cut ts).0, (cut ts).1)
    (λ x. AllByRecursion (λ (q : QuietPart). is_quiet q.0.line.act ≡ true) x.1)
    (λ on. (on, cut_quiet ts)) (λ off. cut_quiet ts)

-- ---- the lines of all processors
of_processor :
    (P : RepliedLine → Type 0) (p : Processor) (ts : List RepliedLine)
    → EachLineOfProcessor (λ q t. P t) p ts
    → AllByRecursion P ts
of_processor P p [] h = tt
of_processor P p (t ∷ ts) h = (h.0, of_processor P (processor_after p t.line.act t.reply) ts h.1)

of_all :
    (P : RepliedLine → Type 0) (ts : List RepliedLine)
    → ((cpu : ℕ) → AllByRecursion P (lines_of_processor cpu ts))
    → AllByRecursion P ts
of_all P [] h = tt
of_all P (t ∷ ts) h = (
  (each_under P (λ (x : RepliedLine). x.line.cpu == t.line.cpu) t ts (h t.line.cpu)).0
      (eq-eqb t.line.cpu t.line.cpu refl),
  of_all P ts (λ cpu. (each_under P (λ (x : RepliedLine). x.line.cpu == cpu) t ts (h cpu)).1),
)

-- What holds of each processor's lines holds of each line of the section, if it is no fact of
-- processors.
pub each_of_section :
    (P : RepliedLine → Type 0) (s : Section)
    → EachLine (λ p t. P t) s
    → AllByRecursion P s.replied_lines
each_of_section P s h =
    of_all P s.replied_lines
    (λ cpu.
    of_processor P (processor_at s.before.processors cpu)
    (lines_of_processor cpu s.replied_lines) (h cpu))

-- ---- what call replies show
-- The fact holds of each quiet line.
abbrev pub HoldsAtQuiet : (RepliedLine → Type 0) → Type 0
HoldsAtQuiet P = (t : RepliedLine) → is_quiet t.line.act ≡ true → P t

-- It follows of each call's reply on a store of this name.
abbrev pub FollowsOn : Option BusWindow → (RepliedLine → Type 0) → Type 0
FollowsOn o P =
    (context : StoreContext) (t : RepliedLine)
    → context.window ≡ o
    → IsCallReply context t.line.act t.reply
    → P t

quiet_some :
    (P : RepliedLine → Type 0) (on : Act → Bool) (q : RepliedLine) → P q → IfSome (quiet_on on q) P
quiet_some P on q h =
    cond_both (on q.line.act) (Some q) None (λ (o : Option RepliedLine). IfSome o P) (λ _. h)
    (λ _. tt)

section_calls :
    (P : RepliedLine → Type 0) (o : Option BusWindow) (s : Section)
    → s.before.window ≡ o
    → FollowsOn o P
    → IsGoodSection s
    → AllByRecursion P s.replied_lines
section_calls P o s named shows good =
    let set = context_of s.before in
    each_map (λ (t : RepliedLine). IsCallReply set t.line.act t.reply) P s.replied_lines
    (λ t. shows set t named)
    (each_of_section (λ (t : RepliedLine). IsCallReply set t.line.act t.reply) s good.calls)

store_calls :
    (P : RepliedLine → Type 0) (on : Act → Bool) (o : Option BusWindow) (s : Store)
    (ts : List RepliedLine) (qs : List QuietPart)
    → s.window ≡ o
    → FollowsOn o P
    → HoldsAtQuiet P
    → AllQuiet qs
    → AllByRecursion IsGoodSection (sections_from on s ts qs)
    → InSections (HoldsOn on P) ts qs
store_calls P on o s ts [] named shows quiets quiet good = (
  each_where P (λ (t : RepliedLine). on t.line.act) ts
      (section_calls P o (section_of on s ts None) named shows good.0),
  tt,
)
store_calls P on o s ts (q ∷ qs) named shows quiets quiet good =
    let x = section_of on s ts (quiet_on on q.0) in
    let later = after_window (closing x) x.quiet ∙ closed_window s x.replied_lines ∙ named in
    section_joined P on ts q qs (quiet_some P on q.0 (quiets q.0 quiet.0))
    (section_calls P o x named shows good.0)
    (store_calls P on o (after_quiet (closing x) x.quiet) q.1 qs later shows quiets quiet.1
    good.1)

-- What follows of each call's reply on a store, and holds of each quiet line, holds of each line
-- there.
pub good_calls :
    (P : RepliedLine → Type 0) (t : AcceptedTrace) (rs : List Reply) (o : Option BusWindow)
    (s : Store)
    → s.window ≡ o
    → FollowsOn o P
    → HoldsAtQuiet P
    → IsGoodOn t rs s
    → HoldOn P t.config.windows (lines_with_replies t.lines rs) s
good_calls P t rs o s named shows quiets good =
    let all = lines_with_replies t.lines rs in
    let on = is_on t.config.windows s.window in
    cut_out (HoldsOn on P) all
    (store_calls P on o s (cut all).0 (cut all).1 named shows quiets (cut_quiet all) good)

-- ---- each line of a run
-- It follows of each call's reply on any store.
abbrev pub Follows : (RepliedLine → Type 0) → Type 0
Follows P =
    (context : StoreContext) (t : RepliedLine) → IsCallReply context t.line.act t.reply → P t

-- What follows of each call's reply, on any store, and holds of each quiet line, holds of each
-- line.
pub each_call :
    (P : RepliedLine → Type 0) (t : AcceptedTrace) (rs : List Reply)
    → Follows P
    → HoldsAtQuiet P
    → IsGoodRun t rs
    → AllByRecursion P (lines_with_replies t.lines rs)
each_call P t rs shows quiets good =
    let ws = t.config.windows in
    let all = lines_with_replies t.lines rs in
    let ss = opening_stores t.config in
    on_all_stores P ws ss all (opening_has t.config)
    (each_map (IsGoodOn t rs) (HoldOn P ws all) ss
    (λ s. good_calls P t rs s.window s refl (λ context x _. shows context x) quiets)
    good.stores)
